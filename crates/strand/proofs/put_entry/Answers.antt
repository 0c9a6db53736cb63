-- `put_entry` writes a comma, the decimal after it, and one value.
-- Assumes nothing.
use mathlib.Core.Path.{◌∙◌, ◌≡◌, refl}
use Prim.Native.Nat.{◌+◌}
use native.Mathlib.Numerals.{add-one}
use native.Mathlib.Omega.{arith}
use mathlib.Core.List.{append-nil}
use lib.ListN.{length, set}
use Rattle.samtags.specs.Bytes.{comma}
use Rattle.samtags.specs.Decimal.{digits}
use Rattle.strand.proofs.put_entry.Goals as goal

pub returns : goal.returns
returns c =
    let pen = c.args.pen in
    let text = c.args.text.now in
    let number = c.put_decimal-end in
    let end : number.result ≡ pen.text + 1 + length (digits pen.skip) = number.ensures.0 in
    let comma-put : c.put.new.out ≡ set text pen.text comma = c.put.ensures in (
      refl,
      rw (append-nil (digits pen.skip)) (omega arith),
      refl,
      number.ensures.1
          ∙ rw (comma-put, append-nil (digits pen.skip), add-one pen.text),
      c.put-2.ensures,
    )

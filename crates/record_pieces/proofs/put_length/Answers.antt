-- `put_length`: an integer is written anew, with type i; a field of another type is copied.
-- Assumes nothing.
use mathlib.Core.Path.{◌≡◌, ◌∙◌, ap, refl, sym}
use Prim.Native.Nat.{◌+◌, ◌-◌}
use mathlib.Core.Bool.{true, false}
use mathlib.Core.List.{[], ◌∷◌}
use native.Mathlib.Omega.{arith}
use Rattle.lent.specs.Lists.{among}
use Rattle.record_fields.specs.Spots.{part}
use Rattle.record_pieces.proofs.PieceLaws.{integer_written, kept_written, length_set_integer, length_set_kept, type_part, wrote_as}
use Rattle.record_tags.specs.Changes.{length_set}
use Rattle.record_tags.specs.Values.{is_integer, with_integer}
use Rattle.samtags.specs.Bytes.{ascii}
use Rattle.record_pieces.proofs.put_length.Goals as goal

pub returns-then-integer : goal.returns-then-integer
returns-then-integer c =
    let f = part c.args.bam.now c.args.at c.args.size in
    let yes : is_integer f ≡ true = ap (among (ascii "cCsSiI")) (type_part c.args.bam.now c.args.at c.args.size (omega arith)) ∙ sym c.is_integer-integer.ensures ∙ c.if-integer.true in
    wrote_as (length_set c.args.bases f) (with_integer c.args.bases f ∷ []) c.args.end (c.put_bytes-from.result + 5) c.args.out.now c.put_word.new.out
    (length_set_integer c.args.bases f yes)
    (integer_written c.args.bam.now c.args.out.now c.put_bytes-from.new.out c.put.new.out c.put_word.new.out c.args.at c.args.size c.args.end c.put_bytes-from.result (c.args.at + 2 - c.args.at) (omega arith) (omega arith)
    c.put_bytes-from.ensures.0 c.put_bytes-from.ensures.1 c.args.bases (c.put_bytes-from.result + 5) (omega arith) c.put.ensures c.put_word.ensures refl)

pub returns : goal.returns
returns c =
    let f = part c.args.bam.now c.args.at c.args.size in
    let no : is_integer f ≡ false = ap (among (ascii "cCsSiI")) (type_part c.args.bam.now c.args.at c.args.size (omega arith)) ∙ sym c.is_integer-integer.ensures ∙ c.if-integer.false in
    wrote_as (length_set c.args.bases f) (f ∷ []) c.args.end c.put_bytes.result c.args.out.now c.put_bytes.new.out
    (length_set_kept c.args.bases f no)
    (kept_written c.args.bam.now c.args.out.now c.put_bytes.new.out c.args.at c.args.size c.args.end c.put_bytes.result (c.args.at + c.args.size - c.args.at) (omega arith) c.put_bytes.ensures.0 c.put_bytes.ensures.1)

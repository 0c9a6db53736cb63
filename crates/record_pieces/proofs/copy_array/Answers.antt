-- `copy_array`: the name and the type, the count, and the values that wait.
-- Assumes nothing.
use mathlib.Core.Path.{◌≡◌, ◌∙◌, ap, sym}
use Prim.Native.Nat.{ℕ, ◌+◌, ◌-◌, ◌≤◌}
use native.Mathlib.Omega.{arith}
use lib.ListN.{length, take}
use lib.Seq.{length-take-le, sets}
use Rattle.record_pieces.proofs.PieceLaws.{values_written}
use Rattle.record_pieces.proofs.copy_array.Goals as goal

pub returns : goal.returns
returns c =
    let k : c.args.kept - 0 ≡ c.args.kept = omega arith in
    λ (size : ℕ) (h : 4 ≤ size).
    values_written c.args.bam.now c.args.out.now c.put_bytes-from.new.out c.put_word.new.out c.put_bytes.new.out c.args.at size c.args.end c.put_bytes-from.result (c.args.at + 4 - c.args.at) h (omega arith)
    c.put_bytes-from.ensures.0 c.put_bytes-from.ensures.1 (take c.args.kept c.args.work.now) c.args.kept c.put_bytes.result (omega arith)
    (sym (length-take-le c.args.kept c.args.work.now (omega arith))) c.put_word.ensures (c.put_bytes.ensures.1 ∙ ap (λ (n : ℕ). sets c.put_word.new.out (c.put_bytes-from.result + 4) (take n c.args.work.now)) k)
    (c.put_bytes.ensures.0 ∙ ap (λ (n : ℕ). c.put_bytes-from.result + 4 + length (take n c.args.work.now)) k)

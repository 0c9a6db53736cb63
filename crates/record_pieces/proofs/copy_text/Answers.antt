-- `copy_text`: the name and the type, the text that waits, and a NUL.
-- Assumes nothing.
use mathlib.Core.Path.{◌≡◌, ◌∙◌, ap, refl}
use Prim.Native.Nat.{ℕ, ◌+◌, ◌-◌, ◌≤◌}
use native.Mathlib.Omega.{arith}
use lib.ListN.{length, set, take}
use lib.Seq.{sets}
use Rattle.record_pieces.proofs.PieceLaws.{text_written}
use Rattle.record_pieces.proofs.copy_text.Goals as goal

pub returns : goal.returns
returns c =
    let text = take c.args.kept c.args.work.now in
    let k : c.args.kept - 0 ≡ c.args.kept = omega arith in
    let last : c.put_bytes-last.result ≡ c.put_bytes-from.result + length text = c.put_bytes-last.ensures.0 ∙ ap (λ (n : ℕ). c.put_bytes-from.result + length (take n c.args.work.now)) k in
    λ (size : ℕ) (h : 4 ≤ size).
    text_written c.args.bam.now c.args.out.now c.put_bytes-from.new.out c.put_bytes-last.new.out c.put.new.out c.args.at size c.args.end c.put_bytes-from.result (c.args.at + 3 - c.args.at) h (omega arith)
    c.put_bytes-from.ensures.0 c.put_bytes-from.ensures.1 text (length text) (c.put_bytes-last.result + 1) (omega arith) refl
    (c.put_bytes-last.ensures.1 ∙ ap (λ (n : ℕ). sets c.put_bytes-from.new.out c.put_bytes-from.result (take n c.args.work.now)) k)
    (c.put.ensures ∙ ap (λ (n : ℕ). set c.put_bytes-last.new.out n 0) last) (ap (λ (n : ℕ). n + 1) last)

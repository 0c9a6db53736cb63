-- `put_closing` writes the line of SEQ, the line of the text, and the line of ML if an ML was given.
-- Assumes nothing.
use mathlib.Core.Path.{◌≡◌, ap}
use Prim.Native.Nat.{◌-◌, ℕ}
use native.Mathlib.Nat.{sub-zero}
use mathlib.Core.List.{List}
use lib.ListN.{take}
use Rattle.samtags.specs.Session.{Memory, held_in}
use Rattle.stepping.specs.Steps.{memory}
use Rattle.serving.proofs.RestLaws.{closed_with, closed_without}
use Rattle.serving.proofs.put_closing.Goals as goal

front : (n : ℕ) (row : List ℕ) → take (n - 0) row ≡ take n row
front n row = ap (λ (k : ℕ). take k row) (sub-zero n)

pub returns-then-has_ml : goal.returns-then-has_ml
returns-then-has_ml c =
    let held : Memory = memory c.args.seq.now c.args.mm.now c.args.ml.now c.args.lengths in
    closed_with (held_in held) (take (c.args.lengths.seq - 0) c.args.seq.now) (take (c.args.lengths.mm - 0) c.args.mm.now)
    (take (c.args.lengths.ml - 0) c.args.ml.now)
    (front c.args.lengths.seq c.args.seq.now) (front c.args.lengths.mm c.args.mm.now) c.args.out.now c.args.at c.put_line-after_seq.result c.put_line-after_seq.new.out c.put_line-after_mm.result
    c.put_line-after_mm.new.out
    c.put_line-after_seq.ensures c.put_line-after_mm.ensures c.args.has_ml c.if-has_ml.true (front c.args.lengths.ml c.args.ml.now)
    c.put_values_line.result c.put_values_line.new.out c.put_values_line.ensures

pub returns : goal.returns
returns c =
    let held : Memory = memory c.args.seq.now c.args.mm.now c.args.ml.now c.args.lengths in
    closed_without (held_in held) (take (c.args.lengths.seq - 0) c.args.seq.now) (take (c.args.lengths.mm - 0) c.args.mm.now)
    (take (c.args.lengths.ml - 0) c.args.ml.now)
    (front c.args.lengths.seq c.args.seq.now) (front c.args.lengths.mm c.args.mm.now) c.args.out.now c.args.at c.put_line-after_seq.result c.put_line-after_seq.new.out c.put_line-after_mm.result
    c.put_line-after_mm.new.out
    c.put_line-after_seq.ensures c.put_line-after_mm.ensures c.args.has_ml c.if-has_ml.false

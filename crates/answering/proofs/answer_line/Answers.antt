-- `answer_line`, by cases of the line's mark.
-- Assumes nothing.
use Rattle.std.specs.Prelude.{Option, None, Some}
use mathlib.Core.Path.{◌∙◌, ◌≡◌, ap, subst, sym}
use mathlib.Core.Bool.{false, true}
use mathlib.Core.List.{List}
use Prim.Native.Nat.{ℕ}
use Rattle.samtags.specs.Session.{Step, drop_calls, mask}
use Rattle.lines.specs.Lines.{cut_of, given, has_mark, numbers_of}
use Rattle.stepping.specs.Steps.{memory}
use Rattle.answering.proofs.LineLaws.{asks_cut, asks_drop, asks_mask, asks_nothing}
use Rattle.answering.specs.Answers.{LineAnswered}
use Rattle.answering.proofs.answer_line.Goals as goal

pub returns-then-masks : goal.returns-then-masks
returns-then-masks c =
    let marked : has_mark "MK" c.args.line.now ≡ true = sym c.has_mark-masks.ensures ∙ c.if-masks.true in
    subst
    (λ (o : Option Step). LineAnswered c.args.has_ml o (memory c.args.seq.now c.args.mm.now c.args.ml.now c.args.lengths) c.mask_line.result c.mask_line.new.seq
    c.mask_line.new.mm c.mask_line.new.ml)
    (ap (λ (l : List ℕ). given (numbers_of 4294967295 l) None (λ ns. Some (mask ns))) c.body_of-body.ensures ∙ sym (asks_mask c.args.line.now marked))
    c.mask_line.ensures

pub returns-then-drops : goal.returns-then-drops
returns-then-drops c =
    let not_mask : has_mark "MK" c.args.line.now ≡ false = sym c.has_mark-masks.ensures ∙ c.if-masks.false in
    let marked : has_mark "DR" c.args.line.now ≡ true = sym c.has_mark-drops.ensures ∙ c.if-drops.true in
    subst
    (λ (o : Option Step). LineAnswered c.args.has_ml o (memory c.args.seq.now c.args.mm.now c.args.ml.now c.args.lengths) c.drop_line.result c.args.seq.now
    c.drop_line.new.mm c.drop_line.new.ml)
    (ap (λ (l : List ℕ). given (numbers_of 4294967295 l) None (λ ns. Some (drop_calls ns))) c.body_of-body.ensures ∙ sym (asks_drop c.args.line.now not_mask marked))
    c.drop_line.ensures

pub returns-then-cuts : goal.returns-then-cuts
returns-then-cuts c =
    let not_mask : has_mark "MK" c.args.line.now ≡ false = sym c.has_mark-masks.ensures ∙ c.if-masks.false in
    let not_drop : has_mark "DR" c.args.line.now ≡ false = sym c.has_mark-drops.ensures ∙ c.if-drops.false in
    let marked : has_mark "CU" c.args.line.now ≡ true = sym c.has_mark-cuts.ensures ∙ c.if-cuts.true in
    subst
    (λ (o : Option Step). LineAnswered c.args.has_ml o (memory c.args.seq.now c.args.mm.now c.args.ml.now c.args.lengths) c.cut_line.result c.cut_line.new.seq
    c.cut_line.new.mm c.cut_line.new.ml)
    (ap (λ (l : List ℕ). given (numbers_of 4294967295 l) None cut_of) c.body_of-body.ensures ∙ sym (asks_cut c.args.line.now not_mask not_drop marked)) c.cut_line.ensures

pub returns : goal.returns
returns c =
    let not_mask : has_mark "MK" c.args.line.now ≡ false = sym c.has_mark-masks.ensures ∙ c.if-masks.false in
    let not_drop : has_mark "DR" c.args.line.now ≡ false = sym c.has_mark-drops.ensures ∙ c.if-drops.false in
    asks_nothing c.args.line.now not_mask not_drop (sym c.has_mark-cuts.ensures ∙ c.if-cuts.false)

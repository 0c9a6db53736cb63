-- `measure` checks for 1, and then reads the tag with all of ML, or with none if there is no ML.
-- Assumes nothing.
use Rattle.std.specs.Prelude.{Ok, Option}
use Rattle.measuring.specs.declared.Count.{Count}
use mathlib.Core.Path.{◌∙◌, ◌≡◌, ap, refl, subst, sym}
use Prim.Native.Nat.{◌-◌, ◌≤◌, ℕ}
use native.Mathlib.Omega.{arith}
use mathlib.Core.Bool.{Bool, cond, false}
use mathlib.Core.List.{List, []}
use lib.ListN.{length, take}
use Rattle.lent.proofs.Outcome.{passed_on}
use Rattle.lent.specs.Outcome.{Outcome}
use Rattle.samtags.proofs.Taken.{taken_is}
use Rattle.samtags.specs.Reading.{nowhere, read}
use Rattle.samtags.specs.Spots.{Group}
use Rattle.measuring.proofs.CountLaws.{read_taken}
use Rattle.measuring.specs.Counting.{TagCounted}
use Rattle.reading.proofs.AnswerLaws.{measured, never_none}
use Rattle.reading.proofs.CheckLaws.{inside, tested}
use Rattle.reading.proofs.measure.Goals as goal

-- the part of ML that is taken, if it is n bytes
taken_part : (ml? : Bool) (ml : List ℕ) (n : ℕ) → n ≡ cond ml? (length ml) 0 → take (n - 0) ml ≡ cond ml? ml []
taken_part ml? ml n h = taken_is ml? ml (n - 0) (omega (arith, h))

-- the walk's answer x, where it is known to be r, and the outcome of the whole tag
counted_as : (ml? : Bool) (seq mm ml : List ℕ) (n : ℕ) → n ≡ cond ml? (length ml) 0 → length seq ≤ 16000 → length mm ≤ 65536 → n ≤ 65536
    → {x : Outcome (Option Count)} (r : Outcome (Option Count)) → x ≡ r → TagCounted false (read ml? nowhere seq mm (take (n - 0) ml)) x
    → TagCounted false (tested ml? seq mm ml) r
counted_as ml? seq mm ml n h a b f {x} r e t =
    let same = read_taken ml? nowhere seq mm ml _ (taken_part ml? ml n h) ∙ sym (inside ml? seq mm ml a b n h f) in
    subst (TagCounted false (tested ml? seq mm ml)) e (subst (λ (o : Outcome (List Group)). TagCounted false o x) same t)

pub returns-in_err-count : goal.returns-in_err-count
returns-in_err-count c =
    rw (passed_on _ _ c.from_residual.ensures.1)
    (counted_as c.args.has_ml c.args.seq.now c.args.mm.now c.args.ml.now _ c.values_taken-taken.ensures (omega arith) (omega arith) (omega arith)
    _ c.in_err-count.was (c.count_tag.ensures nowhere (λ m. refl)))

pub unreachable-requires : goal.unreachable-requires
unreachable-requires c =
    never_none (tested c.args.has_ml c.args.seq.now c.args.mm.now c.args.ml.now)
    (counted_as c.args.has_ml c.args.seq.now c.args.mm.now c.args.ml.now _ c.values_taken-taken.ensures (omega arith) (omega arith) (omega arith)
    _ (c.in_ok-count.was ∙ ap Ok c.in_default.is) (c.count_tag.ensures nowhere (λ m. refl)))

pub returns : goal.returns
returns c =
    measured (tested c.args.has_ml c.args.seq.now c.args.mm.now c.args.ml.now) c.in-Some.count
    (counted_as c.args.has_ml c.args.seq.now c.args.mm.now c.args.ml.now _ c.values_taken-taken.ensures (omega arith) (omega arith) (omega arith)
    _ (c.in_ok-count.was ∙ ap Ok c.in-Some.is) (c.count_tag.ensures nowhere (λ m. refl)))

use Rattle.std.specs.Prelude.{Ok, Option}
use Rattle.measuring.specs.declared.Count.{Count}
use mathlib.Core.Path.{◌∙◌, ◌≡◌, ap, refl, subst}
use Prim.Native.Nat.{◌<◌, ℕ}
use native.Mathlib.Omega.{arith}
use mathlib.Core.Bool.{Bool, false}
use mathlib.Core.List.{List}
use lib.ListN.{drop, length}
use Rattle.lent.proofs.Outcome.{on_done_refused, passed_on}
use Rattle.lent.specs.Outcome.{Outcome, on_done}
use Rattle.samtags.specs.Reading.{nowhere, read_group}
use Rattle.samtags.specs.Text.{up_to}
use Rattle.places.proofs.TextLaws.{ahead, groups_done, groups_over}
use Rattle.measuring.proofs.CountLaws.{count_none, groups_refused, groups_turn}
use Rattle.measuring.specs.Counting.{GroupCounted, groups_counted}
use Rattle.measuring.proofs.count_groups.Goals as goal

-- the group's answer, by what it is known to be
abbrev Group_counted : Count → Bool → Bool → List ℕ → List ℕ → List ℕ → Outcome (Option Count) → Type 0
Group_counted d marked ml? seq text ml x = (named : ℕ → Bool) → (marked ≡ false → named ≡ nowhere)
    → GroupCounted marked text ml d (read_group ml? named seq (up_to 59 (drop d.at text)) (drop d.used ml)) x

as_counted : (d : Count) (marked ml? : Bool) (seq text ml : List ℕ) {x r : Outcome (Option Count)}
    → Group_counted d marked ml? seq text ml x → x ≡ r → Group_counted d marked ml? seq text ml r
as_counted d marked ml? seq text ml g e = subst (Group_counted d marked ml? seq text ml) e g

pub count_group-requires : goal.count_group-requires
count_group-requires c =
    let inside : c.loop-c.c.at < length c.args.text.now = omega arith in
    let far = ahead c.args.text.now c.loop-c.c.at inside c.requires.3 in
    record { seq_len_bound = (omega arith, omega arith, omega arith); text_in_bounds = far; used_in_bounds = omega arith }

pub returns-in_err-next : goal.returns-in_err-next
returns-in_err-next c =
    let inside : c.loop-c.c.at < length c.args.text.now = omega arith in
    λ (named : ℕ → Bool) (none : c.args.marked ≡ false → named ≡ nowhere).
    rw (passed_on _ _ c.from_residual.ensures.1) (on_done_refused _ _ _ (c.loop-c.invariant.4 named none
    ∙ ap (on_done (groups_counted c.loop-c.c.group c.loop-c.c.calls))
    (groups_refused c.args.has_ml named c.args.seq.now c.args.text.now c.loop-c.c.at inside c.requires.3 (drop c.loop-c.c.used c.args.ml.now) _
    (as_counted c.loop-c.c _ _ _ _ _ c.count_group.ensures c.in_err-next.was named none))))

pub returns-in_default : goal.returns-in_default
returns-in_default c = as_counted c.loop-c.c _ _ _ _ _ c.count_group.ensures (c.in_ok-next.was ∙ ap Ok c.in_default.is)

pub loop-c-smaller : goal.loop-c-smaller
loop-c-smaller c =
    let inside : c.loop-c.c.at < length c.args.text.now = omega arith in
    let x = as_counted c.loop-c.c _ _ _ _ _ c.count_group.ensures (c.in_ok-next.was ∙ ap Ok c.in-Some.is) nowhere (λ m. refl) in
    omega (arith, x.0, inside)

pub loop-c-preserved : goal.loop-c-preserved
loop-c-preserved c =
    let inside : c.loop-c.c.at < length c.args.text.now = omega arith in
    let x = as_counted c.loop-c.c _ _ _ _ _ c.count_group.ensures (c.in_ok-next.was ∙ ap Ok c.in-Some.is) in
    let y = x nowhere (λ m. refl) in
    let far = ahead c.args.text.now c.loop-c.c.at inside c.requires.3 in (
      omega (arith, y.0, far),
      y.1,
      omega (arith, y.0, y.2, c.loop-c.invariant.2),
      y.3,
      λ (named : ℕ → Bool) (none : c.args.marked ≡ false → named ≡ nowhere).
          c.loop-c.invariant.4 named none ∙ groups_turn c.args.has_ml named c.args.seq.now c.args.text.now c.loop-c.c.at inside c.requires.3
          (drop c.loop-c.c.used c.args.ml.now) c.loop-c.c.group c.loop-c.c.calls _ _ _ _ y.0 y.2 (x named none).4,
    )

pub returns-then-c-ml : goal.returns-then-c-ml
returns-then-c-ml c =
    λ (named : ℕ → Bool) (none : c.args.marked ≡ false → named ≡ nowhere).
    on_done_refused _ _ _ (c.loop-c.invariant.4 named none
    ∙ ap (on_done (groups_counted c.loop-c.c.group c.loop-c.c.calls))
    (groups_over c.args.has_ml named c.args.seq.now c.args.text.now c.loop-c.c.at (omega arith) c.args.ml.now c.loop-c.c.used (omega arith)))

pub returns : goal.returns
returns c =
    λ (named : ℕ → Bool) (none : c.args.marked ≡ false → named ≡ nowhere).
    c.loop-c.invariant.4 named none
    ∙ ap (on_done (groups_counted c.loop-c.c.group c.loop-c.c.calls))
    (groups_done c.args.has_ml named c.args.seq.now c.args.text.now c.loop-c.c.at (omega arith) c.args.ml.now c.loop-c.c.used (omega arith))
    ∙ count_none c.loop-c.c.group c.loop-c.c.calls

-- The numbers that each public call can answer: no other number, and 0 exactly when the call is done. The numbers are those of the definition;
-- samtags/proofs/Numbers has an input for each of them (`open_session_each`, `mask_step_each`, `drop_step_each`, `cut_step_each`).
-- Assumes nothing.
use Rattle.std.specs.Prelude.{Ok, Err}
use mathlib.Core.Path.{◌≡◌, refl, ap}
use Prim.Native.Nat.{ℕ}
use mathlib.Core.Bool.{Bool, true, false}
use mathlib.Core.List.{List}
use Rattle.lent.proofs.Answers.{answers, only_on_done}
use Rattle.lent.specs.Answers.{Answers, refuses_only}
use Rattle.lent.specs.Lists.{among}
use Rattle.lent.specs.Outcome.{Outcome, number_of, on_done}
use Rattle.reading.specs.Calls.{counts_of}
use Rattle.samtags.proofs.Numbers.{open_session_only, open_numbers, step_only, step_numbers}
use Rattle.samtags.specs.Session.{Memory, Step, cut, drop_calls, mask, open_session, step_in_memory}
use Rattle.session.proofs.Demand.{follows}
use Rattle.session.specs.PublicContracts.{Call, Meets, Opens, Rows, in_memory}
use Rattle.stepping.specs.Steps.{Came, leaves_memory, step_says}

-- ---- no other number

pub open_numbers_lem : (ml? : Bool) (w : Rows) (r : Outcome (ℕ × ℕ)) → Opens ml? w r → Answers open_numbers r
open_numbers_lem ml? w r e =
    rw e (answers open_numbers _ refl (only_on_done open_numbers counts_of (open_session ml? (in_memory w)) (open_session_only ml? (in_memory w))))

-- no step has 0 among its refusals
zero_is_none : (t : Step) → among (step_numbers t) 0 ≡ false
zero_is_none (mask ps) = refl
zero_is_none (drop_calls ps) = refl
zero_is_none (cut front back) = refl

-- a step's answer refuses as the step does
answer_refuses : (ns : List ℕ) (m : Memory) (o : Outcome Memory) → refuses_only ns o ≡ true → refuses_only ns (leaves_memory m o).answer ≡ true
unfolding leaves_memory
answer_refuses ns m (Err r) h = h
answer_refuses ns m (Ok n) h = refl

-- the set depends on the step that was asked for: a mask, a drop or a cut
pub step_numbers_lem : (ml? : Bool) (w : Rows) (c : Call) → Meets ml? w c → Answers (step_numbers c.asked) (step_says c.answered)
step_numbers_lem ml? w c e =
    let m = in_memory w in
    let ns = step_numbers c.asked in
    let is : step_says c.answered ≡ (leaves_memory m (step_in_memory ml? c.asked m)).answer = ap (λ (x : Came). x.answer) e in
    rw is (answers ns _ (zero_is_none c.asked) (answer_refuses ns m (step_in_memory ml? c.asked m) (step_only ml? c.asked m)))

-- ---- the number is the definition's

pub open_number : (ml? : Bool) (w : Rows) (r : Outcome (ℕ × ℕ)) → Opens ml? w r → number_of r ≡ number_of (on_done counts_of (open_session ml? (in_memory w)))
open_number ml? w r e = ap number_of e

pub step_number : (ml? : Bool) (w : Rows) (c : Call) → Meets ml? w c
    → number_of (step_says c.answered) ≡ number_of (step_in_memory ml? c.asked (in_memory w))
step_number ml? w c e = (follows ml? w c e).1

-- Each public call's contract determines its outcome, the answer and every lent row: two outcomes that meet the contract are equal.
-- Assumes nothing.
use Rattle.std.specs.Prelude.{ℕ}
use Rattle.lent.specs.Outcome.{Outcome}
use mathlib.Core.Path.{◌≡◌, ap, sym, ◌∙◌}
use mathlib.Core.Bool.{Bool}
use Rattle.lent.proofs.Filled.{settled}
use Rattle.samtags.specs.Session.{Step}
use Rattle.session.proofs.Unique.{step_says_inj}
use Rattle.session.specs.PublicContracts.{Call, Rows, in_memory}
use Rattle.stepping.specs.Steps.{Came, came, leaves_memory, step_says}
use Rattle.stored_session.specs.PublicContracts.{MeetsStored, OpensStored}
use Rattle.stored_steps.specs.Steps.{step_stored}

module _ (reverse ml? : Bool) (w : Rows) where
  pub open_unique : (r s : Outcome (ℕ × ℕ)) → OpensStored reverse ml? w r → OpensStored reverse ml? w s → r ≡ s
  open_unique = settled

  -- for `mask`, `drop_calls` and `cut` alike
  pub step_unique : (c d : Call) → c.asked ≡ d.asked → MeetsStored reverse ml? w c → MeetsStored reverse ml? w d → c ≡ d
  step_unique c d a p q =
      let same : came (step_says c.answered) c.seq c.mm c.ml ≡ came (step_says d.answered) d.seq d.mm d.ml =
      p ∙ ap (λ (t : Step). leaves_memory (in_memory w) (step_stored reverse ml? t (in_memory w))) a ∙ sym q in
      let answers = step_says_inj c.answered d.answered (ap (λ (x : Came). x.answer) same) in
      λ j. record { asked = a j; answered = answers j; seq = (same j).seq; mm = (same j).text; ml = (same j).ml }

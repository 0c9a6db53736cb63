-- Each public call's contract determines its outcome, the answer and every lent row: two outcomes that meet the contract are equal.
-- Assumes nothing.
use Rattle.std.specs.Prelude.{Ok, Err}
use Rattle.lent.specs.Outcome.{Outcome}
use Rattle.stepping.specs.declared.Lengths.{Lengths as Declared}
use mathlib.Core.Path.{◌≡◌, ap, sym, ◌∙◌}
use Prim.Native.Nat.{ℕ}
use native.Mathlib.Omega.{arith}
use mathlib.Core.Bool.{Bool}
use Rattle.lent.proofs.Filled.{settled}
use Rattle.lent.proofs.Outcome.{done_inj}
use Rattle.samtags.specs.Session.{Lengths as Held-lengths, Step, step_in_memory}
use Rattle.session.specs.PublicContracts.{Call, Meets, Opens, Rows, in_memory}
use Rattle.stepping.specs.Steps.{Came, came, leaves_memory, lengths_of, step_says}

-- two answers that say the same are the same
pub step_says_inj : (a b : Outcome Declared) → step_says a ≡ step_says b → a ≡ b
step_says_inj (Ok n) (Ok k) e =
    let p : ◌≡◌ {A = Held-lengths} (lengths_of n) (lengths_of k) = done_inj e in
    λ j. Ok (record { seq = (p j).seq; mm = (p j).text; ml = (p j).ml })
step_says_inj (Ok n) (Err r) e = let z : ◌≡◌ {A = ℕ} 0 1 = cc in absurd (omega arith)
step_says_inj (Err q) (Ok k) e = let z : ◌≡◌ {A = ℕ} 0 1 = cc in absurd (omega arith)
step_says_inj (Err q) (Err r) e = let p : q ≡ r = cc in ap Err p

module _ (ml? : Bool) (w : Rows) where
  pub open_unique : (r s : Outcome (ℕ × ℕ)) → Opens ml? w r → Opens ml? w s → r ≡ s
  open_unique r s p q = settled r s p q

  -- for `mask`, `drop_calls` and `cut` alike
  pub step_unique : (c d : Call) → c.asked ≡ d.asked → Meets ml? w c → Meets ml? w d → c ≡ d
  step_unique c d a p q =
      let same : came (step_says c.answered) c.seq c.mm c.ml ≡ came (step_says d.answered) d.seq d.mm d.ml =
      p ∙ ap (λ (t : Step). leaves_memory (in_memory w) (step_in_memory ml? t (in_memory w))) a ∙ sym q in
      let answers = step_says_inj c.answered d.answered (ap (λ (x : Came). x.answer) same) in
      λ j. record { asked = a j; answered = answers j; seq = (same j).seq; mm = (same j).text; ml = (same j).ml }

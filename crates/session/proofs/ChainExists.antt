-- The hypothesis of demand 3's theorems can be met: for all rows and every list of steps there is a chain of calls. Each call's contract (proofs/Cited)
-- says that the code does what the chain says, and `step_unique` says that no other outcome meets the contract.
-- Assumes nothing.
use Rattle.std.specs.Prelude.{Ok, Err}
use mathlib.Core.Path.{◌≡◌, refl}
use mathlib.Core.Bool.{Bool}
use mathlib.Core.List.{List, [], ◌∷◌}
use Rattle.lent.specs.Outcome.{Outcome}
use Rattle.samtags.specs.Session.{Memory, Step, step_in_memory}
use Rattle.session.specs.Chain.{Chain, left_by, steps_of}
use Rattle.session.specs.PublicContracts.{Call, Meets, Rows, in_memory}
use Rattle.stepping.specs.Steps.{came, leaves_memory, step_says}

-- a call can answer and leave every outcome of a step
pub answered : (w : Rows) (t : Step) (o : Outcome Memory)
    → (c : Call) × (c.asked ≡ t) × (came (step_says c.answered) c.seq c.mm c.ml ≡ leaves_memory (in_memory w) o)
unfolding leaves_memory
answered w t (Err r) = (record { asked = t; answered = Err r; seq = w.seq; mm = w.mm; ml = w.ml }, refl, refl)
answered w t (Ok m) =
    let n = m.lengths in
    let c : Call = record {
      asked = t;
      answered = Ok (record { seq = n.seq; mm = n.text; ml = n.ml });
      seq = m.seq;
      mm = m.text;
      ml = m.ml;
    } in
    (c, refl, refl)

module _ (ml? : Bool) where
  pub call_exists : (w : Rows) (t : Step) → (c : Call) × (c.asked ≡ t) × Meets ml? w c
  call_exists w t =
      let a = answered w t (step_in_memory ml? t (in_memory w)) in
      (a.0, a.1, rw a.1 a.2)

  pub chain_exists : (ts : List Step) (w : Rows) → (cs : List Call) × (steps_of cs ≡ ts) × Chain ml? w cs
  chain_exists [] w = ([], refl, tt)
  chain_exists (t ∷ ts) w =
      let (c, asked, meets) = call_exists w t in
      let (cs, steps, rest) = chain_exists ts (left_by w c) in
      (c ∷ cs, λ j. asked j ∷ steps j, (meets, rest))

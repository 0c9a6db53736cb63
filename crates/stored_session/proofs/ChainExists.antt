-- The hypothesis of demand 3's theorems can be met: for all rows and every list of steps there is a chain of calls. `step_unique` says that no other
-- outcome meets a call's contract.
-- Assumes nothing.
use mathlib.Core.Path.{◌≡◌, refl}
use mathlib.Core.Bool.{Bool}
use mathlib.Core.List.{List, [], ◌∷◌}
use Rattle.samtags.specs.Session.{Step}
use Rattle.session.specs.Chain.{left_by, steps_of}
use Rattle.session.specs.PublicContracts.{Call, Rows, in_memory}
use Rattle.stored_session.specs.Chain.{ChainStored}
use Rattle.stored_session.specs.PublicContracts.{MeetsStored}
use Rattle.stored_steps.specs.Steps.{step_stored}
use Rattle.session.proofs.ChainExists.{answered}

module _ (reverse ml? : Bool) where
  pub call_exists : (w : Rows) (t : Step) → (c : Call) × (c.asked ≡ t) × MeetsStored reverse ml? w c
  call_exists w t =
      let a = answered w t (step_stored reverse ml? t (in_memory w)) in
      (a.0, a.1, rw a.1 a.2)

  pub chain_exists : (ts : List Step) (w : Rows) → (cs : List Call) × (steps_of cs ≡ ts) × ChainStored reverse ml? w cs
  chain_exists [] w = ([], refl, tt)
  chain_exists (t ∷ ts) w =
      let (c, asked, meets) = call_exists w t in
      let (cs, steps, rest) = chain_exists ts (left_by w c) in
      (c ∷ cs, λ j. asked j ∷ steps j, (meets, rest))

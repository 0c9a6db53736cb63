-- The rows of a tag after it was edited in them.
-- Assumes nothing.
use Rattle.std.specs.Prelude.{Ok, Err}
use mathlib.Core.Path.{◌≡◌, sym, ap, ◌∙◌}
use Prim.Native.Nat.{ℕ, ◌≤◌}
use native.Mathlib.Omega.{arith}
use mathlib.Core.Bool.{Bool}
use mathlib.Core.List.{List, ◌++◌}
use lib.ListN.{length, take, drop}
use lib.Seq.{sets, length-take-le}
use borrow.Rule.Slice.PartMut.{put_mid}
use Rattle.editing.specs.Rewrote.{leaves_tag, rewrote, values_with}
use Rattle.lent.proofs.Filled.{over_part_front, over_stored}
use Rattle.lent.specs.Filled.{leaves, over}
use Rattle.lent.specs.Outcome.{Outcome}
use Rattle.lent.specs.declared.Refusal.{Refusal}
use Rattle.samtags.specs.Writing.{Tag}

-- the front of a row was lent, and came back with a run stored from its start on
pub front_stored : {A : Type 0} (row vs front : List A) (k : ℕ) → k ≤ length row → length vs ≤ k → front ≡ sets (take k row) 0 vs
    → put_mid 0 k row front ≡ over vs row
front_stored {A} row vs front k fits few e =
    let low : length vs ≤ length (take k row) = omega (arith, length-take-le k row fits) in
    ap (λ (l : List A). l ++ drop k row) (e ∙ over_stored vs (take k row) low) ∙ over_part_front vs row k few

module _ (ml? : Bool) (t v : List ℕ) (o : Outcome Tag) where
  pub refused_own : (r : Refusal) → o ≡ Err r → rewrote (Err r) t v ≡ leaves_tag ml? o t v
  unfolding leaves_tag leaves
  refused_own r e = rw e

  pub done_own : (u : Tag) → o ≡ Ok u → values_with ml? u ≡ u.ml → (n m : ℕ) → length u.text ≡ n → length u.ml ≡ m
      → (t' v' : List ℕ) → t' ≡ over u.text t → v' ≡ over u.ml v → rewrote (Ok (n, m)) t' v' ≡ leaves_tag ml? o t v
  unfolding leaves_tag leaves
  done_own u e same n m p q t' v' x y = rw (e, same) (λ j. rewrote (Ok (sym p j, sym q j)) (x j) (y j))

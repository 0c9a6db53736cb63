-- Laws of writing a call: the rows after its stores, and that writing never overtakes reading.
-- Assumes nothing.
use mathlib.Core.Path.{◌≡◌, sym, subst}
use Prim.Native.Nat.{ℕ, suc, ◌+◌, ◌≤◌, min}
use native.Mathlib.Omega.{arith}
use mathlib.Core.Bool.{Bool, true, false}
use mathlib.Core.List.{List}
use mathlib.Core.Logic.{◌⊎◌, inl, inr, ⊎_elim}
use lib.ListN.{length}
use lib.Seq.{sets}
use Rattle.lent.proofs.Numbers.{le_or_lt}
use Rattle.samtags.proofs.Behind.{Behind, behind_bare, behind_gone, behind_listed}
use Rattle.samtags.specs.Decimal.{digits, is_number, value}
use Rattle.samtags.specs.Writing.{entry_text}
use Rattle.changing.specs.Drafts.{Draft, draft, entry_put, more}

pub less_of : (a b m : ℕ) → m ≡ min a b → (m ≡ a) ⊎ (m ≡ b)
less_of a b m e = ⊎_elim (λ h. inl (omega arith)) (λ h. inr (omega arith)) (le_or_lt a b)

-- An entry was read, f with the comma that leads it, of whose m passed bases that are still held are counted; and it was put.
module _ (x y at : ℕ) (f : List ℕ) (number : is_number f ≡ true) (m : ℕ) (few : m ≤ value f) (w : Draft) (gap : ℕ) (vs : List ℕ)
    (h : Behind (x + w.end) (y + at) gap) where
  sum : y + at + 1 + length f ≡ y + (at + 1 + length f)
  sum = omega arith

  behind_cases : (held dropped : Bool)
      → Behind (x + (entry_put held dropped w (gap + m) vs).0.end) (y + (at + 1 + length f)) (entry_put held dropped w (gap + m) vs).1
  behind_cases true true = subst (λ (n : ℕ). Behind (x + w.end) n (gap + m + 1)) sum (behind_bare (x + w.end) (y + at) gap h f number m few)
  behind_cases true false =
      let end : x + w.end + 1 + length (digits (gap + m)) ≡ x + (w.end + suc (length (digits (gap + m)))) = omega arith in
      subst (λ (k : ℕ). Behind k (y + (at + 1 + length f)) 0) end
      (subst (λ (n : ℕ). Behind (x + w.end + 1 + length (digits (gap + m))) n 0) sum (behind_listed (x + w.end) (y + at) gap h f number m few))
  behind_cases false dropped = subst (λ (n : ℕ). Behind (x + w.end) n (gap + m)) sum (behind_gone (x + w.end) (y + at) gap h f number m few)

  pub put_behind : (held dropped : Bool) (w' : Draft) (gap' : ℕ) → entry_put held dropped w (gap + m) vs ≡ (w', gap')
      → Behind (x + w'.end) (y + (at + 1 + length f)) gap'
  put_behind held dropped w' gap' e =
      subst (λ (q : Draft × ℕ). Behind (x + q.0.end) (y + (at + 1 + length f)) q.1) e (behind_cases held dropped)

-- no more values are kept than the call had, and at most its own base is waiting besides
pub put_few : (held dropped : Bool) (w : Draft) (gap : ℕ) (vs : List ℕ) (w' : Draft) (gap' : ℕ) → entry_put held dropped w gap vs ≡ (w', gap')
    → (w'.kept ≤ w.kept + length vs) × (gap' ≤ gap + 1)
put_few held dropped w gap vs w' gap' e =
    subst (λ (q : Draft × ℕ). (q.0.kept ≤ w.kept + length vs) × (q.1 ≤ gap + 1)) e (go held dropped)
  where
    go : (held dropped : Bool) → ((entry_put held dropped w gap vs).0.kept ≤ w.kept + length vs) × ((entry_put held dropped w gap vs).1 ≤ gap + 1)
    go true true = (omega arith, omega arith)
    go true false = (omega arith, omega arith)
    go false dropped = (omega arith, omega arith)

-- a comma, the digits and the values, by what each store leaves
pub entry_stored : (t : List ℕ) (n : ℕ) (v : List ℕ) (m gap : ℕ) (vs : List ℕ) (n' : ℕ) (t' : List ℕ) (m' : ℕ) (v' : List ℕ)
    → n' ≡ n + length (entry_text gap) → t' ≡ sets t n (entry_text gap) → m' ≡ m + length vs → v' ≡ sets v m vs
    → ◌≡◌ {A = Draft × ℕ} (more (draft t n v m) (entry_text gap) vs, 0) (draft t' n' v' m', 0)
entry_stored t n v m gap vs n' t' m' v' p q r s = λ j. (draft (sym q j) (sym p j) (sym s j) (sym r j), 0)

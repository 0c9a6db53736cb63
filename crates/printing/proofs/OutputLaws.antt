-- Writing lines and decimals, store by store.
-- Assumes nothing.
use mathlib.Core.Path.{◌≡◌, refl, sym, ap, ◌∙◌}
use Prim.Native.Nat.{ℕ, suc, ◌+◌, ◌-◌, ◌≤◌, ◌<◌}
use native.Mathlib.Omega.{arith}
use mathlib.Core.List.{List, [], ◌∷◌, ◌++◌, append-nil}
use lib.ListN.{length, get_or, take, drop, set, length-append, length-drop, drop_of_length-le}
use lib.Seq.{get_or-drop, sets, take_all}
use Rattle.lent.proofs.Lists.{drop_here}
use Rattle.lent.proofs.Stores.{sets_append}
use Rattle.samtags.proofs.Decimal.{digits_few}
use Rattle.samtags.specs.Decimal.{digits}
use Rattle.samtags.specs.Writing.{entry_text, entries_text}
use Rattle.numbers.proofs.SkipLaws.{sets_snoc}
use Rattle.lines.specs.Lines.{decimals}

-- ---- a line: its mark, what follows it, and LF, by what each store leaves

module _ (l : List ℕ) (at a b : ℕ) (body l₁ l₂ l₃ l₄ : List ℕ) (end : ℕ) where
  pub line_stored : l₁ ≡ set l at a → l₂ ≡ set l₁ (at + 1) b → l₃ ≡ sets l₂ (at + 2) body → end ≡ at + 2 + length body → l₄ ≡ set l₃ end 10
      → (end + 1 ≡ at + length (a ∷ b ∷ body ++ 10 ∷ [])) × (l₄ ≡ sets l at (a ∷ b ∷ body ++ 10 ∷ []))
  line_stored p q r e s =
      let one : at + 1 ≡ suc at = omega arith in
      let two : at + 2 ≡ suc (suc at) = omega arith in
      let q₂ : l₂ ≡ set (set l at a) (suc at) b = q ∙ rw (p, one) in
      let r₂ : l₃ ≡ sets (set (set l at a) (suc at) b) (suc (suc at)) body = r ∙ rw (q₂, two) in (
        omega (arith, length-append body (10 ∷ [])),
        s ∙ ap (λ (m : List ℕ). set m end 10) r₂ ∙ sets_snoc (set (set l at a) (suc at) b) (suc (suc at)) body 10 end (omega arith),
      )

-- ---- decimals with commas between: the first, and a comma before each that follows

decimals_first : (v : ℕ) (vs : List ℕ) → decimals (v ∷ vs) ≡ digits v ++ entries_text vs
unfolding decimals
decimals_first v [] = sym (append-nil (digits v))
decimals_first v (w ∷ vs) = ap (λ (r : List ℕ). digits v ++ 44 ∷ r) (decimals_first w vs)

pub no_decimals : (vs : List ℕ) → length vs ≡ 0 → decimals vs ≡ []
unfolding decimals
no_decimals [] h = refl
no_decimals (v ∷ vs) h = absurd (omega arith)

pub decimals_are : (vs : List ℕ) → 0 < length vs → decimals vs ≡ digits (get_or vs 0 0) ++ entries_text (drop 1 vs)
decimals_are [] h = absurd (omega arith)
decimals_are (v ∷ vs) h = decimals_first v vs

-- the first is put
module _ (l : List ℕ) (at : ℕ) (vs : List ℕ) (some : 0 < length vs) (l' : List ℕ) (end : ℕ)
    (p : end ≡ at + length (digits (get_or vs 0 0))) (q : l' ≡ sets l at (digits (get_or vs 0 0))) where
  pub first_put : sets l at (decimals vs) ≡ sets l' end (entries_text (drop 1 vs))
  first_put =
      ap (sets l at) (decimals_are vs some) ∙ sets_append l at (digits (get_or vs 0 0)) (entries_text (drop 1 vs))
      ∙ rw (← q, ← p)

  pub first_end : at + length (decimals vs) ≡ end + length (entries_text (drop 1 vs))
  first_end = omega (
    arith,
    ap length (decimals_are vs some),
    length-append (digits (get_or vs 0 0)) (entries_text (drop 1 vs)),
  )

-- those that follow, as the loop reads them
pub after_first : (vs : List ℕ) (i : ℕ) → get_or (take (length vs - 1) (drop 1 vs)) i 0 ≡ get_or vs (i + 1) 0
after_first vs i =
    let same : 1 + i ≡ i + 1 = omega arith in
    ap (λ (l : List ℕ). get_or l i 0) (take_all (length vs - 1) (drop 1 vs) (omega (arith, length-drop 1 vs)))
    ∙ get_or-drop 1 vs i 0 ∙ ap (λ (k : ℕ). get_or vs k 0) same

-- one more of those that follow
module _ (l : List ℕ) (at : ℕ) (vs : List ℕ) (i : ℕ) (some : i < length vs) (l' : List ℕ) (end : ℕ)
    (p : end ≡ at + length (entry_text (get_or vs i 0))) (q : l' ≡ sets l at (entry_text (get_or vs i 0))) where
  here : entries_text (drop i vs) ≡ entry_text (get_or vs i 0) ++ entries_text (drop (i + 1) vs)
  here = ap entries_text (drop_here vs i 0 some)

  pub next_put : sets l at (entries_text (drop i vs)) ≡ sets l' end (entries_text (drop (i + 1) vs))
  next_put =
      ap (sets l at) here ∙ sets_append l at (entry_text (get_or vs i 0)) (entries_text (drop (i + 1) vs))
      ∙ rw (← q, ← p)

  pub next_end : at + length (entries_text (drop i vs)) ≡ end + length (entries_text (drop (i + 1) vs))
  next_end = omega (
    arith,
    ap length here,
    length-append (entry_text (get_or vs i 0)) (entries_text (drop (i + 1) vs)),
  )

pub none_left : (vs : List ℕ) (i : ℕ) → length vs ≤ i → entries_text (drop i vs) ≡ []
none_left vs i h = rw (drop_of_length-le vs h)

-- a byte has few digits
pub byte_short : (v : ℕ) → v ≤ 255 → length (digits v) ≤ 256
byte_short v h = omega (arith, digits_few v)

-- Marking a column without marks: marking the positions that the reference row has gives the whole column of the definition.
-- Assumes nothing.
use mathlib.Core.Path.{◌≡◌, refl, ◌∙◌}
use Prim.Native.Nat.{ℕ, ◌≤◌, ◌<◌, min}
use native.Mathlib.Omega.{arith}
use mathlib.Core.Bool.{false, cond}
use mathlib.Core.List.{List}
use mathlib.Core.Logic.{⊎_elim}
use lib.Dec.{ltb}
use lib.ListN.{length, get_or, get_or-eq_default}
use borrow.Author.Tests.{lt-ltb, le-ltb}
use Rattle.lent.proofs.InPlace.{changed_up_to}
use Rattle.lent.proofs.Numbers.{le_or_lt}
use Rattle.lent.proofs.Tabulate.{changed_idle, changed_is_tabulate, get_d_tabulate, length_tabulate, tabulate_ext}
use Rattle.lent.specs.Lists.{tabulate}
use Rattle.pattern.specs.Case.{same_in_any_case, upper}
use Rattle.pattern.specs.Patterns.{bases_of}
use Rattle.pattern.specs.declared.ConversionPattern.{ConversionPattern}
use Rattle.pattern.specs.declared.ConversionPattern.TheVariants.{CToT, GToA}
use Rattle.columns.specs.Columns.{yes_byte, informative_at, informative_column}

-- the pattern's base is an upper-case letter
informative_there : (p : ConversionPattern) (row : List ℕ) (i : ℕ) → same_in_any_case (get_or row i 0) (bases_of p).reference ≡ informative_at p row i
unfolding same_in_any_case informative_at upper
informative_there CToT row i = refl
informative_there GToA row i = refl

beyond : (p : ConversionPattern) (row : List ℕ) (i : ℕ) → length row ≤ i → informative_at p row i ≡ false
unfolding informative_at upper
beyond CToT row i h = rw (get_or-eq_default row 0 h)
beyond GToA row i h = rw (get_or-eq_default row 0 h)

module _ (p : ConversionPattern) (row : List ℕ) where
  -- what the loop makes of a position: its mark where the reference row has it, and else what stood there
  abbrev pub mark_at : ℕ → ℕ → ℕ
  mark_at i y = cond (ltb i (length row)) (yes_byte (informative_at p row i)) y

  -- the mark of a position that the row has
  pub mark_there : (i y : ℕ) → i < length row → yes_byte (same_in_any_case (get_or row i 0) (bases_of p).reference) ≡ mark_at i y
  mark_there i y h = rw (lt-ltb i (length row) h, informative_there p row i)

  -- the mark of any position, over none
  mark_anywhere : (n j : ℕ) → j < n → mark_at j (get_or (tabulate n (λ i. 0)) j 0) ≡ yes_byte (informative_at p row j)
  mark_anywhere n j l =
      ⊎_elim
      (λ past. rw (le-ltb j (length row) past, get_d_tabulate {A = ℕ} n j (λ i. 0) 0 l, beyond p row j past))
      (λ there. rw (lt-ltb j (length row) there))
      (le_or_lt (length row) j)

  pub marked_column : (n k : ℕ) → k ≡ min (length row) n → changed_up_to mark_at k (tabulate n (λ i. 0)) ≡ informative_column p row n
  marked_column n k e =
      ⊎_elim
      (λ short. let is : k ≡ length row = omega arith in
      changed_idle mark_at k n none (λ (j y : ℕ) (l : k ≤ j). idle j y (omega arith)) (omega arith) ∙ whole)
      (λ long. let is : k ≡ n = omega arith in rw is whole)
      (le_or_lt (length row) n)
    where
      none : List ℕ
      none = tabulate n (λ i. 0)

      idle : (j y : ℕ) → length row ≤ j → mark_at j y ≡ y
      idle j y h = rw (le-ltb j (length row) h)

      whole : changed_up_to mark_at n none ≡ informative_column p row n
      whole =
          let l : length none ≡ n = length_tabulate n (λ i. 0) in
          rw l at (changed_is_tabulate mark_at 0 none)
          ∙ tabulate_ext n (λ i. mark_at i (get_or none i 0)) (λ i. yes_byte (informative_at p row i)) (λ (j : ℕ) (h : j < n). mark_anywhere n j h)

-- The plan that removes the first field of each of the five names.
-- Assumes nothing.
use mathlib.Core.Path.{◌≡◌, refl, sym, ap, ◌∙◌}
use Prim.Native.Nat.{ℕ, ◌≤◌}
use native.Mathlib.Omega.{arith}
use mathlib.Core.Bool.{Bool, true, false, not, ◌||◌}
use mathlib.Core.List.{List, [], ◌∷◌}
use lib.Dec.{leb, ltb, eqb}
use lib.ListN.{length, get_or}
use borrow.Author.Tests.{le-ltb, lt-ltb, ne_eqb, not-true}
use Rattle.lent.proofs.Tests.{by-test}
use Rattle.lent.specs.Lists.{is_empty}
use Rattle.record_edits.proofs.Agreement.{by_name, past_plan}
use Rattle.record_fields.specs.Fields.{Field, first_named}
use Rattle.record_tags.proofs.GoneLaws.{lets_go, some_go}
use Rattle.record_tags.specs.Changes.{Changes, changed, is_tagged, removal}
use Rattle.record_tags.specs.Plans.{Means, Ready, is_ready, planned, queue_by}

abbrev pub all_go : List ℕ
all_go = 1 ∷ 1 ∷ 1 ∷ 1 ∷ 1 ∷ 0 ∷ []

module _ (m : Means) (fs : List Field) where
  same : (k : ℕ) → planned m all_go k ≡ removal k
  unfolding planned queue_by removal
  same = by_name (λ (k : ℕ). planned m all_go k ≡ removal k) refl refl refl refl refl past
    where
      past : (k : ℕ) → 5 ≤ k → planned m all_go k ≡ removal k
      past k h = rw (past_plan 1 1 1 1 1 k h, le-ltb k 5 h)

  pub removal_is : changed (planned m all_go) fs ≡ changed removal fs
  removal_is = ap (λ (c : Changes). changed c fs) (λ j k. same k j)

  pub removal_ready : Ready m all_go fs
  unfolding is_ready
  removal_ready =
      by_name (λ (k : ℕ). (is_ready m (get_or all_go k 0) (first_named k fs) ≡ true) × (eqb k 2 || leb (get_or all_go k 0) 4 ≡ true))
      (refl, refl) (refl, refl) (refl, refl) (refl, refl) (refl, refl)
      (λ k h. rw (past_plan 1 1 1 1 1 k h, ne_eqb k 2 (λ e. omega (arith, e))) (refl, refl))

  pub removal_went : is_tagged fs ≡ true → ltb (length (changed (planned m all_go) fs)) (length fs) ≡ true
  unfolding is_tagged
  removal_went t =
      by-test (not (is_empty (first_named 0 fs)))
      (λ e. fewer 0 refl (not-true (is_empty (first_named 0 fs)) e))
      (λ e. by-test (not (is_empty (first_named 3 fs)))
      (λ a. fewer 3 refl (not-true (is_empty (first_named 3 fs)) a))
      (λ a. by-test (not (is_empty (first_named 4 fs)))
      (λ b. fewer 4 refl (not-true (is_empty (first_named 4 fs)) b))
      (λ b. let z : ◌≡◌ {A = Bool} false true = sym (rw (e, a, b)) ∙ t in let y : ◌≡◌ {A = ℕ} 0 1 = cc in absurd (omega arith))))
    where
      fewer : (k : ℕ) → lets_go (get_or all_go k 0) ≡ true → is_empty (first_named k fs) ≡ false → ltb (length (changed (planned m all_go) fs)) (length fs) ≡ true
      fewer k g there = lt-ltb (length (changed (planned m all_go) fs)) (length fs) (some_go m all_go fs refl removal_ready k g there)

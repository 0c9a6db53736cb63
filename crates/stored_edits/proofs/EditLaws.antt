-- What the proofs of the three edits share: the checks that passed or refused, and the plain edit on bases in read orientation.
-- Assumes nothing.
use Rattle.std.specs.Prelude.{Ok, Err, Option, None, Some}
use mathlib.Core.Path.{◌≡◌, refl, sym, ap, ◌∙◌}
use Prim.Native.Nat.{ℕ, ◌≤◌}
use native.Mathlib.Omega.{arith}
use mathlib.Core.Bool.{Bool, false, true, ◌&&◌}
use mathlib.Core.List.{List}
use lib.Dec.{leb}
use lib.ListN.{length}
use borrow.Author.Tests.{eqb-true, leb-true}
use Rattle.changing.specs.Windows.{is_marked, marked_at, window_edit}
use Rattle.editing.specs.Rewrote.{leaves_tag, rewrote}
use Rattle.lent.proofs.Outcome.{need_rest, need_test}
use Rattle.lent.proofs.Tests.{and_true_l, and_true_r}
use Rattle.lent.specs.Outcome.{Outcome}
use Rattle.lent.specs.declared.Refusal.{Refusal}
use Rattle.packed.proofs.Turning.{length_in_read}
use Rattle.packed.specs.Packed.{bytes_for}
use Rattle.packed.specs.Stored.{in_read, places_in_read, start_in_read}
use Rattle.rewriting.proofs.Orders.{drop_on}
use Rattle.rewriting.specs.PublicContracts.{Drops, Masks, Trims}
use Rattle.samtags.proofs.Taken.{in_domain_lem}
use Rattle.samtags.specs.Edits.{cut_tag, drop_from_tag, edited, in_room, mask_tag}
use Rattle.samtags.specs.Reading.{in_domain}
use Rattle.samtags.specs.Writing.{Tag}
use Rattle.stored.specs.Reads.{is_exact, stated_in_domain}
use Rattle.stored_rows.proofs.OrderLaws.{tested, tests_pass, tests_refuse}
use Rattle.stored_edits.specs.PublicContracts.{DropsStored, MasksStored, TrimsStored}
use Rattle.stored_edits.specs.Edits.{cut_stored, drop_stored, mask_stored}

-- ---- the domain's test of the bases in read orientation is that of their stated number

pub read_in_domain : (reverse ml? : Bool) (n : ℕ) (packed text ml : List ℕ) → in_domain ml? (in_read reverse n packed) text ml ≡ stated_in_domain ml? n text ml
read_in_domain reverse ml? n packed text ml = rw (length_in_read reverse n packed)

-- ---- one stored read: the checks of its lengths

-- what the checks alone say
abbrev pub order_one : Bool → ℕ → List ℕ → List ℕ → List ℕ → Outcome (Unit {0})
order_one ml? n packed text ml = tested (stated_in_domain ml? n text ml) (is_exact n packed)

pub one_in_domain : (reverse ml? : Bool) (n : ℕ) (packed text ml : List ℕ) → order_one ml? n packed text ml ≡ Ok tt
    → in_domain ml? (in_read reverse n packed) text ml ≡ true
one_in_domain reverse ml? n packed text ml e = read_in_domain reverse ml? n packed text ml ∙ need_test (stated_in_domain ml? n text ml) 1 _ tt e

module _ (reverse ml? : Bool) (n : ℕ) (packed places text ml : List ℕ) (t m : ℕ) where
  pub drop_refused : (r : Refusal) → order_one ml? n packed text ml ≡ Err r → drop_stored reverse ml? n packed places text ml t m ≡ Err r
  unfolding drop_stored
  drop_refused r = tests_refuse (stated_in_domain ml? n text ml) (is_exact n packed) _ r

  pub drop_passed : order_one ml? n packed text ml ≡ Ok tt
      → drop_stored reverse ml? n packed places text ml t m ≡ drop_from_tag ml? (in_read reverse n packed) (places_in_read reverse n places) text ml t m
  unfolding drop_stored
  drop_passed = tests_pass (stated_in_domain ml? n text ml) (is_exact n packed) _

-- ---- two stored reads

abbrev pub order_two : Bool → ℕ → List ℕ → ℕ → List ℕ → List ℕ → List ℕ → Outcome (Unit {0})
order_two ml? n before k after text ml = tested (stated_in_domain ml? n text ml && leb k 16000) (is_exact n before && is_exact k after)

module _ (reverse ml? : Bool) (n : ℕ) (before : List ℕ) (k : ℕ) (after text ml : List ℕ) (t m : ℕ) where
  pub mask_refused : (r : Refusal) → order_two ml? n before k after text ml ≡ Err r → mask_stored reverse ml? n before k after text ml t m ≡ Err r
  unfolding mask_stored
  mask_refused r = tests_refuse (stated_in_domain ml? n text ml && leb k 16000) (is_exact n before && is_exact k after) _ r

  pub mask_passed : order_two ml? n before k after text ml ≡ Ok tt
      → mask_stored reverse ml? n before k after text ml t m ≡ mask_tag ml? (in_read reverse n before) (in_read reverse k after) text ml t m
  unfolding mask_stored
  mask_passed = tests_pass (stated_in_domain ml? n text ml && leb k 16000) (is_exact n before && is_exact k after) _

  pub cut_refused : (start : Option ℕ) (r : Refusal) → order_two ml? n before k after text ml ≡ Err r
      → cut_stored reverse ml? start n before k after text ml t m ≡ Err r
  unfolding cut_stored
  cut_refused start r = tests_refuse (stated_in_domain ml? n text ml && leb k 16000) (is_exact n before && is_exact k after) _ r

  pub cut_passed : (start : Option ℕ) → order_two ml? n before k after text ml ≡ Ok tt
      → cut_stored reverse ml? start n before k after text ml t m
      ≡ cut_tag ml? (start_in_read reverse n k start) (in_read reverse n before) (in_read reverse k after) text ml t m
  unfolding cut_stored
  cut_passed start = tests_pass (stated_in_domain ml? n text ml && leb k 16000) (is_exact n before && is_exact k after) _

-- what two stored reads have whose lengths passed
pub record In-two (before n after k : ℕ) : Type 0 where
  pub first_domain : n ≤ 16000
  pub first_exact : before ≡ bytes_for n
  pub second_domain : k ≤ 16000
  pub second_exact : after ≡ bytes_for k

pub two_passed : (ml? : Bool) (n : ℕ) (before : List ℕ) (k : ℕ) (after text ml : List ℕ) → order_two ml? n before k after text ml ≡ Ok tt
    → In-two (length before) n (length after) k
two_passed ml? n before k after text ml e =
    let d = need_test (stated_in_domain ml? n text ml && leb k 16000) 1 _ tt e in
    let x = need_test (is_exact n before && is_exact k after) 2 _ tt (need_rest (stated_in_domain ml? n text ml && leb k 16000) 1 _ tt e) in
    let two = and_true_l (leb n 16000 && leb (length text) 65536) _ (and_true_l (stated_in_domain ml? n text ml) (leb k 16000) d) in
    record {
      first_domain = leb-true n 16000 (and_true_l (leb n 16000) (leb (length text) 65536) two);
      first_exact = eqb-true (length before) (bytes_for n) (and_true_l (is_exact n before) (is_exact k after) x);
      second_domain = leb-true k 16000 (and_true_r (stated_in_domain ml? n text ml) (leb k 16000) d);
      second_exact = eqb-true (length after) (bytes_for k) (and_true_r (is_exact n before) (is_exact k after) x);
    }

-- ---- the plain edit on the bases in read orientation

-- a domain that was passed by the bases in read orientation, in terms of their stated number
pub read_fits : (reverse ml? : Bool) (n : ℕ) (packed text ml : List ℕ) → in_domain ml? (in_read reverse n packed) text ml ≡ true → n ≤ 16000
read_fits reverse ml? n packed text ml d =
    let few = (in_domain_lem ml? (in_read reverse n packed) text ml d).0 in
    omega (arith, few, length_in_read reverse n packed)

module _ (ml? : Bool) (mm ml text values : List ℕ) (r : Outcome (ℕ × ℕ)) (text' values' : List ℕ) where
  pub masks_on : (p q x y : List ℕ) → p ≡ x → q ≡ y → Masks ml? p q mm ml text values r text' values' → Masks ml? x y mm ml text values r text' values'
  masks_on p q x y e f h = rw (← e, ← f) h

  pub trims_on : (start : Option ℕ) (p q x y : List ℕ) → p ≡ x → q ≡ y → Trims ml? start p q mm ml text values r text' values'
      → Trims ml? start x y mm ml text values r text' values'
  trims_on start p q x y e f h = rw (← e, ← f) h

  -- an edit over marks that are those of the places
  pub drops_on : (p marks seq places fresh : List ℕ) → p ≡ seq → marks ≡ marked_at places fresh
      → in_domain ml? seq mm ml ≡ true → length seq ≤ length fresh → ((j : ℕ) → is_marked fresh j ≡ false)
      → rewrote r text' values'
      ≡ leaves_tag ml? (in_room ml? (length text) (length values) (edited (window_edit 0 p marks) ml? p mm ml)) text values
      → Drops ml? seq places mm ml text values r text' values'
  drops_on p marks seq places fresh e f d l u h =
      (rw (e, f) at h)
      ∙ ap (λ (o : Outcome Tag). leaves_tag ml? o text values) (sym (drop_on ml? seq places mm ml (length text) (length values) d fresh l u))

  -- the stored edit is the plain edit, after the checks
  module _ (reverse : Bool) where
    pub drops_stored : (n : ℕ) (packed places : List ℕ) → order_one ml? n packed mm ml ≡ Ok tt
        → Drops ml? (in_read reverse n packed) (places_in_read reverse n places) mm ml text values r text' values'
        → DropsStored reverse ml? n packed places mm ml text values r text' values'
    drops_stored n packed places e h =
        h ∙ ap (λ (o : Outcome Tag). leaves_tag ml? o text values) (sym (drop_passed reverse ml? n packed places mm ml (length text) (length values) e))

    module _ (n : ℕ) (before : List ℕ) (k : ℕ) (after : List ℕ) (e : order_two ml? n before k after mm ml ≡ Ok tt) where
      pub masks_stored : Masks ml? (in_read reverse n before) (in_read reverse k after) mm ml text values r text' values'
          → MasksStored reverse ml? n before k after mm ml text values r text' values'
      masks_stored h =
          h ∙ ap (λ (o : Outcome Tag). leaves_tag ml? o text values) (sym (mask_passed reverse ml? n before k after mm ml (length text) (length values) e))

      pub trims_stored : (start begin : Option ℕ) → begin ≡ start_in_read reverse n k start
          → Trims ml? begin (in_read reverse n before) (in_read reverse k after) mm ml text values r text' values'
          → TrimsStored reverse ml? start n before k after mm ml text values r text' values'
      trims_stored start begin f h =
          h ∙ ap (λ (o : Outcome Tag). leaves_tag ml? o text values)
          (ap (λ (s : Option ℕ). cut_tag ml? s (in_read reverse n before) (in_read reverse k after) mm ml (length text) (length values)) f
          ∙ sym (cut_passed reverse ml? n before k after mm ml (length text) (length values) start e))

-- ---- a start as a call takes it

abbrev pub window_at : Option ℕ → Option ℕ
window_at None = None
window_at (Some lo) = Some lo

pub says_window : (s : Option ℕ) → (window_at s) ≡ s
says_window None = refl
says_window (Some lo) = refl

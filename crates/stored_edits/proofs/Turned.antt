-- The stored call is the plain call on the bases in read orientation: if packed bytes are as many as their bases take, both give the same answer and
-- leave the same bytes in every lent row.
-- Assumes nothing.
use Rattle.std.specs.Prelude.{Option}
use mathlib.Core.Path.{◌≡◌, sym, ap, ◌∙◌}
use Prim.Native.Nat.{ℕ}
use mathlib.Core.Bool.{Bool, true, ◌&&◌}
use mathlib.Core.List.{List}
use lib.Dec.{leb}
use lib.ListN.{length}
use borrow.Author.Tests.{eq-eqb}
use Rattle.editing.specs.Rewrote.{leaves_tag}
use Rattle.lent.proofs.Tests.{and_true}
use Rattle.lent.specs.Outcome.{Outcome}
use Rattle.packed.proofs.Turning.{length_in_read}
use Rattle.packed.specs.Packed.{bytes_for}
use Rattle.packed.specs.Stored.{in_read, places_in_read, start_in_read}
use Rattle.rewriting.specs.PublicContracts.{Drops, Masks, Trims}
use Rattle.samtags.specs.Edits.{cut_tag, drop_from_tag, mask_tag}
use Rattle.samtags.specs.Reading.{in_domain}
use Rattle.samtags.specs.Writing.{Tag}
use Rattle.stored_rows.proofs.OrderLaws.{asked_again}
use Rattle.stored.specs.Reads.{is_exact, stated_in_domain}
use Rattle.stored_edits.proofs.EditLaws.{read_in_domain}
use Rattle.rewriting.proofs.Unique.{rewrote_unique}
use Rattle.stored_edits.specs.PublicContracts.{DropsStored, MasksStored, TrimsStored}
use Rattle.stored_edits.specs.Edits.{cut_stored, drop_stored, mask_stored}

-- ---- the outcomes

module _ (reverse ml? : Bool) (text ml : List ℕ) (t m : ℕ) where
  pub drop_turned : (n : ℕ) (packed places : List ℕ) → length packed ≡ bytes_for n
      → drop_stored reverse ml? n packed places text ml t m ≡ drop_from_tag ml? (in_read reverse n packed) (places_in_read reverse n places) text ml t m
  unfolding drop_stored drop_from_tag
  drop_turned n packed places x =
      asked_again (stated_in_domain ml? n text ml) (in_domain ml? (in_read reverse n packed) text ml) (is_exact n packed) _
      (read_in_domain reverse ml? n packed text ml) (eq-eqb (length packed) (bytes_for n) x)

  module _ (n : ℕ) (before : List ℕ) (k : ℕ) (after : List ℕ) (x : length before ≡ bytes_for n) (y : length after ≡ bytes_for k) where
    -- the domain's test of both reads
    both_in_domain : in_domain ml? (in_read reverse n before) text ml && leb (length (in_read reverse k after)) 16000 ≡ stated_in_domain ml? n text ml && leb k 16000
    both_in_domain = rw (length_in_read reverse n before, length_in_read reverse k after)

    both_exact : is_exact n before && is_exact k after ≡ true
    both_exact = and_true (is_exact n before) (is_exact k after) (eq-eqb (length before) (bytes_for n) x) (eq-eqb (length after) (bytes_for k) y)

    pub mask_turned : mask_stored reverse ml? n before k after text ml t m ≡ mask_tag ml? (in_read reverse n before) (in_read reverse k after) text ml t m
    unfolding mask_stored mask_tag
    mask_turned =
        asked_again (stated_in_domain ml? n text ml && leb k 16000) (in_domain ml? (in_read reverse n before) text ml && leb (length (in_read reverse k after)) 16000)
        (is_exact n before && is_exact k after) _ both_in_domain both_exact

    pub cut_turned : (start : Option ℕ) → cut_stored reverse ml? start n before k after text ml t m
        ≡ cut_tag ml? (start_in_read reverse n k start) (in_read reverse n before) (in_read reverse k after) text ml t m
    unfolding cut_stored cut_tag
    cut_turned start =
        asked_again (stated_in_domain ml? n text ml && leb k 16000) (in_domain ml? (in_read reverse n before) text ml && leb (length (in_read reverse k after)) 16000)
        (is_exact n before && is_exact k after) _ both_in_domain both_exact

-- ---- the calls: r, text₁ and values₁ are of the stored call, s, text₂ and values₂ of the plain call

module _ (reverse ml? : Bool) (mm ml text values : List ℕ) (r s : Outcome (ℕ × ℕ)) (text₁ text₂ values₁ values₂ : List ℕ) where
  pub drop_modifications_at_turned : (n : ℕ) (packed places : List ℕ) → length packed ≡ bytes_for n
      → DropsStored reverse ml? n packed places mm ml text values r text₁ values₁
      → Drops ml? (in_read reverse n packed) (places_in_read reverse n places) mm ml text values s text₂ values₂
      → (r ≡ s) × (text₁ ≡ text₂) × (values₁ ≡ values₂)
  drop_modifications_at_turned n packed places x p q =
      rewrote_unique _ r s text₁ text₂ values₁ values₂
      (p ∙ ap (λ (o : Outcome Tag). leaves_tag ml? o text values) (drop_turned reverse ml? mm ml (length text) (length values) n packed places x)) q

  module _ (n : ℕ) (before : List ℕ) (k : ℕ) (after : List ℕ) (x : length before ≡ bytes_for n) (y : length after ≡ bytes_for k) where
    pub drop_masked_modifications_turned : MasksStored reverse ml? n before k after mm ml text values r text₁ values₁
        → Masks ml? (in_read reverse n before) (in_read reverse k after) mm ml text values s text₂ values₂
        → (r ≡ s) × (text₁ ≡ text₂) × (values₁ ≡ values₂)
    drop_masked_modifications_turned p q =
        rewrote_unique _ r s text₁ text₂ values₁ values₂
        (p ∙ ap (λ (o : Outcome Tag). leaves_tag ml? o text values) (mask_turned reverse ml? mm ml (length text) (length values) n before k after x y)) q

    -- the plain call is given the start in read orientation
    pub trim_clipped_modifications_turned : (start begin : Option ℕ) → begin ≡ start_in_read reverse n k start
        → TrimsStored reverse ml? start n before k after mm ml text values r text₁ values₁
        → Trims ml? begin (in_read reverse n before) (in_read reverse k after) mm ml text values s text₂ values₂
        → (r ≡ s) × (text₁ ≡ text₂) × (values₁ ≡ values₂)
    trim_clipped_modifications_turned start begin b p q =
        rewrote_unique _ r s text₁ text₂ values₁ values₂
        (p ∙ ap (λ (o : Outcome Tag). leaves_tag ml? o text values)
        (cut_turned reverse ml? mm ml (length text) (length values) n before k after x y start
        ∙ ap (λ (b : Option ℕ). cut_tag ml? b (in_read reverse n before) (in_read reverse k after) mm ml (length text) (length values)) (sym b))) q

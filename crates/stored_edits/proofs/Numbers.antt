-- The numbers that each public call can answer: no other number, each of them for some input, and 0 exactly when the call is done.
-- Assumes nothing.
use Rattle.std.specs.Prelude.{Ok, Err, Option, Some, None}
use mathlib.Core.Path.{◌∙◌, ◌≡◌, ap, refl, sym}
use Prim.Native.Nat.{ℕ}
use mathlib.Core.Bool.{Bool, ◌&&◌, false, true}
use mathlib.Core.List.{List, [], ◌∷◌, ◌++◌, map}
use lib.Dec.{leb}
use lib.ListN.{length, replicate, take}
use Rattle.editing.specs.Rewrote.{Rewrote, leaves_tag, rewrote, sizes_with}
use Rattle.lent.proofs.Answers.{answers, only_need}
use Rattle.lent.specs.Answers.{Answers, refuses_only}
use Rattle.lent.specs.Lists.{among, every}
use Rattle.lent.specs.Outcome.{Outcome, need, number, number_of, on_done, refusal, refuse}
use Rattle.packed.specs.Stored.{as_stored, in_read, places_in_read, start_in_read}
use Rattle.rewriting.proofs.Numbers as plain
use Rattle.samtags.proofs.Numbers.{bad_tags, cut_tag_only, cut_numbers, drop_tag_only, drop_numbers, good_tag, mask_tag_only, mask_numbers, unmarked_tag}
use Rattle.samtags.proofs.Text.{among_every}
use Rattle.samtags.specs.Bytes.{ascii}
use Rattle.samtags.specs.Edits.{cut_tag, drop_from_tag}
use Rattle.samtags.specs.Session.{Held}
use Rattle.samtags.specs.Writing.{Tag}
use Rattle.stored.specs.Reads.{is_exact, stated_in_domain}
use Rattle.stored_edits.proofs.EditLaws.{says_window, window_at}
use Rattle.stored_edits.specs.PublicContracts.{DropsStored, MasksStored, TrimsStored}
use Rattle.stored_edits.specs.Edits.{cut_stored, drop_stored, mask_stored}

-- a larger set is answered from too
answers_more : {A : Type 0} (ns ms : List ℕ) (o : Outcome A) → every (among (0 ∷ ms)) (0 ∷ ns) ≡ true → Answers ns o → Answers ms o
answers_more ns ms o more a = record {
  number_among = among_every (among (0 ∷ ms)) (0 ∷ ns) (number_of o) more a.number_among;
  done_is_zero = a.done_is_zero;
  zero_is_done = a.zero_is_done;
}

-- the checks of the lengths answer 1 or 2, and what follows answers from its own set
after_checks : (ns ms : List ℕ) (ml? d t : Bool) (o : Outcome Tag) (r : Outcome (ℕ × ℕ)) (text values text' values' : List ℕ)
    → every (among (0 ∷ ms)) (0 ∷ ns) ≡ true → every (among ms) (1 ∷ 2 ∷ []) ≡ true → among ms 0 ≡ false
    → (rewrote r text' values' ≡ leaves_tag ml? o text values → Answers ns r)
    → rewrote r text' values' ≡ leaves_tag ml? (need d 1 (need t 2 o)) text values → Answers ms r
unfolding leaves_tag
after_checks ns ms ml? d t o r text values text' values' more two zero rest = go d t
  where
    -- a number of the checks
    checked : (n : ℕ) → among ms (number (refusal n)) ≡ true → rewrote r text' values' ≡ leaves_tag ml? (refuse n) text values → Answers ms r
    checked n h e =
        let says : r ≡ on_done (sizes_with ml?) (refuse n) = ap (λ (x : Rewrote). x.answer) e in
        rw says (answers ms (on_done (sizes_with ml?) (refuse n)) zero h)

    go : (d t : Bool) → rewrote r text' values' ≡ leaves_tag ml? (need d 1 (need t 2 o)) text values → Answers ms r
    go true true e = answers_more ns ms r more (rest e)
    go true false e = checked 2 (among_every (among ms) (1 ∷ 2 ∷ []) 2 two refl) e
    go false b e = checked 1 (among_every (among ms) (1 ∷ 2 ∷ []) 1 two refl) e

module _ (reverse ml? : Bool) (mm ml text values : List ℕ) (r : Outcome (ℕ × ℕ)) (text' values' : List ℕ) where
  pub drop_masked_modifications_numbers : (n : ℕ) (before : List ℕ) (k : ℕ) (after : List ℕ)
      → MasksStored reverse ml? n before k after mm ml text values r text' values'
      → Answers (1 ∷ 2 ∷ 3 ∷ 4 ∷ 5 ∷ 6 ∷ 7 ∷ 8 ∷ 9 ∷ 12 ∷ []) r
  unfolding mask_stored
  drop_masked_modifications_numbers n before k after =
      after_checks _ _ ml? (stated_in_domain ml? n mm ml && leb k 16000) (is_exact n before && is_exact k after) _ r text values text' values' refl refl refl
      (plain.drop_masked_modifications_numbers ml? mm ml text values r text' values' (in_read reverse n before) (in_read reverse k after))

  pub drop_modifications_at_numbers : (n : ℕ) (packed places : List ℕ) → DropsStored reverse ml? n packed places mm ml text values r text' values'
      → Answers (1 ∷ 2 ∷ 3 ∷ 4 ∷ 5 ∷ 6 ∷ 7 ∷ 8 ∷ 9 ∷ 10 ∷ 12 ∷ []) r
  unfolding drop_stored
  drop_modifications_at_numbers n packed places =
      after_checks _ _ ml? (stated_in_domain ml? n mm ml) (is_exact n packed) _ r text values text' values' refl refl refl
      (plain.drop_modifications_at_numbers ml? mm ml text values r text' values' (in_read reverse n packed) (places_in_read reverse n places))

  -- a start in read orientation as the plain call takes it
  start_as_given : (s : Option ℕ) (before after : List ℕ)
      → rewrote r text' values' ≡ leaves_tag ml? (cut_tag ml? s before after mm ml (length text) (length values)) text values
      → rewrote r text' values' ≡ leaves_tag ml? (cut_tag ml? (window_at s) before after mm ml (length text) (length values)) text values
  start_as_given s before after e =
      e ∙ ap (λ (s : Option ℕ). leaves_tag ml? (cut_tag ml? s before after mm ml (length text) (length values)) text values) (sym (says_window s))

  pub trim_clipped_modifications_numbers : (start : Option ℕ) (n : ℕ) (before : List ℕ) (k : ℕ) (after : List ℕ)
      → TrimsStored reverse ml? start n before k after mm ml text values r text' values'
      → Answers (1 ∷ 2 ∷ 3 ∷ 4 ∷ 5 ∷ 6 ∷ 7 ∷ 8 ∷ 9 ∷ 11 ∷ 12 ∷ 21 ∷ []) r
  unfolding cut_stored
  trim_clipped_modifications_numbers start n before k after =
      let s = start_in_read reverse n k start in
      after_checks _ _ ml? (stated_in_domain ml? n mm ml && leb k 16000) (is_exact n before && is_exact k after) _ r text values text' values' refl refl refl
      (λ e. plain.trim_clipped_modifications_numbers ml? mm ml text values r text' values' (window_at s) (in_read reverse n before) (in_read reverse k after)
      (start_as_given s (in_read reverse n before) (in_read reverse k after) e))

-- ---- the numbers with which each edit's definition can refuse: those of the plain edit, and 2

-- a larger set is refused from too
refuses_more : {A : Type 0} (ns ms : List ℕ) (o : Outcome A) → every (among ms) ns ≡ true → refuses_only ns o ≡ true → refuses_only ms o ≡ true
refuses_more ns ms (Err r) more h = among_every (among ms) ns (number r) more h
refuses_more ns ms (Ok a) more h = refl

module _ (reverse ml? : Bool) (text ml : List ℕ) (t m : ℕ) where
  pub mask_stored_only : (n : ℕ) (before : List ℕ) (k : ℕ) (after : List ℕ)
      → refuses_only mask_numbers (mask_stored reverse ml? n before k after text ml t m) ≡ true
  unfolding mask_stored
  mask_stored_only n before k after =
      only_need mask_numbers (stated_in_domain ml? n text ml && leb k 16000) 1 _ refl
      (only_need mask_numbers (is_exact n before && is_exact k after) 2 _ refl
      (mask_tag_only ml? (in_read reverse n before) (in_read reverse k after) text ml t m))

  pub drop_stored_only : (n : ℕ) (packed places : List ℕ)
      → refuses_only (1 ∷ 2 ∷ 3 ∷ 4 ∷ 5 ∷ 6 ∷ 7 ∷ 8 ∷ 9 ∷ 10 ∷ 12 ∷ []) (drop_stored reverse ml? n packed places text ml t m) ≡ true
  unfolding drop_stored
  drop_stored_only n packed places =
      let ns : List ℕ = 1 ∷ 2 ∷ 3 ∷ 4 ∷ 5 ∷ 6 ∷ 7 ∷ 8 ∷ 9 ∷ 10 ∷ 12 ∷ [] in
      let o = drop_from_tag ml? (in_read reverse n packed) (places_in_read reverse n places) text ml t m in
      only_need ns (stated_in_domain ml? n text ml) 1 _ refl
      (only_need ns (is_exact n packed) 2 _ refl
      (refuses_more drop_numbers ns o refl (drop_tag_only ml? (in_read reverse n packed) (places_in_read reverse n places) text ml t m)))

  pub cut_stored_only : (start : Option ℕ) (n : ℕ) (before : List ℕ) (k : ℕ) (after : List ℕ)
      → refuses_only (1 ∷ 2 ∷ 3 ∷ 4 ∷ 5 ∷ 6 ∷ 7 ∷ 8 ∷ 9 ∷ 11 ∷ 12 ∷ 21 ∷ []) (cut_stored reverse ml? start n before k after text ml t m) ≡ true
  unfolding cut_stored
  cut_stored_only start n before k after =
      let ns : List ℕ = 1 ∷ 2 ∷ 3 ∷ 4 ∷ 5 ∷ 6 ∷ 7 ∷ 8 ∷ 9 ∷ 11 ∷ 12 ∷ 21 ∷ [] in
      let o = cut_tag ml? (start_in_read reverse n k start) (in_read reverse n before) (in_read reverse k after) text ml t m in
      only_need ns (stated_in_domain ml? n text ml && leb k 16000) 1 _ refl
      (only_need ns (is_exact n before && is_exact k after) 2 _ refl
      (refuses_more cut_numbers ns o refl (cut_tag_only ml? (start_in_read reverse n k start) (in_read reverse n before) (in_read reverse k after) text ml t m)))

-- ---- without an ML 8 and 9 do not arise

module _ (reverse : Bool) (mm ml text values : List ℕ) (r : Outcome (ℕ × ℕ)) (text' values' : List ℕ) where
  pub drop_masked_modifications_numbers_without_ml : (n : ℕ) (before : List ℕ) (k : ℕ) (after : List ℕ)
      → MasksStored reverse false n before k after mm ml text values r text' values'
      → Answers (1 ∷ 2 ∷ 3 ∷ 4 ∷ 5 ∷ 6 ∷ 7 ∷ 12 ∷ []) r
  unfolding mask_stored
  drop_masked_modifications_numbers_without_ml n before k after =
      after_checks _ _ false (stated_in_domain false n mm ml && leb k 16000) (is_exact n before && is_exact k after) _ r text values text' values' refl refl refl
      (plain.drop_masked_modifications_numbers_without_ml mm ml text values r text' values' (in_read reverse n before) (in_read reverse k after))

  pub drop_modifications_at_numbers_without_ml : (n : ℕ) (packed places : List ℕ) → DropsStored reverse false n packed places mm ml text values r text' values'
      → Answers (1 ∷ 2 ∷ 3 ∷ 4 ∷ 5 ∷ 6 ∷ 7 ∷ 10 ∷ 12 ∷ []) r
  unfolding drop_stored
  drop_modifications_at_numbers_without_ml n packed places =
      after_checks _ _ false (stated_in_domain false n mm ml) (is_exact n packed) _ r text values text' values' refl refl refl
      (plain.drop_modifications_at_numbers_without_ml mm ml text values r text' values' (in_read reverse n packed) (places_in_read reverse n places))

  pub trim_clipped_modifications_numbers_without_ml : (start : Option ℕ) (n : ℕ) (before : List ℕ) (k : ℕ) (after : List ℕ)
      → TrimsStored reverse false start n before k after mm ml text values r text' values'
      → Answers (1 ∷ 2 ∷ 3 ∷ 4 ∷ 5 ∷ 6 ∷ 7 ∷ 11 ∷ 12 ∷ 21 ∷ []) r
  unfolding cut_stored
  trim_clipped_modifications_numbers_without_ml start n before k after =
      let s = start_in_read reverse n k start in
      after_checks _ _ false (stated_in_domain false n mm ml && leb k 16000) (is_exact n before && is_exact k after) _ r text values text' values' refl refl refl
      (λ e. plain.trim_clipped_modifications_numbers_without_ml mm ml text values r text' values' (window_at s) (in_read reverse n before) (in_read reverse k after)
      (start_as_given reverse false mm ml text values r text' values' s (in_read reverse n before) (in_read reverse k after) e))

-- ---- no set is too large: worked inputs of a reverse read, whose numbers are 0 and then each of the set in order

-- the number of a call that lends two rows of n bytes
abbrev lending : ℕ → Bool → (ℕ → ℕ → Outcome Tag) → ℕ
lending n ml? o = let row : List ℕ = replicate n 0 in number_of (leaves_tag ml? (o (length row) (length row)) row row).answer

-- tags that are refused for their text
abbrev bad_texts : List Held
bad_texts = take 5 bad_tags

-- SEQ of a tag, stored as a reverse read, and a stated number of bases
abbrev masks : ℕ → Bool → ℕ → List ℕ → Held → ℕ
masks room ml? n after h =
    lending room ml? (mask_stored true ml? n (as_stored true h.seq) (length after) (as_stored true after) h.text h.ml)

abbrev each_mask : Bool → List Held → List ℕ
each_mask ml? bad =
    masks 100 ml? 1 (ascii "N") good_tag
    ∷ masks 100 ml? 16001 (ascii "N") good_tag
    ∷ masks 100 ml? 3 (ascii "N") good_tag
    ∷ map (masks 100 ml? 1 (ascii "N")) bad ++ masks 0 ml? 1 (ascii "N") good_tag
    ∷ []

pub drop_masked_modifications_each_number :
    (each_mask true bad_tags ≡ 0 ∷ 1 ∷ 2 ∷ 3 ∷ 4 ∷ 5 ∷ 6 ∷ 7 ∷ 8 ∷ 9 ∷ 12 ∷ [])
    × (each_mask false bad_texts ≡ 0 ∷ 1 ∷ 2 ∷ 3 ∷ 4 ∷ 5 ∷ 6 ∷ 7 ∷ 12 ∷ [])
unfolding leaves_tag mask_stored as_stored
drop_masked_modifications_each_number = (refl, refl)

abbrev drops : ℕ → Bool → ℕ → Held → ℕ
drops room ml? n h = lending room ml? (drop_stored true ml? n (as_stored true h.seq) (0 ∷ []) h.text h.ml)

abbrev each_drop : Bool → List Held → List ℕ
each_drop ml? bad =
    drops 100 ml? 1 good_tag
    ∷ drops 100 ml? 16001 good_tag
    ∷ drops 100 ml? 3 good_tag
    ∷ map (drops 100 ml? 1) bad ++ drops 100 ml? 1 unmarked_tag
    ∷ drops 0 ml? 1 good_tag
    ∷ []

pub drop_modifications_at_each_number :
    (each_drop true bad_tags ≡ 0 ∷ 1 ∷ 2 ∷ 3 ∷ 4 ∷ 5 ∷ 6 ∷ 7 ∷ 8 ∷ 9 ∷ 10 ∷ 12 ∷ [])
    × (each_drop false bad_texts ≡ 0 ∷ 1 ∷ 2 ∷ 3 ∷ 4 ∷ 5 ∷ 6 ∷ 7 ∷ 10 ∷ 12 ∷ [])
unfolding leaves_tag drop_stored as_stored
drop_modifications_at_each_number = (refl, refl)

abbrev trims : ℕ → Bool → Option ℕ → ℕ → List ℕ → Held → ℕ
trims room ml? start n after h =
    lending room ml? (cut_stored true ml? start n (as_stored true h.seq) (length after) (as_stored true after) h.text h.ml)

abbrev each_trim : Bool → List Held → List ℕ
each_trim ml? bad =
    trims 100 ml? (Some 0) 1 [] good_tag
    ∷ trims 100 ml? (Some 0) 16001 [] good_tag
    ∷ trims 100 ml? (Some 0) 3 [] good_tag
    ∷ map (trims 100 ml? (Some 0) 1 []) bad ++ trims 100 ml? None 1 [] good_tag
    ∷ trims 0 ml? (Some 0) 1 [] good_tag
    ∷ trims 100 ml? None 1 (ascii "C") good_tag
    ∷ []

pub trim_clipped_modifications_each_number :
    (each_trim true bad_tags ≡ 0 ∷ 1 ∷ 2 ∷ 3 ∷ 4 ∷ 5 ∷ 6 ∷ 7 ∷ 8 ∷ 9 ∷ 11 ∷ 12 ∷ 21 ∷ [])
    × (each_trim false bad_texts ≡ 0 ∷ 1 ∷ 2 ∷ 3 ∷ 4 ∷ 5 ∷ 6 ∷ 7 ∷ 11 ∷ 12 ∷ 21 ∷ [])
unfolding leaves_tag cut_stored as_stored
trim_clipped_modifications_each_number = (refl, refl)

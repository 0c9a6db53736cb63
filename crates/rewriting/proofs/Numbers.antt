-- The numbers that each public call can answer: no other number, each of them for some input, and 0 exactly when the call is done.
-- Assumes nothing.
use Rattle.std.specs.Prelude.{Option, None, Some}
use mathlib.Core.Path.{◌≡◌, ap, refl}
use Prim.Native.Nat.{ℕ}
use mathlib.Core.Bool.{Bool, ◌&&◌, false, not, true}
use mathlib.Core.List.{List, [], ◌∷◌, ◌++◌, map}
use lib.Dec.{eqb, leb}
use lib.ListN.{drop, length, replicate, take}
use Rattle.editing.specs.Rewrote.{Rewrote, leaves_tag, rewrote, sizes_with}
use Rattle.lent.proofs.Answers.{answers, only_and_then, only_need, only_on_done}
use Rattle.lent.specs.Answers.{Answers, refuses_only}
use Rattle.lent.specs.Lists.{among, every}
use Rattle.lent.specs.Outcome.{Outcome, number_of, on_done}
use Rattle.rewriting.specs.PublicContracts.{Drops, Masks, Trims}
use Rattle.samtags.proofs.Numbers.{bad_tags, cut_tag_only, drop_tag_only, good_tag, long_tag, mask_tag_only, read_without_ml, text_numbers, unmarked_tag}
use Rattle.samtags.specs.Bytes.{ascii}
use Rattle.samtags.specs.Edits.{Edit, cut_tag, cut_to, drop_from_tag, dropping_at, edited, in_room, lies_in, mask_tag, masked_to, same_bytes_of, window_start, with_start}
use Rattle.samtags.specs.Reading.{in_domain, read}
use Rattle.samtags.specs.Session.{Held}
use Rattle.samtags.specs.Writing.{Tag}

answers_as : (ns : List ℕ) (ml? : Bool) (o : Outcome Tag) (r : Outcome (ℕ × ℕ)) (t v t' v' : List ℕ) → rewrote r t' v' ≡ leaves_tag ml? o t v
    → among ns 0 ≡ false → refuses_only ns o ≡ true → Answers ns r
unfolding leaves_tag
answers_as ns ml? o r t v t' v' e zero only =
    let says : r ≡ on_done (sizes_with ml?) o = ap (λ (x : Rewrote). x.answer) e in
    rw says (answers ns (on_done (sizes_with ml?) o) zero (only_on_done ns (sizes_with ml?) o only))

module _ (ml? : Bool) (mm ml text values : List ℕ) (r : Outcome (ℕ × ℕ)) (text' values' : List ℕ) where
  pub drop_masked_modifications_numbers : (before after : List ℕ) → Masks ml? before after mm ml text values r text' values'
      → Answers (1 ∷ 2 ∷ 3 ∷ 4 ∷ 5 ∷ 6 ∷ 7 ∷ 8 ∷ 9 ∷ 12 ∷ []) r
  drop_masked_modifications_numbers before after c =
      answers_as _ ml? _ r text values text' values' c refl (mask_tag_only ml? before after mm ml (length text) (length values))

  pub drop_modifications_at_numbers : (seq places : List ℕ) → Drops ml? seq places mm ml text values r text' values'
      → Answers (1 ∷ 3 ∷ 4 ∷ 5 ∷ 6 ∷ 7 ∷ 8 ∷ 9 ∷ 10 ∷ 12 ∷ []) r
  drop_modifications_at_numbers seq places c =
      answers_as _ ml? _ r text values text' values' c refl (drop_tag_only ml? seq places mm ml (length text) (length values))

  pub trim_clipped_modifications_numbers : (start : Option ℕ) (before after : List ℕ) → Trims ml? start before after mm ml text values r text' values'
      → Answers (1 ∷ 3 ∷ 4 ∷ 5 ∷ 6 ∷ 7 ∷ 8 ∷ 9 ∷ 11 ∷ 12 ∷ 21 ∷ []) r
  trim_clipped_modifications_numbers start before after c =
      answers_as _ ml? _ r text values text' values' c refl (cut_tag_only ml? start before after mm ml (length text) (length values))

-- ---- without an ML 8 and 9 do not arise

module _ (ns : List ℕ) (texts : every (among ns) text_numbers ≡ true) where
  edited_only : (e : Edit) → ((p : ℕ) → e.dropped p ≡ true → among ns 10 ≡ true) → (seq mm ml : List ℕ) → refuses_only ns (edited e false seq mm ml) ≡ true
  unfolding edited
  edited_only e ten seq mm ml =
      only_and_then ns (read false e.dropped seq mm ml) _ (read_without_ml ns texts e.dropped ten seq mm ml) (λ gs. refl)

  -- a known start, or 11
  with_start_only : (start : Option ℕ) (f : ℕ → Outcome Tag) → among ns 11 ≡ true → ((lo : ℕ) → refuses_only ns (f lo) ≡ true)
      → refuses_only ns (with_start start f) ≡ true
  with_start_only None f eleven h = eleven
  with_start_only (Some lo) f eleven h = h lo

module _ (mm ml text values : List ℕ) (r : Outcome (ℕ × ℕ)) (text' values' : List ℕ) where
  -- the finished tag fits the room
  roomed_only : (ns : List ℕ) (o : Outcome Tag) → among ns 12 ≡ true → refuses_only ns o ≡ true → refuses_only ns (in_room false (length text) (length values) o) ≡ true
  roomed_only ns o twelve k = only_and_then ns o _ k (λ (t : Tag). only_need ns (leb (length t.text) (length text) && true) 12 _ twelve refl)

  pub drop_masked_modifications_numbers_without_ml : (before after : List ℕ) → Masks false before after mm ml text values r text' values'
      → Answers (1 ∷ 2 ∷ 3 ∷ 4 ∷ 5 ∷ 6 ∷ 7 ∷ 12 ∷ []) r
  unfolding mask_tag masked_to
  drop_masked_modifications_numbers_without_ml before after c =
      let ns : List ℕ = 1 ∷ 2 ∷ 3 ∷ 4 ∷ 5 ∷ 6 ∷ 7 ∷ 12 ∷ [] in
      answers_as ns false _ r text values text' values' c refl
      (only_need ns (in_domain false before mm ml && leb (length after) 16000) 1 _ refl
      (only_need ns (eqb (length before) (length after)) 2 _ refl
      (roomed_only ns (edited (masked_to after) false before mm ml) refl (edited_only ns refl (masked_to after) (λ p e. cc) before mm ml))))

  pub drop_modifications_at_numbers_without_ml : (seq places : List ℕ) → Drops false seq places mm ml text values r text' values'
      → Answers (1 ∷ 3 ∷ 4 ∷ 5 ∷ 6 ∷ 7 ∷ 10 ∷ 12 ∷ []) r
  unfolding drop_from_tag
  drop_modifications_at_numbers_without_ml seq places c =
      let ns : List ℕ = 1 ∷ 3 ∷ 4 ∷ 5 ∷ 6 ∷ 7 ∷ 10 ∷ 12 ∷ [] in
      answers_as ns false _ r text values text' values' c refl
      (only_need ns (in_domain false seq mm ml) 1 _ refl
      (roomed_only ns (edited (dropping_at places) false seq mm ml) refl (edited_only ns refl (dropping_at places) (λ p e. refl) seq mm ml)))

  pub trim_clipped_modifications_numbers_without_ml : (start : Option ℕ) (before after : List ℕ) → Trims false start before after mm ml text values r text' values'
      → Answers (1 ∷ 3 ∷ 4 ∷ 5 ∷ 6 ∷ 7 ∷ 11 ∷ 12 ∷ 21 ∷ []) r
  unfolding cut_tag cut_to
  trim_clipped_modifications_numbers_without_ml start before after c =
      let ns : List ℕ = 1 ∷ 3 ∷ 4 ∷ 5 ∷ 6 ∷ 7 ∷ 11 ∷ 12 ∷ 21 ∷ [] in
      answers_as ns false _ r text values text' values' c refl
      (only_need ns (in_domain false before mm ml && leb (length after) 16000) 1 _ refl
      (only_need ns (not (same_bytes_of before after)) 21 _ refl
      (with_start_only ns refl (window_start start before after) _ refl (λ lo.
      only_need ns (leb lo (length before) && lies_in after (drop lo before)) 11 _ refl
      (roomed_only ns (edited (cut_to lo after) false before mm ml) refl (edited_only ns refl (cut_to lo after) (λ p e. cc) before mm ml))))))

-- ---- no set is too large: worked inputs, whose numbers are 0 and then each of the set in order

-- the number of a call that lends two rows of n bytes
abbrev lending : ℕ → Bool → (ℕ → ℕ → Outcome Tag) → ℕ
lending n ml? o = let row : List ℕ = replicate n 0 in number_of (leaves_tag ml? (o (length row) (length row)) row row).answer

-- tags that are refused for their text
abbrev bad_texts : List Held
bad_texts = take 5 bad_tags

abbrev masks : ℕ → Bool → List ℕ → Held → ℕ
masks room ml? after h = lending room ml? (mask_tag ml? h.seq after h.text h.ml)

abbrev each_mask : Bool → List Held → List ℕ
each_mask ml? bad =
    masks 100 ml? (ascii "N") good_tag
    ∷ masks 100 ml? (ascii "N") long_tag
    ∷ masks 100 ml? [] good_tag
    ∷ map (masks 100 ml? (ascii "N")) bad ++ masks 0 ml? (ascii "N") good_tag
    ∷ []

pub drop_masked_modifications_each_number :
    (each_mask true bad_tags ≡ 0 ∷ 1 ∷ 2 ∷ 3 ∷ 4 ∷ 5 ∷ 6 ∷ 7 ∷ 8 ∷ 9 ∷ 12 ∷ [])
    × (each_mask false bad_texts ≡ 0 ∷ 1 ∷ 2 ∷ 3 ∷ 4 ∷ 5 ∷ 6 ∷ 7 ∷ 12 ∷ [])
unfolding leaves_tag mask_tag
drop_masked_modifications_each_number = (refl, refl)

abbrev drops : ℕ → Bool → Held → ℕ
drops room ml? h = lending room ml? (drop_from_tag ml? h.seq (0 ∷ []) h.text h.ml)

abbrev each_drop : Bool → List Held → List ℕ
each_drop ml? bad =
    drops 100 ml? good_tag ∷ drops 100 ml? long_tag ∷ map (drops 100 ml?) bad ++ drops 100 ml? unmarked_tag ∷ drops 0 ml? good_tag ∷ []

pub drop_modifications_at_each_number :
    (each_drop true bad_tags ≡ 0 ∷ 1 ∷ 3 ∷ 4 ∷ 5 ∷ 6 ∷ 7 ∷ 8 ∷ 9 ∷ 10 ∷ 12 ∷ [])
    × (each_drop false bad_texts ≡ 0 ∷ 1 ∷ 3 ∷ 4 ∷ 5 ∷ 6 ∷ 7 ∷ 10 ∷ 12 ∷ [])
unfolding leaves_tag drop_from_tag
drop_modifications_at_each_number = (refl, refl)

abbrev trims : ℕ → Bool → Option ℕ → List ℕ → Held → ℕ
trims room ml? start after h = lending room ml? (cut_tag ml? start h.seq after h.text h.ml)

abbrev each_trim : Bool → List Held → List ℕ
each_trim ml? bad =
    trims 100 ml? (Some 0) [] good_tag
    ∷ trims 100 ml? (Some 0) [] long_tag
    ∷ map (trims 100 ml? (Some 0) []) bad ++ trims 100 ml? None [] good_tag
    ∷ trims 0 ml? (Some 0) [] good_tag
    ∷ trims 100 ml? None (ascii "C") good_tag
    ∷ []

pub trim_clipped_modifications_each_number :
    (each_trim true bad_tags ≡ 0 ∷ 1 ∷ 3 ∷ 4 ∷ 5 ∷ 6 ∷ 7 ∷ 8 ∷ 9 ∷ 11 ∷ 12 ∷ 21 ∷ [])
    × (each_trim false bad_texts ≡ 0 ∷ 1 ∷ 3 ∷ 4 ∷ 5 ∷ 6 ∷ 7 ∷ 11 ∷ 12 ∷ 21 ∷ [])
unfolding leaves_tag cut_tag
trim_clipped_modifications_each_number = (refl, refl)

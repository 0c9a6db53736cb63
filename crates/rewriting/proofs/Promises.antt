-- The promises of the code about meaning, from its contracts. An edited tag is never longer than the tag that came in. Read again, it lists what was
-- listed without the calls that went, and every other call is on its base with its values. Each theorem starts from the contract of a call that answered
-- Ok.
-- Assumes nothing.
use Rattle.std.specs.Prelude.{Ok, Option, None, Some}
use mathlib.Core.Path.{◌∙◌, ◌≡◌, ap, refl, sym}
use Prim.Native.Nat.{◌+◌, ◌<◌, ◌≤◌, ℕ}
use native.Mathlib.Omega.{arith}
use mathlib.Core.Bool.{Bool, ◌&&◌, cond, false, not, true}
use mathlib.Core.List.{List, [], map}
use lib.Dec.{eqb, leb}
use lib.ListN.{drop, length, take}
use borrow.Author.Tests.{ne_eqb}
use Rattle.editing.specs.Rewrote.{Rewrote, leaves_tag, rewrote, sizes_with, values_with}
use Rattle.lent.proofs.Leaves.{front_is_part}
use Rattle.lent.proofs.Outcome.{and_then_inv, done_inj, need_rest, need_test, on_done_inv}
use Rattle.lent.proofs.Tests.{and_true_r}
use Rattle.lent.specs.Outcome.{Outcome, need}
use Rattle.samtags.proofs.Kept.{calls_held_in, calls_in_window, cut_keeps_the_held, cut_keeps_the_others, drop_keeps_the_others, without_calls_at}
use Rattle.samtags.proofs.Length.{never_longer}
use Rattle.samtags.proofs.Masking.{differs_by_n, mask_keeps_the_others, then_lists, unmasked_calls}
use Rattle.samtags.specs.Edits.{Edit, cut_tag, cut_to, drop_from_tag, dropping_at, edited, in_room, lies_in, mask_tag, masked_to, same_bytes_of, window_start, with_start}
use Rattle.samtags.specs.Reading.{in_domain, lists}
use Rattle.samtags.specs.Session.{window}
use Rattle.samtags.specs.Spots.{Listing}
use Rattle.samtags.specs.Writing.{Tag}
use Rattle.rewriting.specs.PublicContracts.{Drops, Masks, Trims}

-- what a call that answered Ok made and left
pub record Made (ml? : Bool) (o : Outcome Tag) (t m : ℕ) (mm' ml' : List ℕ) (r : Tag) : Type 0 where
  pub came : o ≡ Ok r
  pub text_size : t ≡ length r.text
  pub ml_size : m ≡ length (values_with ml? r)
  pub text : take t mm' ≡ r.text
  pub ml : take m ml' ≡ values_with ml? r

made : (ml? : Bool) (o : Outcome Tag) (t m : ℕ) (mm ml mm' ml' : List ℕ) → rewrote (Ok (t, m)) mm' ml' ≡ leaves_tag ml? o mm ml
    → (r : Tag) × Made ml? o t m mm' ml' r
unfolding leaves_tag
made ml? o t m mm ml mm' ml' e =
    let (r, is, sizes) = on_done_inv (sizes_with ml?) o (t, m) (sym (ap (λ (x : Rewrote). x.answer) e)) in
    let t-is : t ≡ length r.text = sym (ap (λ (s : ℕ × ℕ). s.0) sizes) in
    let m-is : m ≡ length (values_with ml? r) = sym (ap (λ (s : ℕ × ℕ). s.1) sizes) in (
      r,
      record {
        came = is;
        text_size = t-is;
        ml_size = m-is;
        text = front_is_part (λ (r : Tag). r.text) o r mm mm' t is (ap (λ (x : Rewrote). x.text) e) t-is;
        ml = front_is_part (values_with ml?) o r ml ml' m is (ap (λ (x : Rewrote). x.ml) e) m-is;
      },
    )

-- a tag that had room is what it was without
roomed : (ml? : Bool) (t m : ℕ) (o : Outcome Tag) (r : Tag) → in_room ml? t m o ≡ Ok r → o ≡ Ok r
roomed ml? t m o r e =
    let (w, is, fits) = and_then_inv o (λ (r : Tag). need (leb (length r.text) t && cond ml? (leb (length r.ml) m) true) 12 (Ok r)) r e in
    is ∙ ap Ok (done_inj (need_rest (leb (length w.text) t && cond ml? (leb (length w.ml) m) true) 12 (Ok w) r fits))

-- the values as a reader takes them
values_lent : (ml? : Bool) (r : Tag) (ml : List ℕ) → ml ≡ values_with ml? r → cond ml? r.ml ml ≡ ml
values_lent true r ml e = sym e
values_lent false r ml e = refl

few_values : (ml? : Bool) (r : Tag) (ml : List ℕ) → length r.ml ≤ length ml → length (values_with ml? r) ≤ length ml
few_values true r ml h = h
few_values false r ml h = omega arith

-- where something was cut off, the window starts where it is said to
known_start : (start : Option ℕ) (before after : List ℕ) (a lo : ℕ) → length after < length before → start ≡ Some a → window_start start before after ≡ Some lo
    → a ≡ lo
known_start start before after a lo h s q =
    let differ : eqb (length before) (length after) ≡ false = ne_eqb (length before) (length after) (omega arith) in
    let known : Some a ≡ Some lo = sym s ∙ rw differ at q in
    cc

module _ (ml? : Bool) (mm ml mm-out ml-out : List ℕ) (t m : ℕ) (mm' ml' : List ℕ) where
  -- never longer than what came in
  abbrev pub NoLonger : Type 0
  NoLonger = (t ≤ length mm) × (m ≤ length (cond ml? ml []))

  shorter : (e : Edit) (seq : List ℕ) (o : Outcome Tag) (r : Tag) → Made ml? o t m mm' ml' r → edited e ml? seq mm ml ≡ Ok r → NoLonger
  shorter e seq o r d is =
      let n = never_longer e ml? seq mm ml r is in
      (omega (arith, d.text_size, n.0), omega (arith, d.ml_size, few_values ml? r (cond ml? ml []) n.1))

  -- ---- masking

  module _ (before after : List ℕ) where
    abbrev masks : Outcome Tag
    masks = mask_tag ml? before after mm ml (length mm-out) (length ml-out)

    mask_edited : (r : Tag) → masks ≡ Ok r → edited (masked_to after) ml? before mm ml ≡ Ok r
    unfolding mask_tag
    mask_edited r e =
        let rest = need_rest (in_domain ml? before mm ml && leb (length after) 16000) 1 _ r e in
        roomed ml? (length mm-out) (length ml-out) (edited (masked_to after) ml? before mm ml) r (need_rest (eqb (length before) (length after)) 2 _ r rest)

    pub masked_no_longer : Masks ml? before after mm ml mm-out ml-out (Ok (t, m)) mm' ml' → NoLonger
    masked_no_longer l =
        let (r, d) = made ml? masks t m mm-out ml-out mm' ml' l in
        shorter (masked_to after) before masks r d (mask_edited r d.came)

    -- If after differs from before only by N, every call whose base is not masked is read at its place with its values.
    pub masked_lists : (ls : List Listing) → lists ml? before mm ml ≡ Ok ls → differs_by_n before after ≡ true
        → Masks ml? before after mm ml mm-out ml-out (Ok (t, m)) mm' ml' → lists ml? after (take t mm') (take m ml') ≡ Ok (map (unmasked_calls after) ls)
    masked_lists ls e d l =
        let (r, made-r) = made ml? masks t m mm-out ml-out mm' ml' l in
        let kept = mask_keeps_the_others ml? before after mm ml ls (take m ml') e d in
        let reads : lists ml? after r.text (cond ml? r.ml (take m ml')) ≡ Ok (map (unmasked_calls after) ls) =
        ap (then_lists ml? after (take m ml')) (sym (mask_edited r made-r.came)) ∙ kept in
        rw made-r.text (ap (lists ml? after r.text) (sym (values_lent ml? r (take m ml') made-r.ml)) ∙ reads)

  -- ---- dropping

  module _ (seq places : List ℕ) where
    abbrev drops : Outcome Tag
    drops = drop_from_tag ml? seq places mm ml (length mm-out) (length ml-out)

    drop_edited : (r : Tag) → drops ≡ Ok r → edited (dropping_at places) ml? seq mm ml ≡ Ok r
    unfolding drop_from_tag
    drop_edited r e =
        roomed ml? (length mm-out) (length ml-out) (edited (dropping_at places) ml? seq mm ml) r (need_rest (in_domain ml? seq mm ml) 1 _ r e)

    pub dropped_no_longer : Drops ml? seq places mm ml mm-out ml-out (Ok (t, m)) mm' ml' → NoLonger
    dropped_no_longer l =
        let (r, d) = made ml? drops t m mm-out ml-out mm' ml' l in
        shorter (dropping_at places) seq drops r d (drop_edited r d.came)

    -- Every other call is read at its place with its values.
    pub dropped_lists : (ls : List Listing) → lists ml? seq mm ml ≡ Ok ls → Drops ml? seq places mm ml mm-out ml-out (Ok (t, m)) mm' ml'
        → lists ml? seq (take t mm') (take m ml') ≡ Ok (map (without_calls_at places) ls)
    dropped_lists ls e l =
        let (r, d) = made ml? drops t m mm-out ml-out mm' ml' l in
        let reads = drop_keeps_the_others ml? seq mm ml ls e (take m ml') places r (drop_edited r d.came) in
        rw d.text (ap (lists ml? seq r.text) (sym (values_lent ml? r (take m ml') d.ml)) ∙ reads)

  -- ---- cutting

  module _ (start : Option ℕ) (before after : List ℕ) where
    abbrev cuts : Outcome Tag
    cuts = cut_tag ml? start before after mm ml (length mm-out) (length ml-out)

    -- where the window starts, that it is one, and the edit
    cut_edited : (r : Tag) → cuts ≡ Ok r → (lo : ℕ) × (window_start start before after ≡ Some lo) × (lies_in after (drop lo before) ≡ true)
        × (edited (cut_to lo after) ml? before mm ml ≡ Ok r)
    unfolding cut_tag
    cut_edited r e =
        let two = need_rest (in_domain ml? before mm ml && leb (length after) 16000) 1 _ r e in
        from (window_start start before after) refl (need_rest (not (same_bytes_of before after)) 21 _ r two)
      where
        from : (w : Option ℕ) → window_start start before after ≡ w
            → with_start w (λ lo. need (leb lo (length before) && lies_in after (drop lo before)) 11
            (in_room ml? (length mm-out) (length ml-out) (edited (cut_to lo after) ml? before mm ml))) ≡ Ok r
            → (lo : ℕ) × (window_start start before after ≡ Some lo) × (lies_in after (drop lo before) ≡ true)
            × (edited (cut_to lo after) ml? before mm ml ≡ Ok r)
        from None q z = let y : ◌≡◌ {A = ℕ} 0 1 = cc in absurd (omega arith)
        from (Some lo) q z =
            let inside = need_test (leb lo (length before) && lies_in after (drop lo before)) 11 _ r z in
            let rest = need_rest (leb lo (length before) && lies_in after (drop lo before)) 11 _ r z in
            (lo, q, and_true_r (leb lo (length before)) (lies_in after (drop lo before)) inside, roomed ml? (length mm-out) (length ml-out) (edited (cut_to lo after) ml? before mm ml) r rest)

    pub cut_no_longer : Trims ml? start before after mm ml mm-out ml-out (Ok (t, m)) mm' ml' → NoLonger
    cut_no_longer l =
        let (r, d) = made ml? cuts t m mm-out ml-out mm' ml' l in
        let (lo, w, lies, is) = cut_edited r d.came in
        shorter (cut_to lo after) before cuts r d is

    -- Every window that the call accepts begins at a known place. Every call whose base the window still holds is read on its base with its values. Calls
    -- outside the window go, and so do those on masked bases, except in a group on any base.
    pub cut_lists : (ls : List Listing) → lists ml? before mm ml ≡ Ok ls → Trims ml? start before after mm ml mm-out ml-out (Ok (t, m)) mm' ml'
        → (lo : ℕ) × (window_start start before after ≡ Some lo)
        × (lists ml? after (take t mm') (take m ml') ≡ Ok (map (calls_held_in lo after) ls))
    cut_lists ls e l =
        let (r, d) = made ml? cuts t m mm-out ml-out mm' ml' l in
        let (lo, q, lies, is) = cut_edited r d.came in
        let reads = cut_keeps_the_held ml? before mm ml ls e (take m ml') lo after r lies is in
        (lo, q, rw d.text (ap (lists ml? after r.text) (sym (values_lent ml? r (take m ml') d.ml)) ∙ reads))

    -- If what is left are n bases from place a on, unmasked and fewer than before, then every call inside is read.
    pub clean_cut_lists : (a n : ℕ) (ls : List Listing) → lists ml? before mm ml ≡ Ok ls → start ≡ Some a → after ≡ window a n before
        → a + n ≤ length before → length after < length before → Trims ml? start before after mm ml mm-out ml-out (Ok (t, m)) mm' ml'
        → lists ml? after (take t mm') (take m ml') ≡ Ok (map (calls_in_window a n) ls)
    clean_cut_lists a n ls e s w fits less l =
        let (r, d) = made ml? cuts t m mm-out ml-out mm' ml' l in
        let (lo, q, lies, is) = cut_edited r d.came in
        let same : a ≡ lo = known_start start before after a lo less s q in
        let cut : edited (cut_to a (window a n before)) ml? before mm ml ≡ Ok r = rw (← w, same) is in
        let reads : lists ml? (window a n before) r.text (cond ml? r.ml (take m ml')) ≡ Ok (map (calls_in_window a n) ls) =
        cut_keeps_the_others ml? before mm ml ls e (take m ml') a n r fits cut in
        (λ j. lists ml? (w j) (d.text j) (take m ml'))
        ∙ ap (lists ml? (window a n before) r.text) (sym (values_lent ml? r (take m ml') d.ml)) ∙ reads

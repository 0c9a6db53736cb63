-- The numbers with which the definitions can refuse: reading, the edits, building, and the session's opening and steps.
-- Assumes nothing.
use Rattle.std.specs.Prelude.{Ok, Err, Option, None, Some}
use mathlib.Core.Path.{◌≡◌, refl, sym, ap, ◌∙◌}
use Prim.Native.Nat.{ℕ, zero, suc, ◌+◌, ◌-◌}
use native.Mathlib.Omega.{arith}
use Prim.Native.String.{String}
use mathlib.Core.Bool.{Bool, true, false, cond, not, ◌&&◌}
use mathlib.Core.List.{List, [], ◌∷◌, ◌++◌, map}
use lib.ListN.{length, drop, replicate}
use lib.Dec.{leb, eqb}
use borrow.Author.Tests.{le-leb}
use Rattle.lent.specs.Lists.{among, every, is_empty, last_or}
use Rattle.lent.specs.Outcome.{Outcome, need, and_then, number_of}
use Rattle.lent.specs.Answers.{refuses_only}
use Rattle.lent.proofs.Answers.{only_need, only_and_then, only_with_first}
use Rattle.lent.proofs.Outcome.{and_then_inv, done_inj, need_rest}
use Rattle.lent.proofs.Tests.{by-test, and_true_l}
use Rattle.pattern.specs.Patterns.{is_enabled}
use Rattle.pattern.specs.declared.ConversionPattern.{ConversionPattern}
use Rattle.pattern.specs.declared.ConversionPattern.TheVariants.{CToT}
use Rattle.pattern.specs.declared.MethylationMode.{MethylationMode}
use Rattle.pattern.specs.declared.MethylationMode.TheVariants.{EmSeq}
use Rattle.samtags.specs.Bytes.{ascii, comma, semicolon, is_ascii}
use Rattle.samtags.specs.Building.{Evidence, columns, built_tag, build_tag, evidence_agrees, evidence_in_domain, has_calls, strand_group}
use Rattle.samtags.specs.Decimal.{is_number, value}
use Rattle.samtags.specs.Edits.{Edit, cut_tag, cut_to, drop_from_tag, dropping_at, edited, in_room, lies_in, mask_tag, masked_to, same_bytes_of, window_start, with_start}
use Rattle.samtags.specs.Reading.{denied_to, in_domain, lists, nowhere, read, read_entry, read_group, read_groups, read_spots, read_tag, tally_tag, values_if}
use Rattle.samtags.specs.Session.{Held, Memory, Step, mask, drop_calls, cut, held_in, held_with, in_order_of, lengths_in_buffers, lengths_in_domain, masked, open_session, step_in_memory, stepped, window}
use Rattle.samtags.specs.Spots.{Group, Spot, tracked}
use Rattle.samtags.specs.Text.{base_of, closed_by, ends_in_question, led_by, up_to}
use Rattle.samtags.specs.Writing.{Tag}
use Rattle.samtags.proofs.Text.{among_every}

-- the reader's own: of the text, and of ML's values, which are asked only where there is an ML
abbrev pub text_numbers : List ℕ
text_numbers = 3 ∷ 4 ∷ 5 ∷ 6 ∷ 7 ∷ []

abbrev pub value_numbers : List ℕ
value_numbers = 8 ∷ 9 ∷ []

abbrev pub reader_numbers : List ℕ
reader_numbers = 3 ∷ 4 ∷ 5 ∷ 6 ∷ 7 ∷ 8 ∷ 9 ∷ []

-- ---- reading

-- where there are no values none are left over
none_dropped : (k : ℕ) → drop {A = ℕ} k [] ≡ []
none_dropped zero = refl
none_dropped (suc k) = refl

spots_left : (k : ℕ) (denied : ℕ → Bool) (fs : List (List ℕ)) (places ml : List ℕ) (r : List Spot × List ℕ) → ml ≡ []
    → read_spots k denied fs places ml ≡ Ok r → r.1 ≡ []
unfolding read_spots
spots_left k denied [] places ml r z e = ap (λ (x : List Spot × List ℕ). x.1) (sym (done_inj e)) ∙ z
spots_left k denied (f ∷ fs) places ml r z e =
    let i = and_then_inv {A = ℕ × List ℕ} (read_entry k denied f places (length ml)) _ r e in
    let j = and_then_inv (read_spots k denied fs i.0.1 (drop k ml)) _ r i.2 in
    ap (λ (x : List Spot × List ℕ). x.1) (sym (done_inj j.2))
    ∙ spots_left k denied fs i.0.1 (drop k ml) j.0 (ap (drop k) z ∙ none_dropped k) j.1

group_left : (ml? : Bool) (named : ℕ → Bool) (seq g ml : List ℕ) (r : Group × List ℕ) → ml ≡ [] → read_group ml? named seq g ml ≡ Ok r → r.1 ≡ []
unfolding read_group
group_left ml? named seq g ml r z e =
    let h = up_to comma g in
    let o = read_spots (values_if ml? h) (denied_to h named) (led_by comma g) (tracked (base_of h) seq) ml in
    let i = and_then_inv o _ r (need_rest (leb 2 (length h)) 5 _ r e) in
    ap (λ (x : Group × List ℕ). x.1) (sym (done_inj i.2))
    ∙ spots_left (values_if ml? h) (denied_to h named) (led_by comma g) (tracked (base_of h) seq) ml i.0 z i.1

-- Any set that has the text's numbers, those of the values where there is an ML, and 10 where a call may be named.
module _ (ns : List ℕ) (ml? : Bool) (texts : (n : ℕ) → among text_numbers n ≡ true → among ns n ≡ true)
    (values : ml? ≡ true → (n : ℕ) → among value_numbers n ≡ true → among ns n ≡ true) (named : ℕ → Bool)
    (ten : (p : ℕ) → named p ≡ true → among ns 10 ≡ true) where
  -- without an ML a listed base takes no values
  eight_only : {A : Type 0} (h : List ℕ) (n : ℕ) (o : Outcome A) → refuses_only ns o ≡ true → refuses_only ns (need (leb (values_if ml? h) n) 8 o) ≡ true
  unfolding values_if
  eight_only h n o k =
      by-test ml? (λ m. only_need ns (leb (values_if ml? h) n) 8 o (values m 8 refl) k) (λ m. rw (m, le-leb 0 n (omega arith)) k)

  entry_only : (h f places : List ℕ) (n : ℕ) → refuses_only ns (read_entry (values_if ml? h) (denied_to h named) f places n) ≡ true
  unfolding read_entry
  entry_only h f places n =
      only_need ns (is_number f) 6 _ (texts 6 refl)
      (only_with_first ns (drop (value f) places) 7 _ (texts 7 refl) (λ p rest.
      eight_only h n (need (not (denied_to h named p)) 10 (Ok (p, rest)))
      (by-test (denied_to h named p)
      (λ e. rw e (ten p (and_true_l (named p) (not (ends_in_question h)) e)))
      (λ e. rw e))))

  spots_only : (h : List ℕ) (fs : List (List ℕ)) (places ml : List ℕ) → refuses_only ns (read_spots (values_if ml? h) (denied_to h named) fs places ml) ≡ true
  unfolding read_spots
  spots_only h [] places ml = refl
  spots_only h (f ∷ fs) places ml =
      let k = values_if ml? h in
      only_and_then ns (read_entry k (denied_to h named) f places (length ml)) _ (entry_only h f places (length ml)) (λ e.
      only_and_then ns (read_spots k (denied_to h named) fs e.1 (drop k ml)) _ (spots_only h fs e.1 (drop k ml)) (λ r. refl))

  group_only : (seq g ml : List ℕ) → refuses_only ns (read_group ml? named seq g ml) ≡ true
  unfolding read_group
  group_only seq g ml =
      let h = up_to comma g in
      only_need ns (leb 2 (length h)) 5 _ (texts 5 refl)
      (only_and_then ns (read_spots (values_if ml? h) (denied_to h named) (led_by comma g) (tracked (base_of h) seq) ml) _
      (spots_only h (led_by comma g) (tracked (base_of h) seq) ml) (λ r. refl))

  -- a group, and the others with what values it leaves
  group_and_more : (seq : List ℕ) (gs : List (List ℕ)) (o : Outcome (Group × List ℕ)) → refuses_only ns o ≡ true
      → ((r : Group × List ℕ) → o ≡ Ok r → ml? ≡ false → r.1 ≡ [])
      → ((ml : List ℕ) → (ml? ≡ false → ml ≡ []) → refuses_only ns (read_groups ml? named seq gs ml) ≡ true)
      → refuses_only ns (and_then o (λ r. and_then (read_groups ml? named seq gs r.1) (λ rest. Ok (r.0 ∷ rest)))) ≡ true
  group_and_more seq gs (Err q) k left more = k
  group_and_more seq gs (Ok r) k left more = only_and_then ns (read_groups ml? named seq gs r.1) _ (more r.1 (left r refl)) (λ rest. refl)

  groups_only : (seq : List ℕ) (gs : List (List ℕ)) (ml : List ℕ) → (ml? ≡ false → ml ≡ []) → refuses_only ns (read_groups ml? named seq gs ml) ≡ true
  unfolding read_groups
  groups_only seq [] ml z = by-test ml? (λ m. only_need ns (is_empty ml) 9 _ (values m 9 refl) refl) (λ m. rw (z m))
  groups_only seq (g ∷ gs) ml z =
      group_and_more seq gs (read_group ml? named seq g ml) (group_only seq g ml) (λ r e m. group_left ml? named seq g ml r (z m) e) (groups_only seq gs)

  reads_only : (seq text ml : List ℕ) → refuses_only ns (read ml? named seq text ml) ≡ true
  unfolding read
  reads_only seq text ml =
      only_need ns (every is_ascii text) 3 _ (texts 3 refl)
      (only_need ns (eqb (last_or 0 text) semicolon) 4 _ (texts 4 refl)
      (groups_only seq (closed_by semicolon text) (cond ml? ml []) (λ m. rw m)))

-- Any set that has all of the reader's numbers, and 10 where a call may be named.
module _ (ns : List ℕ) (has : every (among ns) reader_numbers ≡ true) (named : ℕ → Bool) (ten : (p : ℕ) → named p ≡ true → among ns 10 ≡ true) where
  reader's : (ms : List ℕ) → every (among reader_numbers) ms ≡ true → (n : ℕ) → among ms n ≡ true → among ns n ≡ true
  reader's ms h n e = among_every (among ns) reader_numbers n has (among_every (among reader_numbers) ms n h e)

  pub read_only : (ml? : Bool) (seq text ml : List ℕ) → refuses_only ns (read ml? named seq text ml) ≡ true
  read_only ml? = reads_only ns ml? (reader's text_numbers refl) (λ m. reader's value_numbers refl) named ten

-- no call is named
none_named : (ns : List ℕ) (p : ℕ) → nowhere p ≡ true → among ns 10 ≡ true
none_named ns p e = cc

-- Without an ML 8 and 9 do not arise: any set that has the text's numbers.
module _ (ns : List ℕ) (has : every (among ns) text_numbers ≡ true) where
  pub read_without_ml : (named : ℕ → Bool) → ((p : ℕ) → named p ≡ true → among ns 10 ≡ true) → (seq text ml : List ℕ)
      → refuses_only ns (read false named seq text ml) ≡ true
  read_without_ml named ten = reads_only ns false (λ n. among_every (among ns) text_numbers n has) (λ m n e. cc) named ten

  pub read_tag_without_ml : among ns 1 ≡ true → (seq text ml : List ℕ) → refuses_only ns (read_tag false seq text ml) ≡ true
  unfolding read_tag lists
  read_tag_without_ml one seq text ml =
      only_need ns (in_domain false seq text ml) 1 _ one
      (only_and_then ns (read false nowhere seq text ml) _ (read_without_ml nowhere (none_named ns) seq text ml) (λ gs. refl))

-- Any set that has the reader's numbers.
module _ (ns : List ℕ) (has : every (among ns) reader_numbers ≡ true) where
  pub lists_only : (ml? : Bool) (seq text ml : List ℕ) → refuses_only ns (lists ml? seq text ml) ≡ true
  unfolding lists
  lists_only ml? seq text ml =
      only_and_then ns (read ml? nowhere seq text ml) _ (read_only ns has nowhere (none_named ns) ml? seq text ml) (λ gs. refl)

  pub read_tag_only : among ns 1 ≡ true → (ml? : Bool) (seq text ml : List ℕ) → refuses_only ns (read_tag ml? seq text ml) ≡ true
  unfolding read_tag
  read_tag_only one ml? seq text ml = only_need ns (in_domain ml? seq text ml) 1 _ one (lists_only ml? seq text ml)

  pub tally_tag_only : among ns 1 ≡ true → (seq text ml : List ℕ) → refuses_only ns (tally_tag seq text ml) ≡ true
  unfolding tally_tag
  tally_tag_only one seq text ml = only_and_then ns (read_tag true seq text ml) _ (read_tag_only one true seq text ml) (λ ls. refl)

  edited_only : (e : Edit) → ((p : ℕ) → e.dropped p ≡ true → among ns 10 ≡ true) → (ml? : Bool) (seq text ml : List ℕ)
      → refuses_only ns (edited e ml? seq text ml) ≡ true
  unfolding edited
  edited_only e ten ml? seq text ml = only_and_then ns (read ml? e.dropped seq text ml) _ (read_only ns has e.dropped ten ml? seq text ml) (λ gs. refl)

  pub masked_only : (after : List ℕ) (ml? : Bool) (seq text ml : List ℕ) → refuses_only ns (edited (masked_to after) ml? seq text ml) ≡ true
  unfolding masked_to
  masked_only after = edited_only (masked_to after) (none_named ns)

  pub cut_only : (lo : ℕ) (after : List ℕ) (ml? : Bool) (seq text ml : List ℕ) → refuses_only ns (edited (cut_to lo after) ml? seq text ml) ≡ true
  unfolding cut_to
  cut_only lo after = edited_only (cut_to lo after) (none_named ns)

  pub dropping_only : among ns 10 ≡ true → (places : List ℕ) (ml? : Bool) (seq text ml : List ℕ) → refuses_only ns (edited (dropping_at places) ml? seq text ml) ≡ true
  dropping_only ten places = edited_only (dropping_at places) (λ p e. ten)

-- ---- the public edits, and building

in_room_only : (ns : List ℕ) (ml? : Bool) (t m : ℕ) (o : Outcome Tag) → among ns 12 ≡ true → refuses_only ns o ≡ true → refuses_only ns (in_room ml? t m o) ≡ true
in_room_only ns ml? t m o twelve h =
    only_and_then ns o _ h (λ r. only_need ns (leb (length r.text) t && cond ml? (leb (length r.ml) m) true) 12 _ twelve refl)

abbrev pub mask_numbers : List ℕ
mask_numbers = 1 ∷ 2 ∷ 3 ∷ 4 ∷ 5 ∷ 6 ∷ 7 ∷ 8 ∷ 9 ∷ 12 ∷ []

pub mask_tag_only : (ml? : Bool) (before after text ml : List ℕ) (t m : ℕ) → refuses_only mask_numbers (mask_tag ml? before after text ml t m) ≡ true
unfolding mask_tag
mask_tag_only ml? before after text ml t m =
    only_need mask_numbers (in_domain ml? before text ml && leb (length after) 16000) 1 _ refl
    (only_need mask_numbers (eqb (length before) (length after)) 2 _ refl
    (in_room_only mask_numbers ml? t m (edited (masked_to after) ml? before text ml) refl (masked_only mask_numbers refl after ml? before text ml)))

abbrev pub drop_numbers : List ℕ
drop_numbers = 1 ∷ 3 ∷ 4 ∷ 5 ∷ 6 ∷ 7 ∷ 8 ∷ 9 ∷ 10 ∷ 12 ∷ []

pub drop_tag_only : (ml? : Bool) (seq places text ml : List ℕ) (t m : ℕ) → refuses_only drop_numbers (drop_from_tag ml? seq places text ml t m) ≡ true
unfolding drop_from_tag
drop_tag_only ml? seq places text ml t m =
    only_need drop_numbers (in_domain ml? seq text ml) 1 _ refl
    (in_room_only drop_numbers ml? t m (edited (dropping_at places) ml? seq text ml) refl (dropping_only drop_numbers refl refl places ml? seq text ml))

abbrev pub cut_numbers : List ℕ
cut_numbers = 1 ∷ 3 ∷ 4 ∷ 5 ∷ 6 ∷ 7 ∷ 8 ∷ 9 ∷ 11 ∷ 12 ∷ 21 ∷ []

with_start_only : (ns : List ℕ) (start : Option ℕ) (f : ℕ → Outcome Tag) → among ns 11 ≡ true → ((lo : ℕ) → refuses_only ns (f lo) ≡ true)
    → refuses_only ns (with_start start f) ≡ true
with_start_only ns None f eleven h = eleven
with_start_only ns (Some lo) f eleven h = h lo

pub cut_tag_only : (ml? : Bool) (start : Option ℕ) (before after text ml : List ℕ) (t m : ℕ)
    → refuses_only cut_numbers (cut_tag ml? start before after text ml t m) ≡ true
unfolding cut_tag
cut_tag_only ml? start before after text ml t m =
    only_need cut_numbers (in_domain ml? before text ml && leb (length after) 16000) 1 _ refl
    (only_need cut_numbers (not (same_bytes_of before after)) 21 _ refl
    (with_start_only cut_numbers (window_start start before after) _ refl (λ lo.
    only_need cut_numbers (leb lo (length before) && lies_in after (drop lo before)) 11 _ refl
    (in_room_only cut_numbers ml? t m (edited (cut_to lo after) ml? before text ml) refl (cut_only cut_numbers refl lo after ml? before text ml)))))

abbrev pub build_numbers : List ℕ
build_numbers = 1 ∷ 2 ∷ 12 ∷ 20 ∷ []

pub build_tag_only : (ml? : Bool) (mode : MethylationMode) (p : ConversionPattern) (ev : Evidence) (seq : List ℕ) (t m : ℕ)
    → refuses_only build_numbers (build_tag ml? mode p ev seq t m) ≡ true
unfolding build_tag built_tag
build_tag_only ml? mode p ev seq t m =
    in_room_only build_numbers ml? t m (built_tag mode p ev seq) refl
    (only_need build_numbers (evidence_in_domain ev seq) 1 _ refl
    (only_need build_numbers (evidence_agrees ev seq) 2 _ refl
    (only_need build_numbers (is_enabled mode && has_calls (strand_group mode p ev seq)) 20 _ refl refl)))

-- ---- the session

abbrev pub open_numbers : List ℕ
open_numbers = 1 ∷ 2 ∷ 3 ∷ 4 ∷ 5 ∷ 6 ∷ 7 ∷ 8 ∷ 9 ∷ []

module _ {A : Type 0} where
  in_order_only : (ns : List ℕ) (ml? : Bool) (m : Memory) (o : Outcome A) → among ns 1 ≡ true → among ns 2 ≡ true → refuses_only ns o ≡ true
      → refuses_only ns (in_order_of ml? m o) ≡ true
  in_order_only ns ml? m o one two h =
      only_need ns (lengths_in_domain ml? m.lengths) 1 _ one (only_need ns (lengths_in_buffers ml? m) 2 _ two h)

pub open_session_only : (ml? : Bool) (m : Memory) → refuses_only open_numbers (open_session ml? m) ≡ true
unfolding open_session
open_session_only ml? m =
    in_order_only open_numbers ml? m _ refl refl (lists_only open_numbers refl ml? (held_in m).seq (held_in m).text (held_in m).ml)

-- the numbers with which each kind of step can refuse
abbrev pub step_numbers : Step → List ℕ
step_numbers (mask ps) = 1 ∷ 2 ∷ 3 ∷ 4 ∷ 5 ∷ 6 ∷ 7 ∷ 8 ∷ 9 ∷ []
step_numbers (drop_calls ps) = 1 ∷ 2 ∷ 3 ∷ 4 ∷ 5 ∷ 6 ∷ 7 ∷ 8 ∷ 9 ∷ 10 ∷ []
step_numbers (cut front back) = 1 ∷ 2 ∷ 3 ∷ 4 ∷ 5 ∷ 6 ∷ 7 ∷ 8 ∷ 9 ∷ 11 ∷ 21 ∷ []

held_with_only : (ns : List ℕ) (ml? : Bool) (s : Held) (after : List ℕ) (o : Outcome Tag) → refuses_only ns o ≡ true → refuses_only ns (held_with ml? s after o) ≡ true
held_with_only ns ml? s after o h = only_and_then ns o _ h (λ r. refl)

pub stepped_only : (ml? : Bool) (t : Step) (s : Held) → refuses_only (step_numbers t) (stepped ml? t s) ≡ true
unfolding stepped
stepped_only ml? (mask ps) s =
    let after = masked (among ps) s.seq in
    let ns = step_numbers (mask ps) in
    held_with_only ns ml? s after (edited (masked_to after) ml? s.seq s.text s.ml) (masked_only ns refl after ml? s.seq s.text s.ml)
stepped_only ml? (drop_calls ps) s =
    let ns = step_numbers (drop_calls ps) in
    held_with_only ns ml? s s.seq (edited (dropping_at ps) ml? s.seq s.text s.ml) (dropping_only ns refl refl ps ml? s.seq s.text s.ml)
stepped_only ml? (cut front back) s =
    let after = window front (length s.seq - (front + back)) s.seq in
    let ns = step_numbers (cut front back) in
    only_need ns (not (eqb (front + back) 0)) 21 _ refl
    (only_need ns (leb (front + back) (length s.seq)) 11 _ refl
    (held_with_only ns ml? s after (edited (cut_to front after) ml? s.seq s.text s.ml) (cut_only ns refl front after ml? s.seq s.text s.ml)))

pub step_only : (ml? : Bool) (t : Step) (m : Memory) → refuses_only (step_numbers t) (step_in_memory ml? t m) ≡ true
unfolding step_in_memory
step_only ml? t m =
    in_order_only (step_numbers t) ml? m _ (one t) (two t)
    (only_and_then (step_numbers t) (stepped ml? t (held_in m)) _ (stepped_only ml? t (held_in m)) (λ s. refl))
  where
    one : (t : Step) → among (step_numbers t) 1 ≡ true
    one (mask ps) = refl
    one (drop_calls ps) = refl
    one (cut front back) = refl

    two : (t : Step) → among (step_numbers t) 2 ≡ true
    two (mask ps) = refl
    two (drop_calls ps) = refl
    two (cut front back) = refl

-- ---- no set is too large: worked inputs, whose numbers are 0 and then each of the set in order

-- a tag on one C
abbrev pub on_c : String → List ℕ → Held
on_c text ml = record { seq = ascii "C"; text = ascii text; ml = ml }

-- it is read
abbrev pub good_tag : Held
good_tag = on_c "C+m?,0;" (7 ∷ [])

-- these are refused with 3 to 9
abbrev pub bad_tags : List Held
bad_tags =
    record { seq = ascii "C"; text = 200 ∷ []; ml = [] }
    ∷ on_c "" []
    ∷ on_c ";" []
    ∷ on_c "C+m?,x;" (7 ∷ [])
    ∷ on_c "C+m?,1;" (7 ∷ [])
    ∷ on_c "C+m?,0;" []
    ∷ on_c "C+m?,0;" (7 ∷ 7 ∷ [])
    ∷ []

-- no '?' at the header's end
abbrev pub unmarked_tag : Held
unmarked_tag = on_c "C+m,0;" (7 ∷ [])

-- SEQ is longer than the domain allows
abbrev pub long_tag : Held
long_tag = record { seq = replicate 16001 67; text = []; ml = [] }

abbrev reads : Held → ℕ
reads h = number_of (read_tag true h.seq h.text h.ml)

pub read_tag_each : map reads (good_tag ∷ long_tag ∷ bad_tags) ≡ 0 ∷ 1 ∷ reader_numbers
unfolding read_tag
read_tag_each = refl

abbrev tallies : Held → ℕ
tallies h = number_of (tally_tag h.seq h.text h.ml)

pub tally_tag_each : map tallies (good_tag ∷ long_tag ∷ bad_tags) ≡ 0 ∷ 1 ∷ reader_numbers
unfolding tally_tag
tally_tag_each = refl

abbrev masks : ℕ → List ℕ → Held → ℕ
masks room after h = number_of (mask_tag true h.seq after h.text h.ml room room)

pub mask_tag_each :
    masks 100 (ascii "N") good_tag
    ∷ masks 100 (ascii "N") long_tag
    ∷ masks 100 [] good_tag
    ∷ map (masks 100 (ascii "N")) bad_tags ++ masks 0 (ascii "N") good_tag
    ∷ []
    ≡ 0 ∷ mask_numbers
unfolding mask_tag
mask_tag_each = refl

abbrev drops : ℕ → Held → ℕ
drops room h = number_of (drop_from_tag true h.seq (0 ∷ []) h.text h.ml room room)

pub drop_tag_each :
    drops 100 good_tag ∷ drops 100 long_tag ∷ map (drops 100) bad_tags ++ drops 100 unmarked_tag ∷ drops 0 good_tag ∷ []
    ≡ 0 ∷ drop_numbers
unfolding drop_from_tag
drop_tag_each = refl

abbrev cuts : ℕ → Option ℕ → List ℕ → Held → ℕ
cuts room start after h = number_of (cut_tag true start h.seq after h.text h.ml room room)

pub cut_tag_each :
    cuts 100 (Some 0) [] good_tag
    ∷ cuts 100 (Some 0) [] long_tag
    ∷ map (cuts 100 (Some 0) []) bad_tags ++ cuts 100 None [] good_tag
    ∷ cuts 0 (Some 0) [] good_tag
    ∷ cuts 100 None (ascii "C") good_tag
    ∷ []
    ≡ 0 ∷ cut_numbers
unfolding cut_tag
cut_tag_each = refl

-- one read on an informative C, and none
abbrev builds : ℕ → List ℕ → Evidence → ℕ
builds room seq ev = number_of (build_tag true EmSeq CToT ev seq room room)

pub build_tag_each :
    builds 100 (ascii "C") (columns (1 ∷ []) (1 ∷ []) (0 ∷ []))
    ∷ builds 100 long_tag.seq (columns [] [] [])
    ∷ builds 100 (ascii "C") (columns [] [] [])
    ∷ builds 0 (ascii "C") (columns (1 ∷ []) (1 ∷ []) (0 ∷ []))
    ∷ builds 100 (ascii "C") (columns (0 ∷ []) (1 ∷ []) (0 ∷ []))
    ∷ []
    ≡ 0 ∷ build_numbers
unfolding build_tag
build_tag_each = refl

-- buffers that the session fills
abbrev pub filled : Held → Memory
filled h = record {
  seq = h.seq;
  text = h.text;
  ml = h.ml;
  lengths = record { seq = length h.seq; text = length h.text; ml = length h.ml };
}

-- buffers without a byte, and lengths that say otherwise
abbrev pub empty_buffers : ℕ → Memory
empty_buffers n = record { seq = []; text = []; ml = []; lengths = record { seq = n; text = 0; ml = 0 } }

-- lengths past the domain, lengths past the buffers, and the reader's numbers
abbrev pub bad_memories : List Memory
bad_memories = empty_buffers 16001 ∷ empty_buffers 1 ∷ map filled bad_tags

abbrev opens : Memory → ℕ
opens m = number_of (open_session true m)

pub open_session_each : map opens (filled good_tag ∷ bad_memories) ≡ 0 ∷ open_numbers
unfolding open_session
open_session_each = refl

abbrev steps : Step → Memory → ℕ
steps t m = number_of (step_in_memory true t m)

pub mask_step_each : map (steps (mask (0 ∷ []))) (filled good_tag ∷ bad_memories) ≡ 0 ∷ step_numbers (mask (0 ∷ []))
unfolding step_in_memory
mask_step_each = refl

pub drop_step_each :
    map (steps (drop_calls (0 ∷ []))) (filled good_tag ∷ bad_memories ++ filled unmarked_tag ∷ []) ≡ 0 ∷ step_numbers (drop_calls (0 ∷ []))
unfolding step_in_memory
drop_step_each = refl

pub cut_step_each :
    map (steps (cut 1 0)) (filled good_tag ∷ bad_memories) ++ steps (cut 2 0) (filled good_tag) ∷ steps (cut 0 0) (filled good_tag) ∷ []
    ≡ 0 ∷ step_numbers (cut 1 0)
unfolding step_in_memory
cut_step_each = refl

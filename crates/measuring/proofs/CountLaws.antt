-- Laws of a walk that needs no places: its counts after one more entry and after one more group.
-- Assumes nothing.
use Rattle.std.specs.Prelude.{Ok, Err, Option, Some, None}
use mathlib.Core.Path.{◌≡◌, refl, ◌∙◌, ap, sym}
use Prim.Native.Nat.{◌+◌, ◌-◌, ◌<◌, ◌≤◌, min, suc, ℕ}
use native.Mathlib.Nat.{add-zero}
use native.Mathlib.Omega.{arith}
use mathlib.Core.Bool.{Bool, ◌&&◌, cond, false, not, true}
use mathlib.Core.List.{List, [], ◌++◌, ◌∷◌, map}
use lib.Dec.{eqb}
use lib.ListN.{drop, drop_of_length-le, get_or, length, length-drop, take}
use borrow.Author.Tests.{le-leb, lt-leb}
use Rattle.lent.proofs.Lists.{drop_here}
use Rattle.lent.proofs.Outcome.{done_inj, need_rest, need_test}
use Rattle.lent.specs.Lists.{every, last_or}
use Rattle.lent.specs.Outcome.{Outcome, and_then, need, on_done, refusal, refuse}
use Rattle.lent.specs.declared.Refusal.{Refusal}
use Rattle.samtags.proofs.Places.{places_length}
use Rattle.samtags.proofs.Read.{calls_bare}
use Rattle.samtags.proofs.Taken.{taken_again}
use Rattle.samtags.specs.Bytes.{is_ascii}
use Rattle.samtags.specs.Decimal.{is_number, value}
use Rattle.samtags.specs.Reading.{denied_to, nowhere, read, read_entry, read_group, read_groups, read_spots, values_if}
use Rattle.samtags.specs.Spots.{Group, Spot, bare, call, calls_in, holds, tracked}
use Rattle.samtags.specs.Text.{base_of, closed_by, ends_in_question, led_by, up_to}
use Rattle.places.proofs.TextLaws.{calls_none, entry_refused, group_on, groups_at, turn_on, turn_refused}
use Rattle.places.proofs.WalkLaws.{entry_not_decimal}
use Rattle.fields.specs.Fields.{field_of}
use Rattle.measuring.specs.declared.Count.{Count}
use Rattle.measuring.specs.Counting.{calls_of, group_counted, groups_counted, spots_counted}

-- an answer that is no count, as the code knows it
abbrev pub NotTo : Outcome (Option Count) → Type 0
NotTo r = (d : Count) → r ≡ Ok (Some d) → ⊥

pub unless_to : (P : Outcome (Option Count) → Type 0) (r : Outcome (Option Count)) → NotTo r
    → ((q : Refusal) → r ≡ Err q → P (Err q)) → (r ≡ Ok None → P (Ok None)) → P r
unless_to P (Ok (Some d)) k f g = absurd (k d refl)
unless_to P (Err q) k f g = f q refl
unless_to P (Ok None) k f g = g refl

-- ---- one entry: a field whose skip, as far as it matters, is n, over places of which only their number is known

module _ (k : ℕ) (f places : List ℕ) (n m : ℕ) (e : Ok n ≡ need (is_number f) 6 (Ok (min 16001 (value f)))) where
  number : is_number f ≡ true
  number = need_test (is_number f) 6 (Ok (min 16001 (value f))) n (sym e)

  bounded : min 16001 (value f) ≡ n
  bounded = done_inj (need_rest (is_number f) 6 (Ok (min 16001 (value f))) n (sym e))

  entry_past : length places ≤ n → read_entry k nowhere f places m ≡ refuse 7
  unfolding read_entry
  entry_past h = let far : length places ≤ value f = omega (arith, bounded) in rw (number, drop_of_length-le places far)

  module _ (few : length places ≤ 16000) (h : n < length places) where
    listed : drop (value f) places ≡ get_or places n 0 ∷ drop (n + 1) places
    listed = let same : value f ≡ n = omega (arith, bounded) in ap (λ (v : ℕ). drop v places) same ∙ drop_here places n 0 h

    entry_short : m < k → read_entry k nowhere f places m ≡ refuse 8
    unfolding read_entry
    entry_short l = rw (number, listed, lt-leb k m l)

    entry_there : k ≤ m → read_entry k nowhere f places m ≡ Ok (get_or places n 0, drop (n + 1) places)
    unfolding read_entry
    entry_there l = rw (number, listed, le-leb k m l)

-- ---- one turn over entries: the entry that the comma at `at` leads, and those after it

count_one : (n : ℕ) (ps : List ℕ) (p : ℕ) (vs : List ℕ) (x : Outcome (List Spot × List ℕ))
    → on_done (spots_counted n) (and_then x (λ r. Ok (map bare ps ++ call p vs ∷ r.0, r.1))) ≡ on_done (spots_counted (n + 1)) x
count_one n ps p vs (Err r) = refl
count_one n ps p vs (Ok r) =
    let more : n + suc (length (calls_in r.0)) ≡ n + 1 + length (calls_in r.0) = omega arith in
    rw (calls_bare ps (call p vs ∷ r.0)) (λ j. Ok (more j, r.1))

-- the outcome of reading from a separator and a value on, over so many places, after n calls
abbrev pub counted_from : ℕ → List ℕ → List ℕ → ℕ → ℕ → ℕ → List ℕ → Outcome (ℕ × List ℕ)
counted_from k t ml n used at places = on_done (spots_counted n) (read_spots k nowhere (led_by 44 (up_to 59 (drop at t))) places (drop used ml))

module _ (k : ℕ) (t : List ℕ) (at : ℕ) (l : at < length t) (comma : get_or t at 0 ≡ 44) (f : List ℕ) (q : f ≡ field_of (drop (at + 1) t))
    (ml : List ℕ) (used calls : ℕ) (places : List ℕ) where
  -- a field that is no number is refused with 6
  six : (t : Bool) (n : ℕ) (r : Refusal) → Err r ≡ need t 6 (Ok n) → ◌≡◌ {A = Outcome ℕ} (refuse 6) (Err r)
  six true n r e = let z : ◌≡◌ {A = ℕ} 0 1 = cc in absurd (omega arith)
  six false n r e = let s : r ≡ refusal 6 = cc in rw s

  pub turn_six : (n : ℕ) (r : Refusal) → Err r ≡ need (is_number f) 6 (Ok n) → counted_from k t ml calls used at places ≡ Err r
  turn_six n r e =
      ap (on_done (spots_counted calls)) (turn_refused k nowhere t at l comma f q places ml used r
      (entry_refused k nowhere f places (length ml - used) r (sym (six (is_number f) n r e) ∙ entry_not_decimal f places n r e)))

  module _ (skip : ℕ) (e : Ok skip ≡ need (is_number f) 6 (Ok (min 16001 (value f)))) where
    pub turn_seven : length places ≤ skip → counted_from k t ml calls used at places ≡ refuse 7
    turn_seven h =
        ap (on_done (spots_counted calls)) (turn_refused k nowhere t at l comma f q places ml used _
        (entry_past k f places skip (length ml - used) e h))

    module _ (few : length places ≤ 16000) (h : skip < length places) where
      pub turn_eight : length ml - used < k → counted_from k t ml calls used at places ≡ refuse 8
      turn_eight s =
          ap (on_done (spots_counted calls)) (turn_refused k nowhere t at l comma f q places ml used _
          (entry_short k f places skip (length ml - used) e few h s))

      -- the places that are left after the entry
      pub turn_passed : k ≤ length ml - used
          → (rest : List ℕ) × (length places ≡ skip + 1 + length rest)
          × (counted_from k t ml calls used at places ≡ counted_from k t ml (calls + 1) (used + k) (at + 1 + length f) rest)
      turn_passed s = (
        drop (skip + 1) places,
        omega (arith, length-drop (skip + 1) places),
        ap (on_done (spots_counted calls)) (turn_on k nowhere t at l comma f q places ml used _ _
            (entry_there k f places skip (length ml - used) e few h s))
            ∙ count_one calls (take (value f) places) (get_or places skip 0) (take k (drop used ml))
            (read_spots k nowhere (led_by 44 (up_to 59 (drop (at + 1 + length f) t))) (drop (skip + 1) places) (drop (used + k) ml)),
      )

-- at the group's end
pub count_last : (n : ℕ) (places ml : List ℕ) → on_done (spots_counted n) (Ok (map bare places, ml)) ≡ Ok (n, ml)
count_last n places ml = rw (calls_none places, add-zero n)

pub tracked_short : (b : ℕ) (seq : List ℕ) → length (tracked b seq) ≤ length seq
unfolding tracked
tracked_short b seq = places_length (holds b) 0 seq

-- ---- one group: its header h, k values to an entry, over the base b

-- no call of the group is denied: its header ends in '?', or none is named
pub quiet_question : (h : List ℕ) (named : ℕ → Bool) → ends_in_question h ≡ true → denied_to h named ≡ nowhere
quiet_question h named e = λ j p. go (named p) (ends_in_question h) e j
  where
    go : (b q : Bool) → q ≡ true → b && not q ≡ false
    go true true e = refl
    go false true e = refl
    go b false e = cc

pub quiet_unnamed : (h : List ℕ) (named : ℕ → Bool) → named ≡ nowhere → denied_to h named ≡ nowhere
quiet_unnamed h named e = ap (denied_to h) e

module _ (ml? : Bool) (named : ℕ → Bool) (seq t : List ℕ) (at : ℕ) (h : List ℕ) (q : h ≡ field_of (drop at t)) (ml : List ℕ) (long : 2 ≤ length h)
    (k b : ℕ) (kh : k ≡ values_if ml? h) (bh : b ≡ base_of h) (quiet : denied_to h named ≡ nowhere) where
  abbrev spots_read : Outcome (List Spot × List ℕ)
  spots_read = read_spots k nowhere (led_by 44 (up_to 59 (drop (at + length h) t))) (tracked b seq) ml

  group_is : read_group ml? named seq (up_to 59 (drop at t)) ml ≡ and_then spots_read (λ r. Ok (record { header = h; spots = r.0 }, r.1))
  group_is =
      group_on ml? named seq t at h q ml long
      ∙ (λ j. and_then (read_spots (sym kh j) (quiet j) (led_by 44 (up_to 59 (drop (at + length h) t))) (tracked (sym bh j) seq) ml) (λ r.
      Ok (record { header = h; spots = r.0 }, r.1)))

  pub group_refused : (r : Refusal) → spots_read ≡ Err r → read_group ml? named seq (up_to 59 (drop at t)) ml ≡ Err r
  group_refused r e = group_is ∙ rw e

  pub group_counted_lem : (n : ℕ) → on_done (group_counted n) (read_group ml? named seq (up_to 59 (drop at t)) ml) ≡ on_done (spots_counted n) spots_read
  group_counted_lem n = ap (on_done (group_counted n)) group_is ∙ go spots_read
    where
      go : (x : Outcome (List Spot × List ℕ))
          → on_done (group_counted n) (and_then x (λ r. Ok (record { header = h; spots = r.0 }, r.1))) ≡ on_done (spots_counted n) x
      go (Err r) = refl
      go (Ok r) = refl

-- ---- one turn over groups: the group at `at`, and those after it

-- the groups after one that left x
abbrev counted_after : ℕ → (List ℕ → Outcome (List Group)) → ℕ × List ℕ → Outcome (ℕ × ℕ)
counted_after g rest x = on_done (groups_counted (g + 1) x.0) (rest x.1)

count_group_more : (g n : ℕ) (x : Outcome (Group × List ℕ)) (rest : List ℕ → Outcome (List Group))
    → on_done (groups_counted g n) (and_then x (λ r. and_then (rest r.1) (λ gs. Ok (r.0 ∷ gs)))) ≡ and_then (on_done (group_counted n) x) (counted_after g rest)
count_group_more g n (Err r) rest = refl
count_group_more g n (Ok r) rest = go (rest r.1)
  where
    go : (y : Outcome (List Group))
        → on_done (groups_counted g n) (and_then y (λ gs. Ok (r.0 ∷ gs))) ≡ on_done (groups_counted (g + 1) (n + length (calls_in r.0.spots))) y
    go (Err q) = refl
    go (Ok gs) =
        let groups : g + suc (length gs) ≡ g + 1 + length gs = omega arith in
        let calls : n + (length (calls_in r.0.spots) + calls_of gs) ≡ n + length (calls_in r.0.spots) + calls_of gs = omega arith in
        λ j. Ok (groups j, calls j)

pub count_none : (g n : ℕ) → on_done (groups_counted g n) (Ok []) ≡ Ok (g, n)
count_none g n = rw (add-zero g, add-zero n)

module _ (ml? : Bool) (named : ℕ → Bool) (seq t : List ℕ) (at : ℕ) (l : at < length t) (last : last_or 0 t ≡ 59) (ml : List ℕ) where
  pub groups_refused : (r : Refusal) → read_group ml? named seq (up_to 59 (drop at t)) ml ≡ Err r
      → read_groups ml? named seq (closed_by 59 (drop at t)) ml ≡ Err r
  groups_refused r e = groups_at ml? named seq t at l last ml ∙ rw e

  pub groups_turn : (g n next group calls : ℕ) (left : List ℕ) → next ≡ at + length (up_to 59 (drop at t)) + 1 → group ≡ g + 1
      → on_done (group_counted n) (read_group ml? named seq (up_to 59 (drop at t)) ml) ≡ Ok (calls, left)
      → on_done (groups_counted g n) (read_groups ml? named seq (closed_by 59 (drop at t)) ml)
      ≡ on_done (groups_counted group calls) (read_groups ml? named seq (closed_by 59 (drop next t)) left)
  groups_turn g n next group calls left p q e =
      let rest : List ℕ → Outcome (List Group) = λ r. read_groups ml? named seq (closed_by 59 (drop (at + length (up_to 59 (drop at t)) + 1) t)) r in
      ap (on_done (groups_counted g n)) (groups_at ml? named seq t at l last ml)
      ∙ count_group_more g n (read_group ml? named seq (up_to 59 (drop at t)) ml) rest
      ∙ ap (λ (y : Outcome (ℕ × List ℕ)). and_then y (counted_after g rest)) e
      ∙ rw (p, q)

-- ---- what is asked of a text before its groups

module _ (ml? : Bool) (named : ℕ → Bool) (seq text ml : List ℕ) where
  pub read_three : every is_ascii text ≡ false → read ml? named seq text ml ≡ refuse 3
  unfolding read
  read_three h = rw h

  pub read_four : every is_ascii text ≡ true → eqb (last_or 0 text) 59 ≡ false → read ml? named seq text ml ≡ refuse 4
  unfolding read
  read_four h e = rw (h, e)

  pub read_on : every is_ascii text ≡ true → eqb (last_or 0 text) 59 ≡ true → cond ml? ml [] ≡ ml
      → read ml? named seq text ml ≡ read_groups ml? named seq (closed_by 59 text) ml
  unfolding read
  read_on h e taken = rw (h, e) (ap (read_groups ml? named seq (closed_by 59 text)) taken)

-- only as much of the row lent for ML is looked at as is taken
pub read_taken : (ml? : Bool) (named : ℕ → Bool) (seq text ml m : List ℕ) → m ≡ cond ml? ml [] → read ml? named seq text m ≡ read ml? named seq text ml
unfolding read
read_taken ml? named seq text ml m h = rw (h, taken_again ml? ml)

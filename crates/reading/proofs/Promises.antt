-- The promises of the code about meaning, from its contracts. A tag that `check_tag` accepts and `read_calls` lists says what SAMtags says. A tag to which
-- SAMtags gives a meaning is accepted with exactly its calls. `tally` counts the values of the calls.
-- Assumes nothing.
use Rattle.std.specs.Prelude.{Ok}
use mathlib.Core.Path.{◌≡◌, refl, ap, sym, ◌∙◌}
use Prim.Native.Nat.{ℕ, ◌+◌, ◌≤◌}
use native.Mathlib.Omega.{arith}
use mathlib.Core.Bool.{Bool, true, cond, ◌&&◌}
use mathlib.Core.List.{List, [], ◌∷◌, map}
use lib.Dec.{leb}
use lib.ListN.{length}
use borrow.Author.Tests.{le-leb}
use Rattle.lent.proofs.Filled.{leaves_done}
use Rattle.lent.proofs.Outcome.{and_then_inv, done_inj, need_rest, on_done_inv}
use Rattle.lent.specs.Filled.{leaves, over}
use Rattle.lent.specs.Lists.{every}
use Rattle.lent.specs.Outcome.{Outcome, on_done}
use Rattle.samtags.proofs.CanBeMet.{worked, worked_calls, worked_ml, worked_means}
use Rattle.samtags.proofs.Examples.{cs}
use Rattle.samtags.proofs.MeantIsRead.{listings_of, meant_is_accepted, none_on_u, spelled_is_meant}
use Rattle.samtags.proofs.Names.{upper_case}
use Rattle.samtags.proofs.ReadMeans.{Read-means, calls_of, no_u, reading_means}
use Rattle.samtags.proofs.Tally.{all_calls, tally_calls, tally_counts_all, tally_is_a_fold}
use Rattle.samtags.specs.Bytes.{ascii}
use Rattle.samtags.specs.Reading.{Tally, call_list, in_domain, lists, read_tag, tally_of, tally_tag}
use Rattle.samtags.specs.Samtags.{Spelled, TagMeans, is_spelling, meaning_of, piece_of, spelled}
use Rattle.samtags.specs.Spots.{Call, Listing}
use Rattle.samtags.specs.Text.{base_of}
use Rattle.reading.specs.Calls.{CallsRead, counts_of, group_column, listed_calls, place_column, read_calls, start_column}
use Rattle.reading.specs.PublicContracts.{ChecksTag, ReadsCalls, Tallies}
use Rattle.reading.proofs.Rising.{call_list_rises, comes_before, rising}

left : (column : List Listing → List ℕ) (o : Outcome (List Listing)) (ls : List Listing) (row : List ℕ) → o ≡ Ok ls
    → leaves column o row ≡ over (column ls) row
left column o ls row e = rw e (leaves_done column ls row)

-- ---- a tag that is accepted

-- ls are the listings of the tag: as many groups and calls as were answered, in rising order. On an upper-case SEQ with no group on U they are what
-- SAMtags says of the text.
pub record Accepted (ml? : Bool) (seq text ml : List ℕ) (groups calls : ℕ) (ls : List Listing) : Type 0 where
  pub read : read_tag ml? seq text ml ≡ Ok ls
  pub counts : ◌≡◌ {A = ℕ × ℕ} (counts_of ls) (groups, calls)
  pub rises : rising comes_before (call_list ls) ≡ true
  pub means : upper_case seq ≡ true → no_u ls ≡ true → Read-means ml? seq text ml ls

module _ (ml? : Bool) (seq text ml : List ℕ) (groups calls : ℕ) where
  accepted : (ls : List Listing) → read_tag ml? seq text ml ≡ Ok ls → ◌≡◌ {A = ℕ × ℕ} (counts_of ls) (groups, calls)
      → Accepted ml? seq text ml groups calls ls
  unfolding read_tag
  accepted ls e counted =
      record {
        read = e;
        counts = counted;
        rises = call_list_rises ml? seq text ml ls e;
        means = reading_means ml? seq text ml ls (need_rest (in_domain ml? seq text ml) 1 (lists ml? seq text ml) ls e);
      }

  -- `check_tag` answered Ok
  pub check_tag_means : ChecksTag ml? seq text ml (Ok (groups, calls)) → (ls : List Listing) × Accepted ml? seq text ml groups calls ls
  check_tag_means e =
      let i = on_done_inv counts_of (read_tag ml? seq text ml) (groups, calls) (sym e) in
      (i.0, accepted i.0 i.1 i.2)

  -- `read_calls` answered Ok, and left these columns
  pub read_calls_mean : (gs ps ss gs' ps' ss' : List ℕ)
      → ReadsCalls ml? seq text ml gs ps ss (Ok (groups, calls)) gs' ps' ss'
      → (ls : List Listing) × Accepted ml? seq text ml groups calls ls
      × (gs' ≡ over (group_column ls) gs) × (ps' ≡ over (place_column ls) ps) × (ss' ≡ over (start_column ls) ss)
  unfolding read_calls listed_calls
  read_calls_mean gs ps ss gs' ps' ss' e =
      let o = listed_calls ml? seq text ml (length gs) (length ps) (length ss) in
      let i = on_done_inv counts_of o (groups, calls) (sym (ap (λ (c : CallsRead). c.answer) e)) in
      let n : List Listing → ℕ = λ ls. length (call_list ls) in
      let room : List Listing → Bool = λ ls. leb (n ls) (length gs) && leb (n ls) (length ps) && leb (n ls) (length ss) in
      let j = and_then_inv (read_tag ml? seq text ml) _ i.0 i.1 in
      let same : j.0 ≡ i.0 = done_inj (need_rest (room j.0) 12 (Ok j.0) i.0 j.2) in (
        i.0,
        accepted i.0 (j.1 ∙ ap Ok same) i.2,
        ap (λ (c : CallsRead). c.groups) e ∙ left group_column o i.0 gs i.1,
        ap (λ (c : CallsRead). c.places) e ∙ left place_column o i.0 ps i.1,
        ap (λ (c : CallsRead). c.starts) e ∙ left start_column o i.0 ss i.1,
      )

-- ---- a tag that is read is listed

-- the columns have room for these calls
abbrev pub Room : List Listing → List ℕ → List ℕ → List ℕ → Type 0
Room ls gs ps ts = (length (call_list ls) ≤ length gs) × (length (call_list ls) ≤ length ps) × (length (call_list ls) ≤ length ts)

-- the answer is Ok with the number of groups and calls; the front of each column holds the calls, and the rest is unchanged
abbrev pub Listed : List Listing → List ℕ → List ℕ → List ℕ → Outcome (ℕ × ℕ) → List ℕ → List ℕ → List ℕ → Type 0
Listed ls gs ps ts r gs' ps' ts' =
    (r ≡ Ok (counts_of ls)) × (gs' ≡ over (group_column ls) gs) × (ps' ≡ over (place_column ls) ps) × (ts' ≡ over (start_column ls) ts)

-- `read_calls` answers Ok on a tag that is read, whenever its columns have room
pub read_calls_with_room : (ml? : Bool) (seq text ml : List ℕ) (ls : List Listing) → read_tag ml? seq text ml ≡ Ok ls
    → (gs ps ts : List ℕ) → Room ls gs ps ts → (r : Outcome (ℕ × ℕ)) (gs' ps' ts' : List ℕ) → ReadsCalls ml? seq text ml gs ps ts r gs' ps' ts'
    → Listed ls gs ps ts r gs' ps' ts'
unfolding read_calls listed_calls
read_calls_with_room ml? seq text ml ls read gs ps ts room r gs' ps' ts' e =
    let n = length (call_list ls) in
    let o = listed_calls ml? seq text ml (length gs) (length ps) (length ts) in
    let is : o ≡ Ok ls = rw (read, le-leb n (length gs) room.0, le-leb n (length ps) room.1, le-leb n (length ts) room.2) in (
      ap (λ (c : CallsRead). c.answer) e ∙ ap (on_done counts_of) is,
      ap (λ (c : CallsRead). c.groups) e ∙ left group_column o ls gs is,
      ap (λ (c : CallsRead). c.places) e ∙ left place_column o ls ps is,
      ap (λ (c : CallsRead). c.starts) e ∙ left start_column o ls ts is,
    )

-- ---- a tag that SAMtags gives a meaning

-- For a tag spelled as SAMtags says, with no group on U and within the domain, `check_tag` answers with the number of its groups and of the calls it means.
pub check_tag_accepts : (ml? : Bool) (seq : List ℕ) (s : Spelled) (ss : List Spelled) (ml : List ℕ) (css : List (List Call)) (r : Outcome (ℕ × ℕ))
    → every is_spelling (s ∷ ss) ≡ true → none_on_u (s ∷ ss) ≡ true → upper_case seq ≡ true
    → TagMeans seq (cond ml? ml []) (map (meaning_of ml?) (s ∷ ss)) css → in_domain ml? seq (spelled (map piece_of (s ∷ ss))) ml ≡ true
    → ChecksTag ml? seq (spelled (map piece_of (s ∷ ss))) ml r
    → r ≡ Ok (counts_of (listings_of (s ∷ ss) css))
check_tag_accepts ml? seq s ss ml css r ok none upper means within e =
    e ∙ ap (on_done counts_of) (meant_is_accepted ml? seq s ss ml css ok none upper means within)

-- The same for `read_calls`: if the list fits the columns, it is exactly the list of the calls that SAMtags gives; the rest of each column is unchanged.
pub read_calls_lists : (ml? : Bool) (seq : List ℕ) (s : Spelled) (ss : List Spelled) (ml : List ℕ) (css : List (List Call))
    → every is_spelling (s ∷ ss) ≡ true → none_on_u (s ∷ ss) ≡ true → upper_case seq ≡ true
    → TagMeans seq (cond ml? ml []) (map (meaning_of ml?) (s ∷ ss)) css → in_domain ml? seq (spelled (map piece_of (s ∷ ss))) ml ≡ true
    → (gs ps ts : List ℕ) → Room (listings_of (s ∷ ss) css) gs ps ts → (r : Outcome (ℕ × ℕ)) (gs' ps' ts' : List ℕ)
    → ReadsCalls ml? seq (spelled (map piece_of (s ∷ ss))) ml gs ps ts r gs' ps' ts'
    → Listed (listings_of (s ∷ ss) css) gs ps ts r gs' ps' ts'
read_calls_lists ml? seq s ss ml css ok none upper means within =
    read_calls_with_room ml? seq (spelled (map piece_of (s ∷ ss))) ml (listings_of (s ∷ ss) css)
    (meant_is_accepted ml? seq s ss ml css ok none upper means within)

-- ---- and a tag so spelled that is accepted has that meaning, where codes count as SAMtags says

module _ (ml? : Bool) (seq : List ℕ) (ss : List Spelled) (ml : List ℕ) (spelt : every is_spelling ss ≡ true) (none : none_on_u ss ≡ true) (upper : upper_case seq ≡ true) where
  is_meant : (ls : List Listing) → read_tag ml? seq (spelled (map piece_of ss)) ml ≡ Ok ls
      → (ls ≡ listings_of ss (calls_of ls)) × TagMeans seq (cond ml? ml []) (map (meaning_of ml?) ss) (calls_of ls)
  unfolding read_tag
  is_meant ls e = spelled_is_meant ml? seq ss ml ls spelt none upper (need_rest (in_domain ml? seq (spelled (map piece_of ss)) ml) 1 _ ls e)

  pub check_tag_is_meant : (groups calls : ℕ) → ChecksTag ml? seq (spelled (map piece_of ss)) ml (Ok (groups, calls))
      → (css : List (List Call)) × TagMeans seq (cond ml? ml []) (map (meaning_of ml?) ss) css
      × (◌≡◌ {A = ℕ × ℕ} (counts_of (listings_of ss css)) (groups, calls))
  check_tag_is_meant groups calls e =
      let (ls, acc) = check_tag_means ml? seq (spelled (map piece_of ss)) ml groups calls e in
      let m = is_meant ls acc.read in
      (calls_of ls, m.1, ap counts_of (sym m.0) ∙ acc.counts)

  pub read_calls_is_meant : (groups calls : ℕ) (gs ps ts gs' ps' ts' : List ℕ)
      → ReadsCalls ml? seq (spelled (map piece_of ss)) ml gs ps ts (Ok (groups, calls)) gs' ps' ts'
      → (css : List (List Call)) × TagMeans seq (cond ml? ml []) (map (meaning_of ml?) ss) css
      × (◌≡◌ {A = ℕ × ℕ} (counts_of (listings_of ss css)) (groups, calls))
      × (gs' ≡ over (group_column (listings_of ss css)) gs) × (ps' ≡ over (place_column (listings_of ss css)) ps)
      × (ts' ≡ over (start_column (listings_of ss css)) ts)
  read_calls_is_meant groups calls gs ps ts gs' ps' ts' e =
      let (ls, acc, g, p, t) = read_calls_mean ml? seq (spelled (map piece_of ss)) ml groups calls gs ps ts gs' ps' ts' e in
      let m = is_meant ls acc.read in (
        calls_of ls,
        m.1,
        ap counts_of (sym m.0) ∙ acc.counts,
        g ∙ ap (λ (l : List Listing). over (group_column l) gs) m.0,
        p ∙ ap (λ (l : List Listing). over (place_column l) ps) m.0,
        t ∙ ap (λ (l : List Listing). over (start_column l) ts) m.0,
      )

-- ---- the tally

-- `tally` answered Ok: its numbers are a fold over the calls that are read, and no value is invented
pub tally_means : (seq text ml : List ℕ) (above below : ℕ) → Tallies seq text ml (Ok (above, below))
    → (ls : List Listing) × (read_tag true seq text ml ≡ Ok ls)
    × (◌≡◌ {A = Tally} (record { above = above; below = below }) (tally_calls (all_calls ls))) × (above + below ≡ length ml)
unfolding tally_tag read_tag
tally_means seq text ml above below e =
    let i = and_then_inv (read_tag true seq text ml) _ (record { above = above; below = below }) (sym e) in
    let counted : ◌≡◌ {A = Tally} (record { above = above; below = below }) (tally_of ml) = sym (done_inj i.2) in
    let read = need_rest (in_domain true seq text ml) 1 (lists true seq text ml) i.0 i.1 in (
      i.0,
      i.1,
      counted ∙ tally_is_a_fold seq text ml i.0 read,
      ap (λ (t : Tally). t.above + t.below) counted ∙ tally_counts_all ml,
    )

-- ---- SAMtags' own example, `C+m,5,12,0;` on twenty Cs: all that these promises ask for holds of it together

abbrev fours : List ℕ
fours = 4 ∷ 4 ∷ 4 ∷ 4 ∷ []

-- whatever `read_calls` answers and leaves in columns of four 4s
pub worked_calls_lem : (r : Outcome (ℕ × ℕ)) (gs' ps' ts' : List ℕ) → ReadsCalls true cs (ascii "C+m,5,12,0;") worked_ml fours fours fours r gs' ps' ts'
    → (r ≡ Ok (1, 3)) × (gs' ≡ 1 ∷ 1 ∷ 1 ∷ 4 ∷ []) × (ps' ≡ 5 ∷ 18 ∷ 19 ∷ 4 ∷ []) × (ts' ≡ 0 ∷ 1 ∷ 2 ∷ 4 ∷ [])
unfolding is_spelling base_of call_list over
worked_calls_lem r gs' ps' ts' e =
    read_calls_lists true cs worked [] worked_ml (worked_calls ∷ []) refl refl refl worked_means refl fours fours fours
    (omega arith, omega arith, omega arith) r gs' ps' ts' e

worked_checked : ChecksTag true cs (ascii "C+m,5,12,0;") worked_ml (Ok (1, 3))
unfolding read_tag call_list
worked_checked = refl

pub worked_meant : (css : List (List Call)) × TagMeans cs worked_ml (map (meaning_of true) (worked ∷ [])) css
    × (◌≡◌ {A = ℕ × ℕ} (counts_of (listings_of (worked ∷ []) css)) (1, 3))
unfolding is_spelling base_of
worked_meant = check_tag_is_meant true cs (worked ∷ []) worked_ml refl refl refl 1 3 worked_checked

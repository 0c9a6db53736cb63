-- From the contract of the walk over a tag to the answers of the public calls, and the rows after them.
-- Assumes nothing.
use Rattle.std.specs.Prelude.{Ok, Err, Some, None}
use Rattle.scanning.specs.declared.Cursor.{Cursor}
use Rattle.measuring.specs.declared.Count.{Count}
use mathlib.Core.Path.{◌≡◌, refl, ◌∙◌, ap, subst, sym}
use Prim.Native.Nat.{◌+◌, ◌-◌, suc, ℕ, ◌<◌, ◌≤◌}
use native.Mathlib.Omega.{arith}
use mathlib.Core.Bool.{Bool, false, true, ◌&&◌}
use mathlib.Core.List.{List, [], ◌∷◌, map}
use lib.Dec.{leb}
use lib.ListN.{length, length-append, length-map}
use lib.Seq.{sets}
use borrow.Author.Tests.{le-leb, lt-leb}
use Rattle.lent.proofs.Filled.{over_stored}
use Rattle.lent.proofs.Outcome.{done_inj}
use Rattle.lent.specs.Filled.{leaves, over}
use Rattle.lent.specs.Lists.{filter}
use Rattle.lent.specs.Outcome.{Outcome, and_then, need, on_done, refuse}
use Rattle.lent.specs.declared.Refusal.{Refusal}
use Rattle.samtags.proofs.Tally.{tally_counts_all}
use Rattle.samtags.specs.Reading.{in_domain, is_above, is_below, nowhere, read, read_tag, rows_from, rows_of, values_in, tally_of, tally_tag, Row, call_list, lists}
use Rattle.samtags.specs.Spots.{Group, Listing, calls_in, listing}
use Rattle.reading.proofs.CheckLaws.{tested}
use Rattle.reading.specs.Calls.{counts_of, calls_read, listed_calls, read_calls}
use Rattle.reading.specs.Measured.{TagMeasured}
use Rattle.scanning.specs.Scanning.{Columns, Finished, TagScanned, columns, finished, with_rows}
use Rattle.scanning.proofs.ScanLaws.{rows_count}
use Rattle.measuring.specs.Counting.{TagCounted, calls_of, groups_counted}

-- ---- the walk that needs no places

rows_all : (g u : ℕ) (gs : List Group) → length (rows_from g u (map listing gs)) ≡ calls_of gs
rows_all g u [] = refl
rows_all g u (x ∷ gs) =
    let cs = calls_in x.spots in
    omega (arith, length-append (rows_of g u cs) (rows_from (suc g) (u + values_in cs) (map listing gs)), rows_count g u cs, rows_all (suc g) (u + values_in cs) gs)

counts_are : (o : Outcome (List Group)) → on_done (λ gs. counts_of (map listing gs)) o ≡ on_done (groups_counted 0 0) o
unfolding call_list
counts_are (Err r) = refl
counts_are (Ok gs) =
    let groups : length (map listing gs) ≡ 0 + length gs = omega (arith, length-map gs listing) in
    let calls : length (rows_from 1 0 (map listing gs)) ≡ 0 + calls_of gs = omega (arith, rows_all 1 0 gs) in
    λ j. Ok (groups j, calls j)

pub measured : (o : Outcome (List Group)) (d : Count) → TagCounted false o (Ok (Some d)) → TagMeasured o (Ok d)
measured o d h = counts_are o ∙ h

-- no call is marked, so the places are not needed
pub never_none : (o : Outcome (List Group)) → TagCounted false o (Ok None) → ⊥
never_none o h = let z : ◌≡◌ {A = ℕ} 0 1 = cc in absurd (omega arith)

pub refused_with : (o : Outcome (List Group)) (r : Outcome Count) (q : Refusal) → r ≡ Err q → TagMeasured o r → o ≡ Err q
refused_with o r q e h = subst (TagMeasured o) e h

-- ---- the answers

module _ (ml? : Bool) (seq text ml : List ℕ) where
  pub read_tag_is : read_tag ml? seq text ml ≡ on_done (map listing) (tested ml? seq text ml)
  unfolding read_tag lists
  read_tag_is = go (in_domain ml? seq text ml) (read ml? nowhere seq text ml)
    where
      go : (t : Bool) (o : Outcome (List Group)) → need t 1 (and_then o (λ gs. Ok (map listing gs))) ≡ on_done (map listing) (need t 1 o)
      go false o = refl
      go true (Err r) = refl
      go true (Ok gs) = refl

  pub tag_refused : (r : Refusal) → tested ml? seq text ml ≡ Err r → read_tag ml? seq text ml ≡ Err r
  tag_refused r e = read_tag_is ∙ rw e

  pub tag_counted : (groups calls : ℕ) → on_done (λ gs. counts_of (map listing gs)) (tested ml? seq text ml) ≡ Ok (groups, calls)
      → on_done counts_of (read_tag ml? seq text ml) ≡ Ok (groups, calls)
  tag_counted groups calls e = ap (on_done counts_of) read_tag_is ∙ go (tested ml? seq text ml) ∙ e
    where
      go : (o : Outcome (List Group)) → on_done counts_of (on_done (map listing) o) ≡ on_done (λ gs. counts_of (map listing gs)) o
      go (Err r) = refl
      go (Ok gs) = refl

on_done_inv : {A B : Type 0} (f : A → B) (o : Outcome A) (b : B) → on_done f o ≡ Ok b → (a : A) × (o ≡ Ok a) × (f a ≡ b)
on_done_inv f (Err r) b e = let z : ◌≡◌ {A = ℕ} 0 1 = cc in absurd (omega arith)
on_done_inv f (Ok a) b e = (a, refl, done_inj e)

-- ---- the tally

pub tally_refused : (seq text ml : List ℕ) (r : Refusal) → tested true seq text ml ≡ Err r → tally_tag seq text ml ≡ Err r
unfolding tally_tag
tally_refused seq text ml r e = rw (tag_refused true seq text ml r e)

pub tally_done : (seq text ml : List ℕ) (above groups calls : ℕ) → on_done (λ gs. counts_of (map listing gs)) (tested true seq text ml) ≡ Ok (groups, calls)
    → above ≡ length (filter is_above ml) → tally_tag seq text ml ≡ Ok (record { above = above; below = length ml - above })
unfolding tally_tag tally_of
tally_done seq text ml above groups calls e h =
    let w = on_done_inv (λ gs. counts_of (map listing gs)) (tested true seq text ml) (groups, calls) e in
    let all = tally_counts_all ml in
    let below : length (filter is_below ml) ≡ length ml - above = omega arith in
    ap (λ (o : Outcome (List Listing)). and_then o (λ ls. Ok (tally_of ml))) (read_tag_is true seq text ml ∙ ap (on_done (map listing)) w.1)
    ∙ (λ j. Ok (record { above = sym h j; below = below j }))

-- ---- the call list

module _ (ml? : Bool) (seq text ml gs ps ss : List ℕ) where
  pub calls_refused : (r : Refusal) → read_tag ml? seq text ml ≡ Err r → read_calls ml? seq text ml gs ps ss ≡ calls_read (Err r) gs ps ss
  unfolding read_calls listed_calls leaves
  calls_refused r e = rw e

  module _ (ls : List Listing) (e : read_tag ml? seq text ml ≡ Ok ls) where
    fits : Bool
    fits = leb (length (call_list ls)) (length gs) && leb (length (call_list ls)) (length ps) && leb (length (call_list ls)) (length ss)

    no_room : fits ≡ false → read_calls ml? seq text ml gs ps ss ≡ calls_read (refuse 12) gs ps ss
    unfolding read_calls listed_calls leaves fits
    no_room f = rw (e, f)

    module _ (n : ℕ) (count : length (call_list ls) ≡ n) where
      pub short_groups : length gs < n → read_calls ml? seq text ml gs ps ss ≡ calls_read (refuse 12) gs ps ss
      unfolding fits
      short_groups h = no_room (rw (lt-leb (length (call_list ls)) (length gs) (omega arith)))

      pub short_places : n ≤ length gs → length ps < n → read_calls ml? seq text ml gs ps ss ≡ calls_read (refuse 12) gs ps ss
      unfolding fits
      short_places a h =
          no_room (rw (le-leb (length (call_list ls)) (length gs) (omega arith), lt-leb (length (call_list ls)) (length ps) (omega arith)))

      pub short_starts : n ≤ length gs → n ≤ length ps → length ss < n → read_calls ml? seq text ml gs ps ss ≡ calls_read (refuse 12) gs ps ss
      unfolding fits
      short_starts a b h =
          no_room (rw (
            le-leb (length (call_list ls)) (length gs) (omega arith),
            le-leb (length (call_list ls)) (length ps) (omega arith),
            lt-leb (length (call_list ls)) (length ss) (omega arith),
          ))

      pub calls_done : n ≤ length gs → n ≤ length ps → n ≤ length ss → (gs' ps' ss' : List ℕ)
          → with_rows (columns gs ps ss) 0 (call_list ls) ≡ columns gs' ps' ss' → read_calls ml? seq text ml gs ps ss ≡ calls_read (Ok (counts_of ls)) gs' ps' ss'
      unfolding read_calls listed_calls leaves
      calls_done a b c gs' ps' ss' h =
          rw (
            e,
            le-leb (length (call_list ls)) (length gs) (omega arith),
            le-leb (length (call_list ls)) (length ps) (omega arith),
            le-leb (length (call_list ls)) (length ss) (omega arith),
          )
          (λ j. calls_read (Ok (counts_of ls)) (front (λ r. r.group) gs (omega arith) gs' (ap (λ (x : Columns). x.groups) h) j)
          (front (λ r. r.place) ps (omega arith) ps' (ap (λ (x : Columns). x.places) h) j) (front (λ r. r.start) ss (omega arith) ss' (ap (λ (x : Columns). x.starts) h) j))
        where
          front : (f : Row → ℕ) (old : List ℕ) → length (call_list ls) ≤ length old → (new : List ℕ) → sets old 0 (map f (call_list ls)) ≡ new → over (map f (call_list ls)) old ≡ new
          front f old l new q = sym (over_stored (map f (call_list ls)) old (omega (arith, length-map (call_list ls) f))) ∙ q

-- a tag that the first walk accepts: its groups, and what the reader makes of them
pub tag_known : (ml? : Bool) (seq text ml : List ℕ) (groups calls : ℕ) → on_done (λ gs. counts_of (map listing gs)) (tested ml? seq text ml) ≡ Ok (groups, calls)
    → (gs : List Group) × (tested ml? seq text ml ≡ Ok gs) × (read_tag ml? seq text ml ≡ Ok (map listing gs)) × (counts_of (map listing gs) ≡ (groups, calls))
tag_known ml? seq text ml groups calls e =
    let w = on_done_inv (λ gs. counts_of (map listing gs)) (tested ml? seq text ml) (groups, calls) e in
    (w.0, w.1, read_tag_is ml? seq text ml ∙ ap (on_done (map listing)) w.1, w.2)

-- the columns after a walk over groups that are read
pub scanned_rows : (o : Outcome (List Group)) (before : Columns) (r : Outcome Cursor) (after : Columns) (gs : List Group) → o ≡ Ok gs
    → TagScanned o before r after → with_rows before 0 (call_list (map listing gs)) ≡ after
unfolding call_list
scanned_rows o before (Err q) after gs e h = let x : Err q ≡ Ok gs = sym h ∙ e in let z : ◌≡◌ {A = ℕ} 0 1 = cc in absurd (omega arith)
scanned_rows o before (Ok d) after gs e h = ap (λ (f : Finished). f.rows) (done_inj (ap (on_done (finished 0 before 0 0)) (sym e) ∙ h))

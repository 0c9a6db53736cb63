-- The list of calls with its places counted in the stored read: from the columns that the plain reader left to those of the stored read.
-- Assumes nothing.
use Rattle.std.specs.Prelude.{Ok, Err}
use mathlib.Core.Path.{◌≡◌, sym, ap, ◌∙◌}
use Prim.Native.Nat.{ℕ, ◌≤◌}
use native.Mathlib.Omega.{arith}
use mathlib.Core.Bool.{Bool, true, false}
use mathlib.Core.List.{List, map, ◌++◌}
use lib.ListN.{drop, length, length-append, length-map, take}
use lib.Seq.{drop-append_seam, length-take-le}
use Rattle.lent.proofs.Filled.{over_front}
use Rattle.lent.proofs.Outcome.{done_inj}
use Rattle.lent.specs.Filled.{leaves, over}
use Rattle.lent.specs.Outcome.{Outcome, on_done}
use Rattle.lent.specs.declared.Refusal.{Refusal}
use Rattle.packed.specs.Stored.{mirrored}
use Rattle.reading.specs.Calls.{CallsRead, calls_read, counts_of, group_column, place_column, start_column}
use Rattle.samtags.specs.Reading.{Row, call_list}
use Rattle.samtags.specs.Spots.{Listing}
use Rattle.stored.specs.Mirrors.{CallsIn, places_as_stored}
use Rattle.stored.specs.Reads.{stored_column}

-- a list put over another of the same length
over_again : (f : ℕ → ℕ) (col row : List ℕ) → over (map f col) (over col row) ≡ over (map f col) row
unfolding over
over_again f col row = rw (length-map col f, drop-append_seam col (drop (length col) row))

-- the listed places, mirrored in the column that the plain reader left
mirrored_column : (n k : ℕ) (col places : List ℕ) → k ≡ length col
    → over (map (mirrored n) (take k (over col places))) (over col places) ≡ over (map (mirrored n) col) places
mirrored_column n k col places e =
    let front : take k (over col places) ≡ col = ap (λ (i : ℕ). take i (over col places)) e ∙ over_front col places in
    ap (λ (l : List ℕ). over (map (mirrored n) l) (over col places)) front ∙ over_again (mirrored n) col places

-- the front of a column that was lent and came back mirrored
pub front_mirrored : (n k j : ℕ) (places new : List ℕ) → j ≡ k → k ≤ length places → new ≡ map (mirrored n) (take j places)
    → new ++ drop j places ≡ over (map (mirrored n) (take k places)) places
unfolding over
front_mirrored n k j places new e l f =
    let long : length (map (mirrored n) (take k places)) ≡ k = length-map (take k places) (mirrored n) ∙ length-take-le k places l in
    ap (λ (x : List ℕ). x ++ drop j places) f
    ∙ ap (λ (i : ℕ). map (mirrored n) (take i places) ++ drop i places) e
    ∙ ap (λ (i : ℕ). map (mirrored n) (take k places) ++ drop i places) (sym long)

module _ (reverse : Bool) (n : ℕ) (groups places starts g p s : List ℕ) where
  -- the plain reader's columns, for the outcome o
  abbrev Left : Outcome (ℕ × ℕ) → Outcome (List Listing) → Type 0
  Left r o = calls_read r g p s ≡ calls_read (on_done counts_of o) (leaves group_column o groups) (leaves place_column o places) (leaves start_column o starts)

  counted : (a b : ℕ) (ls : List Listing) → ◌≡◌ {A = Outcome (ℕ × ℕ)} (Ok (a, b)) (Ok (counts_of ls)) → b ≡ length (place_column ls)
  counted a b ls e =
      let pair : ◌≡◌ {A = ℕ × ℕ} (a, b) (counts_of ls) = done_inj e in
      ap (λ (q : ℕ × ℕ). q.1) pair ∙ sym (length-map (call_list ls) (λ (r : Row). r.place))

  pub calls_fit : (r : Outcome (ℕ × ℕ)) (o : Outcome (List Listing)) → Left r o → CallsIn r (length p)
  unfolding leaves over
  calls_fit (Ok (a, b)) (Ok ls) e =
      let long = counted a b ls (ap (λ (x : CallsRead). x.answer) e) in
      let is : p ≡ over (place_column ls) places = ap (λ (x : CallsRead). x.places) e in
      let sum = length-append (place_column ls) (drop (length (place_column ls)) places) in
      omega (arith, long, ap length is, sum)
  calls_fit (Ok (a, b)) (Err q) e =
      let x : ◌≡◌ {A = Outcome (ℕ × ℕ)} (Ok (a, b)) (Err q) = ap (λ (x : CallsRead). x.answer) e in
      let z : ◌≡◌ {A = ℕ} 0 1 = cc in absurd (omega arith)
  calls_fit (Err r) o e = tt

  pub columns_stored : (r : Outcome (ℕ × ℕ)) (o : Outcome (List Listing)) → Left r o
      → calls_read r g (places_as_stored r reverse n p) s
      ≡ calls_read (on_done counts_of o) (leaves group_column o groups) (leaves (stored_column reverse n) o places) (leaves start_column o starts)
  unfolding leaves
  columns_stored (Ok (a, b)) (Ok ls) e =
      let long = counted a b ls (ap (λ (x : CallsRead). x.answer) e) in
      let is : p ≡ over (place_column ls) places = ap (λ (x : CallsRead). x.places) e in
      let column = by_way reverse b ls long is in
      λ j. calls_read (e j).answer (e j).groups (column j) (e j).starts
    where
      by_way : (way : Bool) (b : ℕ) (ls : List Listing) → b ≡ length (place_column ls) → p ≡ over (place_column ls) places
          → places_as_stored (Ok (a, b)) way n p ≡ over (stored_column way n ls) places
      by_way true b ls long is =
          ap (λ (q : List ℕ). over (map (mirrored n) (take b q)) q) is ∙ mirrored_column n b (place_column ls) places long
      by_way false b ls long is = is
  columns_stored (Ok (a, b)) (Err q) e =
      let x : ◌≡◌ {A = Outcome (ℕ × ℕ)} (Ok (a, b)) (Err q) = ap (λ (x : CallsRead). x.answer) e in
      let z : ◌≡◌ {A = ℕ} 0 1 = cc in absurd (omega arith)
  columns_stored (Err r) (Ok ls) e =
      let x : ◌≡◌ {A = Outcome (ℕ × ℕ)} (Err r) (Ok (counts_of ls)) = ap (λ (x : CallsRead). x.answer) e in
      let z : ◌≡◌ {A = ℕ} 0 1 = cc in absurd (omega arith)
  columns_stored (Err r) (Err q) e = e

-- a refused call leaves every column
pub calls_left : (column : List Listing → List ℕ) (groups places starts : List ℕ) (o : Outcome (List Listing)) (r : Refusal) → o ≡ Err r
    → calls_read (Err r) groups places starts
    ≡ calls_read (on_done counts_of o) (leaves group_column o groups) (leaves column o places) (leaves start_column o starts)
unfolding leaves
calls_left column groups places starts o r e = rw e

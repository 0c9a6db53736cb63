-- Laws of the walk, for both directions: the walk from the loop's present operation on, the places of one operation one by one, and how far the places
-- reach.
-- Assumes nothing.
use mathlib.Core.Path.{◌≡◌, refl, sym, ap, ◌∙◌}
use mathlib.Core.Bool.{Bool, true, false}
use mathlib.Core.List.{List, [], ◌∷◌, ◌++◌, append_assoc, append-nil}
use Prim.Native.Nat.{ℕ, zero, suc, ◌+◌, ◌-◌, ◌≤◌, ◌<◌}
use native.Mathlib.Numerals.{add-one}
use native.Mathlib.Omega.{arith}
use lib.IntN.{ℤ, pos}
use lib.ListN.{length, get_or, take, drop, replicate, drop_of_length-le, length-replicate, length-append, replicate-append-replicate, length-reverse}
use lib.Seq.{drop-cons}
use Rattle.lent.specs.Filled.{over}
use Rattle.lent.proofs.Filled.{over_none, length_over, over_part}
use Rattle.lent.proofs.Tests.{by-test}
use Rattle.cigar.specs.Cigar.{kind_of, takes_bases, takes_places, bases_taken, places_taken, total, query_length, reference_span}
use Rattle.cigar.specs.Cigar.{missing, up_from, down_from, placed}
use Rattle.walking.specs.Walk.{in_order_of, run, place_of, moved, walked, Reaches}
use Rattle.cigar.proofs.Totals.{total_on, total_reverse}

-- ---- one operation

pub up_more : (p n : ℕ) → up_from p (suc n) ≡ up_from p n ++ (pos (p + n) ∷ [])
up_more p zero = let e : p ≡ p + 0 = omega arith in ap (λ (q : ℕ). pos q ∷ []) e
up_more p (suc n) = let e : suc p + n ≡ p + suc n = omega arith in ap (λ (l : List ℤ). pos p ∷ l) (up_more (suc p) n ∙ rw e)

down_more : (e n : ℕ) → down_from e (suc n) ≡ down_from e n ++ (pos (e - suc n) ∷ [])
down_more e zero = refl
down_more e (suc n) = let d : e - 1 - suc n ≡ e - suc (suc n) = omega arith in ap (λ (l : List ℤ). pos (e - 1) ∷ l) (down_more (e - 1) n ∙ rw d)

-- one place more
pub run_more : (r : Bool) (p n : ℕ) → run r p (n + 1) ≡ run r p n ++ (place_of r p n ∷ [])
run_more false p n = rw add-one (up_more p n)
run_more true p n = rw add-one (down_more p n)

pub run_none : (r : Bool) (p : ℕ) → run r p 0 ≡ []
run_none false p = refl
run_none true p = refl

length_up : (p n : ℕ) → length (up_from p n) ≡ n
length_up p zero = refl
length_up p (suc n) = ap suc (length_up (suc p) n)

length_down : (e n : ℕ) → length (down_from e n) ≡ n
length_down e zero = refl
length_down e (suc n) = ap suc (length_down (e - 1) n)

pub length_run : (r : Bool) (p n : ℕ) → length (run r p n) ≡ n
length_run false p n = length_up p n
length_run true p n = length_down p n

-- an operation that takes places gives its bases these places; another gives missing ones
pub placed_yes : (word : ℕ) (l : List ℤ) → takes_places (kind_of word) ≡ true → placed word l ≡ l
placed_yes word l e = rw e

pub placed_no : (word : ℕ) (l : List ℤ) → takes_places (kind_of word) ≡ false → placed word l ≡ replicate (bases_taken word) missing
placed_no word l e = rw e

pub length_placed : (r : Bool) (p word : ℕ) → length (placed word (run r p (bases_taken word))) ≡ bases_taken word
length_placed r p word =
    by-test (takes_places (kind_of word))
    (λ e. rw (placed_yes word (run r p (bases_taken word)) e) (length_run r p (bases_taken word)))
    (λ e. rw (placed_no word (run r p (bases_taken word)) e) (length-replicate (bases_taken word) missing))

-- where an operation takes places, its bases are at most those
pub bases_within : (word : ℕ) → takes_places (kind_of word) ≡ true → bases_taken word ≤ places_taken word
bases_within word e =
    by-test (takes_bases (kind_of word)) (λ b. rw (e, b) (omega arith)) (λ b. rw b (omega arith))

pub missing_more : (n : ℕ) → replicate (n + 1) missing ≡ replicate n missing ++ (missing ∷ [])
missing_more n = sym (replicate-append-replicate n 1 missing)

-- ---- how far the places reach

pub reaches_fewer : (r : Bool) (p n m : ℕ) → Reaches r p n → m ≤ n → Reaches r p m
reaches_fewer false p n m h le = omega arith
reaches_fewer true p n m h le = omega arith

pub reaches_on : (r : Bool) (p n m : ℕ) → Reaches r p (n + m) → Reaches r (moved r p n) m
reaches_on false p n m h = omega arith
reaches_on true p n m h = omega arith

-- ---- the walk

pub walked_end : (r : Bool) (p : ℕ) (ws : List ℕ) (i : ℕ) → length ws ≤ i → walked r p (drop i ws) ≡ []
walked_end false p ws i h = rw (drop_of_length-le ws h)
walked_end true p ws i h = rw (drop_of_length-le ws h)

pub walked_on : (r : Bool) (p : ℕ) (ws : List ℕ) (i w : ℕ) → i < length ws → w ≡ get_or ws i 0
    → walked r p (drop i ws) ≡ placed w (run r p (bases_taken w)) ++ walked r (moved r p (places_taken w)) (drop (i + 1) ws)
walked_on false p ws i w h e = rw (e, add-one, drop-cons ws i 0 h)
walked_on true p ws i w h e = rw (e, add-one, drop-cons ws i 0 h)

-- ---- the operations in the walk's order

pub length_in_order : (r : Bool) (l : List ℕ) → length (in_order_of r l) ≡ length l
length_in_order false l = refl
length_in_order true l = length-reverse l

pub total_in_order : (taken : ℕ → ℕ) (r : Bool) (l : List ℕ) → total taken (in_order_of r l) ≡ total taken l
total_in_order taken false l = refl
total_in_order taken true l = total_reverse taken l

-- ---- how far a walk has come

-- before operation i: the row holds the places so far, and those with the places from here on are the whole
pub record Come (r : Bool) (outset : ℕ) (ws : List ℕ) (row₀ row : List ℤ) (place at i : ℕ) : Type 0 where
  pub within : i ≤ length ws
  pub as_long : length row ≡ length row₀
  pub room : at + query_length (drop i ws) ≤ length row₀
  pub reach : Reaches r place (reference_span (drop i ws))
  pub so_far : List ℤ
  pub counted : length so_far ≡ at
  pub written : row ≡ over so_far row₀
  pub whole : walked r outset ws ≡ so_far ++ walked r place (drop i ws)

pub come_start : (r : Bool) (outset : ℕ) (ws : List ℕ) (row : List ℤ) → query_length ws ≤ length row → Reaches r outset (reference_span ws)
    → Come r outset ws row row outset 0 0
come_start r outset ws row h reaches = record {
  within = omega arith;
  as_long = refl;
  room = omega arith;
  reach = reaches;
  so_far = [];
  counted = refl;
  written = over_none row;
  whole = refl;
}

module _ {r : Bool} {outset : ℕ} {ws : List ℕ} {row₀ row : List ℤ} {place at i : ℕ} (c : Come r outset ws row₀ row place at i) where
  pub come_end : length ws ≤ i → row ≡ over (walked r outset ws) row₀
  come_end h = rw (c.whole, walked_end r place ws i h, append-nil c.so_far) c.written

  -- at operation i
  module _ (w : ℕ) (h : i < length ws) (e : w ≡ get_or ws i 0) where
    abbrev here : List ℤ
    here = placed w (run r place (bases_taken w))

    pub come_room : at + bases_taken w ≤ length row
    come_room = rw e (omega (arith, c.room, c.as_long, total_on bases_taken ws i h))

    split : reference_span (drop i ws) ≡ places_taken w + reference_span (drop (i + 1) ws)
    split = rw e (total_on places_taken ws i h)

    pub come_reach : Reaches r place (places_taken w)
    come_reach = reaches_fewer r place (places_taken w + reference_span (drop (i + 1) ws)) (places_taken w) (rw split at c.reach) (omega arith)

    -- the room from the last operation's end on was lent on, and came back with this operation's places
    pub come_on : (k n next : ℕ) (part : List ℤ) → k ≡ length row - at → n ≡ bases_taken w → next ≡ moved r place (places_taken w)
        → part ≡ over here (take k (drop at row))
        → Come r outset ws row₀ (take at row ++ (part ++ drop k (drop at row))) next (at + n) (i + 1)
    come_on k n next part ek en ex ep =
        let rest = walked r (moved r place (places_taken w)) (drop (i + 1) ws) in
        let put : take at row ++ (part ++ drop k (drop at row)) ≡ over (c.so_far ++ here) row₀ =
        rw (ep, c.written)
        (over_part c.so_far here row₀ at k c.counted (omega (arith, c.as_long))
        (omega (arith, length_placed r place w, come_room, c.as_long, c.counted))) in
        let long : length (c.so_far ++ here) ≡ at + n = omega (arith, length-append c.so_far here, length_placed r place w, c.counted) in
        record {
          within = omega arith;
          as_long = rw put (length_over (c.so_far ++ here) row₀ (omega (arith, long, come_room, c.as_long)));
          room = rw (en, e) (omega (arith, c.room, total_on bases_taken ws i h));
          reach = rw ex (reaches_on r place (places_taken w) (reference_span (drop (i + 1) ws)) (rw split at c.reach));
          so_far = c.so_far ++ here;
          counted = long;
          written = put;
          whole = rw ex (c.whole ∙ rw (walked_on r place ws i w h e) (sym (append_assoc c.so_far here rest)));
        }

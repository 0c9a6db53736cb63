-- The definitions at worked values, by computation. A CIGAR word is length times 16 plus kind: 48 is 3M.
-- Assumes nothing.
use Rattle.std.specs.Prelude.{Ok}
use mathlib.Core.Path.{◌≡◌, refl}
use mathlib.Core.Bool.{true, false}
use mathlib.Core.List.{List, [], ◌∷◌}
use Prim.Native.Nat.{ℕ}
use lib.IntN.{pos, negsuc}
use Rattle.lent.specs.Outcome.{refuse}
use Rattle.pattern.specs.Case.{same_in_any_case}
use Rattle.cigar.specs.Cigar.{missing, read_places, query_places}
use Rattle.alignment.specs.Reference.{is_cpg, fetched_bases}

-- 2S3M1D2M
abbrev clipped : List ℕ
clipped = 36 ∷ 48 ∷ 18 ∷ 32 ∷ []

-- one place less than the read has bases is 12; a row that is longer is not
pub room : (query_places clipped (pos 100) false 6 ≡ refuse 12) × (query_places (16 ∷ []) (pos 5) true 9 ≡ Ok (pos 5 ∷ []))
room = (refl, refl)

-- 13: a kind above 8, at the last word too and before 1 and 12; a negative start; a start past 2147483647
pub unknown :
    (query_places (256016 ∷ 25 ∷ []) (pos 100) false 0 ≡ refuse 13)
    × (query_places clipped (negsuc 0) false 7 ≡ refuse 13)
    × (query_places clipped (pos 2147483648) false 7 ≡ refuse 13)
    × (query_places (16 ∷ []) (pos 2147483647) false 1 ≡ Ok (pos 2147483647 ∷ []))
unknown = (refl, refl, refl, refl)

-- 1: 16,001 bases, before 12; the sum passes what 32 bits hold
pub too_long : (query_places (256016 ∷ []) (pos 0) false 0 ≡ refuse 1) × (query_places (4294967280 ∷ 4294967280 ∷ []) (pos 0) true 0 ≡ refuse 1)
too_long = (refl, refl)

-- a reverse walk ends at place 0; the longest deletion moves past its places; N moves as D does, I as S gives none, H and P do nothing, = and X are as M
pub kinds :
    (read_places true (32 ∷ []) 0 ≡ pos 1 ∷ pos 0 ∷ [])
    × (read_places false (16 ∷ 4294967282 ∷ 16 ∷ []) 2147483647 ≡ pos 2147483647 ∷ pos 2415919103 ∷ [])
    × (read_places false (21 ∷ 23 ∷ 17 ∷ 19 ∷ 22 ∷ 24 ∷ []) 7 ≡ pos 7 ∷ missing ∷ pos 9 ∷ [])
kinds = (refl, refl, refl)

-- ACGT and acgt: the C for the top strand, the G for the bottom strand
pub cpg :
    (is_cpg (65 ∷ 67 ∷ 71 ∷ 84 ∷ []) 1 true ≡ true) × (is_cpg (65 ∷ 67 ∷ 71 ∷ 84 ∷ []) 2 true ≡ false)
    × (is_cpg (65 ∷ 67 ∷ 71 ∷ 84 ∷ []) 2 false ≡ true) × (is_cpg (65 ∷ 67 ∷ 71 ∷ 84 ∷ []) 1 false ≡ false)
    × (is_cpg (97 ∷ 99 ∷ 103 ∷ 116 ∷ []) 1 true ≡ true) × (is_cpg (97 ∷ 99 ∷ 103 ∷ 116 ∷ []) 2 false ≡ true)
unfolding same_in_any_case
cpg = (refl, refl, refl, refl, refl, refl)

-- off the slice is no: a C at its end, a G at its start, a place past it
pub cpg_off_the_slice : (is_cpg (65 ∷ 67 ∷ []) 1 true ≡ false) × (is_cpg (71 ∷ 67 ∷ []) 0 false ≡ false) × (is_cpg (67 ∷ 71 ∷ []) 2 true ≡ false)
unfolding same_in_any_case
cpg_off_the_slice = (refl, refl, refl)

-- C, 0, G at -1, -5, 3, 1, 0, 2: negative places, one off the end and the byte 0 are missing
pub fetched :
    (fetched_bases (negsuc 0 ∷ negsuc 4 ∷ pos 3 ∷ pos 1 ∷ pos 0 ∷ pos 2 ∷ []) (67 ∷ 0 ∷ 71 ∷ []) 6 ≡ Ok (0 ∷ 0 ∷ 0 ∷ 0 ∷ 67 ∷ 71 ∷ []))
    × (fetched_bases (pos 0 ∷ pos 2 ∷ []) (67 ∷ 0 ∷ 71 ∷ []) 1 ≡ refuse 12)
    × (fetched_bases [] [] 0 ≡ Ok [])
fetched = (refl, refl, refl)

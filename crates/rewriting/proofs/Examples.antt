-- The hypotheses of the promises of the edits can be met: each promise is applied to a worked call, for which all its hypotheses hold together.
-- Assumes nothing.
use Rattle.std.specs.Prelude.{Ok, Some}
use mathlib.Core.Path.{◌≡◌, refl}
use Prim.Native.Nat.{ℕ}
use native.Mathlib.Omega.{arith}
use mathlib.Core.Bool.{true}
use mathlib.Core.List.{List, [], ◌∷◌, ◌++◌}
use lib.ListN.{replicate}
use Rattle.editing.specs.Rewrote.{leaves_tag}
use Rattle.rewriting.proofs.Promises.{clean_cut_lists, cut_lists, dropped_lists, masked_lists}
use Rattle.rewriting.specs.PublicContracts.{Drops, Masks, Trims}
use Rattle.samtags.proofs.Examples.{at}
use Rattle.samtags.specs.Bytes.{ascii}
use Rattle.samtags.specs.Edits.{cut_tag, drop_from_tag, mask_tag}
use Rattle.samtags.specs.Reading.{lists}
use Rattle.samtags.specs.Spots.{Call, Listing, holds}
use Rattle.samtags.specs.Text.{base_of}

-- ---- a tag on ACCGTCC with a group on C and one on any base

abbrev before : List ℕ
before = ascii "ACCGTCC"

abbrev mm : List ℕ
mm = ascii "C+m?,0,1,0;N+n?,5;"

abbrev ml : List ℕ
ml = 200 ∷ 90 ∷ 30 ∷ 7 ∷ []

-- what its two groups list
abbrev listed : List Call → List Call → List Listing
listed cs ns = record { header = ascii "C+m?"; calls = cs } ∷ record { header = ascii "N+n?"; calls = ns } ∷ []

worked_lists : lists true before mm ml ≡ Ok (listed (at 1 (200 ∷ []) ∷ at 5 (90 ∷ []) ∷ at 6 (30 ∷ []) ∷ []) (at 5 (7 ∷ []) ∷ []))
unfolding lists
worked_lists = refl

abbrev zeros : ℕ → List ℕ
zeros n = replicate n 0

-- ---- masked to ANCGTNC: the C's calls at 1 and 5 go, the call on any base stays

worked_masks : Masks true before (ascii "ANCGTNC") mm ml (zeros 20) (zeros 4) (Ok (14, 2)) (ascii "C+m?,1;N+n?,5;" ++ zeros 6) (30 ∷ 7 ∷ 0 ∷ 0 ∷ [])
unfolding leaves_tag mask_tag
worked_masks = refl

pub worked_masked_lists :
    lists true (ascii "ANCGTNC") (ascii "C+m?,1;N+n?,5;") (30 ∷ 7 ∷ []) ≡ Ok (listed (at 6 (30 ∷ []) ∷ []) (at 5 (7 ∷ []) ∷ []))
unfolding base_of
worked_masked_lists =
    masked_lists true mm ml (zeros 20) (zeros 4) 14 2 (ascii "C+m?,1;N+n?,5;" ++ zeros 6) (30 ∷ 7 ∷ 0 ∷ 0 ∷ []) before (ascii "ANCGTNC") _ worked_lists refl
    worked_masks

-- ---- without the calls at place 5

worked_drops : Drops true before (5 ∷ []) mm ml (zeros 20) (zeros 4) (Ok (14, 2)) (ascii "C+m?,0,2;N+n?;" ++ zeros 6) (200 ∷ 30 ∷ 0 ∷ 0 ∷ [])
unfolding leaves_tag drop_from_tag
worked_drops = refl

pub worked_dropped_lists :
    lists true before (ascii "C+m?,0,2;N+n?;") (200 ∷ 30 ∷ []) ≡ Ok (listed (at 1 (200 ∷ []) ∷ at 6 (30 ∷ []) ∷ []) [])
worked_dropped_lists =
    dropped_lists true mm ml (zeros 20) (zeros 4) 14 2 (ascii "C+m?,0,2;N+n?;" ++ zeros 6) (200 ∷ 30 ∷ 0 ∷ 0 ∷ []) before (5 ∷ []) _ worked_lists worked_drops

-- ---- cut to CnGTN, which begins at place 1: of CCGTC two bases are masked. The C's call at 1 stays, the one at 5 is masked and the one at 6 cut off; the
-- call on any base stays.

worked_trims : Trims true (Some 1) before (ascii "CnGTN") mm ml (zeros 20) (zeros 4) (Ok (14, 2)) (ascii "C+m?,0;N+n?,4;" ++ zeros 6)
    (200 ∷ 7 ∷ 0 ∷ 0 ∷ [])
unfolding leaves_tag cut_tag
worked_trims = refl

pub worked_cut_lists :
    lists true (ascii "CnGTN") (ascii "C+m?,0;N+n?,4;") (200 ∷ 7 ∷ []) ≡ Ok (listed (at 0 (200 ∷ []) ∷ []) (at 4 (7 ∷ []) ∷ []))
unfolding base_of holds
worked_cut_lists =
    let (lo, starts, reads) = cut_lists true mm ml (zeros 20) (zeros 4) 14 2 (ascii "C+m?,0;N+n?,4;" ++ zeros 6) (200 ∷ 7 ∷ 0 ∷ 0 ∷ []) (Some 1) before
    (ascii "CnGTN") _ worked_lists worked_trims in
    let one : lo ≡ 1 = cc in
    rw one at reads

-- ---- cut to GTC, from place 3 on, with no base masked

worked_clean : Trims true (Some 3) before (ascii "GTC") mm ml (zeros 20) (zeros 4) (Ok (14, 2)) (ascii "C+m?,0;N+n?,2;" ++ zeros 6)
    (90 ∷ 7 ∷ 0 ∷ 0 ∷ [])
unfolding leaves_tag cut_tag
worked_clean = refl

pub worked_clean_cut_lists :
    lists true (ascii "GTC") (ascii "C+m?,0;N+n?,2;") (90 ∷ 7 ∷ []) ≡ Ok (listed (at 2 (90 ∷ []) ∷ []) (at 2 (7 ∷ []) ∷ []))
worked_clean_cut_lists =
    clean_cut_lists true mm ml (zeros 20) (zeros 4) 14 2 (ascii "C+m?,0;N+n?,2;" ++ zeros 6) (90 ∷ 7 ∷ 0 ∷ 0 ∷ []) (Some 3) before (ascii "GTC") 3 3 _
    worked_lists refl refl (omega arith) (omega arith) worked_clean

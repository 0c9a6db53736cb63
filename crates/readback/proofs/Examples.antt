-- The hypotheses of the promises of reading back can be met: each promise is applied to a worked call, for which all its hypotheses hold together.
-- Assumes nothing.
use Rattle.std.specs.Prelude.{Ok}
use mathlib.Core.Path.{refl}
use Prim.Native.Nat.{ℕ}
use native.Mathlib.Omega.{arith}
use mathlib.Core.Bool.{true, false}
use mathlib.Core.List.{List, [], ◌∷◌, ◌++◌}
use lib.IntN.{pos}
use lib.ListN.{replicate}
use Rattle.lent.specs.Filled.{leaves}
use Rattle.pattern.specs.Case.{same_in_any_case, upper}
use Rattle.pattern.specs.declared.ConversionPattern.TheVariants.{CToT, GToA}
use Rattle.pattern.specs.declared.MethylationMode.TheVariants.{EmSeq}
use Rattle.samtags.proofs.Examples.{at}
use Rattle.samtags.specs.Bytes.{ascii}
use Rattle.samtags.specs.Building.{Evidence, Strand, build_tag, columns, evidence_calls, joined_tag}
use Rattle.samtags.specs.Spots.{Call, Listing}
use Rattle.building.specs.PublicContracts.{Built, BuiltAlone}
use Rattle.duplex.specs.PublicContracts.{Duplexes, Rows, eleven_rows}
use Rattle.duplex.specs.Duplex.{duplex_tags, rows, strand}
use Rattle.duplex.specs.declared.Lengths.{Lengths}
use Rattle.readback.proofs.Built.{ReadsBack, built_alone_reads_back, built_reads_back}
use Rattle.readback.proofs.Joined.{first_reads_back, joined_reads_back, second_reads_back}

-- ---- one strand: on ACGC both Cs are informative, with one read of two and with two of two unconverted

abbrev seen : Evidence
seen = columns (0 ∷ 1 ∷ 0 ∷ 1 ∷ []) (0 ∷ 1 ∷ 0 ∷ 2 ∷ []) (0 ∷ 1 ∷ 0 ∷ 0 ∷ [])

abbrev zeros : ℕ → List ℕ
zeros n = replicate n 0

abbrev on_c : List Call → Listing
on_c calls = record { header = ascii "C+m?"; calls = calls }

worked_built : Built EmSeq CToT seen (ascii "ACGC") (zeros 12) (zeros 3) (Ok (9, 2)) (ascii "C+m?,0,0;" ++ zeros 3) (128 ∷ 255 ∷ 0 ∷ [])
unfolding build_tag leaves
worked_built = (refl, refl, refl)

pub worked_built_reads_back :
    ReadsBack true (ascii "ACGC") (ascii "C+m?,0,0;") (128 ∷ 255 ∷ []) (on_c (at 1 (128 ∷ []) ∷ at 3 (255 ∷ []) ∷ []) ∷ [])
unfolding upper evidence_calls
worked_built_reads_back =
    built_reads_back EmSeq CToT seen (ascii "ACGC") (zeros 12) (zeros 3) refl 9 2 (ascii "C+m?,0,0;" ++ zeros 3) (128 ∷ 255 ∷ 0 ∷ []) worked_built

worked_alone : BuiltAlone EmSeq CToT seen (ascii "ACGC") (zeros 12) (Ok 9) (ascii "C+m?,0,0;" ++ zeros 3)
unfolding build_tag leaves
worked_alone = (refl, refl)

pub worked_alone_reads_back : ReadsBack false (ascii "ACGC") (ascii "C+m?,0,0;") [] (on_c (at 1 [] ∷ at 3 [] ∷ []) ∷ [])
unfolding upper evidence_calls
worked_alone_reads_back =
    built_alone_reads_back EmSeq CToT seen (ascii "ACGC") (zeros 12) [] refl 9 (ascii "C+m?,0,0;" ++ zeros 3) [] worked_alone

-- ---- two strands: ATGC is restored to ACGC, and the second strand has a call on its G

abbrev first : Strand
first = record { pattern = CToT; evidence = seen }

abbrev second : Strand
second = strand GToA (0 ∷ 0 ∷ 1 ∷ 0 ∷ []) (0 ∷ 0 ∷ 3 ∷ 0 ∷ []) (0 ∷ 0 ∷ 0 ∷ 0 ∷ [])

abbrev lent : Rows
lent =
    let z = replicate 4 (pos 0) in
    eleven_rows (zeros 5) (zeros 20) (zeros 4) z z (zeros 10) z z (zeros 10) z z

abbrev left : Rows
left = eleven_rows
    (ascii "ACGC" ++ zeros 1)
    (ascii "C+m?,0,0;G-m?,0;" ++ zeros 4)
    (128 ∷ 255 ∷ 255 ∷ 0 ∷ [])
    (pos 0 ∷ pos 1 ∷ pos 3 ∷ pos 2 ∷ [])
    (pos 0 ∷ pos 1 ∷ pos 0 ∷ pos 0 ∷ [])
    (ascii "C+m?,0,0;" ++ zeros 1)
    (pos 0 ∷ pos 1 ∷ pos 0 ∷ pos 2 ∷ [])
    (pos 0 ∷ pos 1 ∷ pos 0 ∷ pos 0 ∷ [])
    (ascii "G-m?,0;" ++ zeros 3)
    (pos 0 ∷ pos 0 ∷ pos 3 ∷ pos 0 ∷ [])
    (replicate 4 (pos 0))

abbrev lengths : Lengths
lengths = rows 4 16 3 4 4 9 4 4 7 4 4

worked_duplex : Duplexes 2 EmSeq (ascii "ATGC") first second lent (Ok lengths) left
unfolding duplex_tags joined_tag leaves
worked_duplex = (refl, refl, refl, refl, refl, refl, refl, refl, refl, refl, refl, refl)

abbrev on_g : List Call → Listing
on_g calls = record { header = ascii "G-m?"; calls = calls }

pub worked_joined_reads_back :
    ReadsBack true (ascii "ACGC") (ascii "C+m?,0,0;G-m?,0;") (128 ∷ 255 ∷ 255 ∷ [])
    (on_c (at 1 (128 ∷ []) ∷ at 3 (255 ∷ []) ∷ []) ∷ on_g (at 2 (255 ∷ []) ∷ []) ∷ [])
unfolding upper evidence_calls
worked_joined_reads_back = (joined_reads_back 2 EmSeq (ascii "ATGC") first second lent lengths left worked_duplex refl (omega arith)).1

pub worked_first_reads_back : ReadsBack false (ascii "ACGC") (ascii "C+m?,0,0;") [] (on_c (at 1 [] ∷ at 3 [] ∷ []) ∷ [])
unfolding upper evidence_calls same_in_any_case
worked_first_reads_back = first_reads_back 2 EmSeq (ascii "ATGC") first second lent lengths left worked_duplex refl [] (omega arith)

pub worked_second_reads_back : ReadsBack false (ascii "ACGC") (ascii "G-m?,0;") [] (on_g (at 2 [] ∷ []) ∷ [])
unfolding upper evidence_calls same_in_any_case
worked_second_reads_back = second_reads_back 2 EmSeq (ascii "ATGC") first second lent lengths left worked_duplex refl [] refl (omega arith)

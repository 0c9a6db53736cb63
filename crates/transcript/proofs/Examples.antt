-- The scope's case, and the edge cases of the input's form, by computation.
-- Assumes nothing.
use mathlib.Core.Path.{◌≡◌, refl}
use Prim.Native.String.{String}
use Rattle.samtags.specs.Bytes.{ascii}
use Rattle.transcript.specs.Transcript.{transcript_of}

-- the input is answered with the output
abbrev Prints : String → String → Type 0
Prints input output = transcript_of (ascii input) ≡ ascii output

pub scope_case : Prints "SQACCGTCC\nMMC+m?,0,1,0;\nML200,90,30\nMK1\nDR5\nCU3,0\n" "AN0\nAN0\nAN0\nAN0\nSQGTCC\nMMC+m?,1;\nML30\n"
unfolding transcript_of
scope_case = refl

-- SQ and MM come first, once, in that order
pub openings :
    (Prints "" "AN13\n")
    × (Prints "\n" "AN13\n")
    × (Prints "SQ" "AN13\n")
    × (Prints "SQC\n" "AN13\n")
    × (Prints "sqC\nMMC+m?,0;\n" "AN13\n")
    × (Prints "MMC+m?,0;\nSQC\n" "AN13\n")
    × (Prints "SQC\nML1\nMMC+m?,0;\n" "AN13\n")
    × (Prints "SQC\nMMC+m?,0;\n" "AN0\nSQC\nMMC+m?,0;\n")
    -- the last line may lack its LF, and a CR belongs to its line
    × (Prints "SQC\nMMC+m?,0;" "AN0\nSQC\nMMC+m?,0;\n")
    × (Prints "SQC\r\nMMC+m?,0;\n" "AN0\nSQC\r\nMMC+m?,0;\n")
    × (Prints "SQC\nMMC+m?,0;\r\n" "AN4\n")
    -- nothing follows a refused opening
    × (Prints "SQC\nMMC+m?,1;\nMK0\n" "AN7\n")
    × (Prints "SQ\nMM\n" "AN4\n")
    -- a line that may come once comes once
    × (Prints "SQC\nMMC+m?,0;\nSQC\n" "AN0\nAN13\n")
    × (Prints "SQC\nMMC+m?,0;\nMMC+m?,0;\n" "AN0\nAN13\n")
    × (Prints "SQC\nMMC+m?,0;\nML7\nML7\n" "AN0\nAN13\n")
    × (Prints "SQC\nMMC+m?,0;\nDR1\nML7\n" "AN0\nAN0\nAN13\n")
unfolding transcript_of
openings = (refl, refl, refl, refl, refl, refl, refl, refl, refl, refl, refl, refl, refl, refl, refl, refl, refl)

-- a third line that is marked ML
pub third_lines :
    -- `ML` alone is an empty ML, and not the same as none
    (Prints "SQC\nMMC+m?;\nML\n" "AN0\nSQC\nMMC+m?;\nML\n")
    × (Prints "SQC\nMMC+m?,0;\nML\n" "AN8\n")
    × (Prints "SQC\nMMC+m?;\nML7\n" "AN9\n")
    -- leading zeros are read, and not written again
    × (Prints "SQC\nMMC+m?,00;\nML007\n" "AN0\nSQC\nMMC+m?,00;\nML7\n")
    × (Prints "SQC\nMMC+m?,00;\nML007\nDR1\n" "AN0\nAN0\nSQC\nMMC+m?,0;\nML7\n")
    × (Prints "SQC\nMMC+m?,0;\nML255\n" "AN0\nSQC\nMMC+m?,0;\nML255\n")
    × (Prints "SQC\nMMC+m?,0;\nML256\n" "AN13\n")
    × (Prints "SQC\nMMC+m?,0;\nML7,\n" "AN13\n")
    × (Prints "SQC\nMMC+m?,0;\nML 7\n" "AN13\n")
    -- it is read before the opening is answered
    × (Prints "SQC\nMM\nML256\n" "AN13\n")
    × (Prints "SQC\nMM\nML255\n" "AN4\n")
unfolding transcript_of
third_lines = (refl, refl, refl, refl, refl, refl, refl, refl, refl, refl, refl)

-- the steps
pub steps :
    -- a refused step is answered, and the next one follows
    (Prints "SQC\nMMC+m,0;\nDR0\nMK0\n" "AN0\nAN10\nAN0\nSQN\nMMC+m;\n")
    × (Prints "SQCC\nMMC+m?,1;\nCU3,0\nCU0,0\nCU1,0\n" "AN0\nAN11\nAN21\nAN0\nSQC\nMMC+m?,0;\n")
    -- a bad line ends the output
    × (Prints "SQC\nMMC+m?,0;\nMK\nMK0\n" "AN0\nAN13\n")
    × (Prints "SQC\nMMC+m?,0;\n\nMK0\n" "AN0\nAN13\n")
    × (Prints "SQC\nMMC+m?,0;\nMK0,\n" "AN0\nAN13\n")
    × (Prints "SQC\nMMC+m?,0;\nMK0;1\n" "AN0\nAN13\n")
    × (Prints "SQC\nMMC+m?,0;\nMK0\r\n" "AN0\nAN13\n")
    × (Prints "SQC\nMMC+m?,0;\nMX0\n" "AN0\nAN13\n")
    × (Prints "SQC\nMMC+m?,0;\nCU0\n" "AN0\nAN13\n")
    × (Prints "SQC\nMMC+m?,0;\nCU0,0,0\n" "AN0\nAN13\n")
    -- numbers of 32 bits, leading zeros allowed
    × (Prints "SQC\nMMC+m?,0;\nDR4294967295\n" "AN0\nAN0\nSQC\nMMC+m?,0;\n")
    × (Prints "SQC\nMMC+m?,0;\nDR4294967296\n" "AN0\nAN13\n")
    × (Prints "SQC\nMMC+m?,0;\nCU4294967295,4294967295\n" "AN0\nAN11\nSQC\nMMC+m?,0;\n")
    × (Prints "SQC\nMMC+m?,0;\nMK0000000000000\n" "AN0\nAN0\nSQN\nMMC+m?;\n")
    -- places past the end do nothing, and one may be named twice
    × (Prints "SQCC\nMMC+m?,0,0;\nMK7,1,1\n" "AN0\nAN0\nSQCN\nMMC+m?,0;\n")
unfolding transcript_of
steps = (refl, refl, refl, refl, refl, refl, refl, refl, refl, refl, refl, refl, refl, refl, refl)

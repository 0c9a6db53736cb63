-- The scope's examples (a) to (l): a row is a letter, a request, and the answer that the scope gives.
-- Assumes nothing.
use Rattle.std.specs.Prelude.{ℕ, true, false, List, [], ◌∷◌, map, ◌≡◌, pos, Ok, None, Some}
use Prim.Native.String.{String}
use Rattle.lent.specs.Outcome.{Outcome, refuse}
use Rattle.cigar.specs.Cigar.{missing}
use Rattle.samtags.specs.Bytes.{ascii}
use Rattle.samtags.specs.Spots.{Call}
use Rattle.edges.specs.Requests.{Request, calls, drop, mask, cut, build, place, Answer, listed, tag, placed, answer_to}

pub record Edge : Type 0 where
  pub letter : String
  pub request : Request
  pub answer : Outcome Answer

abbrev pub edge : String → Request → Outcome Answer → Edge
edge letter request answer = record { letter = letter; request = request; answer = answer }

abbrev pub at : ℕ → List ℕ → Call
at p vs = record { place = p; values = vs }

-- 2S3M1D2M: a word is length times 16 plus kind
abbrev pub clipped : List ℕ
clipped = 36 ∷ 48 ∷ 18 ∷ 32 ∷ []

abbrev pub edges : List Edge
edges =
    edge "a" (calls "ACGT" "" (Some [])) (refuse 4)
    ∷ edge "b" (calls "ACGT" ";" (Some [])) (refuse 5)
    ∷ edge "c" (calls "ACGT" "C+m?;" (Some [])) (Ok (listed ([] ∷ [])))
    ∷ edge "d" (calls "CCC" "C+m?,+1;" None) (refuse 6)
    ∷ edge "e" (calls "CCC" "C+m?,2;" None) (Ok (listed ((at 2 [] ∷ []) ∷ [])))
    ∷ edge "e" (calls "CCC" "C+m?,3;" None) (refuse 7)
    ∷ edge "f" (calls "C" "C+m?,0;" (Some [])) (refuse 8)
    ∷ edge "f" (calls "C" "C+m?,0;" (Some (1 ∷ 2 ∷ []))) (refuse 9)
    ∷ edge "f" (calls "C" "C+mh?,0;" (Some (1 ∷ 2 ∷ []))) (Ok (listed ((at 0 (1 ∷ 2 ∷ []) ∷ []) ∷ [])))
    ∷ edge "g" (calls "C" "C+76792?,0;" (Some (7 ∷ []))) (Ok (listed ((at 0 (7 ∷ []) ∷ []) ∷ [])))
    ∷ edge "h" (drop "C" (0 ∷ []) "C+m,0;" None) (refuse 10)
    ∷ edge "h" (drop "C" (0 ∷ []) "C+m?,0;" None) (Ok (tag (ascii "C+m?;") []))
    ∷ edge "i" (mask "CCAC" "CNAC" "C+m?,0,1;" None) (Ok (tag (ascii "C+m?,0,0;") []))
    ∷ edge "j" (build 1 1) (Ok (tag (ascii "C+m?,0;") (128 ∷ [])))
    ∷ edge "j" (build 1 0) (Ok (tag (ascii "C+m?,0;") (255 ∷ [])))
    ∷ edge "j" (build 1 2) (Ok (tag (ascii "C+m?,0;") (85 ∷ [])))
    ∷ edge "j" (build 0 5) (Ok (tag (ascii "C+m?,0;") (0 ∷ [])))
    ∷ edge "k" (place false clipped 100) (Ok (placed (missing ∷ missing ∷ pos 100 ∷ pos 101 ∷ pos 102 ∷ pos 104 ∷ pos 105 ∷ [])))
    ∷ edge "k" (place true clipped 100) (Ok (placed (pos 105 ∷ pos 104 ∷ pos 102 ∷ pos 101 ∷ pos 100 ∷ missing ∷ missing ∷ [])))
    ∷ edge "l" (cut "ACGT" "CG" (Some 1) "C+m?,0;" None) (Ok (tag (ascii "C+m?,0;") []))
    ∷ edge "l" (cut "ACGT" "CG" (Some 2) "C+m?,0;" None) (refuse 11)
    ∷ edge "l" (cut "ACGT" "CG" None "C+m?,0;" None) (refuse 11)
    ∷ []

-- the claim of the list: the definitions of the public calls answer each request with the answer in its row
abbrev pub Hold : List Edge → Type 0
Hold rows = map (λ (e : Edge). answer_to e.request) rows ≡ map (λ (e : Edge). e.answer) rows

-- The requests of the scope's examples, and the answers that the definitions of the public calls give to them.
-- Assumes nothing.
use Rattle.std.specs.Prelude.{ℕ, Bool, true, false, List, [], ◌∷◌, map, ℤ, pos, Option, None, Some}
use Prim.Native.String.{String}
use Rattle.lent.specs.Outcome.{Outcome, on_done}
use Rattle.pattern.specs.declared.ConversionPattern.TheVariants.{CToT}
use Rattle.pattern.specs.declared.MethylationMode.TheVariants.{EmSeq}
use Rattle.cigar.specs.Cigar.{query_places}
use Rattle.samtags.specs.Bytes.{ascii}
use Rattle.samtags.specs.Building.{columns, build_tag}
use Rattle.samtags.specs.Edits.{mask_tag, drop_from_tag, cut_tag}
use Rattle.samtags.specs.Reading.{call_list}
use Rattle.samtags.specs.Spots.{Call, Listing}
use Rattle.samtags.specs.Writing.{Tag}
use Rattle.reading.specs.Calls.{listed_calls}

-- SEQ (or SEQ before and after), the arguments of the call, MM, and ML if there is one
pub data Request : Type 0 where
  calls : String → String → Option (List ℕ) → Request
  drop : String → List ℕ → String → Option (List ℕ) → Request
  mask : String → String → String → Option (List ℕ) → Request
  cut : String → String → Option ℕ → String → Option (List ℕ) → Request
  -- EM-Seq over one informative C, with these numbers of unconverted and converted bases
  build : ℕ → ℕ → Request
  -- a forward read (false) or a reverse read (true), the CIGAR's words and the start
  place : Bool → List ℕ → ℕ → Request

-- the calls of each group, with their values; a tag; places on the reference
pub data Answer : Type 0 where
  listed : List (List Call) → Answer
  tag : List ℕ → List ℕ → Answer
  placed : List ℤ → Answer

abbrev pub is_there : Option (List ℕ) → Bool
is_there None = false
is_there (Some ml) = true

abbrev pub values_of : Option (List ℕ) → List ℕ
values_of None = []
values_of (Some ml) = ml

abbrev pub listing : List Listing → Answer
listing ls = listed (map (λ (l : Listing). l.calls) ls)

abbrev pub tagged : Tag → Answer
tagged t = tag t.text t.ml

-- the answer of the public call's definition to each request, with room for 100 entries
unfoldable pub answer_to : Request → Outcome Answer
unfolding listed_calls call_list drop_from_tag mask_tag cut_tag build_tag
answer_to (calls seq mm ml) = on_done listing (listed_calls (is_there ml) (ascii seq) (ascii mm) (values_of ml) 100 100 100)
answer_to (drop seq places mm ml) = on_done tagged (drop_from_tag (is_there ml) (ascii seq) places (ascii mm) (values_of ml) 100 100)
answer_to (mask before after mm ml) = on_done tagged (mask_tag (is_there ml) (ascii before) (ascii after) (ascii mm) (values_of ml) 100 100)
answer_to (cut before after start mm ml) = on_done tagged (cut_tag (is_there ml) start (ascii before) (ascii after) (ascii mm) (values_of ml) 100 100)
answer_to (build u c) = on_done tagged (build_tag true EmSeq CToT (columns (1 ∷ []) (u ∷ []) (c ∷ [])) (ascii "C") 100 100)
answer_to (place reversed words start) = on_done placed (query_places words (pos start) reversed 100)

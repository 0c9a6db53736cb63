-- Building a tag from SEQ, evidence and chemistry: which bases are listed, with which skips and values. Also the joined tag of two strands.
-- Assumes nothing.
use Rattle.std.specs.Prelude.{ℕ, suc, ◌+◌, ◌*◌, ◌/◌, min, Bool, true, false, cond, not, ◌&&◌, List, [], ◌∷◌, ◌++◌, map, length, get_or, leb, eqb, Ok, Option, None, Some}
use Rattle.lent.specs.Lists.{filter, is_empty}
use Rattle.pattern.specs.Case.{same_in_any_case}
use Rattle.pattern.specs.Patterns.{letter_of, sign_of, is_enabled}
use Rattle.pattern.specs.declared.ConversionPattern.{ConversionPattern}
use Rattle.pattern.specs.declared.ConversionPattern.TheVariants.{CToT, GToA}
use Rattle.pattern.specs.declared.MethylationMode.{MethylationMode}
use Rattle.pattern.specs.declared.MethylationMode.TheVariants.{Disabled, EmSeq, Taps}
use Rattle.samtags.specs.Bytes.{ascii}
use Rattle.lent.specs.Outcome.{Outcome, need}
use Rattle.samtags.specs.Spots.{Spot, bare, call, Group, Call, calls_in, places_from}
use Rattle.samtags.specs.Writing.{Tag, written}
use Rattle.samtags.specs.Edits.{in_room}

-- the evidence of a strand in three columns: whether the place is informative (nonzero is yes), and how many reads show the unconverted and the
-- converted base
pub record Evidence : Type 0 where
  pub informative : List ℕ
  pub unconverted : List ℕ
  pub converted : List ℕ

abbrev pub columns : List ℕ → List ℕ → List ℕ → Evidence
columns informative unconverted converted = record { informative = informative; unconverted = unconverted; converted = converted }

-- how many reads are evidence for methylation: in EM-Seq those that stayed unconverted, in TAPs those that were converted
abbrev pub numerator : MethylationMode → ℕ → ℕ → ℕ
numerator Disabled u c = 0
numerator EmSeq u c = u
numerator Taps u c = c

-- ML value N means a probability from N/256 up to (N+1)/256, so a probability of 1 is 255
unfoldable pub ml_value : ℕ → ℕ → ℕ
ml_value speaking total = min 255 (256 * speaking / total)

-- the ML value of a call; there is a call if the place is informative and a read was counted there
unfoldable pub called : MethylationMode → ℕ → ℕ → ℕ → Option ℕ
unfolding ml_value
called mode informative u c = cond (not (eqb informative 0) && not (eqb (u + c) 0)) (Some (ml_value (numerator mode u c) (u + c))) None

-- the ML value of the call at a place
unfoldable pub called_at : MethylationMode → Evidence → ℕ → Option ℕ
unfolding called
called_at mode ev p = called mode (get_or ev.informative p 0) (get_or ev.unconverted p 0) (get_or ev.converted p 0)

-- a base of the pattern's letter: a call if the evidence gives one, else bare
abbrev pub spot_at : Option ℕ → ℕ → Spot
spot_at None p = bare p
spot_at (Some v) p = call p (v ∷ [])

-- `C+m?` and `G-m?`: an unlisted base is of unknown status
abbrev pub header_of : ConversionPattern → List ℕ
header_of p = letter_of p ∷ sign_of p ∷ ascii "m?"

-- a strand's group; SEQ's letters match in upper or lower case
unfoldable pub strand_group : MethylationMode → ConversionPattern → Evidence → List ℕ → Group
unfolding called_at same_in_any_case
strand_group mode p ev seq = record {
  header = header_of p;
  spots = map (λ q. spot_at (called_at mode ev q) q) (places_from (same_in_any_case (letter_of p)) 0 seq);
}

abbrev pub has_calls : Group → Bool
has_calls g = not (is_empty (calls_in g.spots))

-- ---- the public calls

-- the lengths of SEQ and of the columns are within the domain
abbrev pub evidence_in_domain : Evidence → List ℕ → Bool
evidence_in_domain ev seq =
    leb (length seq) 16000 && leb (length ev.informative) 16000 && leb (length ev.unconverted) 16000
    && leb (length ev.converted) 16000

-- SEQ and the columns are of one length
abbrev pub evidence_agrees : Evidence → List ℕ → Bool
evidence_agrees ev seq =
    eqb (length ev.informative) (length seq) && eqb (length ev.unconverted) (length seq)
    && eqb (length ev.converted) (length seq)

-- a strand's tag, without regard to room: 1, 2, or 20 if there is no call or no chemistry
unfoldable pub built_tag : MethylationMode → ConversionPattern → Evidence → List ℕ → Outcome Tag
unfolding strand_group written
built_tag mode p ev seq =
    let g = strand_group mode p ev seq in
    need (evidence_in_domain ev seq) 1
    (need (evidence_agrees ev seq) 2
    (need (is_enabled mode && has_calls g) 20
    (Ok (written (g ∷ [])))))

-- the tag in the room lent for it: last 12. Without ML the room for ML is ignored.
unfoldable pub build_tag : Bool → MethylationMode → ConversionPattern → Evidence → List ℕ → ℕ → ℕ → Outcome Tag
unfolding built_tag
build_tag ml? mode p ev seq t m = in_room ml? t m (built_tag mode p ev seq)

-- ---- the strands of a duplex, one or two

pub record Strand : Type 0 where
  pub pattern : ConversionPattern
  pub evidence : Evidence

abbrev pub converts_c : ConversionPattern → Bool
converts_c CToT = true
converts_c GToA = false

abbrev pub is_c_to_t : Strand → Bool
is_c_to_t s = converts_c s.pattern

-- strands C to T come first; strands of the same pattern stay in the given order
abbrev pub in_join_order : List Strand → List Strand
in_join_order strands = filter is_c_to_t strands ++ filter (λ s. not (is_c_to_t s)) strands

abbrev pub group_of : MethylationMode → List ℕ → Strand → Group
group_of mode seq s = strand_group mode s.pattern s.evidence seq

-- the groups of the joined tag: of the ordered strands those that have a call; no group without a chemistry
unfoldable pub joined_groups : MethylationMode → List Strand → List ℕ → List Group
unfolding strand_group
joined_groups mode strands seq = cond (is_enabled mode) (filter has_calls (map (group_of mode seq) (in_join_order strands))) []

-- the joined tag; for one strand it is that strand's own tag. If there is no call at all, text and ML are empty
unfoldable pub joined_tag : MethylationMode → List Strand → List ℕ → Tag
unfolding joined_groups written
joined_tag mode strands seq = written (joined_groups mode strands seq)

-- a strand's own tag; it is empty if the strand has no call
abbrev pub own_tag : MethylationMode → ConversionPattern → Evidence → List ℕ → Tag
own_tag mode p ev seq = joined_tag mode (record { pattern = p; evidence = ev } ∷ []) seq

-- ---- the calls that the evidence gives, without a tag: place and value of each call at a base that is the pattern's upper-case letter

abbrev pub call_at : Bool → Option ℕ → ℕ → List Call → List Call
call_at false v p cs = cs
call_at true None p cs = cs
call_at true (Some v) p cs = record { place = p; values = v ∷ [] } ∷ cs

unfoldable pub calls_from : ℕ → MethylationMode → ConversionPattern → Evidence → List ℕ → List Call
unfolding called_at
calls_from i mode p ev [] = []
calls_from i mode p ev (x ∷ xs) = call_at (eqb x (letter_of p)) (called_at mode ev i) i (calls_from (suc i) mode p ev xs)

unfoldable pub evidence_calls : MethylationMode → ConversionPattern → Evidence → List ℕ → List Call
unfolding calls_from
evidence_calls mode p ev seq = calls_from 0 mode p ev seq

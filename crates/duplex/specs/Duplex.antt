-- The SEQ, the tags and the counts of a record with one strand or two: what the answer holds, and when the call is refused.
-- Assumes nothing.
use Rattle.std.specs.Prelude.{ℕ, Bool, cond, ◌&&◌, ◌||◌, List, [], ◌∷◌, map, ℤ, length, get_or, leb, eqb, Ok}
use Rattle.lent.specs.Lists.{every, tabulate, sum}
use Rattle.lent.specs.Outcome.{Outcome, need, and_then}
use Rattle.pattern.specs.declared.ConversionPattern.{ConversionPattern}
use Rattle.pattern.specs.declared.MethylationMode.{MethylationMode}
use Rattle.evidence.specs.Position.{capped}
use Rattle.columns.specs.Columns.{as_tag_counts, restored}
use Rattle.samtags.specs.Writing.{Tag}
use Rattle.samtags.specs.Building.{Evidence, columns, evidence_in_domain, evidence_agrees, Strand, joined_tag, own_tag}
use Rattle.duplex.specs.declared.Lengths.{Lengths}

-- a strand's own text and counts, as the tags `am`, `au` and `at` (or `bm`, `bu` and `bt`) hold them
pub record StrandTags : Type 0 where
  pub text : List ℕ
  pub unconverted : List ℤ
  pub converted : List ℤ

-- the whole answer: SEQ, MM and ML, `cu` and `ct`, and each strand's own tags
pub record Duplexed : Type 0 where
  pub seq : List ℕ
  pub joined : Tag
  pub unconverted : List ℤ
  pub converted : List ℤ
  pub first : StrandTags
  pub second : StrandTags

-- SEQ restored by one strand after the other
abbrev pub restored_by : List Strand → List ℕ → List ℕ
restored_by [] seq = seq
restored_by (s ∷ ss) seq = restored_by ss (restored s.pattern s.evidence.informative seq)

-- at each of n places the sum of the strands' counts of one kind, at most the largest u32, and then as a tag holds it
abbrev pub combined : (Evidence → List ℕ) → ℕ → List Strand → List ℤ
combined column n strands = as_tag_counts (tabulate n (λ i. capped (sum (map (λ s. get_or (column s.evidence) i 0) strands))))

abbrev pub strand : ConversionPattern → List ℕ → List ℕ → List ℕ → Strand
strand p informative unconverted converted = record { pattern = p; evidence = columns informative unconverted converted }

abbrev pub strand_tags : MethylationMode → List ℕ → Strand → StrandTags
strand_tags mode seq s = record {
  text = (own_tag mode s.pattern s.evidence seq).text;
  unconverted = as_tag_counts s.evidence.unconverted;
  converted = as_tag_counts s.evidence.converted;
}

abbrev pub no_tags : StrandTags
no_tags = record { text = []; unconverted = []; converted = [] }

-- the strands of the record, one or two
abbrev pub strands_of : Bool → Strand → Strand → List Strand
strands_of two? a b = cond two? (a ∷ b ∷ []) (a ∷ [])

-- the whole answer; each strand's tag is built over SEQ as both strands restore it
unfoldable pub duplexed : Bool → MethylationMode → List ℕ → Strand → Strand → Duplexed
duplexed two? mode bases a b =
    let strands = strands_of two? a b in
    let seq = restored_by strands bases in
    record {
      seq = seq;
      joined = joined_tag mode strands seq;
      unconverted = combined (λ ev. ev.unconverted) (length bases) strands;
      converted = combined (λ ev. ev.converted) (length bases) strands;
      first = strand_tags mode seq a;
      second = cond two? (strand_tags mode seq b) no_tags;
    }

-- ---- the public call

-- the length of each part of an answer
abbrev pub lengths_of : Duplexed → Lengths
lengths_of d = record {
  seq = length d.seq;
  mm = length d.joined.text;
  ml = length d.joined.ml;
  unconverted = length d.unconverted;
  converted = length d.converted;
  first_mm = length d.first.text;
  first_unconverted = length d.first.unconverted;
  first_converted = length d.first.converted;
  second_mm = length d.second.text;
  second_unconverted = length d.second.unconverted;
  second_converted = length d.second.converted;
}

-- rows of these lengths
abbrev pub rows : ℕ → ℕ → ℕ → ℕ → ℕ → ℕ → ℕ → ℕ → ℕ → ℕ → ℕ → Lengths
rows seq mm ml u c mm₁ u₁ c₁ mm₂ u₂ c₂ = record {
  seq = seq;
  mm = mm;
  ml = ml;
  unconverted = u;
  converted = c;
  first_mm = mm₁;
  first_unconverted = u₁;
  first_converted = c₁;
  second_mm = mm₂;
  second_unconverted = u₂;
  second_converted = c₂;
}

-- each row has room for its part
abbrev pub within : Lengths → Lengths → Bool
within parts lent =
    leb parts.seq lent.seq && leb parts.mm lent.mm && leb parts.ml lent.ml
    && leb parts.unconverted lent.unconverted && leb parts.converted lent.converted
    && leb parts.first_mm lent.first_mm && leb parts.first_unconverted lent.first_unconverted
    && leb parts.first_converted lent.first_converted
    && leb parts.second_mm lent.second_mm && leb parts.second_unconverted lent.second_unconverted
    && leb parts.second_converted lent.second_converted

-- x, if no input is refused: 13 if the number of strands is not 1 or 2, then 1 and 2 for all strands
unfoldable pub admitted : {A : Type 0} → ℕ → List ℕ → Strand → Strand → A → Outcome A
admitted count bases a b x =
    let strands = strands_of (eqb count 2) a b in
    need (eqb count 1 || eqb count 2) 13
    (need (every (λ s. evidence_in_domain s.evidence bases) strands) 1
    (need (every (λ s. evidence_agrees s.evidence bases) strands) 2
    (Ok x)))

-- last 12; never 20
unfoldable pub duplex_tags : ℕ → MethylationMode → List ℕ → Strand → Strand → Lengths → Outcome Duplexed
unfolding admitted duplexed
duplex_tags count mode bases a b lent =
    and_then (admitted count bases a b (duplexed (eqb count 2) mode bases a b)) (λ d. need (within (lengths_of d) lent) 12 (Ok d))

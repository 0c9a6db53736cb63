-- The answer of the first pass. These are contracts of private functions; no promise rests on them.
-- Assumes nothing.
use Rattle.std.specs.Prelude.{ℕ, ◌+◌, Bool, cond, List, length}
use Rattle.pattern.specs.declared.MethylationMode.{MethylationMode}
use Rattle.samtags.specs.Building.{Strand, own_tag}
use Rattle.joining.specs.Order.{restored_by_both, second_tag}
use Rattle.joining.specs.declared.BothSizes.{BothSizes}
use Rattle.duplex.specs.declared.Lengths.{Lengths}

-- SEQ restored by the strands
abbrev pub restored_seq : Bool → List ℕ → Strand → Strand → List ℕ
restored_seq two? bases a b = restored_by_both two? a.pattern a.evidence.informative b.pattern b.evidence.informative bases

-- the lengths of the strands' own tags
abbrev pub both_sizes : Bool → MethylationMode → List ℕ → Strand → Strand → BothSizes
both_sizes two? mode seq a b = record {
  first_text = length (own_tag mode a.pattern a.evidence seq).text;
  first_values = length (own_tag mode a.pattern a.evidence seq).ml;
  second_text = length (second_tag two? mode b.pattern b.evidence seq).text;
  second_values = length (second_tag two? mode b.pattern b.evidence seq).ml;
}

-- the lengths of an answer over n bases
abbrev pub part_lengths : Bool → ℕ → BothSizes → Lengths
part_lengths two? n s = record {
  seq = n;
  mm = s.first_text + s.second_text;
  ml = s.first_values + s.second_values;
  unconverted = n;
  converted = n;
  first_mm = s.first_text;
  first_unconverted = n;
  first_converted = n;
  second_mm = s.second_text;
  second_unconverted = cond two? n 0;
  second_converted = cond two? n 0;
}

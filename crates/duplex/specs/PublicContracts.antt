-- The promise of the public call, as one proposition: its answer and every entry of the lent rows, for all inputs. The call's `ensures` cites it, and
-- every theorem about the call uses it.
-- Assumes nothing.
use Rattle.std.specs.Prelude.{◌≡◌, ℕ, List, ℤ, length}
use Rattle.lent.specs.Filled.{leaves}
use Rattle.lent.specs.Outcome.{Outcome, on_done}
use Rattle.pattern.specs.declared.MethylationMode.{MethylationMode}
use Rattle.samtags.specs.Building.{Strand}
use Rattle.duplex.specs.Duplex.{Duplexed, duplex_tags, lengths_of, rows}
use Rattle.duplex.specs.declared.Lengths.{Lengths}

-- the eleven lent rows
pub record Rows : Type 0 where
  pub seq : List ℕ
  pub mm : List ℕ
  pub ml : List ℕ
  pub unconverted : List ℤ
  pub converted : List ℤ
  pub first_mm : List ℕ
  pub first_unconverted : List ℤ
  pub first_converted : List ℤ
  pub second_mm : List ℕ
  pub second_unconverted : List ℤ
  pub second_converted : List ℤ

-- the rows in the order in which the call takes them
abbrev pub eleven_rows : List ℕ → List ℕ → List ℕ → List ℤ → List ℤ → List ℕ → List ℤ → List ℤ → List ℕ → List ℤ → List ℤ → Rows
eleven_rows seq mm ml u c mm₁ u₁ c₁ mm₂ u₂ c₂ = record {
  seq = seq;
  mm = mm;
  ml = ml;
  unconverted = u;
  converted = c;
  first_mm = mm₁;
  first_unconverted = u₁;
  first_converted = c₁;
  second_mm = mm₂;
  second_unconverted = u₂;
  second_converted = c₂;
}

-- the lengths of the rows
abbrev pub lengths_lent : Rows → Lengths
lengths_lent l = rows
    (length l.seq)
    (length l.mm)
    (length l.ml)
    (length l.unconverted)
    (length l.converted)
    (length l.first_mm)
    (length l.first_unconverted)
    (length l.first_converted)
    (length l.second_mm)
    (length l.second_unconverted)
    (length l.second_converted)

-- `duplex_methylation_tags`: the number of strands, chemistry, consensus, the strands and the rows; the answer, and the rows after the call
abbrev pub Duplexes : ℕ → MethylationMode → List ℕ → Strand → Strand → Rows → Outcome Lengths → Rows → Type 0
Duplexes count mode bases a b lent r left =
    let o = duplex_tags count mode bases a b (lengths_lent lent) in
    (r ≡ on_done lengths_of o)
    × (left.seq ≡ leaves (λ (d : Duplexed). d.seq) o lent.seq)
    × (left.mm ≡ leaves (λ (d : Duplexed). d.joined.text) o lent.mm)
    × (left.ml ≡ leaves (λ (d : Duplexed). d.joined.ml) o lent.ml)
    × (left.unconverted ≡ leaves (λ (d : Duplexed). d.unconverted) o lent.unconverted)
    × (left.converted ≡ leaves (λ (d : Duplexed). d.converted) o lent.converted)
    × (left.first_mm ≡ leaves (λ (d : Duplexed). d.first.text) o lent.first_mm)
    × (left.first_unconverted ≡ leaves (λ (d : Duplexed). d.first.unconverted) o lent.first_unconverted)
    × (left.first_converted ≡ leaves (λ (d : Duplexed). d.first.converted) o lent.first_converted)
    × (left.second_mm ≡ leaves (λ (d : Duplexed). d.second.text) o lent.second_mm)
    × (left.second_unconverted ≡ leaves (λ (d : Duplexed). d.second.unconverted) o lent.second_unconverted)
    × (left.second_converted ≡ leaves (λ (d : Duplexed). d.second.converted) o lent.second_converted)

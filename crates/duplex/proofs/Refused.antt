-- A call that answers a number other than 0 has written nothing.
-- Assumes nothing.
use Rattle.lent.specs.Outcome.{Outcome}
use Rattle.duplex.specs.declared.Lengths.{Lengths}
use mathlib.Core.Path.{◌≡◌}
use Prim.Native.Nat.{ℕ}
use mathlib.Core.Bool.{false}
use mathlib.Core.List.{List}
use Rattle.lent.proofs.Answers.{not_done, row_kept}
use Rattle.lent.specs.Answers.{is_done}
use Rattle.pattern.specs.declared.MethylationMode.{MethylationMode}
use Rattle.samtags.specs.Building.{Strand}
use Rattle.duplex.specs.PublicContracts.{Duplexes, Rows, lengths_lent}
use Rattle.duplex.specs.Duplex.{duplex_tags, lengths_of}

-- all eleven rows
pub duplex_methylation_tags_refused : (count : ℕ) (mode : MethylationMode) (bases : List ℕ) (a b : Strand) (lent : Rows) (r : Outcome Lengths) (left : Rows)
    → Duplexes count mode bases a b lent r left → is_done r ≡ false → left ≡ lent
duplex_methylation_tags_refused count mode bases a b lent r left h d =
    let o = duplex_tags count mode bases a b (lengths_lent lent) in
    let n = not_done lengths_of o r h.0 d in
    let seq = row_kept _ o lent.seq left.seq h.1 n in
    let mm = row_kept _ o lent.mm left.mm h.2 n in
    let ml = row_kept _ o lent.ml left.ml h.3 n in
    let u = row_kept _ o lent.unconverted left.unconverted h.4 n in
    let c = row_kept _ o lent.converted left.converted h.5 n in
    let mm₁ = row_kept _ o lent.first_mm left.first_mm h.6 n in
    let u₁ = row_kept _ o lent.first_unconverted left.first_unconverted h.7 n in
    let c₁ = row_kept _ o lent.first_converted left.first_converted h.8 n in
    let mm₂ = row_kept _ o lent.second_mm left.second_mm h.9 n in
    let u₂ = row_kept _ o lent.second_unconverted left.second_unconverted h.10 n in
    let c₂ = row_kept _ o lent.second_converted left.second_converted h.11 n in
    λ j. record {
      seq = seq j;
      mm = mm j;
      ml = ml j;
      unconverted = u j;
      converted = c j;
      first_mm = mm₁ j;
      first_unconverted = u₁ j;
      first_converted = c₁ j;
      second_mm = mm₂ j;
      second_unconverted = u₂ j;
      second_converted = c₂ j;
    }

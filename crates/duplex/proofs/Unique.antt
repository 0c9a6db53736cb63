-- The public call's contract determines its outcome, the answer and every lent row: two outcomes that meet the contract are equal.
-- Assumes nothing.
use Rattle.lent.specs.Outcome.{Outcome}
use Rattle.duplex.specs.declared.Lengths.{Lengths}
use mathlib.Core.Path.{◌≡◌}
use Prim.Native.Nat.{ℕ}
use mathlib.Core.List.{List}
use Rattle.lent.proofs.Filled.{settled}
use Rattle.pattern.specs.declared.MethylationMode.{MethylationMode}
use Rattle.samtags.specs.Building.{Strand}
use Rattle.duplex.specs.PublicContracts.{Duplexes, Rows, eleven_rows}

pub duplex_methylation_tags_unique : (count : ℕ) (mode : MethylationMode) (bases : List ℕ) (a b : Strand) (lent : Rows) (r s : Outcome Lengths) (k l : Rows)
    → Duplexes count mode bases a b lent r k → Duplexes count mode bases a b lent s l → (r ≡ s) × (k ≡ l)
duplex_methylation_tags_unique count mode bases a b lent r s k l e f =
    let seq = settled k.seq l.seq e.1 f.1 in
    let mm = settled k.mm l.mm e.2 f.2 in
    let ml = settled k.ml l.ml e.3 f.3 in
    let u = settled k.unconverted l.unconverted e.4 f.4 in
    let c = settled k.converted l.converted e.5 f.5 in
    let mm₁ = settled k.first_mm l.first_mm e.6 f.6 in
    let u₁ = settled k.first_unconverted l.first_unconverted e.7 f.7 in
    let c₁ = settled k.first_converted l.first_converted e.8 f.8 in
    let mm₂ = settled k.second_mm l.second_mm e.9 f.9 in
    let u₂ = settled k.second_unconverted l.second_unconverted e.10 f.10 in
    let c₂ = settled k.second_converted l.second_converted e.11 f.11 in (
      settled r s e.0 f.0,
      λ j. eleven_rows (seq j) (mm j) (ml j) (u j) (c j) (mm₁ j) (u₁ j) (c₁ j) (mm₂ j) (u₂ j) (c₂ j),
    )

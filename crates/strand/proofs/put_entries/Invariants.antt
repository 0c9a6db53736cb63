-- `put_entries`. Invariant: what is written so far, followed by what the remaining places give, is the whole result.
-- Assumes nothing.
use mathlib.Core.Path.{◌≡◌}
use Prim.Native.Nat.{◌*◌, ◌+◌, ◌≤◌, ℕ}
use mathlib.Core.List.{List}
use lib.ListN.{length}
use lib.Seq.{sets}
use Rattle.lent.specs.Lists.{concat_map}
use Rattle.pattern.specs.declared.ConversionPattern.{ConversionPattern}
use Rattle.pattern.specs.declared.MethylationMode.{MethylationMode}
use Rattle.samtags.specs.Building.{columns}
use Rattle.samtags.specs.Spots.{values_of}
use Rattle.samtags.specs.Writing.{entries_text, skips_from}
use Rattle.strand.specs.Walk.{spots_from}
use Rattle.strand.proofs.put_entries.Given as goal

-- the entries' text and the values from a place on, where n bare bases wait before it
abbrev pub entries_from : MethylationMode → ConversionPattern → List ℕ → List ℕ → List ℕ → List ℕ → ℕ → ℕ → List ℕ
entries_from mode pattern seq informative unconverted converted place n =
    entries_text (skips_from n (spots_from mode pattern (columns informative unconverted converted) seq place))

abbrev pub values_from : MethylationMode → ConversionPattern → List ℕ → List ℕ → List ℕ → List ℕ → ℕ → List ℕ
values_from mode pattern seq informative unconverted converted place =
    concat_map values_of (spots_from mode pattern (columns informative unconverted converted) seq place)

abbrev pub invariant-loop-place : goal.invariant-loop-place
invariant-loop-place l = let entries = entries_from l.mode l.pattern l.seq l.informative l.unconverted l.converted in
    let values = values_from l.mode l.pattern l.seq l.informative l.unconverted l.converted in
    (l.pen.text + l.pen.skip ≤ l.at + 2 * l.place) × (l.pen.values ≤ l.place)
    × (l.at + length (entries 0 0) ≡ l.pen.text + length (entries l.place l.pen.skip))
    × (0 + length (values 0) ≡ l.pen.values + length (values l.place))
    × (sets l.initial.text l.at (entries 0 0) ≡ sets l.text l.pen.text (entries l.place l.pen.skip))
    × (sets l.initial.ml 0 (values 0) ≡ sets l.ml l.pen.values (values l.place))

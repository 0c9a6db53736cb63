-- Evidence counted over the reads: which reads count at a position, which bases they show there, and how many of each kind.
-- Assumes nothing.
use Rattle.std.specs.Prelude.{ℕ, Bool, ◌&&◌, ◌||◌, List, [], ◌∷◌, map, length, get_or, take, drop, ltb, eqb}
use Rattle.lent.specs.Lists.{filter, tabulate}
use Rattle.pattern.specs.Case.{upper}
use Rattle.pattern.specs.Patterns.{bases_of}
use Rattle.pattern.specs.declared.ConversionPattern.{ConversionPattern}
use Rattle.evidence.specs.Position.{capped}
use Rattle.columns.specs.Columns.{is_yes, informative_at}

-- a source read: its bases, and for each base a byte that says whether it is aligned
pub record Read : Type 0 where
  pub bases : List ℕ
  pub aligned : List ℕ

-- the reads of joined rows: each read takes as many entries as its length says, beginning where the last read ended
unfoldable pub reads_of : List ℕ → List ℕ → List ℕ → List Read
reads_of [] bases aligned = []
reads_of (n ∷ ns) bases aligned = record { bases = take n bases; aligned = take n aligned } ∷ reads_of ns (drop n bases) (drop n aligned)

-- a read counts at a position if it reaches it and, unless all positions are counted, the position is informative and the read is aligned there
abbrev pub counts_at : Bool → Bool → ℕ → Read → Bool
counts_at all? informative? i r = ltb i (length r.bases) && (all? || (informative? && is_yes (get_or r.aligned i 0)))

-- the bases that the reads counted at a position show there, in upper case
unfoldable pub bases_at : Bool → Bool → ℕ → List Read → List ℕ
bases_at all? informative? i reads = map (λ r. upper (get_or r.bases i 0)) (filter (counts_at all? informative? i) reads)

-- how many of the bases equal `base`
unfoldable pub how_many : ℕ → List ℕ → ℕ
how_many base bases = length (filter (eqb base) bases)

-- ---- the columns, an entry for each position below n

-- how many of the reads that count at a position show this base there
abbrev pub count_column : ℕ → ConversionPattern → Bool → List ℕ → List Read → ℕ → List ℕ
count_column base p all? row reads n = tabulate n (λ i. capped (how_many base (bases_at all? (informative_at p row i) i reads)))

abbrev pub unconverted_column : ConversionPattern → Bool → List ℕ → List Read → ℕ → List ℕ
unconverted_column p all? row reads n = count_column (bases_of p).unconverted p all? row reads n

abbrev pub converted_column : ConversionPattern → Bool → List ℕ → List Read → ℕ → List ℕ
converted_column p all? row reads n = count_column (bases_of p).converted p all? row reads n

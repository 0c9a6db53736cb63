-- The order of the reads does not matter. No position has more counts than reads that count there.
-- Assumes nothing.
use mathlib.Core.Path.{◌≡◌, refl, ap, ◌∙◌}
use Prim.Native.Nat.{ℕ, ◌+◌, ◌≤◌, ◌<◌}
use native.Mathlib.Nat.{ℕ_set}
use native.Mathlib.Omega.{arith}
use mathlib.Core.Bool.{Bool}
use mathlib.Core.List.{List, [], ◌∷◌, Permᴰ, Perm, reverse, reverse_perm}
use mathlib.Core.Logic.{∥∥₁_elim}
use lib.Dec.{eqb}
use lib.ListN.{length, get_or, length-map}
use borrow.Author.Tests.{eqb-true, ne_eqb}
use Rattle.lent.proofs.Tests.{by-test}
use Rattle.lent.specs.Lists.{filter}
use Rattle.pattern.specs.Case.{upper}
use Rattle.pattern.specs.Patterns.{bases_of}
use Rattle.pattern.specs.declared.ConversionPattern.{ConversionPattern}
use Rattle.pattern.specs.declared.ConversionPattern.TheVariants.{CToT, GToA}
use Rattle.evidence.specs.Position.{capped}
use Rattle.counting.proofs.Counted.{how_many_more}
use Rattle.lent.proofs.Tabulate.{tabulate_ext}
use Rattle.counting.specs.Reads.{Read, counts_at, bases_at, how_many, count_column}
use Rattle.columns.specs.Columns.{informative_at}

-- how many of the reads that count at a position show the base there
module _ (base : ℕ) (all? inf? : Bool) (i : ℕ) where
  abbrev shown : List Read → ℕ
  shown rs = how_many base (bases_at all? inf? i rs)

  shown_perm : {rs rs' : List Read} → Permᴰ rs rs' → shown rs ≡ shown rs'
  shown_perm Permᴰ.nil = refl
  shown_perm (Permᴰ.cons {a} {b} {l₁} {l₂} e d) =
      rw e (omega (arith, how_many_more base all? inf? i b l₁, how_many_more base all? inf? i b l₂, shown_perm d))
  shown_perm (Permᴰ.swap {a} {b} {a'} {b'} {l} e f) =
      rw (e, f)
      (omega (
        arith,
        how_many_more base all? inf? i b' (a' ∷ l),
        how_many_more base all? inf? i a' (b' ∷ l),
        how_many_more base all? inf? i b' l,
        how_many_more base all? inf? i a' l,
      ))
  shown_perm (Permᴰ.trans d d') = shown_perm d ∙ shown_perm d'

-- the columns of counts are the same for the reads in any order; the informative column does not depend on the reads
pub order_does_not_matter : (base : ℕ) (p : ConversionPattern) (all? : Bool) (row : List ℕ) (reads reads' : List Read) (n : ℕ) → Perm reads reads'
    → count_column base p all? row reads n ≡ count_column base p all? row reads' n
order_does_not_matter base p all? row reads reads' n perm =
    tabulate_ext n (λ i. capped (how_many base (bases_at all? (informative_at p row i) i reads)))
    (λ i. capped (how_many base (bases_at all? (informative_at p row i) i reads'))) (λ (i : ℕ) (l : i < n). ap capped (at_place i))
  where
    at_place : (i : ℕ) → how_many base (bases_at all? (informative_at p row i) i reads) ≡ how_many base (bases_at all? (informative_at p row i) i reads')
    at_place i =
        ∥∥₁_elim perm (ℕ_set (how_many base (bases_at all? (informative_at p row i) i reads))
        (how_many base (bases_at all? (informative_at p row i) i reads')))
        (shown_perm base all? (informative_at p row i) i)

-- in particular, the reads from the last to the first give the same columns
pub reversed_reads_count_alike : (base : ℕ) (p : ConversionPattern) (all? : Bool) (row : List ℕ) (reads : List Read) (n : ℕ)
    → count_column base p all? row (reverse reads) n ≡ count_column base p all? row reads n
reversed_reads_count_alike base p all? row reads n = order_does_not_matter base p all? row (reverse reads) reads n (reverse_perm reads)

-- two different bases among the bases that are shown
two_bases : (a b : ℕ) (bases : List ℕ) → (a ≡ b → ⊥) → how_many a bases + how_many b bases ≤ length bases
unfolding how_many
two_bases a b [] ne = omega arith
two_bases a b (x ∷ xs) ne =
    by-test (eqb a x)
    (λ e. rw (e, ne_eqb b x (λ f. let g : a ≡ x = eqb-true a x e in ne (omega arith))) (omega (arith, two_bases a b xs ne)))
    (λ e. rw e (by-test (eqb b x) (λ f. rw f (omega (arith, two_bases a b xs ne))) (λ f. rw f (omega (arith, two_bases a b xs ne)))))

-- no read is counted twice: unconverted plus converted is at most the number of reads that count at the position
pub counts_add_up : (p : ConversionPattern) (all? inf? : Bool) (i : ℕ) (reads : List Read)
    → how_many (bases_of p).unconverted (bases_at all? inf? i reads) + how_many (bases_of p).converted (bases_at all? inf? i reads)
    ≤ length (filter (counts_at all? inf? i) reads)
unfolding bases_at
counts_add_up p all? inf? i reads =
    let n = length-map (filter (counts_at all? inf? i) reads) (λ r. upper (get_or r.bases i 0)) in
    omega (arith, n, two_bases (bases_of p).unconverted (bases_of p).converted (bases_at all? inf? i reads) (differ p))
  where
    differ : (p : ConversionPattern) → (bases_of p).unconverted ≡ (bases_of p).converted → ⊥
    differ CToT e = omega arith
    differ GToA e = omega arith

-- Each public call's contract determines its outcome, the answer and every lent row: two outcomes that meet the contract are equal.
-- Assumes nothing.
use mathlib.Core.Path.{◌≡◌, sym, ◌∙◌}
use Prim.Native.Nat.{ℕ}
use mathlib.Core.Bool.{Bool}
use mathlib.Core.List.{List}
use lib.IntN.{ℤ}
use Rattle.lent.proofs.Filled.{settled}
use Rattle.lent.specs.Outcome.{Outcome}
use Rattle.pattern.specs.declared.ConversionPattern.{ConversionPattern}
use Rattle.annotation.specs.PublicContracts.{Annotates, Gates, Truncates, GivesCounts, Restores}

-- an answer with what it says, and a row with what it is left as
same_answer : {o : Outcome ℕ} (r s : Outcome ℕ) → r ≡ o → s ≡ o → r ≡ s
same_answer r s p q = (p ∙ sym q)

pub annotate_simplex_methylation_unique : (n : ℕ) (lengths bases row : List ℕ) (p : ConversionPattern) (aligned : List ℕ) (all? : Bool)
    (inf unc con : List ℕ)
    (r s : Outcome ℕ) (i j u v c d : List ℕ)
    → Annotates n lengths bases row p aligned all? inf unc con r i u c → Annotates n lengths bases row p aligned all? inf unc con s j v d
    → (r ≡ s) × (i ≡ j) × (u ≡ v) × (c ≡ d)
annotate_simplex_methylation_unique n lengths bases row p aligned all? inf unc con r s i j u v c d a b =
    (same_answer r s a.0 b.0, settled i j a.1 b.1, settled u v a.2 b.2, settled c d a.3 b.3)

pub gate_to_informative_unique : (inf unc con : List ℕ) (r s : Outcome ℕ) (u v c d : List ℕ)
    → Gates inf unc con r u c → Gates inf unc con s v d → (r ≡ s) × (u ≡ v) × (c ≡ d)
gate_to_informative_unique inf unc con r s u v c d a b = (same_answer r s a.0 b.0, settled u v a.1 b.1, settled c d a.2 b.2)

pub truncate_unique : (len : ℕ) (inf unc con keptInf keptUnc keptCon : List ℕ) (r s : Outcome ℕ) (i j u v c d : List ℕ)
    → Truncates len inf unc con keptInf keptUnc keptCon r i u c → Truncates len inf unc con keptInf keptUnc keptCon s j v d
    → (r ≡ s) × (i ≡ j) × (u ≡ v) × (c ≡ d)
truncate_unique len inf unc con keptInf keptUnc keptCon r s i j u v c d a b =
    (same_answer r s a.0 b.0, settled i j a.1 b.1, settled u v a.2 b.2, settled c d a.3 b.3)

counts_unique : (column inf unc con : List ℕ) (counts : List ℤ) (r s : Outcome ℕ) (c d : List ℤ)
    → GivesCounts column inf unc con counts r c → GivesCounts column inf unc con counts s d → (r ≡ s) × (c ≡ d)
counts_unique column inf unc con counts r s c d a b = (same_answer r s a.0 b.0, settled c d a.1 b.1)

pub unconverted_counts_unique : (inf unc con : List ℕ) (counts : List ℤ) (r s : Outcome ℕ) (c d : List ℤ)
    → GivesCounts unc inf unc con counts r c → GivesCounts unc inf unc con counts s d → (r ≡ s) × (c ≡ d)
unconverted_counts_unique inf unc con = counts_unique unc inf unc con

pub converted_counts_unique : (inf unc con : List ℕ) (counts : List ℤ) (r s : Outcome ℕ) (c d : List ℤ)
    → GivesCounts con inf unc con counts r c → GivesCounts con inf unc con counts s d → (r ≡ s) × (c ≡ d)
converted_counts_unique inf unc con = counts_unique con inf unc con

pub restore_unconverted_bases_unique : (seq : List ℕ) (p : ConversionPattern) (inf : List ℕ) (r s : Outcome ℕ) (t u : List ℕ)
    → Restores seq p inf r t → Restores seq p inf s u → (r ≡ s) × (t ≡ u)
restore_unconverted_bases_unique seq p inf r s t u a b = (same_answer r s a.0 b.0, settled t u a.1 b.1)

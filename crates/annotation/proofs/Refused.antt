-- A call that answers a number other than 0 has written nothing.
-- Assumes nothing.
use mathlib.Core.Path.{◌≡◌, ap, sym, ◌∙◌}
use Prim.Native.Nat.{ℕ}
use mathlib.Core.Bool.{Bool, false}
use mathlib.Core.List.{List}
use lib.IntN.{ℤ}
use Rattle.lent.specs.Answers.{is_done}
use Rattle.lent.specs.Filled.{leaves}
use Rattle.lent.specs.Outcome.{Outcome}
use Rattle.lent.proofs.Answers.{row_kept}
use Rattle.pattern.specs.declared.ConversionPattern.{ConversionPattern}
use Rattle.annotation.specs.PublicContracts.{Annotates, Gates, GivesCounts, Restores, Truncates}

module _ {B : Type 0} where
  kept : (part : ℕ → List B) (o : Outcome ℕ) (r : Outcome ℕ) (row row' : List B) → r ≡ o → row' ≡ leaves part o row → is_done r ≡ false
      → row' ≡ row
  kept part o r row row' e l d = row_kept part o row row' l (sym (ap is_done e) ∙ d)

pub annotate_simplex_methylation_refused : (n : ℕ) (lengths bases row : List ℕ) (p : ConversionPattern) (aligned : List ℕ) (all? : Bool)
    (inf unc con : List ℕ) (r : Outcome ℕ) (inf' unc' con' : List ℕ)
    → Annotates n lengths bases row p aligned all? inf unc con r inf' unc' con' → is_done r ≡ false
    → (inf' ≡ inf) × (unc' ≡ unc) × (con' ≡ con)
annotate_simplex_methylation_refused n lengths bases row p aligned all? inf unc con r inf' unc' con' h d =
    (kept _ _ r inf inf' h.0 h.1 d, kept _ _ r unc unc' h.0 h.2 d, kept _ _ r con con' h.0 h.3 d)

pub gate_to_informative_refused : (inf unc con : List ℕ) (r : Outcome ℕ) (unc' con' : List ℕ) → Gates inf unc con r unc' con' → is_done r ≡ false
    → (unc' ≡ unc) × (con' ≡ con)
gate_to_informative_refused inf unc con r unc' con' h d = (kept _ _ r unc unc' h.0 h.1 d, kept _ _ r con con' h.0 h.2 d)

pub truncate_refused : (len : ℕ) (inf unc con keptInf keptUnc keptCon : List ℕ) (r : Outcome ℕ) (inf' unc' con' : List ℕ)
    → Truncates len inf unc con keptInf keptUnc keptCon r inf' unc' con' → is_done r ≡ false
    → (inf' ≡ keptInf) × (unc' ≡ keptUnc) × (con' ≡ keptCon)
truncate_refused len inf unc con keptInf keptUnc keptCon r inf' unc' con' h d =
    (kept _ _ r keptInf inf' h.0 h.1 d, kept _ _ r keptUnc unc' h.0 h.2 d, kept _ _ r keptCon con' h.0 h.3 d)

-- for `unconverted_counts` and `converted_counts`
pub counts_refused : (column inf unc con : List ℕ) (counts : List ℤ) (r : Outcome ℕ) (counts' : List ℤ) → GivesCounts column inf unc con counts r counts'
    → is_done r ≡ false → counts' ≡ counts
counts_refused column inf unc con counts r counts' h d = kept _ _ r counts counts' h.0 h.1 d

pub restore_unconverted_bases_refused : (seq : List ℕ) (p : ConversionPattern) (inf : List ℕ) (r : Outcome ℕ) (seq' : List ℕ) → Restores seq p inf r seq'
    → is_done r ≡ false → seq' ≡ seq
restore_unconverted_bases_refused seq p inf r seq' h d = kept _ _ r seq seq' h.0 h.1 d

-- The numbers that each public call can answer: no other number, each of them for some input, and 0 exactly when the call is done.
-- Assumes nothing.
use Rattle.std.specs.Prelude.{Ok}
use mathlib.Core.Path.{◌≡◌, refl, sym, subst}
use mathlib.Core.Bool.{Bool, true, false, ◌&&◌}
use mathlib.Core.List.{List, [], ◌∷◌, map}
use Prim.Native.Nat.{ℕ, min}
use lib.Dec.{leb, eqb}
use lib.IntN.{ℤ, pos}
use lib.ListN.{length, replicate}
use Rattle.lent.specs.Answers.{Answers, refuses_only}
use Rattle.lent.specs.Lists.{among, sum}
use Rattle.lent.specs.Outcome.{Outcome, number_of}
use Rattle.lent.proofs.Answers.{only_need, only_and_then, answers}
use Rattle.pattern.specs.declared.ConversionPattern.{ConversionPattern}
use Rattle.refusals.specs.Refusals.{columns_of, in_room, restorable, truncated, counts_in_room, annotated}
use Rattle.annotation.specs.PublicContracts.{Annotates, Gates, Truncates, GivesCounts, Restores}

-- an answer that says the outcome of a definition
said : (ns : List ℕ) (r : Outcome ℕ) (o : Outcome ℕ) → r ≡ o → among ns 0 ≡ false → refuses_only ns o ≡ true → Answers ns r
said ns r o e z k = subst (Answers ns) (sym e) (answers ns o z k)

module _ (ns : List ℕ) where
  only_columns : (inf unc con : ℕ) → among ns 1 ≡ true → among ns 2 ≡ true → refuses_only ns (columns_of inf unc con) ≡ true
  unfolding columns_of
  only_columns inf unc con one two =
      only_need ns (leb inf 16000 && leb unc 16000 && leb con 16000) 1 _ one (only_need ns (eqb unc inf && eqb con inf) 2 (Ok inf) two refl)

  only_in_room : (n inf unc con : ℕ) → among ns 12 ≡ true → refuses_only ns (in_room n inf unc con) ≡ true
  unfolding in_room
  only_in_room n inf unc con twelve = only_need ns (leb n inf && leb n unc && leb n con) 12 (Ok n) twelve refl

-- a column of one position, and one of more than the 16,000 that it may have
abbrev one : List ℕ
one = 1 ∷ []

abbrev too_many : List ℕ
too_many = replicate 16001 0

-- ---- annotate_simplex_methylation

pub annotate_simplex_methylation_numbers : (n : ℕ) (lengths bases row : List ℕ) (p : ConversionPattern) (aligned : List ℕ) (all? : Bool)
    (inf unc con : List ℕ) (r : Outcome ℕ) (inf' unc' con' : List ℕ)
    → Annotates n lengths bases row p aligned all? inf unc con r inf' unc' con' → Answers (1 ∷ 2 ∷ 12 ∷ []) r
unfolding annotated
annotate_simplex_methylation_numbers n lengths bases row p aligned all? inf unc con r inf' unc' con' h =
    said (1 ∷ 2 ∷ 12 ∷ []) r _ h.0 refl
    (only_need (1 ∷ 2 ∷ 12 ∷ []) (leb n 16000 && leb (length lengths) 4096 && leb (length bases) 1048576 && leb (length aligned) 1048576) 1 _ refl
    (only_need (1 ∷ 2 ∷ 12 ∷ []) (eqb (sum lengths) (length bases) && eqb (length aligned) (length bases)) 2 _ refl
    (only_in_room (1 ∷ 2 ∷ 12 ∷ []) n (length inf) (length unc) (length con) refl)))

-- one read of one base: a consensus of one position; of 16,001; no aligned byte; columns without room
pub annotate_simplex_methylation_each_number :
    map (λ (i : ℕ × List ℕ × List ℕ). number_of (annotated i.0 one (67 ∷ []) i.1 (length i.2) (length i.2) (length i.2)))
    ((1, one, one) ∷ (16001, one, one) ∷ (1, [], one) ∷ (1, one, []) ∷ [])
    ≡ 0 ∷ 1 ∷ 2 ∷ 12 ∷ []
unfolding annotated in_room
annotate_simplex_methylation_each_number = refl

-- ---- gate_to_informative

pub gate_to_informative_numbers : (inf unc con : List ℕ) (r : Outcome ℕ) (unc' con' : List ℕ)
    → Gates inf unc con r unc' con' → Answers (1 ∷ 2 ∷ []) r
gate_to_informative_numbers inf unc con r unc' con' h =
    said (1 ∷ 2 ∷ []) r _ h.0 refl (only_columns (1 ∷ 2 ∷ []) (length inf) (length unc) (length con) refl refl)

-- columns of one position; the first of 16,001; the first without any
pub gate_to_informative_each_number :
    map (λ (inf : List ℕ). number_of (columns_of (length inf) (length one) (length one))) (one ∷ too_many ∷ [] ∷ [])
    ≡ 0 ∷ 1 ∷ 2 ∷ []
unfolding columns_of
gate_to_informative_each_number = refl

-- ---- truncate

pub truncate_numbers : (len : ℕ) (inf unc con keptInf keptUnc keptCon : List ℕ) (r : Outcome ℕ) (inf' unc' con' : List ℕ)
    → Truncates len inf unc con keptInf keptUnc keptCon r inf' unc' con' → Answers (1 ∷ 2 ∷ 12 ∷ []) r
unfolding truncated
truncate_numbers len inf unc con keptInf keptUnc keptCon r inf' unc' con' h =
    said (1 ∷ 2 ∷ 12 ∷ []) r _ h.0 refl
    (only_and_then (1 ∷ 2 ∷ 12 ∷ []) (columns_of (length inf) (length unc) (length con)) _
    (only_columns (1 ∷ 2 ∷ 12 ∷ []) (length inf) (length unc) (length con) refl refl)
    (λ n. only_in_room (1 ∷ 2 ∷ 12 ∷ []) (min len n) (length keptInf) (length keptUnc) (length keptCon) refl))

-- one position asked for: columns as above, and rows without room
pub truncate_each_number :
    map (λ (i : List ℕ × List ℕ). number_of (truncated 1 (length i.0) (length one) (length one) (length i.1) (length i.1) (length i.1)))
    ((one, one) ∷ (too_many, one) ∷ ([], one) ∷ (one, []) ∷ [])
    ≡ 0 ∷ 1 ∷ 2 ∷ 12 ∷ []
unfolding truncated columns_of in_room
truncate_each_number = refl

-- ---- unconverted_counts and converted_counts

counts_numbers : (column inf unc con : List ℕ) (counts : List ℤ) (r : Outcome ℕ) (counts' : List ℤ)
    → GivesCounts column inf unc con counts r counts' → Answers (1 ∷ 2 ∷ 12 ∷ []) r
unfolding counts_in_room
counts_numbers column inf unc con counts r counts' h =
    said (1 ∷ 2 ∷ 12 ∷ []) r _ h.0 refl
    (only_and_then (1 ∷ 2 ∷ 12 ∷ []) (columns_of (length inf) (length unc) (length con)) _
    (only_columns (1 ∷ 2 ∷ 12 ∷ []) (length inf) (length unc) (length con) refl refl)
    (λ n. only_need (1 ∷ 2 ∷ 12 ∷ []) (leb n (length counts)) 12 (Ok n) refl refl))

pub unconverted_counts_numbers : (inf unc con : List ℕ) (counts : List ℤ) (r : Outcome ℕ) (counts' : List ℤ)
    → GivesCounts unc inf unc con counts r counts' → Answers (1 ∷ 2 ∷ 12 ∷ []) r
unconverted_counts_numbers inf unc con = counts_numbers unc inf unc con

pub converted_counts_numbers : (inf unc con : List ℕ) (counts : List ℤ) (r : Outcome ℕ) (counts' : List ℤ)
    → GivesCounts con inf unc con counts r counts' → Answers (1 ∷ 2 ∷ 12 ∷ []) r
converted_counts_numbers inf unc con = counts_numbers con inf unc con

-- of either call: columns as above, and a row without room
pub counts_each_number :
    map (λ (i : List ℕ × List ℤ). number_of (counts_in_room (length i.0) (length one) (length one) (length i.1)))
    ((one, pos 0 ∷ []) ∷ (too_many, pos 0 ∷ []) ∷ ([], pos 0 ∷ []) ∷ (one, []) ∷ [])
    ≡ 0 ∷ 1 ∷ 2 ∷ 12 ∷ []
unfolding counts_in_room columns_of
counts_each_number = refl

-- ---- restore_unconverted_bases

pub restore_unconverted_bases_numbers : (seq : List ℕ) (p : ConversionPattern) (inf : List ℕ) (r : Outcome ℕ) (seq' : List ℕ)
    → Restores seq p inf r seq' → Answers (1 ∷ 2 ∷ []) r
unfolding restorable
restore_unconverted_bases_numbers seq p inf r seq' h =
    said (1 ∷ 2 ∷ []) r _ h.0 refl
    (only_need (1 ∷ 2 ∷ []) (leb (length seq) 16000 && leb (length inf) 16000) 1 _ refl
    (only_need (1 ∷ 2 ∷ []) (eqb (length inf) (length seq)) 2 (Ok (length seq)) refl refl))

-- a SEQ of one base, with a column of one position, of 16,001, of none
pub restore_unconverted_bases_each_number :
    map (λ (inf : List ℕ). number_of (restorable (length one) (length inf))) (one ∷ too_many ∷ [] ∷ [])
    ≡ 0 ∷ 1 ∷ 2 ∷ []
unfolding restorable
restore_unconverted_bases_each_number = refl

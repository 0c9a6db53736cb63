-- The numbers that the public call can answer: no other number, each of them for some input, and 0 exactly when the call is done. 20 is not among them.
-- Assumes nothing.
use mathlib.Core.Path.{◌≡◌, refl}
use Prim.Native.Nat.{ℕ}
use mathlib.Core.Bool.{true, ◌||◌}
use mathlib.Core.List.{List, [], ◌∷◌}
use lib.Dec.{eqb}
use lib.ListN.{replicate}
use Rattle.duplex.specs.PublicContracts.{Duplexes, Rows, lengths_lent}
use Rattle.duplex.specs.Duplex.{Duplexed, admitted, duplex_tags, duplexed, lengths_of, rows, strand, strands_of, within}
use Rattle.duplex.specs.declared.Lengths.{Lengths}
use Rattle.lent.proofs.Answers.{answers, only_and_then, only_need, only_on_done}
use Rattle.lent.specs.Answers.{Answers, refuses_only}
use Rattle.lent.specs.Lists.{every}
use Rattle.lent.specs.Outcome.{Outcome, number_of, on_done}
use Rattle.pattern.specs.declared.ConversionPattern.TheVariants.{CToT, GToA}
use Rattle.pattern.specs.declared.MethylationMode.{MethylationMode}
use Rattle.pattern.specs.declared.MethylationMode.TheVariants.{EmSeq}
use Rattle.samtags.specs.Building.{Strand, evidence_agrees, evidence_in_domain, joined_tag}
use Rattle.samtags.specs.Bytes.{ascii}

abbrev pub duplex_numbers : List ℕ
duplex_numbers = 1 ∷ 2 ∷ 12 ∷ 13 ∷ []

pub duplex_tags_only : (count : ℕ) (mode : MethylationMode) (bases : List ℕ) (a b : Strand) (lent : Lengths)
    → refuses_only duplex_numbers (duplex_tags count mode bases a b lent) ≡ true
unfolding duplex_tags admitted
duplex_tags_only count mode bases a b lent =
    let strands = strands_of (eqb count 2) a b in
    only_and_then duplex_numbers (admitted count bases a b (duplexed (eqb count 2) mode bases a b)) _
    (only_need duplex_numbers (eqb count 1 || eqb count 2) 13 _ refl
    (only_need duplex_numbers (every (λ s. evidence_in_domain s.evidence bases) strands) 1 _ refl
    (only_need duplex_numbers (every (λ s. evidence_agrees s.evidence bases) strands) 2 _ refl refl)))
    (λ (d : Duplexed). only_need duplex_numbers (within (lengths_of d) lent) 12 _ refl refl)

pub duplex_methylation_tags_numbers : (count : ℕ) (mode : MethylationMode) (bases : List ℕ) (a b : Strand) (lent : Rows) (r : Outcome Lengths) (left : Rows)
    → Duplexes count mode bases a b lent r left → Answers (1 ∷ 2 ∷ 12 ∷ 13 ∷ []) r
duplex_methylation_tags_numbers count mode bases a b lent r left d =
    let o = duplex_tags count mode bases a b (lengths_lent lent) in
    rw d.0 (answers _ (on_done lengths_of o) refl (only_on_done duplex_numbers lengths_of o (duplex_tags_only count mode bases a b (lengths_lent lent))))

-- ---- the set is not too large: worked inputs, whose numbers are 0 and then each of the set in order

-- rows of one length
abbrev all_of : ℕ → Lengths
all_of n = rows n n n n n n n n n n n

-- a read of an informative C, and nothing
abbrev read : Strand
read = strand CToT (1 ∷ []) (1 ∷ []) (0 ∷ [])

abbrev nothing : Strand
nothing = strand GToA [] [] []

abbrev number : ℕ → List ℕ → Strand → Strand → ℕ → ℕ
number count bases a b room = number_of (duplex_tags count EmSeq bases a b (all_of room))

pub duplex_methylation_tags_each_number :
    number 2 (ascii "C") read read 100
    ∷ number 1 (replicate 16001 67) nothing nothing 100
    ∷ number 2 (ascii "C") read nothing 100
    ∷ number 1 (ascii "C") read nothing 0
    ∷ number 3 (ascii "C") read read 100
    ∷ []
    ≡ 0 ∷ 1 ∷ 2 ∷ 12 ∷ 13 ∷ []
unfolding duplex_tags joined_tag
duplex_methylation_tags_each_number = refl

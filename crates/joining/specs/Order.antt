-- Two strands in the order of the joined tag, and the second strand if there is one. These are contracts of support functions; no promise rests on them.
-- Assumes nothing.
use Rattle.std.specs.Prelude.{ℕ, min, ◌+◌, Bool, cond, not, ◌&&◌, List, [], ◌++◌, ℤ, pos, length, get_or}
use Rattle.lent.specs.Lists.{tabulate}
use Rattle.pattern.specs.declared.ConversionPattern.{ConversionPattern}
use Rattle.pattern.specs.declared.MethylationMode.{MethylationMode}
use Rattle.columns.specs.Columns.{as_tag_counts, restored}
use Rattle.samtags.specs.Writing.{Tag}
use Rattle.samtags.specs.Building.{Evidence, converts_c, own_tag}

-- the second strand comes first only if it is C to T and the first one is not
abbrev pub second_first : ConversionPattern → ConversionPattern → Bool
second_first p q = not (converts_c p) && converts_c q

abbrev pub first_of : {A : Type 0} → ConversionPattern → ConversionPattern → A → A → A
first_of p q a b = cond (second_first p q) b a

abbrev pub second_of : {A : Type 0} → ConversionPattern → ConversionPattern → A → A → A
second_of p q a b = cond (second_first p q) a b

abbrev pub in_order_of : ConversionPattern → ConversionPattern → List ℕ → List ℕ → List ℕ
in_order_of p q a b = first_of p q a b ++ second_of p q a b

-- SEQ restored by the first strand and then, if there are two, by the second
abbrev pub restored_by_both : Bool → ConversionPattern → List ℕ → ConversionPattern → List ℕ → List ℕ → List ℕ
restored_by_both two? p informative q other seq = cond two? (restored q other (restored p informative seq)) (restored p informative seq)

-- the sums of both strands' counts, as a tag holds them
abbrev pub both_counts : List ℕ → List ℕ → List ℤ
both_counts a b = tabulate (length a) (λ i. pos (min 32767 (get_or a i 0 + get_or b i 0)))

abbrev pub all_counts : Bool → List ℕ → List ℕ → List ℤ
all_counts two? a b = cond two? (both_counts a b) (as_tag_counts a)

-- the second strand's own tag; it is empty if there is no second strand
abbrev pub second_tag : Bool → MethylationMode → ConversionPattern → Evidence → List ℕ → Tag
second_tag two? mode q ev seq = cond two? (own_tag mode q ev seq) (record { text = []; ml = [] })

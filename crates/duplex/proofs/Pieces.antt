-- The parts of the answer, as the code computes them from the strands' own tags and columns.
-- Assumes nothing.
use Rattle.std.specs.Prelude.{Ok}
use mathlib.Core.Path.{◌∙◌, ◌≡◌, ap, refl, sym}
use Prim.Native.Nat.{◌+◌, ◌<◌, min, ℕ, ◌≤◌}
use native.Mathlib.Omega.{arith}
use mathlib.Core.Bool.{Bool, ◌&&◌, cond, false, true}
use mathlib.Core.List.{List, [], append-nil, map}
use lib.Dec.{eqb}
use lib.IntN.{pos}
use lib.ListN.{get_or, length, length-append, length-map}
use Rattle.columns.specs.Columns.{as_tag_counts}
use Rattle.duplex.proofs.Admitted.{Passed, every_strand, passes_too}
use Rattle.duplex.specs.Duplex.{Duplexed, admitted, combined, duplex_tags, duplexed, lengths_of, no_tags, restored_by, strand_tags, strands_of, within}
use Rattle.duplex.specs.Measured.{both_sizes, part_lengths, restored_seq}
use Rattle.evidence.specs.Position.{capped}
use Rattle.joining.proofs.Parts.{both_length, order_lengths}
use Rattle.joining.specs.Order.{first_of, all_counts, in_order_of, second_of, second_tag}
use Rattle.lent.proofs.Tabulate.{length_tabulate, map_tabulate, tabulate_ext, tabulate_get_d}
use Rattle.lent.proofs.Tests.{and_true_l, and_true_r, by-test}
use Rattle.lent.specs.Lists.{concat_map, sum, tabulate}
use Rattle.lent.specs.Outcome.{Outcome, and_then, need}
use Rattle.pattern.specs.declared.ConversionPattern.{ConversionPattern}
use Rattle.pattern.specs.declared.MethylationMode.{MethylationMode}
use Rattle.samtags.proofs.Building.{joined_fits_the_domain}
use Rattle.samtags.proofs.OwnTag.{joined_ml, joined_text, own_of}
use Rattle.samtags.specs.Building.{Evidence, Strand, converts_c, evidence_agrees, evidence_in_domain, in_join_order, joined_tag, own_tag}
use Rattle.samtags.specs.Writing.{Tag}
use Rattle.strand.proofs.Lengths.{Lengths, lengths_known}
use Rattle.duplex.specs.declared.Lengths.{Lengths as LengthsLent}

-- ---- SEQ

pub seq_is : (two? : Bool) (bases : List ℕ) (a b : Strand) → restored_by (strands_of two? a b) bases ≡ restored_seq two? bases a b
seq_is true bases a b = refl
seq_is false bases a b = refl

-- ---- the joined tag

-- what f gives of each strand, in the order of the joined tag
in_order : (f : Strand → List ℕ) (two? : Bool) (a b : Strand)
    → concat_map f (in_join_order (strands_of two? a b)) ≡ in_order_of a.pattern b.pattern (f a) (cond two? (f b) [])
in_order f true a b =
    by-test (converts_c a.pattern)
    (λ e. rw e (by-test (converts_c b.pattern) (λ g. rw (g, append-nil (f b))) (λ g. rw (g, append-nil (f b)))))
    (λ e. rw e (by-test (converts_c b.pattern) (λ g. rw (g, append-nil (f a))) (λ g. rw (g, append-nil (f b)))))
in_order f false a b =
    by-test (converts_c a.pattern)
    (λ e. rw e)
    (λ e. rw e (by-test (converts_c b.pattern) (λ g. rw g (append-nil (f a))) (λ g. rw g)))

second_text : (two? : Bool) (mode : MethylationMode) (b : Strand) (seq : List ℕ)
    → cond two? (own_of mode seq b).text [] ≡ (second_tag two? mode b.pattern b.evidence seq).text
second_text true mode b seq = refl
second_text false mode b seq = refl

second_ml : (two? : Bool) (mode : MethylationMode) (b : Strand) (seq : List ℕ)
    → cond two? (own_of mode seq b).ml [] ≡ (second_tag two? mode b.pattern b.evidence seq).ml
second_ml true mode b seq = refl
second_ml false mode b seq = refl

module _ (two? : Bool) (mode : MethylationMode) (seq : List ℕ) (a b : Strand) where
  abbrev own : Tag
  own = own_tag mode a.pattern a.evidence seq

  abbrev other : Tag
  other = second_tag two? mode b.pattern b.evidence seq

  pub text_is : (joined_tag mode (strands_of two? a b) seq).text ≡ in_order_of a.pattern b.pattern own.text other.text
  text_is =
      joined_text mode seq (strands_of two? a b) ∙ in_order (λ (s : Strand). (own_of mode seq s).text) two? a b
      ∙ ap (λ (l : List ℕ). in_order_of a.pattern b.pattern own.text l) (second_text two? mode b seq)

  pub ml_is : (joined_tag mode (strands_of two? a b) seq).ml ≡ in_order_of a.pattern b.pattern own.ml other.ml
  ml_is =
      joined_ml mode seq (strands_of two? a b) ∙ in_order (λ (s : Strand). (own_of mode seq s).ml) two? a b
      ∙ ap (λ (l : List ℕ). in_order_of a.pattern b.pattern own.ml l) (second_ml two? mode b seq)

-- ---- the counts

-- a sum that a u32 does not hold is far above what a tag holds
clamped : (m n : ℕ) → min 32767 (capped (m + (n + 0))) ≡ min 32767 (m + n)
clamped m n = omega arith

clamped_one : (m : ℕ) → min 32767 (capped (m + 0)) ≡ min 32767 m
clamped_one m = omega arith

module _ (column : Evidence → List ℕ) where
  abbrev count : Strand → ℕ → ℕ
  count s i = get_or (column s.evidence) i 0

  pub counts_are : (n : ℕ) (two? : Bool) (a b : Strand) → length (column a.evidence) ≡ n
      → combined column n (strands_of two? a b) ≡ all_counts two? (column a.evidence) (column b.evidence)
  counts_are n true a b l =
      map_tabulate (λ (m : ℕ). pos (min 32767 m)) n (λ (i : ℕ). capped (count a i + (count b i + 0)))
      ∙ tabulate_ext n _ _ (λ (i : ℕ) (h : i < n). ap pos (clamped (count a i) (count b i)))
      ∙ ap (λ (m : ℕ). tabulate m (λ (i : ℕ). pos (min 32767 (count a i + count b i)))) (sym l)
  counts_are n false a b l =
      map_tabulate (λ (m : ℕ). pos (min 32767 m)) n (λ (i : ℕ). capped (count a i + 0))
      ∙ tabulate_ext n _ _ (λ (i : ℕ) (h : i < n). ap pos (clamped_one (count a i)))
      ∙ sym (map_tabulate (λ (m : ℕ). pos (min 32767 m)) n (count a))
      ∙ ap (λ (m : ℕ). as_tag_counts (tabulate m (count a))) (sym l)
      ∙ ap as_tag_counts (tabulate_get_d (column a.evidence) 0)

  pub length_counts : (n : ℕ) (strands : List Strand) → length (combined column n strands) ≡ n
  length_counts n strands =
      length-map (tabulate n (λ i. capped (sum (map (λ s. get_or (column s.evidence) i 0) strands)))) (λ n. pos (min 32767 n))
      ∙ length_tabulate n (λ i. capped (sum (map (λ s. get_or (column s.evidence) i 0) strands)))

-- ---- the whole answer

-- how long the columns of the strands that are there are
pub record Known (two? : Bool) (bases : List ℕ) (a b : Strand) : Type 0 where
  pub first : Lengths a.evidence bases
  pub second : two? ≡ true → Lengths b.evidence bases

-- the answer as the code finds it
abbrev pub pieces : Bool → MethylationMode → List ℕ → Strand → Strand → Duplexed
pieces two? mode bases a b =
    let seq = restored_seq two? bases a b in
    let own = own_tag mode a.pattern a.evidence seq in
    let other = second_tag two? mode b.pattern b.evidence seq in
    record {
      seq = seq;
      joined = record {
        text = in_order_of a.pattern b.pattern own.text other.text;
        ml = in_order_of a.pattern b.pattern own.ml other.ml;
      };
      unconverted = all_counts two? a.evidence.unconverted b.evidence.unconverted;
      converted = all_counts two? a.evidence.converted b.evidence.converted;
      first = strand_tags mode seq a;
      second = record {
        text = other.text;
        unconverted = cond two? (as_tag_counts b.evidence.unconverted) [];
        converted = cond two? (as_tag_counts b.evidence.converted) [];
      };
    }

pub pieces_are : (two? : Bool) (mode : MethylationMode) (bases : List ℕ) (a b : Strand) → Known two? bases a b
    → duplexed two? mode bases a b ≡ pieces two? mode bases a b
unfolding duplexed
pieces_are true mode bases a b k =
    let seq = restored_seq true bases a b in
    λ j. record {
      seq = seq;
      joined = record { text = text_is true mode seq a b j; ml = ml_is true mode seq a b j };
      unconverted = counts_are (λ ev. ev.unconverted) (length bases) true a b k.first.unc j;
      converted = counts_are (λ ev. ev.converted) (length bases) true a b k.first.con j;
      first = strand_tags mode seq a;
      second = strand_tags mode seq b;
    }
pieces_are false mode bases a b k =
    let seq = restored_seq false bases a b in
    λ j. record {
      seq = seq;
      joined = record { text = text_is false mode seq a b j; ml = ml_is false mode seq a b j };
      unconverted = counts_are (λ ev. ev.unconverted) (length bases) false a b k.first.unc j;
      converted = counts_are (λ ev. ev.converted) (length bases) false a b k.first.con j;
      first = strand_tags mode seq a;
      second = no_tags;
    }

-- how long its parts are
order_length : (p q : ConversionPattern) (xs ys : List ℕ) → length (in_order_of p q xs ys) ≡ length xs + length ys
order_length p q xs ys = length-append (first_of p q xs ys) (second_of p q xs ys) ∙ order_lengths p q xs ys

tag_counts : (ns : List ℕ) (n : ℕ) → length ns ≡ n → length (as_tag_counts ns) ≡ n
tag_counts ns n e = length-map ns (λ n. pos (min 32767 n)) ∙ e

all_counts_lem : (two? : Bool) (ms ns : List ℕ) (n : ℕ) → length ms ≡ n → length (all_counts two? ms ns) ≡ n
all_counts_lem true ms ns n e = length_tabulate (length ms) (λ i. pos (min 32767 (get_or ms i 0 + get_or ns i 0))) ∙ e
all_counts_lem false ms ns n e = tag_counts ms n e

second_counts : (two? : Bool) (ns : List ℕ) (n : ℕ) → (two? ≡ true → length ns ≡ n) → length (cond two? (as_tag_counts ns) []) ≡ cond two? n 0
second_counts true ns n e = tag_counts ns n (e refl)
second_counts false ns n e = refl

pub lengths_are : (two? : Bool) (mode : MethylationMode) (bases : List ℕ) (a b : Strand) → Known two? bases a b
    → lengths_of (pieces two? mode bases a b) ≡ part_lengths two? (length bases) (both_sizes two? mode (restored_seq two? bases a b) a b)
lengths_are two? mode bases a b k =
    let n = length bases in
    let seq = restored_seq two? bases a b in
    let own = own_tag mode a.pattern a.evidence seq in
    let other = second_tag two? mode b.pattern b.evidence seq in
    let unc : two? ≡ true → length b.evidence.unconverted ≡ n = λ (t : two? ≡ true). (k.second t).unc in
    let con : two? ≡ true → length b.evidence.converted ≡ n = λ (t : two? ≡ true). (k.second t).con in
    let inf : two? ≡ true → length b.evidence.informative ≡ n = λ (t : two? ≡ true). (k.second t).inf in
    λ j. record {
      seq = both_length two? a.pattern a.evidence.informative b.pattern b.evidence.informative bases k.first.inf inf j;
      mm = order_length a.pattern b.pattern own.text other.text j;
      ml = order_length a.pattern b.pattern own.ml other.ml j;
      unconverted = all_counts_lem two? a.evidence.unconverted b.evidence.unconverted n k.first.unc j;
      converted = all_counts_lem two? a.evidence.converted b.evidence.converted n k.first.con j;
      first_mm = length own.text;
      first_unconverted = tag_counts a.evidence.unconverted n k.first.unc j;
      first_converted = tag_counts a.evidence.converted n k.first.con j;
      second_mm = length other.text;
      second_unconverted = second_counts two? b.evidence.unconverted n unc j;
      second_converted = second_counts two? b.evidence.converted n con j;
    }

pub one_or_two : (two? : Bool) (a b : Strand) → length (strands_of two? a b) ≤ 2
one_or_two true a b = omega arith
one_or_two false a b = omega arith

-- two texts that are joined can always be edited
pub tags_fit : (two? : Bool) (mode : MethylationMode) (bases : List ℕ) (a b : Strand) → Known two? bases a b
    → let seq = restored_seq two? bases a b in
    let own = own_tag mode a.pattern a.evidence seq in
    let other = second_tag two? mode b.pattern b.evidence seq in
    (length own.text + length other.text ≤ 64010) × (length own.ml + length other.ml ≤ 32000)
tags_fit two? mode bases a b k =
    let seq = restored_seq two? bases a b in
    let own = own_tag mode a.pattern a.evidence seq in
    let other = second_tag two? mode b.pattern b.evidence seq in
    let inf : two? ≡ true → length b.evidence.informative ≡ length bases = λ (t : two? ≡ true). (k.second t).inf in
    let long : length seq ≡ length bases =
    both_length two? a.pattern a.evidence.informative b.pattern b.evidence.informative bases k.first.inf inf in
    let fit = joined_fits_the_domain mode (strands_of two? a b) seq (one_or_two two? a b) (omega (arith, long, k.first.short)) in (
      omega (arith, fit.0, ap (λ (l : List ℕ). length l) (text_is two? mode seq a b), order_length a.pattern b.pattern own.text other.text),
      omega (arith, fit.1, ap (λ (l : List ℕ). length l) (ml_is two? mode seq a b), order_length a.pattern b.pattern own.ml other.ml),
    )

-- ---- where the checks passed

pub known : {A : Type 0} (count : ℕ) (bases : List ℕ) (a b : Strand) (x y : A) → Passed count bases a b x y → Known (eqb count 2) bases a b
known count bases a b x y p =
    let two? = eqb count 2 in
    let short : (evidence_in_domain a.evidence bases && cond two? (evidence_in_domain b.evidence bases) true) ≡ true =
    sym (every_strand (λ s. evidence_in_domain s.evidence bases) two? a b) ∙ p.all_short in
    let same : (evidence_agrees a.evidence bases && cond two? (evidence_agrees b.evidence bases) true) ≡ true =
    sym (every_strand (λ s. evidence_agrees s.evidence bases) two? a b) ∙ p.all_same in
    let short₂ = and_true_r (evidence_in_domain a.evidence bases) (cond two? (evidence_in_domain b.evidence bases) true) short in
    let same₂ = and_true_r (evidence_agrees a.evidence bases) (cond two? (evidence_agrees b.evidence bases) true) same in
    record {
      first = lengths_known a.evidence bases (and_true_l _ _ short) (and_true_l _ _ same);
      second = λ (t : two? ≡ true). lengths_known b.evidence bases (rw t at short₂) (rw t at same₂);
    }

module _ (count : ℕ) (mode : MethylationMode) (bases : List ℕ) (a b : Strand) (lent : LengthsLent) where
  abbrev pub answer : Duplexed
  answer = pieces (eqb count 2) mode bases a b

  -- the answer, once it is known whether it fits
  pub room_asked : {A : Type 0} (x y : A) → Passed count bases a b x y
      → duplex_tags count mode bases a b lent ≡ need (within (lengths_of answer) lent) 12 (Ok answer)
  unfolding duplex_tags
  room_asked x y p =
      let d = duplexed (eqb count 2) mode bases a b in
      let is : d ≡ answer = pieces_are (eqb count 2) mode bases a b (known count bases a b x y p) in
      let ok : admitted count bases a b d ≡ Ok d = passes_too count bases a b x y d p in
      ap (λ (o : Outcome Duplexed). and_then o (λ d. need (within (lengths_of d) lent) 12 (Ok d))) (ok ∙ ap Ok is)

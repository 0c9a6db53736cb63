-- One strand or two: over upper-case bases the reader accepts the joined tag that the duplex call leaves in the lent rows, read over the SEQ that the call
-- leaves. The reader lists exactly the calls of the strands' evidence, C to T first.
-- Assumes nothing.
use Rattle.std.specs.Prelude.{Ok}
use mathlib.Core.Path.{◌≡◌, refl, sym, ap, ◌∙◌}
use Prim.Native.Nat.{ℕ, ◌<◌, ◌≤◌}
use native.Mathlib.Omega.{arith}
use mathlib.Core.Bool.{Bool, true, false, cond, ◌&&◌}
use mathlib.Core.List.{List, [], ◌∷◌}
use lib.Dec.{eqb}
use lib.ListN.{length, take}
use Rattle.lent.specs.Lists.{is_empty}
use Rattle.lent.specs.Outcome.{need}
use Rattle.lent.proofs.Leaves.{front_is_part}
use Rattle.lent.proofs.Tests.{by-test, and_true, and_true_l, and_true_r}
use Rattle.lent.proofs.Outcome.{on_done_inv, and_then_inv, need_rest, done_inj}
use Rattle.pattern.specs.Case.{upper, same_in_any_case}
use Rattle.pattern.specs.Patterns.{bases_of}
use Rattle.pattern.specs.declared.ConversionPattern.{ConversionPattern}
use Rattle.pattern.specs.declared.ConversionPattern.TheVariants.{CToT, GToA}
use Rattle.pattern.specs.declared.MethylationMode.{MethylationMode}
use Rattle.columns.specs.Columns.{is_yes, restored}
use Rattle.samtags.specs.Spots.{Group}
use Rattle.samtags.specs.Writing.{text_of, written}
use Rattle.samtags.specs.Building.{Strand, joined_groups, joined_tag, own_tag}
use Rattle.samtags.proofs.Names.{upper_case}
use Rattle.samtags.proofs.Building.{joined_listings, joined_is_accepted}
use Rattle.samtags.proofs.BuiltSays.{joined_says}
use Rattle.joining.proofs.Parts.{both_length}
use Rattle.duplex.specs.Duplex.{Duplexed, strand_tags, no_tags, strands_of, restored_by, duplexed, admitted, within, lengths_of, duplex_tags}
use Rattle.duplex.specs.declared.Lengths.{Lengths as Filled}
use Rattle.duplex.proofs.Admitted.{passed}
use Rattle.duplex.proofs.Pieces.{Known, known, one_or_two, seq_is}
use Rattle.duplex.specs.PublicContracts.{Rows, lengths_lent, Duplexes}
use Rattle.readback.proofs.Built.{ReadsBack, reads_back}

-- ---- restoring keeps upper case

letter_upper : (p : ConversionPattern) → eqb (upper (bases_of p).unconverted) (bases_of p).unconverted ≡ true
unfolding upper
letter_upper CToT = refl
letter_upper GToA = refl

restored_upper : (p : ConversionPattern) (informative seq : List ℕ) → upper_case seq ≡ true → upper_case (restored p informative seq) ≡ true
restored_upper p [] seq u = refl
restored_upper p (y ∷ ys) [] u = refl
restored_upper p (y ∷ ys) (x ∷ xs) u =
    let ux = and_true_l (eqb (upper x) x) (upper_case xs) u in
    let rest = restored_upper p ys xs (and_true_r (eqb (upper x) x) (upper_case xs) u) in
    by-test (is_yes y && same_in_any_case x (bases_of p).converted)
    (λ e. rw e (and_true _ _ (letter_upper p) rest))
    (λ e. rw e (and_true _ _ ux rest))

pub restored_by_upper : (strands : List Strand) (seq : List ℕ) → upper_case seq ≡ true → upper_case (restored_by strands seq) ≡ true
restored_by_upper [] seq u = u
restored_by_upper (s ∷ ss) seq u = restored_by_upper ss (restored s.pattern s.evidence.informative seq) (restored_upper s.pattern s.evidence.informative seq u)

-- ---- the call answered Ok

-- a tag with a text has a group
has_group : (gs : List Group) → 0 < length (written gs).text → is_empty gs ≡ false
unfolding written text_of
has_group [] l = absurd (omega arith)
has_group (g ∷ gs) l = refl

module _ (count : ℕ) (mode : MethylationMode) (bases : List ℕ) (a b : Strand) (lent : Rows) where
  -- the answer, and that the checks passed
  pub came_to : (f : Filled) (l : Rows) → Duplexes count mode bases a b lent (Ok f) l
      → (duplex_tags count mode bases a b (lengths_lent lent) ≡ Ok (duplexed (eqb count 2) mode bases a b))
      × (lengths_of (duplexed (eqb count 2) mode bases a b) ≡ f) × Known (eqb count 2) bases a b
  unfolding duplex_tags
  came_to f l c =
      let d = duplexed (eqb count 2) mode bases a b in
      let (x, is, sizes) = on_done_inv lengths_of (duplex_tags count mode bases a b (lengths_lent lent)) f (sym c.0) in
      let (y, ok, fits) = and_then_inv (admitted count bases a b d) (λ d. need (within (lengths_of d) (lengths_lent lent)) 12 (Ok d)) x is in
      let p = passed count bases a b d y ok in
      let same : d ≡ x = p.is ∙ done_inj (need_rest (within (lengths_of y) (lengths_lent lent)) 12 (Ok y) x fits) in
      (is ∙ ap Ok (sym same), ap lengths_of same ∙ sizes, known count bases a b d y p)

  -- SEQ is as long as the bases, and upper case where they are
  seq_short : Known (eqb count 2) bases a b → length (restored_by (strands_of (eqb count 2) a b) bases) ≤ 16000
  seq_short k =
      let inf : eqb count 2 ≡ true → length b.evidence.informative ≡ length bases = λ (t : eqb count 2 ≡ true). (k.second t).inf in
      let long : length (restored_by (strands_of (eqb count 2) a b) bases) ≡ length bases =
      ap (λ (s : List ℕ). length s) (seq_is (eqb count 2) bases a b)
      ∙ both_length (eqb count 2) a.pattern a.evidence.informative b.pattern b.evidence.informative bases k.first.inf inf in
      omega (arith, long, k.first.short)

  -- If a call was written, the joined tag is read back over the SEQ that was written.
  pub joined_reads_back : (f : Filled) (l : Rows) → Duplexes count mode bases a b lent (Ok f) l → upper_case bases ≡ true → 0 < f.mm
      → let seq = take f.seq l.seq in
      (seq ≡ restored_by (strands_of (eqb count 2) a b) bases)
      × ReadsBack true seq (take f.mm l.mm) (take f.ml l.ml) (joined_listings true mode (strands_of (eqb count 2) a b) seq)
  unfolding duplexed joined_tag
  joined_reads_back f l c u some =
      let d = duplexed (eqb count 2) mode bases a b in
      let ss = strands_of (eqb count 2) a b in
      let o = duplex_tags count mode bases a b (lengths_lent lent) in
      let (is, sizes, k) = came_to f l c in
      let seq-row = front_is_part (λ (d : Duplexed). d.seq) o d lent.seq l.seq f.seq is c.1 (sym (ap (λ (n : Filled). n.seq) sizes)) in
      let mm-row = front_is_part (λ (d : Duplexed). d.joined.text) o d lent.mm l.mm f.mm is c.2 (sym (ap (λ (n : Filled). n.mm) sizes)) in
      let ml-row = front_is_part (λ (d : Duplexed). d.joined.ml) o d lent.ml l.ml f.ml is c.3 (sym (ap (λ (n : Filled). n.ml) sizes)) in
      let seq = restored_by ss bases in
      let up : upper_case seq ≡ true = restored_by_upper ss bases u in
      let group : is_empty (joined_groups mode ss seq) ≡ false =
      has_group (joined_groups mode ss seq) (omega (arith, some, ap (λ (n : Filled). n.mm) sizes)) in
      let few : length ss ≤ 2 = one_or_two (eqb count 2) a b in (
        seq-row,
        rw (seq-row, mm-row, ml-row)
            (reads_back true seq (joined_tag mode ss seq).text (joined_tag mode ss seq).ml (joined_listings true mode ss seq)
            (joined_is_accepted true mode ss seq [] up few (seq_short k) group)
            (joined_says true mode seq up ss [] group)),
      )

  -- The strands' own texts, which have no ML, are read back likewise, each where it has a call.
  own_reads_back : (s : Strand) (k : Known (eqb count 2) bases a b) → upper_case bases ≡ true → (lent : List ℕ)
      → let seq = restored_by (strands_of (eqb count 2) a b) bases in
      0 < length (own_tag mode s.pattern s.evidence seq).text
      → ReadsBack false seq (own_tag mode s.pattern s.evidence seq).text lent (joined_listings false mode (s ∷ []) seq)
  unfolding joined_tag
  own_reads_back s k u lent some =
      let seq = restored_by (strands_of (eqb count 2) a b) bases in
      let up : upper_case seq ≡ true = restored_by_upper (strands_of (eqb count 2) a b) bases u in
      let group : is_empty (joined_groups mode (s ∷ []) seq) ≡ false = has_group (joined_groups mode (s ∷ []) seq) some in
      reads_back false seq (joined_tag mode (s ∷ []) seq).text lent (joined_listings false mode (s ∷ []) seq)
      (joined_is_accepted false mode (s ∷ []) seq lent up (omega arith) (seq_short k) group)
      (joined_says false mode seq up (s ∷ []) lent group)

  pub first_reads_back : (f : Filled) (l : Rows) → Duplexes count mode bases a b lent (Ok f) l → upper_case bases ≡ true → (ml : List ℕ) → 0 < f.first_mm
      → let seq = restored_by (strands_of (eqb count 2) a b) bases in
      ReadsBack false seq (take f.first_mm l.first_mm) ml (joined_listings false mode (a ∷ []) seq)
  unfolding duplexed
  first_reads_back f l c u ml some =
      let d = duplexed (eqb count 2) mode bases a b in
      let (is, sizes, k) = came_to f l c in
      let row = front_is_part (λ (d : Duplexed). d.first.text) (duplex_tags count mode bases a b (lengths_lent lent)) d lent.first_mm l.first_mm f.first_mm is
      c.6 (sym (ap (λ (n : Filled). n.first_mm) sizes)) in
      rw row (own_reads_back a k u ml (omega (arith, some, ap (λ (n : Filled). n.first_mm) sizes)))

  pub second_reads_back : (f : Filled) (l : Rows) → Duplexes count mode bases a b lent (Ok f) l → upper_case bases ≡ true → (ml : List ℕ) → eqb count 2 ≡ true
      → 0 < f.second_mm
      → let seq = restored_by (strands_of (eqb count 2) a b) bases in
      ReadsBack false seq (take f.second_mm l.second_mm) ml (joined_listings false mode (b ∷ []) seq)
  unfolding duplexed
  second_reads_back f l c u ml two some =
      let d = duplexed (eqb count 2) mode bases a b in
      let seq = restored_by (strands_of (eqb count 2) a b) bases in
      let (is, sizes, k) = came_to f l c in
      let text : d.second.text ≡ (own_tag mode b.pattern b.evidence seq).text = ap (λ (t : Bool). (cond t (strand_tags mode seq b) no_tags).text) two in
      let row = front_is_part (λ (d : Duplexed). d.second.text) (duplex_tags count mode bases a b (lengths_lent lent)) d lent.second_mm l.second_mm f.second_mm is
      c.9 (sym (ap (λ (n : Filled). n.second_mm) sizes)) in
      rw (row ∙ text) (own_reads_back b k u ml (omega (arith, some, ap (λ (n : Filled). n.second_mm) sizes, ap (λ (t : List ℕ). length t) text)))

-- Counting read by read over the columns gives the definition: at each position, the number of reads that count there and show the base.
-- Assumes nothing.
use mathlib.Core.Path.{◌≡◌, refl, ap, ◌∙◌}
use Prim.Native.Nat.{ℕ, ◌+◌, ◌≤◌, ◌<◌, min}
use native.Mathlib.Omega.{arith}
use mathlib.Core.Bool.{Bool, true, false}
use mathlib.Core.List.{List, [], ◌∷◌}
use mathlib.Core.Logic.{⊎_elim}
use lib.Dec.{eqb}
use lib.ListN.{length, get_or}
use borrow.Author.Tests.{lt-ltb, le-ltb}
use Rattle.lent.proofs.InPlace.{changed_up_to}
use Rattle.lent.proofs.Numbers.{le_or_lt}
use Rattle.lent.proofs.Tests.{by-test, eqb_sym}
use Rattle.lent.specs.Lists.{tabulate}
use Rattle.pattern.specs.Case.{upper}
use Rattle.pattern.specs.Patterns.{bases_of}
use Rattle.pattern.specs.declared.ConversionPattern.{ConversionPattern}
use Rattle.evidence.specs.Position.{capped}
use Rattle.evidence.specs.declared.MethylationEvidence.{MethylationEvidence}
use Rattle.lent.proofs.Tabulate.{length_tabulate, get_d_tabulate, tabulate_ext, changed_is_tabulate, changed_idle}
use Rattle.counting.specs.Counting.{counts_there, counted_there, count_after, add_read, add_reads}
use Rattle.columns.specs.Columns.{is_yes, yes_byte, informative_at, informative_column}
use Rattle.counting.specs.Reads.{Read, counts_at, bases_at, how_many, count_column}

pub yes_byte_yes : (t : Bool) → is_yes (yes_byte t) ≡ t
yes_byte_yes true = refl
yes_byte_yes false = refl

-- ---- how many, read by read

pub how_many_more : (base : ℕ) (all? inf? : Bool) (i : ℕ) (r : Read) (rs : List Read)
    → how_many base (bases_at all? inf? i (r ∷ rs)) ≡ how_many base (bases_at all? inf? i (r ∷ [])) + how_many base (bases_at all? inf? i rs)
unfolding bases_at how_many
how_many_more base all? inf? i r rs =
    by-test (counts_at all? inf? i r)
    (λ e. rw e (by-test (eqb base (upper (get_or r.bases i 0))) (λ u. rw u (omega arith)) (λ u. rw u (omega arith))))
    (λ e. rw e (omega arith))

module _ (base : ℕ) (all? : Bool) (inf : List ℕ) where
  -- how many there are of the base where a list of reads counts at position i
  abbrev shown : List Read → ℕ → ℕ
  shown rs i = how_many base (bases_at all? (is_yes (get_or inf i 0)) i rs)

  count_after_lem : (r : Read) (i m : ℕ) → count_after base all? inf r i (capped m) ≡ capped (m + shown (r ∷ []) i)
  unfolding count_after bases_at how_many
  count_after_lem r i m =
      by-test (counts_at all? (is_yes (get_or inf i 0)) i r)
      (λ e. rw (e, eqb_sym (upper (get_or r.bases i 0)) base) (by-test (eqb base (upper (get_or r.bases i 0))) (λ u. rw u (omega arith))
      (λ u. rw u (omega arith))))
      (λ e. rw e (omega arith))

  -- the count at position i after all reads
  abbrev count_all : List Read → ℕ → ℕ → ℕ
  count_all [] i n = n
  count_all (r ∷ rs) i n = count_all rs i (count_after base all? inf r i n)

  count_all_lem : (rs : List Read) (i m : ℕ) → count_all rs i (capped m) ≡ capped (m + shown rs i)
  unfolding bases_at how_many
  count_all_lem [] i m = omega arith
  count_all_lem (r ∷ rs) i m =
      rw (count_after_lem r i m, count_all_lem rs i (m + shown (r ∷ []) i)) (omega (arith, how_many_more base all? (is_yes (get_or inf i 0)) i r rs))

  add_reads_tabulate : (rs : List Read) (n : ℕ) (g : ℕ → ℕ) → add_reads base all? inf rs (tabulate n g) ≡ tabulate n (λ i. count_all rs i (g i))
  unfolding add_reads
  add_reads_tabulate [] n g = refl
  add_reads_tabulate (r ∷ rs) n g =
      let one : add_read base all? inf r (tabulate n g) ≡ tabulate n (λ i. count_after base all? inf r i (g i)) =
      rw (length_tabulate n g)
      (tabulate_ext n (λ i. count_after base all? inf r i (get_or (tabulate n g) i 0)) (λ i. count_after base all? inf r i (g i))
      (λ (j : ℕ) (l : j < n). ap (count_after base all? inf r j) (get_d_tabulate n j g 0 l))) in
      rw one (add_reads_tabulate rs n (λ i. count_after base all? inf r i (g i)))

-- counting all reads, from zeros and over the informative column, gives the definition's column
pub counted_column : (base : ℕ) (p : ConversionPattern) (all? : Bool) (row : List ℕ) (rs : List Read) (n : ℕ)
    → add_reads base all? (informative_column p row n) rs (tabulate n (λ i. 0)) ≡ count_column base p all? row rs n
counted_column base p all? row rs n =
    add_reads_tabulate base all? (informative_column p row n) rs n (λ i. 0)
    ∙ tabulate_ext n (λ i. count_all base all? (informative_column p row n) rs i 0) (λ i. capped
    (how_many base (bases_at all? (informative_at p row i) i rs))) at_place
  where
    at_place : (j : ℕ) → j < n → count_all base all? (informative_column p row n) rs j 0 ≡ capped
        (how_many base (bases_at all? (informative_at p row j) j rs))
    at_place j l =
        let y : is_yes (get_or (informative_column p row n) j 0) ≡ informative_at p row j =
        ap is_yes (get_d_tabulate n j (λ i. yes_byte (informative_at p row i)) 0 l) ∙ yes_byte_yes (informative_at p row j) in
        let h : ℕ = how_many base (bases_at all? (informative_at p row j) j rs) in
        let z : capped (0 + h) ≡ capped h = omega arith in
        (rw y at (count_all_lem base all? (informative_column p row n) rs j 0)) ∙ z

-- ---- one read over a column

-- at a position that the read reaches, the evidence is counted as the columns are
module _ (all? : Bool) (p : ConversionPattern) (inf : List ℕ) (r : Read) (i unc con : ℕ) where
  -- the evidence at position i of the columns with the read's base counted
  abbrev there : MethylationEvidence
  there = counted_there all? (get_or inf i 0) unc con (get_or r.bases i 0) (get_or r.aligned i 0) p

  pub there_unconverted : i < length r.bases → there.unconverted ≡ count_after (bases_of p).unconverted all? inf r i unc
  unfolding count_after
  there_unconverted h =
      rw (lt-ltb i (length r.bases) h) (by-test (counts_there all? (get_or inf i 0) (get_or r.aligned i 0)) (λ t. rw t) (λ t. rw t))

  pub there_converted : i < length r.bases → there.converted ≡ count_after (bases_of p).converted all? inf r i con
  unfolding count_after
  there_converted h =
      rw (lt-ltb i (length r.bases) h) (by-test (counts_there all? (get_or inf i 0) (get_or r.aligned i 0)) (λ t. rw t) (λ t. rw t))

-- a position that the read does not reach stays as it is
not_reached : (base : ℕ) (all? : Bool) (inf : List ℕ) (r : Read) (i n : ℕ) → length r.bases ≤ i → count_after base all? inf r i n ≡ n
unfolding count_after
not_reached base all? inf r i n h = rw (le-ltb i (length r.bases) h)

-- the positions that both the read and the column have are all that the read changes
pub read_added : (base : ℕ) (all? : Bool) (inf : List ℕ) (r : Read) (k : ℕ) (counts : List ℕ) → k ≡ min (length r.bases) (length counts)
    → changed_up_to (count_after base all? inf r) k counts ≡ add_read base all? inf r counts
read_added base all? inf r k counts e =
    ⊎_elim
    (λ short.
    let is : k ≡ length r.bases = omega arith in
    changed_idle (count_after base all? inf r) k (length counts) counts
    (λ (j n : ℕ) (l : k ≤ j). not_reached base all? inf r j n (omega arith)) (omega arith) ∙ whole)
    (λ long. let is : k ≡ length counts = omega arith in rw is whole)
    (le_or_lt (length r.bases) (length counts))
  where
    whole : changed_up_to (count_after base all? inf r) (length counts) counts ≡ add_read base all? inf r counts
    whole = changed_is_tabulate (count_after base all? inf r) 0 counts

-- ---- the column, as it is filled: marked, zeroed, counted
pub filled_column : (base : ℕ) (p : ConversionPattern) (all? : Bool) (row : List ℕ) (rs : List Read) (n m : ℕ) (marks zeros counts : List ℕ)
    → marks ≡ informative_column p row n → zeros ≡ tabulate m (λ i. 0) → m ≡ n → counts ≡ add_reads base all? marks rs zeros
    → counts ≡ count_column base p all? row rs n
filled_column base p all? row rs n m marks zeros counts i z e c = rw (c, i, z, e) (counted_column base p all? row rs n)

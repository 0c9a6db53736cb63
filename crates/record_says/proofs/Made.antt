-- A call on a record that was done, taken apart: the fields that came, those that it leaves, and the bytes. Support for the theorems of this crate.
-- Assumes nothing.
use Rattle.std.specs.Prelude.{Ok, Option}
use mathlib.Core.Path.{◌≡◌, sym, ap, ◌∙◌, subst}
use Prim.Native.Nat.{ℕ, ◌+◌, ◌-◌, ◌*◌, ◌/◌, ◌%◌, ◌≤◌, ◌<◌}
use native.Mathlib.Omega.{arith}
use mathlib.Core.Bool.{Bool, true, ◌&&◌}
use mathlib.Core.List.{List, ◌++◌}
use lib.Dec.{leb, eqb}
use lib.ListN.{length, get_or, take, drop, length-append, length-drop, take-append-drop}
use lib.Seq.{drop_at, get_or-take, length-take-le, take-append_seam, take-take}
use borrow.Author.Tests.{le-leb, leb-true}
use Rattle.lent.proofs.Lists.{drop_take}
use Rattle.lent.proofs.Outcome.{and_then_inv, done_inj, need_rest, need_test}
use Rattle.lent.proofs.Tests.{and_true, and_true_l, and_true_r}
use Rattle.lent.specs.Lists.{every}
use Rattle.packed.specs.Packed.{bytes_for}
use Rattle.record_fields.proofs.Inverse.{fields_each, fields_joined, joined_fields}
use Rattle.record_fields.specs.Bam.{half, head_size, is_reverse, is_whole, packed_seq, seq_length, seq_start}
use Rattle.record_fields.specs.Fields.{Field, ML, MM, am, bm, fields, fields_of, first_named, is_field, joined}
use Rattle.record_says.proofs.Edits.{cut_each, drop_each, mask_each}
use Rattle.record_says.proofs.Pieces.{Each, each_fields, each_fits}
use Rattle.record_says.specs.Says.{cut_fields_of, dropped_fields, fields_in, masked_fields, tail}
use Rattle.record_tags.specs.Records.{Finished, array_fits, cut_fields, cut_record, drop_fields, drop_record, finished, in_domain, mask_fields, mask_record, remade, text_fits}

-- ---- the head

module _ (old new : List ℕ) (same : take (head_size old) new ≡ take (head_size old) old) where
  byte_same : (i : ℕ) → i < 32 → get_or new i 0 ≡ get_or old i 0
  byte_same i h =
      sym (get_or-take (head_size old) new i 0 (omega arith)) ∙ ap (λ (l : List ℕ). get_or l i 0) same ∙ get_or-take (head_size old) old i 0 (omega arith)

  half_same : (i : ℕ) → i < 31 → half new i ≡ half old i
  half_same i h = λ j. byte_same i (omega arith) j + 256 * byte_same (i + 1) (omega arith) j

  pub seq_length_same : seq_length new ≡ seq_length old
  seq_length_same = λ j. half_same 16 (omega arith) j + 65536 * half_same 18 (omega arith) j

  pub reverse_same : is_reverse new ≡ is_reverse old
  reverse_same = ap (λ (n : ℕ). eqb (n / 16 % 2) 1) (half_same 14 (omega arith))

  seq_start_same : seq_start new ≡ seq_start old
  seq_start_same = λ j. 32 + byte_same 8 (omega arith) j + 4 * half_same 12 (omega arith) j

  pub head_size_same : head_size new ≡ head_size old
  head_size_same = λ j. seq_start_same j + bytes_for (seq_length_same j) + seq_length_same j

  front_part : (s k : ℕ) (l : List ℕ) → s + k ≤ head_size old → take k (drop s l) ≡ take k (drop s (take (head_size old) l))
  front_part s k l h =
      rw (drop_take s (head_size old) l) (sym (take-take k (head_size old - s) (drop s l) (omega arith)))

  pub packed_same : packed_seq new ≡ packed_seq old
  packed_same =
      (λ j. take (bytes_for (seq_length_same j)) (drop (seq_start_same j) new))
      ∙ front_part (seq_start old) (bytes_for (seq_length old)) new (omega arith)
      ∙ ap (λ (l : List ℕ). take (bytes_for (seq_length old)) (drop (seq_start old) l)) same
      ∙ sym (front_part (seq_start old) (bytes_for (seq_length old)) old (omega arith))

-- ---- a call that was done

-- new are the fields of the new record, which take at most n bytes more
pub record Made (n : ℕ) (bam : List ℕ) (new : List Field) (r : Finished) : Type 0 where
  pub whole : is_whole bam ≡ true
  pub parsed : fields (tail bam) ≡ Ok (fields_in bam)
  pub short : seq_length bam ≤ 16000
  pub fits : array_fits (first_named ML (fields_in bam)) ≡ true
  pub each : Each n (fields_in bam) new
  pub is : r ≡ finished bam (fields_in bam) new

pub parsed_are : (bytes : List ℕ) (fs : List Field) → fields bytes ≡ Ok fs → fs ≡ fields_of bytes
unfolding fields_of
parsed_are bytes fs e = rw e

pub array_fits_lem : (n k : ℕ) (fs : List Field) → in_domain n k fs ≡ true → array_fits (first_named ML fs) ≡ true
unfolding in_domain
array_fits_lem n k fs h =
    let lengths = leb n 16000 && leb k 16000 && text_fits (first_named MM fs) in
    let array = array_fits (first_named ML fs) in
    let text = text_fits (first_named am fs) in
    and_true_r lengths array (and_true_l (lengths && array) text (and_true_l (lengths && array && text) (text_fits (first_named bm fs)) h))

pub seq_short : (n k : ℕ) (fs : List Field) → in_domain n k fs ≡ true → n ≤ 16000
unfolding in_domain
seq_short n k fs h =
    let a = leb n 16000 in
    let b = leb k 16000 in
    let c = text_fits (first_named MM fs) in
    let d = array_fits (first_named ML fs) in
    let e = text_fits (first_named am fs) in
    leb-true n 16000 (and_true_l a b (and_true_l (a && b) c (and_true_l (a && b && c) d (and_true_l (a && b && c && d) e
    (and_true_l (a && b && c && d && e) (text_fits (first_named bm fs)) h)))))

made : (n : ℕ) (bam : List ℕ) (k room : ℕ) (new : List Field → List Field)
    → ((fs : List Field) → every is_field fs ≡ true → array_fits (first_named ML fs) ≡ true → Each n fs (new fs)) → (r : Finished) → remade bam k room new ≡ Ok r
    → Made n bam (new (fields_in bam)) r
unfolding remade
made n bam k room new each r e =
    let whole = need_test (is_whole bam) 14 _ r e in
    let (fs, parsed, e2) = and_then_inv (fields (tail bam)) _ r (need_rest (is_whole bam) 14 _ r e) in
    let domain = need_test (in_domain (seq_length bam) k fs) 1 _ r e2 in
    let e3 = need_rest (in_domain (seq_length bam) k fs) 1 _ r e2 in
    let is : finished bam fs (new fs) ≡ r = done_inj (need_rest (leb (length (finished bam fs (new fs)).bytes) room) 12 _ r e3) in
    let same = parsed_are (tail bam) fs parsed in
    let fits = array_fits_lem (seq_length bam) k fs domain in
    record {
      whole = whole;
      parsed = parsed ∙ ap Ok same;
      short = seq_short (seq_length bam) k fs domain;
      fits = subst (λ (l : List Field). array_fits (first_named ML l) ≡ true) same fits;
      each = subst (λ (l : List Field). Each n l (new l)) same (each fs (fields_each (tail bam) fs parsed) fits);
      is = sym is ∙ ap (λ (l : List Field). finished bam l (new l)) same;
    }

pub mask_made : (bam before : List ℕ) (room : ℕ) (r : Finished) → mask_record bam before room ≡ Ok r → Made 0 bam (masked_fields bam before) r
unfolding mask_record
mask_made bam before room r e =
    made 0 bam (length before) room (mask_fields (is_reverse bam) (seq_length bam) (packed_seq bam) before)
    (λ fs are fits. mask_each fs are fits (is_reverse bam) (seq_length bam) (packed_seq bam) before) r e

pub drop_made : (bam places : List ℕ) (room : ℕ) (r : Finished) → drop_record bam places room ≡ Ok r → Made 0 bam (dropped_fields bam places) r
unfolding drop_record
drop_made bam places room r e =
    made 0 bam 0 room (drop_fields (is_reverse bam) (seq_length bam) (packed_seq bam) places)
    (λ fs are fits. drop_each fs are fits (is_reverse bam) (seq_length bam) (packed_seq bam) places) r e

pub cut_made : (bam before : List ℕ) (before-reverse : Bool) (start : Option ℕ) (room : ℕ) (r : Finished)
    → cut_record bam before before-reverse start room ≡ Ok r → Made 3 bam (cut_fields_of bam before before-reverse start) r
unfolding cut_record
cut_made bam before before-reverse start room r e =
    made 3 bam (length before) room (cut_fields (is_reverse bam) (seq_length bam) (packed_seq bam) before before-reverse start)
    (λ fs are fits. cut_each fs are fits (is_reverse bam) (seq_length bam) (packed_seq bam) before before-reverse start) r e

-- ---- what such a call leaves

module _ {n : ℕ} {bam : List ℕ} {new : List Field} {r : Finished} (m : Made n bam new r) where
  pub old_fields : every is_field (fields_in bam) ≡ true
  old_fields = fields_each (tail bam) (fields_in bam) m.parsed

  head_fits : head_size bam ≤ length bam
  head_fits = leb-true (head_size bam) (length bam) (and_true_r (leb 32 (length bam)) (leb (head_size bam) (length bam)) m.whole)

  pub bytes_are : r.bytes ≡ take (head_size bam) bam ++ joined new
  bytes_are = ap (λ (x : Finished). x.bytes) m.is

  head_long : length (take (head_size bam) bam) ≡ head_size bam
  head_long = length-take-le (head_size bam) bam head_fits

  pub front_same : take (head_size bam) r.bytes ≡ take (head_size bam) bam
  front_same =
      ap (take (head_size bam)) bytes_are ∙ ap (λ (k : ℕ). take k (take (head_size bam) bam ++ joined new)) (sym head_long)
      ∙ take-append_seam (take (head_size bam) bam) (joined new)

  pub size_same : head_size r.bytes ≡ head_size bam
  size_same = head_size_same bam r.bytes front_same

  tail_is : tail r.bytes ≡ joined new
  tail_is = (λ j. drop (size_same j) (bytes_are j)) ∙ drop_at (take (head_size bam) bam) (joined new) (head_size bam) head_long

  pub tail_parses : fields (tail r.bytes) ≡ Ok new
  tail_parses = ap fields tail_is ∙ fields_joined new (each_fields m.each old_fields)

  pub fields_are : fields_in r.bytes ≡ new
  fields_are = sym (parsed_are (tail r.bytes) new tail_parses)

  pub new_length : length r.bytes ≡ head_size bam + length (joined new)
  new_length = ap length bytes_are ∙ length-append (take (head_size bam) bam) (joined new) ∙ ap (λ (k : ℕ). k + length (joined new)) head_long

  pub new_whole : is_whole r.bytes ≡ true
  new_whole =
      rw size_same
      (and_true (leb 32 (length r.bytes)) (leb (head_size bam) (length r.bytes))
      (le-leb 32 (length r.bytes) (omega (arith, new_length))) (le-leb (head_size bam) (length r.bytes) (omega (arith, new_length))))

  -- the bytes that came
  pub came : take (head_size bam) bam ++ joined (fields_in bam) ≡ bam
  came = rw (joined_fields (tail bam) (fields_in bam) m.parsed) (take-append-drop (head_size bam) bam)

  pub new_fits : length r.bytes ≤ length bam + n
  new_fits =
      let old : length (joined (fields_in bam)) ≡ length bam - head_size bam =
      ap length (joined_fields (tail bam) (fields_in bam) m.parsed) ∙ length-drop (head_size bam) bam in
      omega (arith, new_length, each_fits m.each, old, head_fits)

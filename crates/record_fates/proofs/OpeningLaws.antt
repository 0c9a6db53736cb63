-- Opening a record: why it is refused, and what the callees say of it in the terms of the contract.
-- Assumes nothing.
use mathlib.Core.Path.{◌≡◌, sym, ap, ◌∙◌}
use mathlib.Core.Bool.{Bool, true, false, ◌&&◌}
use Prim.Native.Nat.{ℕ, ◌+◌, ◌≤◌, ◌<◌}
use native.Mathlib.Omega.{arith}
use mathlib.Core.List.{List}
use lib.Dec.{leb}
use lib.ListN.{drop, get_or, length}
use borrow.Author.Tests.{le-leb, leb-true, lt-leb}
use Rattle.lent.proofs.Tests.{and_true_l, and_true_r, by-test}
use Rattle.lent.specs.Answers.{is_done}
use Rattle.lent.specs.Outcome.{refuse}
use Rattle.record_fates.proofs.FateLaws.{first_sound}
use Rattle.record_fates.specs.Fates.{is_sound}
use Rattle.record_fields.proofs.FieldsLaws.{fields_done, only_15}
use Rattle.record_fields.proofs.Inverse.{fields_each}
use Rattle.record_fields.specs.Bam.{head_size, is_whole, seq_length}
use Rattle.record_fields.specs.Fields.{Field, MM, ML, am, bm, fields, fields_of, first_named}
use Rattle.record_fields.specs.Spots.{Spots, part}
use Rattle.record_tags.specs.Records.{array_fits, in_domain, remade, text_fits}

-- ---- the domain

module _ (n k : ℕ) (fs : List Field) where
  pub past_bases : 16000 < n → in_domain n k fs ≡ false
  unfolding in_domain
  past_bases h = rw (lt-leb n 16000 h)

  pub past_letters : 16000 < k → in_domain n k fs ≡ false
  unfolding in_domain
  past_letters h = rw (lt-leb k 16000 h) (by-test (leb n 16000) (λ e. rw e) (λ e. rw e))

  pub by_tags : n ≤ 16000 → k ≤ 16000
      → in_domain n k fs ≡ text_fits (first_named MM fs) && array_fits (first_named ML fs) && text_fits (first_named am fs) && text_fits (first_named bm fs)
  unfolding in_domain
  by_tags h l = rw (le-leb n 16000 h, le-leb k 16000 l)

-- the same, of the fields where they were noted
pub by_spots : (bam : List ℕ) (fs : List Field) (ats sizes : List ℕ) (n k : ℕ) → n ≤ 16000 → k ≤ 16000 → (mm ml a b : Bool)
    → mm ≡ text_fits (part bam (get_or ats 0 0) (get_or sizes 0 0)) → ml ≡ array_fits (part bam (get_or ats 1 0) (get_or sizes 1 0))
    → a ≡ text_fits (part bam (get_or ats 3 0) (get_or sizes 3 0)) → b ≡ text_fits (part bam (get_or ats 4 0) (get_or sizes 4 0))
    → Spots bam fs ats sizes → mm && ml && a && b ≡ in_domain n k fs
by_spots bam fs ats sizes n k h l mm ml a b p q r s spots =
    let mm' : mm ≡ text_fits (first_named MM fs) = p ∙ ap text_fits (spots 0 (omega arith)).0 in
    let ml' : ml ≡ array_fits (first_named ML fs) = q ∙ ap array_fits (spots 1 (omega arith)).0 in
    let a' : a ≡ text_fits (first_named am fs) = r ∙ ap text_fits (spots 3 (omega arith)).0 in
    let b' : b ≡ text_fits (first_named bm fs) = s ∙ ap text_fits (spots 4 (omega arith)).0 in
    (λ j. mm' j && ml' j && a' j && b' j) ∙ sym (by_tags n k fs h l)

-- ---- a whole record

pub whole_fits : (bam : List ℕ) → is_whole bam ≡ true → (32 ≤ length bam) × (head_size bam ≤ length bam)
whole_fits bam h = (
  leb-true 32 (length bam) (and_true_l (leb 32 (length bam)) (leb (head_size bam) (length bam)) h),
  leb-true (head_size bam) (length bam) (and_true_r (leb 32 (length bam)) (leb (head_size bam) (length bam)) h),
)

-- the first field of each name is where it was noted, and it is whole
pub spots_sound : (bam : List ℕ) (from : ℕ) (ats sizes : List ℕ) → is_done (fields (drop from bam)) ≡ true
    → Spots bam (fields_of (drop from bam)) ats sizes → (k : ℕ) → k < 6
    → (get_or ats k 0 + get_or sizes k 0 ≤ length bam) × (is_sound (part bam (get_or ats k 0) (get_or sizes k 0)) ≡ true)
spots_sound bam from ats sizes d spots k h =
    let fs = fields_of (drop from bam) in
    let each = fields_each (drop from bam) fs (fields_done (drop from bam) d) in
    ((spots k h).1, ap is_sound (spots k h).0 ∙ first_sound k fs each)

-- ---- refusals

module _ (bam : List ℕ) (k room : ℕ) (new : List Field → List Field) where
  pub refused_14 : is_whole bam ≡ false → remade bam k room new ≡ refuse 14
  unfolding remade
  refused_14 h = rw h

  pub refused_15 : is_whole bam ≡ true → is_done (fields (drop (head_size bam) bam)) ≡ false → remade bam k room new ≡ refuse 15
  unfolding remade
  refused_15 h d = rw (h, only_15 (drop (head_size bam) bam) d)

  pub refused_1 : is_whole bam ≡ true → is_done (fields (drop (head_size bam) bam)) ≡ true
      → in_domain (seq_length bam) k (fields_of (drop (head_size bam) bam)) ≡ false → remade bam k room new ≡ refuse 1
  unfolding remade
  refused_1 h d i = rw (h, fields_done (drop (head_size bam) bam) d, i)

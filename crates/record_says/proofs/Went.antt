-- "A tag went" is true exactly where the new record has fewer fields than the old one. If no name of the five is there twice, this is exactly where one of
-- these names was there and is there no more.
-- Assumes nothing.
use mathlib.Core.Path.{◌≡◌, refl, sym, ap, ◌∙◌, subst}
use Prim.Native.Nat.{ℕ, suc, zero, ◌<◌}
use native.Mathlib.Omega.{arith}
use mathlib.Core.Bool.{Bool, true, false, not, or-true}
use mathlib.Core.List.{List, [], ◌∷◌}
use lib.Dec.{leb, ltb, eqb}
use lib.ListN.{length}
use borrow.Author.Tests.{eq-eqb, eqb-false, eqb-true, leb-true, lt-ltb, ltb-false, ltb-true, ne_eqb, not-true}
use Rattle.lent.proofs.Tests.{and_true_l, and_true_r, by-test, test_ext}
use Rattle.lent.specs.Lists.{among, any, every, is_empty}
use Rattle.record_fields.specs.Fields.{Field, first_named, is_field}
use Rattle.record_says.proofs.Made.{Made, cut_made, drop_made, fields_are, mask_made, old_fields}
use Rattle.record_says.proofs.Pieces.{Each, each_fewer, each_fields, each_gone, each_went, there_times}
use Rattle.record_says.specs.Says.{Remade, cut, dropped, fields_in, five_names, is_gone, keeps, masked, none_twice, times}
use Rattle.samtags.proofs.Text.{among_every}
use Rattle.record_tags.specs.Records.{Finished}

-- ---- lists of the five names

-- an element that passes
any_found : (t : ℕ → Bool) (xs : List ℕ) → any t xs ≡ true → (k : ℕ) × (t k ≡ true)
any_found t [] e = let z : ◌≡◌ {A = ℕ} 0 1 = cc in absurd (omega arith)
any_found t (x ∷ xs) e = by-test (t x) (λ q. (x, q)) (λ q. any_found t xs (rw q at e))

any_among : (t : ℕ → Bool) (xs : List ℕ) (k : ℕ) → among xs k ≡ true → t k ≡ true → any t xs ≡ true
any_among t [] k a e = a
any_among t (x ∷ xs) k a e =
    by-test (eqb x k)
    (λ q. rw (eqb-true x k q, e))
    (λ q. rw (any_among t xs k (rw q at a) e) (or-true (t x)))

-- a name below 5 is one of the five
one_of_five : (k : ℕ) → k < 5 → among five_names k ≡ true
one_of_five zero h = refl
one_of_five (suc zero) h = refl
one_of_five (suc (suc zero)) h = refl
one_of_five (suc (suc (suc zero))) h = refl
one_of_five (suc (suc (suc (suc zero)))) h = refl
one_of_five (suc (suc (suc (suc (suc k))))) h = absurd (omega arith)

module _ {n : ℕ} {old new : List Field} (each : Each n old new) (are : every is_field old ≡ true) where
  -- a name that was there and is gone
  gone_times : (k : ℕ) → is_gone old new k ≡ true → (0 < times k old) × (times k new ≡ 0)
  gone_times k g =
      let was = not-true (is_empty (first_named k old)) (and_true_l (not (is_empty (first_named k old))) (is_empty (first_named k new)) g) in
      let is = and_true_r (not (is_empty (first_named k old))) (is_empty (first_named k new)) g in
      let some = eqb-false (times k old) 0 (sym (there_times k old are) ∙ was) in
      let none = eqb-true (times k new) 0 (sym (there_times k new (each_fields each are)) ∙ is) in
      (omega (arith, some), none)

  times_gone : (k : ℕ) → 0 < times k old → times k new ≡ 0 → is_gone old new k ≡ true
  times_gone k some none =
      let was : is_empty (first_named k old) ≡ false = there_times k old are ∙ ne_eqb (times k old) 0 (λ e. omega (arith, e)) in
      let is : is_empty (first_named k new) ≡ true = there_times k new (each_fields each are) ∙ eq-eqb (times k new) 0 none in
      rw (was, is)

  fewer_is_gone : none_twice old ≡ true → ltb (length new) (length old) ≡ any (is_gone old new) five_names
  fewer_is_gone once = test_ext (ltb (length new) (length old)) (any (is_gone old new) five_names) forth back
    where
      forth : ltb (length new) (length old) ≡ true → any (is_gone old new) five_names ≡ true
      forth h =
          let (k, low, less) = each_went each (ltb-true (length new) (length old) h) in
          let one = leb-true (times k old) 1 (among_every (λ (k : ℕ). leb (times k old) 1) five_names k once (one_of_five k low)) in
          any_among (is_gone old new) five_names k (one_of_five k low) (times_gone k (omega arith) (omega arith))

      back : any (is_gone old new) five_names ≡ true → ltb (length new) (length old) ≡ true
      back h =
          let (k, g) = any_found (is_gone old new) five_names h in
          let (was, is) = gone_times k g in
          lt-ltb (length new) (length old) (omega (arith, each_gone each k, was, is))

-- ---- the flag

module _ {n : ℕ} {bam : List ℕ} {new : List Field} {r : Finished} (m : Made n bam new r) where
  went_is : r.went ≡ ltb (length (fields_in r.bytes)) (length (fields_in bam))
  went_is = ap (λ (x : Finished). x.went) m.is ∙ ap (λ (fs : List Field). ltb (length fs) (length (fields_in bam))) (sym (fields_are m))

  went_gone : none_twice (fields_in bam) ≡ true → r.went ≡ any (is_gone (fields_in bam) (fields_in r.bytes)) five_names
  went_gone once =
      went_is ∙ fewer_is_gone (subst (Each n (fields_in bam)) (sym (fields_are m)) m.each) (old_fields m) once

-- A tag went exactly where the new record has fewer fields.
pub went_is_fewer : {bam : List ℕ} {r : Finished} → Remade bam r → r.went ≡ ltb (length (fields_in r.bytes)) (length (fields_in bam))
went_is_fewer {bam} {r} (masked before room e) = went_is (mask_made bam before room r e)
went_is_fewer {bam} {r} (dropped places room e) = went_is (drop_made bam places room r e)
went_is_fewer {bam} {r} (cut before before-reverse start room e) = went_is (cut_made bam before before-reverse start room r e)

-- With no name twice, a tag went exactly where one of MM, ML, MN, am and bm was there and is there no more.
pub went_is_gone : {bam : List ℕ} {r : Finished} → Remade bam r → none_twice (fields_in bam) ≡ true
    → r.went ≡ any (is_gone (fields_in bam) (fields_in r.bytes)) five_names
went_is_gone {bam} {r} (masked before room e) = went_gone (mask_made bam before room r e)
went_is_gone {bam} {r} (dropped places room e) = went_gone (drop_made bam places room r e)
went_is_gone {bam} {r} (cut before before-reverse start room e) = went_gone (cut_made bam before before-reverse start room r e)

-- ---- every name

kept_names : {n : ℕ} {bam : List ℕ} {new : List Field} {r : Finished} → Made n bam new r → r.went ≡ false → (k : ℕ) → keeps k bam r.bytes ≡ true
kept_names {n} {bam} {new} {r} m w k =
    let same : times k (fields_in r.bytes) ≡ times k new = ap (times k) (fields_are m) in
    let more = ltb-false (length new) (length (fields_in bam)) (sym (ap (λ (x : Finished). x.went) m.is) ∙ w) in
    eq-eqb (times k (fields_in r.bytes)) (times k (fields_in bam)) (omega (arith, same, more, each_gone m.each k, (each_fewer m.each).1 k))

-- Where no tag went, there are as many fields of each name as there were.
pub none_went : {bam : List ℕ} {r : Finished} → Remade bam r → r.went ≡ false → (k : ℕ) → keeps k bam r.bytes ≡ true
none_went {bam} {r} (masked before room e) = kept_names (mask_made bam before room r e)
none_went {bam} {r} (dropped places room e) = kept_names (drop_made bam places room r e)
none_went {bam} {r} (cut before before-reverse start room e) = kept_names (cut_made bam before before-reverse start room r e)

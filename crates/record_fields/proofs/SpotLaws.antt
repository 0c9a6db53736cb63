-- Where the first field of each name is: what the walk over the fields has noted so far, and what it has noted in the end.
-- Assumes nothing.
use mathlib.Core.Path.{◌≡◌, refl, sym, ap, ◌∙◌}
use mathlib.Core.Bool.{Bool, true, false, cond}
use Prim.Native.Nat.{ℕ, ◌+◌, ◌≤◌, ◌<◌}
use native.Mathlib.Omega.{arith}
use mathlib.Core.List.{List, []}
use lib.Dec.{eqb}
use lib.ListN.{drop, get_or, length, length-drop, length-set, set}
use lib.Seq.{get_or-drop, get_or-set_other, get_or-set_same, get_or-take, length-take-le}
use borrow.Author.Tests.{eq-eqb, eqb-false, eqb-true, ne_eqb}
use Rattle.lent.proofs.Tests.{by-test}
use Rattle.lent.specs.Answers.{is_done}
use Rattle.record_fields.proofs.FieldsLaws.{fields_of_end, fields_of_step, step_fits}
use Rattle.record_fields.specs.Fields.{Field, field_size, fields, fields_of, first_named, name_by, name_of}
use Rattle.record_fields.specs.Spots.{Spots, part}

-- a spot is as long as its field
pub spot_size : (bam : List ℕ) (fs : List Field) (ats sizes : List ℕ) → Spots bam fs ats sizes → (k : ℕ) → k < 6
    → get_or sizes k 0 ≡ length (first_named k fs)
spot_size bam fs ats sizes s k h =
    let at = get_or ats k 0 in
    let size = get_or sizes k 0 in
    let fits = (s k h).1 in
    sym (ap length (sym (s k h).0) ∙ length-take-le size (drop at bam) (omega (arith, fits, length-drop at bam)))

-- the name of the field at a byte
pub name_at : (bam : List ℕ) (at n : ℕ) → 2 ≤ n → name_of (part bam at n) ≡ name_by (get_or bam at 0) (get_or bam (at + 1) 0)
unfolding name_of
name_at bam at n h =
    let z : at + 0 ≡ at = omega arith in
    let first : get_or (part bam at n) 0 0 ≡ get_or bam at 0 = get_or-take n (drop at bam) 0 0 (omega arith) ∙ get_or-drop at bam 0 0 ∙ ap (λ (i : ℕ). get_or bam i 0) z in
    let second : get_or (part bam at n) 1 0 ≡ get_or bam (at + 1) 0 = get_or-take n (drop at bam) 1 0 (omega arith) ∙ get_or-drop at bam 1 0 in
    rw (first, second)

-- What is noted of name k, if the fields from a byte on were walked over up to the byte `at`: where its first field begins and its size, or size 0 if it
-- is yet to come.
abbrev pub NotedOf : List ℕ → ℕ → ℕ → ℕ → ℕ → ℕ → Type 0
NotedOf bam from at k spot size =
    (is_done (fields (drop from bam)) ≡ true
    → first_named k (fields_of (drop from bam)) ≡ cond (eqb size 0) (first_named k (fields_of (drop at bam))) (part bam spot size))
    × (spot + size ≤ length bam)

abbrev pub Noted : List ℕ → ℕ → ℕ → List ℕ → List ℕ → Type 0
Noted bam from at ats sizes = (k : ℕ) → k < 6 → NotedOf bam from at k (get_or ats k 0) (get_or sizes k 0)

-- nothing was walked over
pub noted_none : (bam : List ℕ) (from : ℕ) (ats sizes : List ℕ) → ((k : ℕ) → get_or ats k 0 ≡ 0) → ((k : ℕ) → get_or sizes k 0 ≡ 0)
    → Noted bam from from ats sizes
noted_none bam from ats sizes a s k h = rw (a k, s k) (λ d. refl, omega arith)

-- all was walked over
pub noted_all : (bam : List ℕ) (from at : ℕ) (ats sizes : List ℕ) → length bam ≤ at → is_done (fields (drop from bam)) ≡ true
    → Noted bam from at ats sizes → Spots bam (fields_of (drop from bam)) ats sizes
unfolding first_named
noted_all bam from at ats sizes h d n k l =
    let size = get_or sizes k 0 in
    let none : first_named k (fields_of (drop at bam)) ≡ [] = nothing (fields_of (drop at bam)) (fields_of_end bam at h) in
    (sym ((n k l).0 d ∙ by_size (get_or ats k 0) size (first_named k (fields_of (drop at bam))) none), (n k l).1)
  where
    nothing : (fs : List Field) → fs ≡ [] → first_named k fs ≡ []
    nothing fs e = rw e

    by_size : (spot size : ℕ) (f : Field) → f ≡ [] → cond (eqb size 0) f (part bam spot size) ≡ part bam spot size
    by_size spot size f e =
        by-test (eqb size 0)
        (λ t. let z : size ≡ 0 = eqb-true size 0 t in rw (e, z))
        (λ t. rw t)

-- ---- one field more

module _ (bam : List ℕ) (from at n : ℕ) (same : is_done (fields (drop from bam)) ≡ is_done (fields (drop at bam))) (h : at < length bam)
    (e : n ≡ field_size (drop at bam)) (some : n ≡ 0 → ⊥) where
  -- the first field of name k from here on, if the field here has the name m
  first_step : (k m : ℕ) → m ≡ name_by (get_or bam at 0) (get_or bam (at + 1) 0) → is_done (fields (drop from bam)) ≡ true
      → first_named k (fields_of (drop at bam)) ≡ cond (eqb m k) (part bam at n) (first_named k (fields_of (drop (at + n) bam)))
  unfolding first_named
  first_step k m w d =
      let fits = step_fits bam at n h e some in
      rw (fields_of_step bam at n h e some (sym same ∙ d), name_at bam at n (omega (arith, fits.0)), w)

  module _ (k m spot size : ℕ) (w : m ≡ name_by (get_or bam at 0) (get_or bam (at + 1) 0)) (noted : NotedOf bam from at k spot size) where
    -- the field is the first of its name
    noted_new : m ≡ k → size ≡ 0 → NotedOf bam from (at + n) k at n
    noted_new q z = (
      λ d. noted.0 d ∙ rw (eq-eqb size 0 z, ne_eqb n 0 some) (first_step k m w d ∙ rw (eq-eqb m k q)),
      (step_fits bam at n h e some).1,
    )

    -- one of this name was noted before
    noted_seen : (size ≡ 0 → ⊥) → NotedOf bam from (at + n) k spot size
    noted_seen q = (λ d. noted.0 d ∙ rw (ne_eqb size 0 q), noted.1)

    -- the field has another name
    noted_other : (m ≡ k → ⊥) → NotedOf bam from (at + n) k spot size
    noted_other q = (
      λ d. noted.0 d ∙ ap (λ (f : Field). cond (eqb size 0) f (part bam spot size)) (first_step k m w d ∙ rw (ne_eqb m k q)),
      noted.1,
    )

  noted_as : (k spot spot' size size' : ℕ) → spot' ≡ spot → size' ≡ size → NotedOf bam from (at + n) k spot size → NotedOf bam from (at + n) k spot' size'
  noted_as k spot spot' size size' p q r = rw (p, q) r

  pub noted_turn : (ats sizes ats' sizes' : List ℕ) (m : ℕ) → m ≡ name_by (get_or bam at 0) (get_or bam (at + 1) 0) → m < length ats → m < length sizes
      → Noted bam from at ats sizes → ats' ≡ cond (eqb (get_or sizes m 0) 0) (set ats m at) ats
      → sizes' ≡ cond (eqb (get_or sizes m 0) 0) (set sizes m n) sizes → Noted bam from (at + n) ats' sizes'
  noted_turn ats sizes ats' sizes' m w la ls noted a s k l =
      let spot = get_or ats k 0 in
      let size = get_or sizes k 0 in
      by-test (eqb (get_or sizes m 0) 0)
      (λ t.
      let a' : ats' ≡ set ats m at = a ∙ rw t in
      let s' : sizes' ≡ set sizes m n = s ∙ rw t in
      by-test (eqb m k)
      (λ u.
      let q : m ≡ k = eqb-true m k u in
      let z : size ≡ 0 = ap (λ (j : ℕ). get_or sizes j 0) (sym q) ∙ eqb-true (get_or sizes m 0) 0 t in
      noted_as k at (get_or ats' k 0) n (get_or sizes' k 0)
      (rw (a', ← q) (get_or-set_same ats m at 0 la))
      (rw (s', ← q) (get_or-set_same sizes m n 0 ls))
      (noted_new k m spot size w (noted k l) q z))
      (λ u.
      let q = eqb-false m k u in
      noted_as k spot (get_or ats' k 0) size (get_or sizes' k 0)
      (rw a' (get_or-set_other ats m k at 0 (λ r. q (sym r))))
      (rw s' (get_or-set_other sizes m k n 0 (λ r. q (sym r))))
      (noted_other k m spot size w (noted k l) q)))
      (λ t.
      let a' : ats' ≡ ats = a ∙ rw t in
      let s' : sizes' ≡ sizes = s ∙ rw t in
      noted_as k spot (get_or ats' k 0) size (get_or sizes' k 0) (rw a') (rw s')
      (by-test (eqb m k)
      (λ u.
      let q : m ≡ k = eqb-true m k u in
      noted_seen k m spot size w (noted k l) (λ z. eqb-false (get_or sizes m 0) 0 t (ap (λ (j : ℕ). get_or sizes j 0) q ∙ z)))
      (λ u. noted_other k m spot size w (noted k l) (eqb-false m k u))))

-- a row of spots keeps its length
pub length_noted : (t : Bool) (row row' : List ℕ) (k v : ℕ) → row' ≡ cond t (set row k v) row → length row' ≡ length row
length_noted true row row' k v e = ap length e ∙ length-set row k v
length_noted false row row' k v e = ap length e

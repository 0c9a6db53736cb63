-- What holds of a record that was opened, and what its bytes say of the field at a byte: whether it is within the domain, and what becomes of it.
-- Assumes nothing.
use Rattle.std.specs.Prelude.{Ok}
use mathlib.Core.Path.{◌≡◌, refl, sym, ap, ◌∙◌}
use mathlib.Core.Bool.{Bool, true, false, cond, ◌&&◌}
use Prim.Native.Nat.{ℕ, ◌+◌, ◌*◌, ◌-◌, ◌≤◌, ◌<◌}
use native.Mathlib.Omega.{arith}
use mathlib.Core.List.{List, [], ◌∷◌}
use lib.Dec.{eqb, leb}
use lib.ListN.{drop, get_or, length, length-drop, length-take, take}
use lib.Seq.{drop-drop, get_or-drop, get_or-take, length-take-le, take-take}
use borrow.Author.Tests.{eq-eqb, eqb-false, eqb-true, leb-true, ne_eqb}
use Rattle.lent.proofs.Lists.{drop_take}
use Rattle.lent.proofs.Tests.{and_true_l, and_true_r, by-test}
use Rattle.lent.specs.Answers.{is_done}
use Rattle.lent.specs.Lists.{every, is_empty}
use Rattle.record_fields.proofs.FieldsLaws.{fields_done, size_fits}
use Rattle.record_fields.proofs.Inverse.{fields_each}
use Rattle.record_fields.proofs.Kept.{bytes_field}
use Rattle.record_fields.proofs.LocalLaws.{is_field_size}
use Rattle.record_fields.specs.Bam.{half, head_size, seq_length, word}
use Rattle.record_fields.specs.Fields.{Field, MM, ML, am, bm, fields_of, first_named, is_field, name_of}
use Rattle.record_fields.specs.Spots.{part}
use Rattle.record_fields.specs.declared.Head.{Head}
use Rattle.record_fates.specs.Fates.{OpenedAs, alone_fate, guarded, is_sound, pair_fate, plan_of}
use Rattle.record_tags.specs.Changes.{TagEdit}
use Rattle.record_tags.specs.Records.{array_fits, in_domain, text_fits}
use Rattle.record_tags.specs.Values.{is_byte_array, is_text, text_of, type_of, values_of}

-- ---- a field that is there

pub sound_field : (f : Field) → is_sound f ≡ true → (length f ≡ 0 → ⊥) → is_field f ≡ true
sound_field [] h l = absurd (l refl)
sound_field (x ∷ xs) h l = h

pub field_least : (f : Field) → is_field f ≡ true → 4 ≤ length f
field_least f h =
    let is = is_field_size f h in
    omega (arith, (size_fits f is.0).0, is.1)

field_sound : (f : Field) → is_field f ≡ true → is_sound f ≡ true
field_sound [] h = refl
field_sound (x ∷ xs) h = h

-- the first field of a name is whole, if there is one
pub first_sound : (k : ℕ) (fs : List Field) → every is_field fs ≡ true → is_sound (first_named k fs) ≡ true
unfolding first_named
first_sound k [] h = refl
first_sound k (f ∷ fs) h =
    by-test (eqb (name_of f) k)
    (λ e. rw e (field_sound f (and_true_l (is_field f) (every is_field fs) h)))
    (λ e. rw e (first_sound k fs (and_true_r (is_field f) (every is_field fs) h)))

pub length_plan : (mm am bm : ℕ) (set : Bool) → length (plan_of mm am bm set) ≡ 6
length_plan mm am bm set = refl

-- ---- a record that was opened

-- its fields are whole, and it is within the domain
pub record Inside (bam : List ℕ) (k : ℕ) (fs : List Field) : Type 0 where
  pub sound : (j : ℕ) → is_sound (first_named j fs) ≡ true
  pub mm_fits : text_fits (first_named MM fs) ≡ true
  pub ml_fits : array_fits (first_named ML fs) ≡ true
  pub am_fits : text_fits (first_named am fs) ≡ true
  pub bm_fits : text_fits (first_named bm fs) ≡ true
  pub bases_fit : seq_length bam ≤ 16000
  pub letters_fit : k ≤ 16000

pub opened_inside : (bam : List ℕ) (k : ℕ) (ats sizes : List ℕ) (h : Head) → OpenedAs bam k ats sizes (Ok h)
    → Inside bam k (fields_of (drop (head_size bam) bam))
unfolding in_domain
opened_inside bam k ats sizes h o =
    let rest = drop (head_size bam) bam in
    let fs = fields_of rest in
    let n = leb (seq_length bam) 16000 in
    let l = leb k 16000 in
    let mm = text_fits (first_named MM fs) in
    let ml = array_fits (first_named ML fs) in
    let a = text_fits (first_named am fs) in
    let b = text_fits (first_named bm fs) in
    let five : n && l && mm && ml && a ≡ true = and_true_l (n && l && mm && ml && a) b o.4 in
    let four : n && l && mm && ml ≡ true = and_true_l (n && l && mm && ml) a five in
    let three : n && l && mm ≡ true = and_true_l (n && l && mm) ml four in
    let two : n && l ≡ true = and_true_l (n && l) mm three in
    record {
      sound = λ j. first_sound j fs (fields_each rest fs (fields_done rest o.2));
      mm_fits = and_true_r (n && l) mm three;
      ml_fits = and_true_r (n && l && mm) ml four;
      am_fits = and_true_r (n && l && mm && ml) a five;
      bm_fits = and_true_r (n && l && mm && ml && a) b o.4;
      bases_fit = leb-true (seq_length bam) 16000 (and_true_l n l two);
      letters_fit = leb-true k 16000 (and_true_r n l two);
    }

-- ---- a text and an array of bytes, by their own bytes

pub text_length : (f : Field) → 4 ≤ length f → length (text_of f) ≡ length f - 4
text_length f h = length-take-le (length f - 4) (drop 3 f) (omega (arith, length-drop 3 f))

module _ (f : Field) where
  no_text : (type_of f ≡ 90 → ⊥) → is_text f ≡ false
  no_text h = ne_eqb (type_of f) 90 h

  -- the length of a text that is within the domain
  pub text_short : text_fits f ≡ true → type_of f ≡ 90 → length (text_of f) ≤ 65536
  text_short h e =
      let fits : leb (length (text_of f)) 65536 ≡ true = rw (eq-eqb (type_of f) 90 e) at h in
      leb-true (length (text_of f)) 65536 fits

  byte_array : type_of f ≡ 66 → get_or f 3 0 ≡ 67 → is_byte_array f ≡ true
  byte_array e u = rw (eq-eqb (type_of f) 66 e, eq-eqb (get_or f 3 0) 67 u)

  pub array_short : array_fits f ≡ true → type_of f ≡ 66 → get_or f 3 0 ≡ 67 → length (values_of f) ≤ 65536
  array_short h e u =
      let fits : leb (length (values_of f)) 65536 ≡ true = rw (byte_array e u) at h in
      leb-true (length (values_of f)) 65536 fits

-- ---- an edit that may not be possible

module _ (possible : Bool) (edit : TagEdit) (ml? : Bool) (text ml : List ℕ) where
  pub guarded_not : possible ≡ false → is_done (guarded possible edit ml? text ml) ≡ false
  guarded_not h = rw h

  pub guarded_so : possible ≡ true → (t : Bool) → t ≡ is_done (edit ml? text ml) → is_done (guarded possible edit ml? text ml) ≡ t
  guarded_so h t e = rw h (sym e)

-- ---- the field at a byte of a record

module _ (bam : List ℕ) (at size : ℕ) where
  pub part_none : size ≡ 0 → part bam at size ≡ []
  part_none e = rw e

  pub part_byte : (i : ℕ) → i < size → get_or (part bam at size) i 0 ≡ get_or bam (at + i) 0
  part_byte i h = get_or-take size (drop at bam) i 0 h ∙ get_or-drop at bam i 0

  pub part_half : (i : ℕ) → i + 1 < size → half (part bam at size) i ≡ half bam (at + i)
  part_half i h =
      let s : at + (i + 1) ≡ at + i + 1 = omega arith in
      rw (part_byte i (omega arith), part_byte (i + 1) h, s)

  pub part_word : (i : ℕ) → i + 3 < size → word (part bam at size) i ≡ word bam (at + i)
  part_word i h =
      let s : at + (i + 2) ≡ at + i + 2 = omega arith in
      ap (λ (n : ℕ). n + 65536 * half (part bam at size) (i + 2)) (part_half i (omega arith))
      ∙ ap (λ (n : ℕ). half bam (at + i) + 65536 * n) (part_half (i + 2) (omega arith) ∙ ap (half bam) s)

  module _ (fits : at + size ≤ length bam) where
    pub part_length : length (part bam at size) ≡ size
    part_length = length-take-le size (drop at bam) (omega (arith, length-drop at bam))

    pub part_some : (size ≡ 0 → ⊥) → is_empty (part bam at size) ≡ false
    part_some h = some (part bam at size) (λ e. h (sym part_length ∙ e))
      where
        some : (f : Field) → (length f ≡ 0 → ⊥) → is_empty f ≡ false
        some [] l = absurd (l refl)
        some (x ∷ xs) l = refl

    -- the text is the slice between the type and the NUL
    pub part_text : 4 ≤ size → text_of (part bam at size) ≡ take ((at + size - 1) - (at + 3)) (drop (at + 3) bam)
    part_text h =
        let n : length (part bam at size) - 4 ≡ (at + size - 1) - (at + 3) = omega (arith, part_length) in
        rw (n, drop_take 3 size (drop at bam), drop-drop 3 at bam)
        (take-take ((at + size - 1) - (at + 3)) (size - 3) (drop (at + 3) bam) (omega arith))

    -- the values are the slice behind the count
    pub part_values : 8 ≤ size → values_of (part bam at size) ≡ take ((at + size) - (at + 8)) (drop (at + 8) bam)
    part_values h =
        let n : size - 8 ≡ (at + size) - (at + 8) = omega arith in
        rw (drop_take 8 size (drop at bam), drop-drop 8 at bam, n)

    module _ (sound : is_sound (part bam at size) ≡ true) where
      pub part_field : (size ≡ 0 → ⊥) → is_field (part bam at size) ≡ true
      part_field h = sound_field (part bam at size) sound (λ e. h (sym part_length ∙ e))

      -- a field takes four bytes or more
      pub part_least : (size ≡ 0 → ⊥) → 4 ≤ size
      part_least h = omega (arith, field_least (part bam at size) (part_field h), part_length)

      pub part_kind : (size ≡ 0 → ⊥) → type_of (part bam at size) ≡ get_or bam (at + 2) 0
      part_kind h = part_byte 2 (omega (arith, part_least h))

      -- ---- within the domain

      pub fits_none : size ≡ 0 → text_fits (part bam at size) ≡ true
      fits_none e = rw e

      pub fits_other : (size ≡ 0 → ⊥) → (get_or bam (at + 2) 0 ≡ 90 → ⊥) → text_fits (part bam at size) ≡ true
      fits_other h k = rw (no_text (part bam at size) (λ e. k (sym (part_kind h) ∙ e)))

      pub fits_text : (size ≡ 0 → ⊥) → get_or bam (at + 2) 0 ≡ 90 → text_fits (part bam at size) ≡ leb (size - 4) 65536
      fits_text h k =
          let f = part bam at size in
          let n : length (text_of f) ≡ size - 4 = text_length f (omega (arith, part_least h, part_length)) ∙ ap (λ (m : ℕ). m - 4) part_length in
          rw (eq-eqb (type_of f) 90 (part_kind h ∙ k), n)

      -- an array of bytes takes eight bytes or more
      pub array_least : (size ≡ 0 → ⊥) → get_or bam (at + 2) 0 ≡ 66 → get_or bam (at + 3) 0 ≡ 67 → 8 ≤ size
      array_least h e u =
          let f = part bam at size in
          let is = bytes_field f (part_field h) (part_kind h ∙ e) (part_byte 3 (omega (arith, part_least h)) ∙ u) in
          omega (arith, is.0, part_length)

      pub fits_short : size < 8 → array_fits (part bam at size) ≡ true
      fits_short h =
          by-test (eqb size 0)
          (λ e. let z : size ≡ 0 = eqb-true size 0 e in rw z)
          (λ e. by-test (is_byte_array (part bam at size)) (λ t. absurd (too_short (eqb-false size 0 e) t)) (λ t. rw t))
        where
          too_short : (size ≡ 0 → ⊥) → is_byte_array (part bam at size) ≡ true → ⊥
          too_short s t =
              let f = part bam at size in
              let e = eqb-true (type_of f) 66 (and_true_l (eqb (type_of f) 66) (eqb (get_or f 3 0) 67) t) in
              let u = eqb-true (get_or f 3 0) 67 (and_true_r (eqb (type_of f) 66) (eqb (get_or f 3 0) 67) t) in
              omega (arith, (bytes_field f (part_field s) e u).0, part_length)

      pub fits_no_array : (size ≡ 0 → ⊥) → (get_or bam (at + 2) 0 ≡ 66 → ⊥) → array_fits (part bam at size) ≡ true
      fits_no_array h k = rw (ne_eqb (type_of (part bam at size)) 66 (λ e. k (sym (part_kind h) ∙ e)))

      -- an array of other elements
      no_bytes : (size ≡ 0 → ⊥) → (get_or bam (at + 3) 0 ≡ 67 → ⊥) → is_byte_array (part bam at size) ≡ false
      no_bytes h k =
          let f = part bam at size in
          both (eqb (type_of f) 66) (eqb (get_or f 3 0) 67)
          (ne_eqb (get_or f 3 0) 67 (λ e. k (sym (part_byte 3 (omega (arith, part_least h))) ∙ e)))
        where
          both : (a b : Bool) → b ≡ false → a && b ≡ false
          both true b e = e
          both false b e = refl

      pub fits_no_bytes : (size ≡ 0 → ⊥) → (get_or bam (at + 3) 0 ≡ 67 → ⊥) → array_fits (part bam at size) ≡ true
      fits_no_bytes h k = rw (no_bytes h k)

      pub fits_array : (size ≡ 0 → ⊥) → get_or bam (at + 2) 0 ≡ 66 → get_or bam (at + 3) 0 ≡ 67 → array_fits (part bam at size) ≡ leb (size - 8) 65536
      fits_array h e u =
          let f = part bam at size in
          let n : length (values_of f) ≡ size - 8 = length-drop 8 f ∙ ap (λ (m : ℕ). m - 8) part_length in
          rw (byte_array f (part_kind h ∙ e) (part_byte 3 (omega (arith, part_least h)) ∙ u), n)

      -- the slices that are within the domain
      pub text_bound : (size ≡ 0 → ⊥) → get_or bam (at + 2) 0 ≡ 90 → text_fits (part bam at size) ≡ true
          → length (take ((at + size - 1) - (at + 3)) (drop (at + 3) bam)) ≤ 65536
      text_bound h k t =
          let low = leb-true (size - 4) 65536 (sym (fits_text h k) ∙ t) in
          omega (arith, low, length-take ((at + size - 1) - (at + 3)) (drop (at + 3) bam))

      pub array_bound : (size ≡ 0 → ⊥) → get_or bam (at + 2) 0 ≡ 66 → get_or bam (at + 3) 0 ≡ 67 → array_fits (part bam at size) ≡ true
          → length (take ((at + size) - (at + 8)) (drop (at + 8) bam)) ≤ 65536
      array_bound h e u t =
          let low = leb-true (size - 8) 65536 (sym (fits_array h e u) ∙ t) in
          omega (arith, low, length-take ((at + size) - (at + 8)) (drop (at + 8) bam))

      -- ---- what becomes of a text without ML

      module _ (edit : TagEdit) where
        pub alone_none : size ≡ 0 → alone_fate edit (part bam at size) ≡ 0
        alone_none e = rw e

        pub alone_other : (size ≡ 0 → ⊥) → (get_or bam (at + 2) 0 ≡ 90 → ⊥) → alone_fate edit (part bam at size) ≡ 0
        alone_other h k = rw (no_text (part bam at size) (λ e. k (sym (part_kind h) ∙ e)))

        alone_text : (size ≡ 0 → ⊥) → get_or bam (at + 2) 0 ≡ 90
            → alone_fate edit (part bam at size) ≡ cond (is_done (edit false (take ((at + size - 1) - (at + 3)) (drop (at + 3) bam)) [])) 2 1
        alone_text h k = rw (eq-eqb (type_of (part bam at size)) 90 (part_kind h ∙ k), part_text (part_least h))

        pub alone_goes : (size ≡ 0 → ⊥) → get_or bam (at + 2) 0 ≡ 90
            → is_done (edit false (take ((at + size - 1) - (at + 3)) (drop (at + 3) bam)) []) ≡ false → alone_fate edit (part bam at size) ≡ 1
        alone_goes h k d = alone_text h k ∙ ap (λ (b : Bool). cond b 2 1) d

        pub alone_edited : (size ≡ 0 → ⊥) → get_or bam (at + 2) 0 ≡ 90
            → is_done (edit false (take ((at + size - 1) - (at + 3)) (drop (at + 3) bam)) []) ≡ true → alone_fate edit (part bam at size) ≡ 2
        alone_edited h k d = alone_text h k ∙ ap (λ (b : Bool). cond b 2 1) d

-- ---- what becomes of MM, whose ML is at another byte

module _ (bam : List ℕ) (at size mlAt mlSize : ℕ) (fits : at + size ≤ length bam) (sound : is_sound (part bam at size) ≡ true)
    (mlFits : mlAt + mlSize ≤ length bam) (mlSound : is_sound (part bam mlAt mlSize) ≡ true) (edit : TagEdit) where
  pub pair_alone : mlSize ≡ 0 → (n : ℕ) → n ≡ alone_fate edit (part bam at size) → n ≡ pair_fate edit (part bam at size) (part bam mlAt mlSize)
  pair_alone e n q = rw e q

  module _ (some : mlSize ≡ 0 → ⊥) where
    pub pair_none : size ≡ 0 → pair_fate edit (part bam at size) (part bam mlAt mlSize) ≡ 0
    pair_none e = rw (part_some bam mlAt mlSize mlFits some, e)

    module _ (h : size ≡ 0 → ⊥) where
      pub pair_other : (get_or bam (at + 2) 0 ≡ 90 → ⊥) → pair_fate edit (part bam at size) (part bam mlAt mlSize) ≡ 0
      pair_other k =
          rw (part_some bam mlAt mlSize mlFits some, no_text (part bam at size) (λ e. k (sym (part_kind bam at size fits sound h) ∙ e)))

      module _ (z : get_or bam (at + 2) 0 ≡ 90) where
        text : is_text (part bam at size) ≡ true
        text = eq-eqb (type_of (part bam at size)) 90 (part_kind bam at size fits sound h ∙ z)

        pub pair_no_array : (get_or bam (mlAt + 2) 0 ≡ 66 → ⊥) → pair_fate edit (part bam at size) (part bam mlAt mlSize) ≡ 1
        pair_no_array k =
            rw (
              part_some bam mlAt mlSize mlFits some,
              text,
              ne_eqb (type_of (part bam mlAt mlSize)) 66 (λ e. k (sym (part_kind bam mlAt mlSize mlFits mlSound some) ∙ e)),
            )

        pub pair_no_bytes : (get_or bam (mlAt + 3) 0 ≡ 67 → ⊥) → pair_fate edit (part bam at size) (part bam mlAt mlSize) ≡ 1
        pair_no_bytes k = rw (part_some bam mlAt mlSize mlFits some, text, no_bytes bam mlAt mlSize mlFits mlSound some k)

        module _ (e : get_or bam (mlAt + 2) 0 ≡ 66) (u : get_or bam (mlAt + 3) 0 ≡ 67) where
          abbrev edited : Bool
          edited =
              is_done (edit true (take ((at + size - 1) - (at + 3)) (drop (at + 3) bam)) (take ((mlAt + mlSize) - (mlAt + 8)) (drop (mlAt + 8) bam)))

          pair_both : pair_fate edit (part bam at size) (part bam mlAt mlSize) ≡ cond edited 3 1
          pair_both =
              let ml = part bam mlAt mlSize in
              let b = part_byte bam mlAt mlSize 3 (omega (arith, part_least bam mlAt mlSize mlFits mlSound some)) in
              rw (
                part_some bam mlAt mlSize mlFits some,
                text,
                byte_array ml (part_kind bam mlAt mlSize mlFits mlSound some ∙ e) (b ∙ u),
                part_text bam at size fits (part_least bam at size fits sound h),
                part_values bam mlAt mlSize mlFits (array_least bam mlAt mlSize mlFits mlSound some e u),
              )

          pub pair_goes : edited ≡ false → pair_fate edit (part bam at size) (part bam mlAt mlSize) ≡ 1
          pair_goes d = pair_both ∙ ap (λ (b : Bool). cond b 3 1) d

          pub pair_edited : edited ≡ true → pair_fate edit (part bam at size) (part bam mlAt mlSize) ≡ 3
          pair_edited d = pair_both ∙ ap (λ (b : Bool). cond b 3 1) d

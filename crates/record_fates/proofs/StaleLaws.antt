-- Whether MN is an integer other than n, by its type: the types in lower case have a sign, and the others cannot be negative.
-- Assumes nothing.
use mathlib.Core.Path.{◌≡◌, sym, ap, ◌∙◌}
use mathlib.Core.Bool.{Bool, true, false, not, ◌||◌, or-false}
use Prim.Native.Nat.{ℕ, ◌+◌, ◌≤◌, ◌<◌}
use native.Mathlib.Omega.{arith}
use mathlib.Core.List.{List}
use lib.Dec.{eqb, leb}
use lib.ListN.{get_or, length}
use borrow.Author.Tests.{lt-leb, ne_eqb}
use Rattle.record_fates.proofs.FateLaws.{part_byte, part_field, part_half, part_kind, part_least, part_length, part_word}
use Rattle.record_fates.specs.Fates.{is_sound}
use Rattle.record_fields.proofs.Kept.{length_I, length_S, length_i, length_s}
use Rattle.record_fields.specs.Bam.{half, word}
use Rattle.record_fields.specs.Fields.{Field}
use Rattle.record_fields.specs.Spots.{part}
use Rattle.record_tags.specs.Values.{disagrees, type_of}

-- what `is_other` says
abbrev pub other : ℕ → ℕ → ℕ → Bool
other value limit n = leb limit value || not (eqb value n)

-- ---- by the field's own bytes

module _ (n : ℕ) (f : Field) where
  of_c : type_of f ≡ 99 → disagrees n f ≡ other (get_or f 3 0) 128 n
  of_c e = rw (e, or-false (leb 128 (get_or f 3 0) || false), or-false (leb 128 (get_or f 3 0)))

  of_C : type_of f ≡ 67 → get_or f 3 0 < 256 → disagrees n f ≡ other (get_or f 3 0) 256 n
  of_C e h = rw (e, lt-leb 256 (get_or f 3 0) h)

  of_s : type_of f ≡ 115 → disagrees n f ≡ other (half f 3) 32768 n
  of_s e = rw (e, or-false (leb 32768 (half f 3)))

  of_S : type_of f ≡ 83 → half f 3 < 65536 → disagrees n f ≡ other (half f 3) 65536 n
  of_S e h = rw (e, lt-leb 65536 (half f 3) h)

  of_i : type_of f ≡ 105 → disagrees n f ≡ other (word f 3) 2147483648 n
  of_i e = rw e

  of_I : type_of f ≡ 73 → word f 3 < 4294967296 → disagrees n f ≡ other (word f 3) 4294967296 n
  of_I e h = rw (e, lt-leb 4294967296 (word f 3) h)

  of_none : (t : ℕ) → type_of f ≡ t → (t ≡ 99 → ⊥) → (t ≡ 67 → ⊥) → (t ≡ 115 → ⊥) → (t ≡ 83 → ⊥) → (t ≡ 105 → ⊥) → (t ≡ 73 → ⊥)
      → disagrees n f ≡ false
  of_none t e c C s S i I =
      rw (
        e,
        ne_eqb 99 t (λ q. c (sym q)),
        ne_eqb 67 t (λ q. C (sym q)),
        ne_eqb 115 t (λ q. s (sym q)),
        ne_eqb 83 t (λ q. S (sym q)),
        ne_eqb 105 t (λ q. i (sym q)),
        ne_eqb 73 t (λ q. I (sym q)),
      )

-- ---- the field at a byte of a record

module _ (n : ℕ) (bam : List ℕ) (at size : ℕ) (fits : at + size ≤ length bam) (sound : is_sound (part bam at size) ≡ true) where
  pub stale_none : size ≡ 0 → disagrees n (part bam at size) ≡ false
  stale_none e = rw e

  module _ (h : size ≡ 0 → ⊥) where
    abbrev f : Field
    f = part bam at size

    kind : (t : ℕ) → get_or bam (at + 2) 0 ≡ t → type_of f ≡ t
    kind t e = part_kind bam at size fits sound h ∙ e

    byte : get_or f 3 0 ≡ get_or bam (at + 3) 0
    byte = part_byte bam at size 3 (omega (arith, part_least bam at size fits sound h))

    pub stale_c : get_or bam (at + 2) 0 ≡ 99 → disagrees n (part bam at size) ≡ other (get_or bam (at + 3) 0) 128 n
    stale_c e = of_c n f (kind 99 e) ∙ ap (λ (v : ℕ). other v 128 n) byte

    pub stale_C : get_or bam (at + 2) 0 ≡ 67 → get_or bam (at + 3) 0 < 256 → disagrees n (part bam at size) ≡ other (get_or bam (at + 3) 0) 256 n
    stale_C e l = of_C n f (kind 67 e) (omega (arith, byte)) ∙ ap (λ (v : ℕ). other v 256 n) byte

    -- the numbers of 16 and 32 bits are there
    pub long_s : get_or bam (at + 2) 0 ≡ 115 → size ≡ 5
    long_s e = sym (part_length bam at size fits) ∙ length_s f (part_field bam at size fits sound h) (kind 115 e)

    pub long_S : get_or bam (at + 2) 0 ≡ 83 → size ≡ 5
    long_S e = sym (part_length bam at size fits) ∙ length_S f (part_field bam at size fits sound h) (kind 83 e)

    pub long_i : get_or bam (at + 2) 0 ≡ 105 → size ≡ 7
    long_i e = sym (part_length bam at size fits) ∙ length_i f (part_field bam at size fits sound h) (kind 105 e)

    pub long_I : get_or bam (at + 2) 0 ≡ 73 → size ≡ 7
    long_I e = sym (part_length bam at size fits) ∙ length_I f (part_field bam at size fits sound h) (kind 73 e)

    pub stale_s : get_or bam (at + 2) 0 ≡ 115 → (v : ℕ) → v ≡ half bam (at + 3) → disagrees n (part bam at size) ≡ other v 32768 n
    stale_s e v q =
        let same : half f 3 ≡ v = part_half bam at size 3 (omega (arith, long_s e)) ∙ sym q in
        of_s n f (kind 115 e) ∙ ap (λ (w : ℕ). other w 32768 n) same

    pub stale_S : get_or bam (at + 2) 0 ≡ 83 → (v : ℕ) → v ≡ half bam (at + 3) → v < 65536 → disagrees n (part bam at size) ≡ other v 65536 n
    stale_S e v q l =
        let same : half f 3 ≡ v = part_half bam at size 3 (omega (arith, long_S e)) ∙ sym q in
        of_S n f (kind 83 e) (omega (arith, same)) ∙ ap (λ (w : ℕ). other w 65536 n) same

    pub stale_i : get_or bam (at + 2) 0 ≡ 105 → (v : ℕ) → v ≡ word bam (at + 3) → disagrees n (part bam at size) ≡ other v 2147483648 n
    stale_i e v q =
        let same : word f 3 ≡ v = part_word bam at size 3 (omega (arith, long_i e)) ∙ sym q in
        of_i n f (kind 105 e) ∙ ap (λ (w : ℕ). other w 2147483648 n) same

    pub stale_I : get_or bam (at + 2) 0 ≡ 73 → (v : ℕ) → v ≡ word bam (at + 3) → v < 4294967296 → disagrees n (part bam at size) ≡ other v 4294967296 n
    stale_I e v q l =
        let same : word f 3 ≡ v = part_word bam at size 3 (omega (arith, long_I e)) ∙ sym q in
        of_I n f (kind 73 e) (omega (arith, same)) ∙ ap (λ (w : ℕ). other w 4294967296 n) same

    pub stale_other : (t : ℕ) → t ≡ get_or bam (at + 2) 0 → (t ≡ 99 → ⊥) → (t ≡ 67 → ⊥) → (t ≡ 115 → ⊥) → (t ≡ 83 → ⊥) → (t ≡ 105 → ⊥) → (t ≡ 73 → ⊥)
        → disagrees n (part bam at size) ≡ false
    stale_other t e = of_none n f t (kind t (sym e))

-- Parsing and joining are inverse: the fields that bytes parse to are the bytes, each of them is one field, and fields that are joined parse to themselves.
-- Assumes nothing.
use Rattle.std.specs.Prelude.{Ok}
use mathlib.Core.Path.{◌≡◌, refl, sym, ◌∙◌}
use mathlib.Core.Bool.{true}
use Prim.Native.Nat.{ℕ, zero, suc, ◌-◌, ◌≤◌, ◌<◌}
use native.Mathlib.Omega.{arith}
use mathlib.Core.List.{List, [], ◌∷◌, ◌++◌}
use lib.Dec.{eqb}
use lib.ListN.{drop, length, length-append, length-drop, take, take-append-drop}
use lib.Seq.{drop-append_seam, take-append_seam}
use borrow.Author.Tests.{eqb-false, eqb-true}
use Rattle.lent.proofs.Outcome.{done_inj, on_done_inv}
use Rattle.lent.proofs.Tests.{and_true, and_true_l, and_true_r, by-test}
use Rattle.lent.specs.Lists.{every}
use Rattle.lent.specs.Outcome.{refuse}
use Rattle.record_fields.proofs.FieldsLaws.{fields_first, fields_none, fields_unparsed, size_fits}
use Rattle.record_fields.proofs.LocalLaws.{front_is_field, is_field_size, size_before}
use Rattle.record_fields.specs.Fields.{Field, field_size, fields, is_field, joined}

-- ---- how bytes parse, step by step

pub data Parsed : List ℕ → List Field → Type 0 where
  none : Parsed [] []
  one : {bytes : List ℕ} {fs : List Field} → (field_size bytes ≡ 0 → ⊥) → Parsed (drop (field_size bytes) bytes) fs
      → Parsed bytes (take (field_size bytes) bytes ∷ fs)

parsed_in : (k : ℕ) (bytes : List ℕ) (fs : List Field) → length bytes ≤ k → fields bytes ≡ Ok fs → Parsed bytes fs
parsed_in zero [] fs h e = let q : fs ≡ [] = done_inj (sym e ∙ fields_none) in rw q none
parsed_in zero (x ∷ xs) fs h e = absurd (omega arith)
parsed_in (suc k) [] fs h e = let q : fs ≡ [] = done_inj (sym e ∙ fields_none) in rw q none
parsed_in (suc k) (x ∷ xs) fs h e =
    let n = field_size (x ∷ xs) in
    by-test (eqb n 0)
    (λ t.
    let z : refuse 15 ≡ Ok fs = sym (fields_unparsed (x ∷ xs) (omega arith) (eqb-true n 0 t)) ∙ e in
    let f : ◌≡◌ {A = ℕ} 0 1 = cc in
    absurd (omega arith))
    (λ t.
    let some = eqb-false n 0 t in
    let inv = on_done_inv (λ (gs : List Field). take n (x ∷ xs) ∷ gs) (fields (drop n (x ∷ xs))) fs (sym (fields_first (x ∷ xs) (omega arith) some) ∙ e) in
    let fits = size_fits (x ∷ xs) some in
    let left : length (drop n (x ∷ xs)) ≡ suc (length xs) - n = length-drop n (x ∷ xs) in
    rw (← inv.2) (one some (parsed_in k (drop n (x ∷ xs)) inv.0 (omega (arith, fits.0)) inv.1)))

pub parsed : (bytes : List ℕ) (fs : List Field) → fields bytes ≡ Ok fs → Parsed bytes fs
parsed bytes fs e = parsed_in (length bytes) bytes fs (omega arith) e

-- ---- the fields are the bytes

parsed_joined : {bytes : List ℕ} {fs : List Field} → Parsed bytes fs → joined fs ≡ bytes
parsed_joined none = refl
parsed_joined (one {bytes} {fs} some rest) = rw (parsed_joined rest) (take-append-drop (field_size bytes) bytes)

pub joined_fields : (bytes : List ℕ) (fs : List Field) → fields bytes ≡ Ok fs → joined fs ≡ bytes
joined_fields bytes fs e = parsed_joined (parsed bytes fs e)

-- ---- each of them is one field

parsed_each : {bytes : List ℕ} {fs : List Field} → Parsed bytes fs → every is_field fs ≡ true
parsed_each none = refl
parsed_each (one {bytes} {fs} some rest) =
    and_true (is_field (take (field_size bytes) bytes)) (every is_field fs) (front_is_field bytes some) (parsed_each rest)

pub fields_each : (bytes : List ℕ) (fs : List Field) → fields bytes ≡ Ok fs → every is_field fs ≡ true
fields_each bytes fs e = parsed_each (parsed bytes fs e)

-- ---- fields that are joined parse to themselves

pub fields_joined : (fs : List Field) → every is_field fs ≡ true → fields (joined fs) ≡ Ok fs
fields_joined [] h = fields_none
fields_joined (f ∷ fs) h =
    let here = is_field_size f (and_true_l (is_field f) (every is_field fs) h) in
    let rest = joined fs in
    let size : field_size (f ++ rest) ≡ length f = size_before f rest here.0 ∙ here.1 in
    let fits = size_fits f here.0 in
    let some : field_size (f ++ rest) ≡ 0 → ⊥ = λ z. here.0 (sym (size_before f rest here.0) ∙ z) in
    let long : 0 < length (f ++ rest) = omega (arith, length-append f rest, fits.0, here.1) in
    fields_first (f ++ rest) long some
    ∙ rw (size, take-append_seam f rest, drop-append_seam f rest, fields_joined fs (and_true_r (is_field f) (every is_field fs) h))

-- Steps on a stored read, by computation: places that are none, a cut off the stored front, the spare half, and steps that go on after a cut.
-- Assumes nothing.
use Rattle.std.specs.Prelude.{Ok}
use mathlib.Core.Path.{◌≡◌, refl}
use Prim.Native.Nat.{ℕ}
use mathlib.Core.Bool.{true, false}
use mathlib.Core.List.{List, [], ◌∷◌}
use Rattle.lent.specs.Outcome.{number_of, refuse}
use Rattle.samtags.specs.Bytes.{ascii}
use Rattle.samtags.specs.Session.{Lengths, Memory, Step, after_step, cut, drop_calls, mask}
use Rattle.stepping.specs.Steps.{Came, came, leaves_memory}
use Rattle.stored_steps.specs.Steps.{held_in_read, open_stored, step_stored}

abbrev rows : List ℕ → List ℕ → List ℕ → ℕ → ℕ → ℕ → Memory
rows seq text ml s t m = record { seq = seq; text = text; ml = ml; lengths = record { seq = s; text = t; ml = m } }

abbrev held : ℕ → ℕ → ℕ → Lengths
held s t m = record { seq = s; text = t; ml = m }

-- a step on a reverse read with ML: its answer and the rows after it
abbrev left : Step → Memory → Came
left t m = leaves_memory m (step_stored true true t m)

-- ---- a place that is none

-- five C in read orientation, stored as five G; the first C is listed
abbrev five_c : Memory
five_c = rows (0x44 ∷ 0x44 ∷ 0x40 ∷ []) (ascii "C+m?,0;") (200 ∷ []) 5 7 1

-- the same with a header that does not end in '?'
abbrev five_c_plain : Memory
five_c_plain = rows (0x44 ∷ 0x44 ∷ 0x40 ∷ []) (ascii "C+m,0;") (200 ∷ []) 5 6 1

-- Place 7 of five bases is none: the step is done, and nothing changes. The first C of the read is at place 4 of the stored read.
pub place_that_is_none :
    (left (drop_calls (7 ∷ [])) five_c ≡ came (Ok (held 5 7 1)) five_c.seq five_c.text five_c.ml)
    × (left (drop_calls (7 ∷ [])) five_c_plain ≡ came (Ok (held 5 6 1)) five_c_plain.seq five_c_plain.text five_c_plain.ml)
    × (left (mask (7 ∷ [])) five_c ≡ came (Ok (held 5 7 1)) five_c.seq five_c.text five_c.ml)
    × (left (drop_calls (0 ∷ [])) five_c ≡ came (Ok (held 5 7 1)) five_c.seq five_c.text five_c.ml)
    × (left (drop_calls (4 ∷ [])) five_c ≡ came (Ok (held 5 5 0)) five_c.seq (ascii "C+m?;0;") five_c.ml)
    × (left (drop_calls (4 ∷ [])) five_c_plain ≡ came (refuse 10) five_c_plain.seq five_c_plain.text five_c_plain.ml)
unfolding leaves_memory step_stored
place_that_is_none = (refl, refl, refl, refl, refl, refl)

-- five C are stored, and the read is five G: the call is on the first G of the read
abbrev five_g : Memory
five_g = rows (0x22 ∷ 0x22 ∷ 0x20 ∷ []) (ascii "G-m?,0;") (200 ∷ []) 5 7 1

pub stored_as_c :
    (number_of (open_stored true true five_g) ≡ 0)
    × (number_of (open_stored false true five_g) ≡ 7)
    × (left (drop_calls (7 ∷ [])) five_g ≡ came (Ok (held 5 7 1)) five_g.seq five_g.text five_g.ml)
    × (left (mask (4 ∷ [])) five_g ≡ came (Ok (held 5 5 0)) (0x22 ∷ 0x22 ∷ 0xF0 ∷ []) (ascii "G-m?;0;") five_g.ml)
unfolding leaves_memory open_stored step_stored
stored_as_c = (refl, refl, refl, refl)

-- ---- a cut off the stored front

-- ACGT is its own reverse complement; the call is on the C at place 1 of the read
abbrev four : List ℕ → Memory
four row = rows row (ascii "C+m?,0;") (200 ∷ []) 4 7 1

-- CGT is left. Bytes past the new end are unchanged, in the row and in a longer one; the low half of the last byte becomes 0.
pub cut_off_the_front :
    (left (cut 1 0) (four (0x12 ∷ 0x48 ∷ [])) ≡ came (Ok (held 3 7 1)) (0x24 ∷ 0x80 ∷ []) (ascii "C+m?,0;") (200 ∷ []))
    × (left (cut 1 0) (four (0x12 ∷ 0x48 ∷ 0x77 ∷ [])) ≡ came (Ok (held 3 7 1)) (0x24 ∷ 0x80 ∷ 0x77 ∷ []) (ascii "C+m?,0;") (200 ∷ []))
    × (left (cut 2 0) (four (0x12 ∷ 0x48 ∷ 0x77 ∷ [])) ≡ came (Ok (held 2 7 1)) (0x48 ∷ 0x48 ∷ 0x77 ∷ []) (ascii "C+m?,0;") (200 ∷ []))
    × (left (cut 3 0) (four (0x12 ∷ 0x48 ∷ [])) ≡ came (Ok (held 1 5 0)) (0x80 ∷ 0x48 ∷ []) (ascii "C+m?;0;") (200 ∷ []))
    × (left (cut 4 0) (four (0x12 ∷ 0x48 ∷ [])) ≡ came (Ok (held 0 5 0)) (0x12 ∷ 0x48 ∷ []) (ascii "C+m?;0;") (200 ∷ []))
    × (left (cut 2 3) (four (0x12 ∷ 0x48 ∷ [])) ≡ came (refuse 11) (0x12 ∷ 0x48 ∷ []) (ascii "C+m?,0;") (200 ∷ []))
unfolding leaves_memory step_stored
cut_off_the_front = (refl, refl, refl, refl, refl, refl)

-- the same cut of a forward read
pub cut_off_a_forward_read :
    leaves_memory (four (0x12 ∷ 0x48 ∷ [])) (step_stored false true (cut 1 0) (four (0x12 ∷ 0x48 ∷ [])))
    ≡ came (Ok (held 3 7 1)) (0x24 ∷ 0x80 ∷ []) (ascii "C+m?,0;") (200 ∷ [])
unfolding leaves_memory step_stored
cut_off_a_forward_read = refl

-- ---- the spare half

-- one C in read orientation, stored as G; the spare half is not 0
abbrev one : List ℕ → ℕ → Memory
one text n = rows (0x4F ∷ []) text (200 ∷ []) 1 n 1

-- the spare half is no base: an entry that would need it is refused with 7
pub spare_is_no_base :
    (number_of (open_stored true true (one (ascii "N+m?,1;") 7)) ≡ 7)
    × (number_of (open_stored false true (one (ascii "N+m?,1;") 7)) ≡ 7)
    × (number_of (open_stored true true (one (ascii "N+m?,0;") 7)) ≡ 0)
    × (number_of (step_stored true true (mask []) (one (ascii "N+m?,1;") 7)) ≡ 7)
    × ((held_in_read true (one (ascii "C+m?,0;") 7)).seq ≡ ascii "C")
unfolding open_stored step_stored held_in_read
spare_is_no_base = (refl, refl, refl, refl, refl)

-- a step that is done makes it 0, even where the bases stay as they are
pub spare_becomes_zero :
    (left (drop_calls (0 ∷ [])) (one (ascii "C+m?,0;") 7) ≡ came (Ok (held 1 5 0)) (0x40 ∷ []) (ascii "C+m?;0;") (200 ∷ []))
    × (left (drop_calls []) (one (ascii "C+m?,0;") 7) ≡ came (Ok (held 1 7 1)) (0x40 ∷ []) (ascii "C+m?,0;") (200 ∷ []))
    × (left (mask (0 ∷ [])) (one (ascii "C+m?,0;") 7) ≡ came (Ok (held 1 5 0)) (0xF0 ∷ []) (ascii "C+m?;0;") (200 ∷ []))
unfolding leaves_memory step_stored
spare_becomes_zero = (refl, refl, refl)

-- a refusal, and 21, leave it
pub spare_stays :
    (left (drop_calls (0 ∷ [])) (one (ascii "C+m,0;") 6) ≡ came (refuse 10) (0x4F ∷ []) (ascii "C+m,0;") (200 ∷ []))
    × (left (cut 0 0) (one (ascii "C+m?,0;") 7) ≡ came (refuse 21) (0x4F ∷ []) (ascii "C+m?,0;") (200 ∷ []))
    × (left (cut 2 0) (one (ascii "C+m?,0;") 7) ≡ came (refuse 11) (0x4F ∷ []) (ascii "C+m?,0;") (200 ∷ []))
unfolding leaves_memory step_stored
spare_stays = (refl, refl, refl)

-- ---- steps that go on

abbrev after : Step → Memory → Memory
after t m = after_step m (step_stored true true t m)

-- ACGT, then CGT, then CG: the row is longer than the bases take, and a step goes on. Only the opening asks for a row that the bases fill.
pub goes_on :
    (after (cut 1 0) (four (0x12 ∷ 0x48 ∷ [])) ≡ rows (0x24 ∷ 0x80 ∷ []) (ascii "C+m?,0;") (200 ∷ []) 3 7 1)
    × (after (cut 0 1) (after (cut 1 0) (four (0x12 ∷ 0x48 ∷ []))) ≡ rows (0x24 ∷ 0x80 ∷ []) (ascii "C+m?,0;") (200 ∷ []) 2 7 1)
    × (after (mask (0 ∷ [])) (rows (0x24 ∷ 0x80 ∷ []) (ascii "C+m?,0;") (200 ∷ []) 2 7 1)
    ≡ rows (0xF4 ∷ 0x80 ∷ []) (ascii "C+m?,0;") (200 ∷ []) 2 7 1)
    × (after (mask (1 ∷ [])) (rows (0x24 ∷ 0x80 ∷ []) (ascii "C+m?,0;") (200 ∷ []) 2 7 1)
    ≡ rows (0x2F ∷ 0x80 ∷ []) (ascii "C+m?;0;") (200 ∷ []) 2 5 0)
    × (number_of (open_stored true true (rows (0x24 ∷ 0x80 ∷ []) (ascii "C+m?,0;") (200 ∷ []) 2 7 1)) ≡ 2)
    × (number_of (open_stored true true (rows (0x24 ∷ []) (ascii "C+m?,0;") (200 ∷ []) 2 7 1)) ≡ 0)
    × (number_of (step_stored true true (mask []) (rows (0x24 ∷ []) (ascii "C+m?,0;") (200 ∷ []) 3 7 1)) ≡ 2)
unfolding step_stored open_stored
goes_on = (refl, refl, refl, refl, refl, refl, refl)

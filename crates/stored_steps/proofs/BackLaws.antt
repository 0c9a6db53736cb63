-- From a plain step on the unpacked row to the step on the packed row.
-- Assumes nothing.
use Rattle.std.specs.Prelude.{Ok, Err}
use mathlib.Core.Path.{◌≡◌, refl, subst, sym, ap, ◌∙◌}
use Prim.Native.Nat.{ℕ, ◌≤◌}
use native.Mathlib.Omega.{arith}
use mathlib.Core.Bool.{Bool, true, false, cond, ◌&&◌}
use mathlib.Core.List.{List}
use lib.ListN.{length, take}
use lib.Dec.{leb}
use borrow.Author.Tests.{le-leb, leb-true}
use Rattle.lent.proofs.Filled.{over_front, length_over}
use Rattle.lent.proofs.Outcome.{done_inj, need_rest, need_test}
use Rattle.lent.proofs.Tests.{and_true_l, and_true_r, by-test}
use Rattle.lent.specs.Filled.{over}
use Rattle.lent.specs.Outcome.{Outcome, and_then, need}
use Rattle.lent.specs.declared.Refusal.{Refusal}
use Rattle.packed.specs.Packed.{bytes_for}
use Rattle.packed.specs.Stored.{as_stored, in_read, step_in_read}
use Rattle.packed.proofs.Turning.{length_in_read}
use Rattle.samtags.proofs.Memory.{Shrinks, step_shrinks}
use Rattle.samtags.specs.Session.{Held, Lengths, Memory, Step, held_in, lengths_in_domain, step_in_memory, stepped as steppedTo, stored}
use Rattle.stepping.proofs.OrderLaws.{ordered_is, values_leb}
use Rattle.stepping.specs.Steps.{Came, Ordered, came, leaves_memory, lengths_in_rows, lengths_of, memory, step_says}
use Rattle.stepping.specs.declared.Lengths.{Lengths as Declared}
use Rattle.stored_rows.proofs.OrderLaws.{tested, tests_pass, tests_refuse}
use Rattle.stored_steps.specs.Back.{FitsBack, OrderedStored, packed_back}
use Rattle.stored_steps.specs.Steps.{held_in_read, step_stored, stored_back, tag_in_buffers}

-- ---- the order of the lengths

-- the tests of a step
abbrev pub step_tests : Bool → Memory → Outcome (Unit {0})
step_tests ml? m = tested (lengths_in_domain ml? m.lengths) (leb (bytes_for m.lengths.seq) (length m.seq) && tag_in_buffers ml? m)

-- the plain tests, with the bases that the packed row has in place of its bytes, are the tests of a step
pub packed_tests : (ml? : Bool) (packed mm ml bases : ℕ) (n : Declared) → ((k : ℕ) → k ≤ 16000 → leb k bases ≡ leb (bytes_for k) packed)
    → tested (lengths_in_domain ml? (lengths_of n)) (lengths_in_rows ml? bases mm ml (lengths_of n))
    ≡ tested (lengths_in_domain ml? (lengths_of n)) (leb (bytes_for n.seq) packed && (leb n.mm mm && cond ml? (leb n.ml ml) true))
packed_tests ml? packed mm ml bases n same =
    by-test (lengths_in_domain ml? (lengths_of n))
    (λ d.
    let few = and_true_l (leb n.seq 16000) (leb n.mm 65536)
    (and_true_l (leb n.seq 16000 && leb n.mm 65536) (cond ml? (leb n.ml 65536) true) d) in
    rw (d, same n.seq (leb-true n.seq 16000 few))
    (ap (λ (t : Bool). need t 2 (Ok tt)) (and_assoc (leb (bytes_for n.seq) packed) (leb n.mm mm) (cond ml? (leb n.ml ml) true))))
    (λ d. rw d)
  where
    and_assoc : (a b c : Bool) → (a && b) && c ≡ a && (b && c)
    and_assoc true b c = refl
    and_assoc false b c = refl

module _ (ml? : Bool) (m : Memory) where
  pub stored_ordered : step_tests ml? m ≡ Ok tt → OrderedStored ml? m
  stored_ordered e =
      let n = m.lengths in
      let d = need_test (lengths_in_domain ml? n) 1 _ tt e in
      let b = need_test (leb (bytes_for n.seq) (length m.seq) && tag_in_buffers ml? m) 2 (Ok tt) tt (need_rest (lengths_in_domain ml? n) 1 _ tt e) in
      let two = and_true_l (leb n.seq 16000 && leb n.text 65536) (cond ml? (leb n.ml 65536) true) d in
      let ml_in : leb (cond ml? n.ml 0) 65536 ≡ true =
      rw (values_leb ml? n.ml 65536) at (and_true_r (leb n.seq 16000 && leb n.text 65536) (cond ml? (leb n.ml 65536) true) d) in
      let tag = and_true_r (leb (bytes_for n.seq) (length m.seq)) (tag_in_buffers ml? m) b in
      let ml-row : leb (cond ml? n.ml 0) (length m.ml) ≡ true =
      rw (values_leb ml? n.ml (length m.ml)) at
      (and_true_r (leb n.text (length m.text)) (cond ml? (leb n.ml (length m.ml)) true) tag) in (
        leb-true n.seq 16000 (and_true_l (leb n.seq 16000) (leb n.text 65536) two),
        leb-true n.text 65536 (and_true_r (leb n.seq 16000) (leb n.text 65536) two),
        leb-true (cond ml? n.ml 0) 65536 ml_in,
        leb-true (bytes_for n.seq) (length m.seq) (and_true_l (leb (bytes_for n.seq) (length m.seq)) (tag_in_buffers ml? m) b),
        leb-true n.text (length m.text) (and_true_l (leb n.text (length m.text)) (cond ml? (leb n.ml (length m.ml)) true) tag),
        leb-true (cond ml? n.ml 0) (length m.ml) ml-row,
      )

  pub step_refused : (reverse : Bool) (t : Step) (r : Refusal) → step_tests ml? m ≡ Err r → step_stored reverse ml? t m ≡ Err r
  unfolding step_stored
  step_refused reverse t r e =
      tests_refuse (lengths_in_domain ml? m.lengths) (leb (bytes_for m.lengths.seq) (length m.seq) && tag_in_buffers ml? m)
      (and_then (steppedTo ml? (step_in_read reverse m.lengths.seq t) (held_in_read reverse m)) (λ s. Ok (stored_back reverse ml? m s))) r e

-- lengths that are in order pass the tests
pub passes : (ml? : Bool) (m : Memory) → OrderedStored ml? m → step_tests ml? m ≡ Ok tt
passes ml? m i =
    let n = m.lengths in
    rw (
      values_leb ml? n.ml 65536,
      values_leb ml? n.ml (length m.ml),
      le-leb n.seq 16000 i.0,
      le-leb n.text 65536 i.1,
      le-leb (cond ml? n.ml 0) 65536 i.2,
      le-leb (bytes_for n.seq) (length m.seq) i.3,
      le-leb n.text (length m.text) i.4,
      le-leb (cond ml? n.ml 0) (length m.ml) i.5,
    )

-- ---- the plain step on the unpacked row, and back

module _ (reverse ml? : Bool) (packed mm ml row : List ℕ) (lengths : Declared) (i : OrderedStored ml? (memory packed mm ml lengths))
    (front : take lengths.seq row ≡ in_read reverse lengths.seq packed) (room : lengths.seq ≤ length row) where
  abbrev Packed : Memory
  Packed = memory packed mm ml lengths

  abbrev Unpacked : Memory
  Unpacked = memory row mm ml lengths

  pub plain_ordered : Ordered ml? Unpacked
  plain_ordered = (i.0, i.1, i.2, room, i.4, i.5)

  same_held : held_in Unpacked ≡ held_in_read reverse Packed
  unfolding held_in_read
  same_held = λ j. record { seq = front j; text = take lengths.mm mm; ml = take lengths.ml ml }

  -- the plain step's outcome, and the stored step's, from what the step makes of SEQ in read orientation
  plain_is : (t : Step) → step_in_memory ml? t Unpacked ≡ and_then (steppedTo ml? t (held_in_read reverse Packed)) (λ s. Ok (stored ml? Unpacked s))
  unfolding step_in_memory
  plain_is t =
      ordered_is ml? Unpacked plain_ordered _ ∙ ap (λ (h : Held). and_then (steppedTo ml? t h) (λ s. Ok (stored ml? Unpacked s))) same_held

  stored_is : (t : Step) → step_stored reverse ml? t Packed
      ≡ and_then (steppedTo ml? (step_in_read reverse lengths.seq t) (held_in_read reverse Packed)) (λ s. Ok (stored_back reverse ml? Packed s))
  unfolding step_stored
  stored_is t =
      tests_pass (lengths_in_domain ml? (lengths_of lengths)) (leb (bytes_for lengths.seq) (length packed) && tag_in_buffers ml? Packed)
      (and_then (steppedTo ml? (step_in_read reverse lengths.seq t) (held_in_read reverse Packed)) (λ s. Ok (stored_back reverse ml? Packed s)))
      (passes ml? Packed i)

  module _ (s u v : List ℕ) where
    abbrev Made : Outcome Declared → Outcome Held → Type 0
    Made a o = came (step_says a) s u v ≡ leaves_memory Unpacked (and_then o (λ h. Ok (stored ml? Unpacked h)))

    held_length : (a : Declared) (h : Held) → Made (Ok a) (Ok h) → a.seq ≡ length h.seq
    unfolding leaves_memory
    held_length a h e =
        let is : lengths_of a ≡ (stored ml? Unpacked h).lengths = done_inj (ap (λ (x : Came). x.answer) e) in
        ap (λ (n : Lengths). n.seq) is

    fits_from : (a : Outcome Declared) (o : Outcome Held) → Made a o → ((h : Held) → o ≡ Ok h → length h.seq ≤ lengths.seq) → FitsBack a s packed
    unfolding leaves_memory
    fits_from (Ok a) (Ok h) e few =
        let long = held_length a h e in
        let is : s ≡ over h.seq row = ap (λ (x : Came). x.seq) e in
        let same = length_over h.seq row (omega (arith, few h refl, room)) in
        (omega (arith, few h refl, i.0, long), omega (arith, few h refl, long, room, ap length is, same), omega (arith, few h refl, long, i.3))
    fits_from (Ok a) (Err q) e few =
        let x : ◌≡◌ {A = Outcome Lengths} (Ok (lengths_of a)) (Err q) = ap (λ (x : Came). x.answer) e in
        let z : ◌≡◌ {A = ℕ} 0 1 = cc in absurd (omega arith)
    fits_from (Err r) o e few = tt

    back_from : (a : Outcome Declared) (o : Outcome Held) → Made a o
        → came (step_says a) (packed_back a reverse s packed) u v ≡ leaves_memory Packed (and_then o (λ h. Ok (stored_back reverse ml? Packed h)))
    unfolding leaves_memory stored_back
    back_from (Ok a) (Ok h) e =
        let long = held_length a h e in
        let is : s ≡ over h.seq row = ap (λ (x : Came). x.seq) e in
        let bases : take a.seq s ≡ h.seq =
        (λ j. take (long j) (is j)) ∙ over_front h.seq row in
        λ j. came (e j).answer (over (as_stored reverse (bases j)) packed) (e j).text (e j).ml
    back_from (Ok a) (Err q) e =
        let x : ◌≡◌ {A = Outcome Lengths} (Ok (lengths_of a)) (Err q) = ap (λ (x : Came). x.answer) e in
        let z : ◌≡◌ {A = ℕ} 0 1 = cc in absurd (omega arith)
    back_from (Err r) (Ok h) e =
        let x : ◌≡◌ {A = Outcome Lengths} (Err r) (Ok (stored ml? Unpacked h).lengths) = ap (λ (x : Came). x.answer) e in
        let z : ◌≡◌ {A = ℕ} 0 1 = cc in absurd (omega arith)
    back_from (Err r) (Err q) e = λ j. came (e j).answer packed (e j).text (e j).ml

  -- a step that is done has no more bases than it found
  few_then : (t : Step) (h : Held) → steppedTo ml? t (held_in_read reverse Packed) ≡ Ok h → length h.seq ≤ lengths.seq
  unfolding held_in_read
  few_then t h e =
      let shrinks : Shrinks ml? (held_in_read reverse Packed) (Ok h) =
      subst (Shrinks ml? (held_in_read reverse Packed)) e (step_shrinks ml? t (held_in_read reverse Packed)) in
      omega (arith, shrinks.seq_in, length_in_read reverse lengths.seq packed)

  module _ (t : Step) (a : Outcome Declared) (s u v : List ℕ)
      (made : came (step_says a) s u v ≡ leaves_memory Unpacked (step_in_memory ml? (step_in_read reverse lengths.seq t) Unpacked)) where
    -- the plain step was made on the unpacked row: its bases can be packed back
    pub fits_back : FitsBack a s packed
    fits_back =
        fits_from s u v a (steppedTo ml? (step_in_read reverse lengths.seq t) (held_in_read reverse Packed))
        (made ∙ ap (leaves_memory Unpacked) (plain_is (step_in_read reverse lengths.seq t)))
        (few_then (step_in_read reverse lengths.seq t))

    -- and then the packed row is the stored step's
    pub back_is_step : came (step_says a) (packed_back a reverse s packed) u v ≡ leaves_memory Packed (step_stored reverse ml? t Packed)
    back_is_step =
        back_from s u v a (steppedTo ml? (step_in_read reverse lengths.seq t) (held_in_read reverse Packed))
        (made ∙ ap (leaves_memory Unpacked) (plain_is (step_in_read reverse lengths.seq t)))
        ∙ ap (leaves_memory Packed) (sym (stored_is t))

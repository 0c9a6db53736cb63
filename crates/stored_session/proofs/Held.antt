-- The step on a stored read is the plain step on what the rows hold in read orientation: the same number, and the rows then hold what the plain step
-- gives. Lengths that are in order stay so, and bytes stay bytes.
-- Assumes nothing.
use Rattle.std.specs.Prelude.{Ok, Err}
use mathlib.Core.Path.{◌≡◌, refl, sym}
use Prim.Native.Nat.{ℕ, ◌+◌, ◌-◌, ◌≤◌}
use native.Mathlib.Omega.{arith}
use mathlib.Core.Bool.{Bool, true, false, ◌&&◌}
use mathlib.Core.List.{List}
use lib.ListN.{length, length-take}
use lib.Dec.{leb, eqb}
use borrow.Author.Tests.{eqb-true, le-leb, leb-true}
use Rattle.lent.specs.Filled.{over}
use Rattle.lent.specs.Lists.{among}
use Rattle.lent.specs.Outcome.{Outcome, and_then, number_of}
use Rattle.lent.proofs.Filled.{length_over, over_front}
use Rattle.lent.proofs.Outcome.{need_rest, need_test}
use Rattle.lent.proofs.Tests.{and_true, and_true_l, and_true_r, by-test}
use Rattle.packed.proofs.Rows.{Bytes}
use Rattle.packed.proofs.Turning.{Letters, as_stored_bytes, in_read_letters, in_read_stored, length_as_stored, length_in_read, masked_letters, window_letters}
use Rattle.packed.specs.Packed.{bytes_for}
use Rattle.packed.specs.Stored.{as_stored, step_in_read}
use Rattle.samtags.proofs.Memory.{No-longer, Shrinks, step_shrinks, if_ml, ml_if}
use Rattle.samtags.specs.Edits.{cut_to, dropping_at, edited, masked_to}
use Rattle.samtags.specs.Reading.{lists}
use Rattle.samtags.specs.Session.{Held, Memory, Step, after_step, cut, drop_calls, held_with, lengths_in_domain, mask, masked, stepped, window}
use Rattle.samtags.specs.Spots.{Listing}
use Rattle.samtags.specs.Writing.{Tag}
use Rattle.stored_steps.specs.Steps.{held_in_read, open_stored, step_stored, stored_back, tag_in_buffers}

-- ---- a step leaves the bases letters

-- what an outcome gives, if it gives anything, has letters as its bases
abbrev pub Lettered : Outcome Held → Type 0
Lettered (Err r) = Unit {0}
Lettered (Ok s) = Letters s.seq

lettered_with : (ml? : Bool) (h : Held) (after : List ℕ) → Letters after → (o : Outcome Tag) → Lettered (held_with ml? h after o)
lettered_with ml? h after l (Err r) = tt
lettered_with ml? h after l (Ok r) = l

pub step_letters : (ml? : Bool) (t : Step) (h : Held) → Letters h.seq → Lettered (stepped ml? t h)
unfolding stepped
step_letters ml? (mask ps) h l =
    let after = masked (among ps) h.seq in
    lettered_with ml? h after (masked_letters (among ps) h.seq l) (edited (masked_to after) ml? h.seq h.text h.ml)
step_letters ml? (drop_calls ps) h l = lettered_with ml? h h.seq l (edited (dropping_at ps) ml? h.seq h.text h.ml)
step_letters ml? (cut f b) h l =
    let n = length h.seq - (f + b) in
    let after = window f n h.seq in
    by-test (eqb (f + b) 0)
    (λ z. rw z tt)
    (λ z. rw z (by-test (leb (f + b) (length h.seq))
    (λ e. rw e (lettered_with ml? h after (window_letters f n h.seq l) (edited (cut_to f after) ml? h.seq h.text h.ml)))
    (λ e. rw e tt)))

-- ---- lengths that are in order

-- SEQ's row has at least the bytes that the bases take, and its bytes are bytes, as in every memory
pub record In-order (ml? : Bool) (m : Memory) : Type 0 where
  pub seq_domain : m.lengths.seq ≤ 16000
  pub text_domain : m.lengths.text ≤ 65536
  pub ml_domain : ml? ≡ true → m.lengths.ml ≤ 65536
  pub seq_buffer : bytes_for m.lengths.seq ≤ length m.seq
  pub text_buffer : m.lengths.text ≤ length m.text
  pub ml_buffer : ml? ≡ true → m.lengths.ml ≤ length m.ml
  pub seq_bytes : Bytes m.seq

module _ (ml? : Bool) (m : Memory) where
  pub order_of_tests : Bytes m.seq → lengths_in_domain ml? m.lengths ≡ true → bytes_for m.lengths.seq ≤ length m.seq
      → tag_in_buffers ml? m ≡ true → In-order ml? m
  order_of_tests bytes d l b =
      let n = m.lengths in
      let d₂ = and_true_l (leb n.seq 16000 && leb n.text 65536) _ d in
      record {
        seq_domain = leb-true _ _ (and_true_l (leb n.seq 16000) (leb n.text 65536) d₂);
        text_domain = leb-true _ _ (and_true_r (leb n.seq 16000) (leb n.text 65536) d₂);
        ml_domain = λ h. leb-true _ _ (if_ml ml? (leb n.ml 65536) (and_true_r (leb n.seq 16000 && leb n.text 65536) _ d) h);
        seq_buffer = l;
        text_buffer = leb-true _ _ (and_true_l (leb n.text (length m.text)) _ b);
        ml_buffer = λ h. leb-true _ _ (if_ml ml? (leb n.ml (length m.ml)) (and_true_r (leb n.text (length m.text)) _ b) h);
        seq_bytes = bytes;
      }

  pub domain_test : In-order ml? m → lengths_in_domain ml? m.lengths ≡ true
  domain_test i =
      and_true _ _ (and_true _ _ (le-leb _ _ i.seq_domain) (le-leb _ _ i.text_domain))
      (ml_if ml? (leb m.lengths.ml 65536) (λ h. le-leb _ _ (i.ml_domain h)))

  pub tag_test : In-order ml? m → tag_in_buffers ml? m ≡ true
  tag_test i =
      and_true _ _ (le-leb _ _ i.text_buffer)
      (ml_if ml? (leb m.lengths.ml (length m.ml)) (λ h. le-leb _ _ (i.ml_buffer h)))

  buffers_test : In-order ml? m → leb (bytes_for m.lengths.seq) (length m.seq) && tag_in_buffers ml? m ≡ true
  buffers_test i = and_true _ _ (le-leb _ _ i.seq_buffer) (tag_test i)

-- ---- what is stored is what is then held, and is in order

module _ (reverse : Bool) (m : Memory) (s : Held) where
  stored_held : (ml? : Bool) → Letters s.seq → No-longer ml? (held_in_read reverse m) s → held_in_read reverse (stored_back reverse ml? m s) ≡ s
  unfolding held_in_read stored_back
  stored_held true l w = λ j. record {
    seq = in_read_stored reverse s.seq m.seq l j;
    text = over_front s.text m.text j;
    ml = over_front s.ml m.ml j;
  }
  stored_held false l w = λ j. record {
    seq = in_read_stored reverse s.seq m.seq l j;
    text = over_front s.text m.text j;
    ml = sym (w.ml_kept refl) j;
  }

  -- SEQ of the new contents takes no more bytes than its row has
  seq_fits : (ml? : Bool) → In-order ml? m → No-longer ml? (held_in_read reverse m) s
      → (length s.seq ≤ m.lengths.seq) × (length (over (as_stored reverse s.seq) m.seq) ≡ length m.seq)
  unfolding held_in_read
  seq_fits ml? i w =
      let fewer : length s.seq ≤ m.lengths.seq = omega (arith, w.seq_in, length_in_read reverse m.lengths.seq m.seq) in (
        fewer,
        length_over (as_stored reverse s.seq) m.seq (omega (arith, fewer, i.seq_buffer, length_as_stored reverse s.seq)),
      )

  text_fits : (ml? : Bool) → In-order ml? m → No-longer ml? (held_in_read reverse m) s
      → (length s.text ≤ m.lengths.text) × (length (over s.text m.text) ≡ length m.text)
  unfolding held_in_read
  text_fits ml? i w =
      let fewer : length s.text ≤ m.lengths.text = omega (arith, w.text_in, length-take m.lengths.text m.text) in
      (fewer, length_over s.text m.text (omega (arith, fewer, i.text_buffer)))

  ml_fits : In-order true m → No-longer true (held_in_read reverse m) s
      → (length s.ml ≤ m.lengths.ml) × (length (over s.ml m.ml) ≡ length m.ml)
  unfolding held_in_read
  ml_fits i w =
      let fewer : length s.ml ≤ m.lengths.ml = omega (arith, w.ml_in, length-take m.lengths.ml m.ml) in
      (fewer, length_over s.ml m.ml (omega (arith, fewer, i.ml_buffer refl)))

  stored_in_order : (ml? : Bool) → In-order ml? m → No-longer ml? (held_in_read reverse m) s → In-order ml? (stored_back reverse ml? m s)
  unfolding stored_back
  stored_in_order true i w =
      let seq = seq_fits true i w in
      let text = text_fits true i w in
      let ml = ml_fits i w in
      record {
        seq_domain = omega (arith, i.seq_domain, seq.0);
        text_domain = omega (arith, i.text_domain, text.0);
        ml_domain = λ h. omega (arith, i.ml_domain h, ml.0);
        seq_buffer = omega (arith, i.seq_buffer, seq.0, seq.1);
        text_buffer = omega (arith, i.text_buffer, text.0, text.1);
        ml_buffer = λ h. omega (arith, i.ml_buffer h, ml.0, ml.1);
        seq_bytes = as_stored_bytes reverse s.seq m.seq i.seq_bytes;
      }
  stored_in_order false i w =
      let seq = seq_fits false i w in
      let text = text_fits false i w in
      record {
        seq_domain = omega (arith, i.seq_domain, seq.0);
        text_domain = omega (arith, i.text_domain, text.0);
        ml_domain = i.ml_domain;
        seq_buffer = omega (arith, i.seq_buffer, seq.0, seq.1);
        text_buffer = omega (arith, i.text_buffer, text.0, text.1);
        ml_buffer = i.ml_buffer;
        seq_bytes = as_stored_bytes reverse s.seq m.seq i.seq_bytes;
      }

-- ---- step by step

-- a step on the rows does to what they hold in read orientation what the plain step does
pub record Follows (reverse ml? : Bool) (m : Memory) (o : Outcome Held) (r : Outcome Memory) : Type 0 where
  pub held_then : held_in_read reverse (after_step m r) ≡ after_step (held_in_read reverse m) o
  pub number_then : number_of r ≡ number_of o
  pub order_then : In-order ml? (after_step m r)

follows : (reverse ml? : Bool) (m : Memory) → In-order ml? m → (o : Outcome Held) → Shrinks ml? (held_in_read reverse m) o → Lettered o
    → Follows reverse ml? m o (and_then o (λ s. Ok (stored_back reverse ml? m s)))
follows reverse ml? m i (Err r) w l = record { held_then = refl; number_then = refl; order_then = i }
follows reverse ml? m i (Ok s) w l =
    record { held_then = stored_held reverse m s ml? l w; number_then = refl; order_then = stored_in_order reverse m s ml? i w }

held_letters : (reverse ml? : Bool) (m : Memory) → In-order ml? m → Letters (held_in_read reverse m).seq
unfolding held_in_read
held_letters reverse ml? m i = in_read_letters reverse m.lengths.seq m.seq i.seq_bytes

-- the step's definition where the lengths are in order
pub ordered_step : (reverse ml? : Bool) (t : Step) (m : Memory) → In-order ml? m
    → step_stored reverse ml? t m
    ≡ and_then (stepped ml? (step_in_read reverse m.lengths.seq t) (held_in_read reverse m)) (λ s. Ok (stored_back reverse ml? m s))
unfolding step_stored
ordered_step reverse ml? t m i = rw (domain_test ml? m i, buffers_test ml? m i)

pub step_follows : (reverse ml? : Bool) (t : Step) (m : Memory) → In-order ml? m
    → Follows reverse ml? m (stepped ml? (step_in_read reverse m.lengths.seq t) (held_in_read reverse m)) (step_stored reverse ml? t m)
step_follows reverse ml? t m i =
    let u = step_in_read reverse m.lengths.seq t in
    let h = held_in_read reverse m in
    rw (ordered_step reverse ml? t m i)
    (follows reverse ml? m i (stepped ml? u h) (step_shrinks ml? u h) (step_letters ml? u h (held_letters reverse ml? m i)))

-- ---- at the opening

pub opened_in_order : (reverse ml? : Bool) (m : Memory) (ls : List Listing) → Bytes m.seq → open_stored reverse ml? m ≡ Ok ls
    → In-order ml? m × (lists ml? (held_in_read reverse m).seq (held_in_read reverse m).text (held_in_read reverse m).ml ≡ Ok ls)
unfolding open_stored
opened_in_order reverse ml? m ls bytes e =
    let long = eqb (length m.seq) (bytes_for m.lengths.seq) in
    let e₂ = need_rest (lengths_in_domain ml? m.lengths) 1 _ ls e in
    let both = need_test (long && tag_in_buffers ml? m) 2 _ ls e₂ in
    let same : length m.seq ≡ bytes_for m.lengths.seq = eqb-true _ _ (and_true_l long (tag_in_buffers ml? m) both) in (
      order_of_tests ml? m bytes (need_test (lengths_in_domain ml? m.lengths) 1 _ ls e) (omega (arith, same))
          (and_true_r long (tag_in_buffers ml? m) both),
      need_rest (long && tag_in_buffers ml? m) 2 _ ls e₂,
    )

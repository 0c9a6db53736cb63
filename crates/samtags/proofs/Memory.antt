-- Demand 3 about memory: if each step gets the session's buffers as the previous step left them, the buffers hold what the session means.
-- Assumes nothing.
use Rattle.std.specs.Prelude.{Ok, Err}
use mathlib.Core.Path.{◌≡◌, refl, ap, ◌∙◌}
use Prim.Native.Nat.{ℕ, ◌+◌, ◌-◌, ◌≤◌, ◌<◌}
use native.Mathlib.Omega.{arith}
use mathlib.Core.Bool.{Bool, true, false, cond, ◌&&◌}
use mathlib.Core.List.{List, [], ◌∷◌, map}
use lib.ListN.{length, drop, length-take, length-drop}
use lib.Dec.{leb, eqb}
use borrow.Author.Tests.{leb-true, le-leb}
use Rattle.lent.specs.Lists.{among}
use Rattle.lent.proofs.Tests.{by-test, and_true, and_true_l, and_true_r}
use Rattle.lent.proofs.Filled.{over_front, length_over}
use Rattle.lent.specs.Outcome.{Outcome, and_then, number_of}
use Rattle.samtags.specs.Spots.{Listing}
use Rattle.samtags.specs.Reading.{lists}
use Rattle.samtags.specs.Writing.{Tag}
use Rattle.samtags.specs.Edits.{edited, masked_to, dropping_at, cut_to}
use Rattle.samtags.specs.Session.{Step, mask, drop_calls, cut, Held, masked, window, held_with, stepped, after_step, run, answers, Memory, held_in, stored, lengths_in_domain, lengths_in_buffers, in_order_of, open_session, step_in_memory, run_in_memory, answers_in_memory}
use Rattle.samtags.specs.Meaning.{opening, left_of_listing, left_of_seq, after_steps, answers_to, refused_steps, is_refusal}
use Rattle.lent.proofs.Outcome.{need_test, need_rest}
use Rattle.samtags.proofs.Length.{never_longer, never_heavier, weight}
use Rattle.samtags.proofs.SessionMeaning.{mask_length, session_meaning, refused_steps_lem}

-- ---- a step makes nothing longer; without ML the ML is unchanged

pub record No-longer (ml? : Bool) (h s : Held) : Type 0 where
  pub seq_in : length s.seq ≤ length h.seq
  pub text_in : length s.text ≤ length h.text
  pub ml_in : length s.ml ≤ length h.ml
  pub ml_lighter : (w : ℕ → ℕ) → weight w s.ml ≤ weight w h.ml
  pub ml_kept : ml? ≡ false → s.ml ≡ h.ml

-- what an outcome gives, if it gives anything, is no longer
abbrev pub Shrinks : Bool → Held → Outcome Held → Type 0
Shrinks ml? h (Err r) = Unit {0}
Shrinks ml? h (Ok s) = No-longer ml? h s

shrinks_with : (ml? : Bool) (h : Held) (after : List ℕ) → length after ≤ length h.seq → (o : Outcome Tag)
    → ((r : Tag) → o ≡ Ok r → (length r.text ≤ length h.text) × (length r.ml ≤ length (cond ml? h.ml [])))
    → ((w : ℕ → ℕ) (r : Tag) → o ≡ Ok r → weight w r.ml ≤ weight w (cond ml? h.ml []))
    → Shrinks ml? h (held_with ml? h after o)
shrinks_with ml? h after l (Err r) f g = tt
shrinks_with true h after l (Ok r) f g =
    record { seq_in = l; text_in = (f r refl).0; ml_in = (f r refl).1; ml_lighter = λ w. g w r refl; ml_kept = λ e. cc }
shrinks_with false h after l (Ok r) f g =
    record { seq_in = l; text_in = (f r refl).0; ml_in = omega arith; ml_lighter = λ w. omega arith; ml_kept = λ e. refl }

window_length : (a n : ℕ) (xs : List ℕ) → length (window a n xs) ≤ length xs
window_length a n xs = omega (arith, length-take n (drop a xs), length-drop a xs)

pub step_shrinks : (ml? : Bool) (t : Step) (h : Held) → Shrinks ml? h (stepped ml? t h)
unfolding stepped
step_shrinks ml? (mask ps) h =
    let after = masked (among ps) h.seq in
    shrinks_with ml? h after (omega (arith, mask_length 0 (among ps) h.seq)) (edited (masked_to after) ml? h.seq h.text h.ml)
    (λ r e. never_longer (masked_to after) ml? h.seq h.text h.ml r e)
    (λ w r e. never_heavier (masked_to after) w ml? h.seq h.text h.ml r e)
step_shrinks ml? (drop_calls ps) h =
    shrinks_with ml? h h.seq (omega arith) (edited (dropping_at ps) ml? h.seq h.text h.ml)
    (λ r e. never_longer (dropping_at ps) ml? h.seq h.text h.ml r e)
    (λ w r e. never_heavier (dropping_at ps) w ml? h.seq h.text h.ml r e)
step_shrinks ml? (cut f b) h =
    let n = length h.seq - (f + b) in
    let after = window f n h.seq in
    by-test (eqb (f + b) 0)
    (λ z. rw z tt)
    (λ z. rw z (by-test (leb (f + b) (length h.seq))
    (λ e. rw e (shrinks_with ml? h after (window_length f n h.seq) (edited (cut_to f after) ml? h.seq h.text h.ml)
    (λ r e. never_longer (cut_to f after) ml? h.seq h.text h.ml r e)
    (λ w r e. never_heavier (cut_to f after) w ml? h.seq h.text h.ml r e)))
    (λ e. rw e tt)))

-- ---- lengths that are in order

pub record In-order (ml? : Bool) (m : Memory) : Type 0 where
  pub seq_domain : m.lengths.seq ≤ 16000
  pub text_domain : m.lengths.text ≤ 65536
  pub ml_domain : ml? ≡ true → m.lengths.ml ≤ 65536
  pub seq_buffer : m.lengths.seq ≤ length m.seq
  pub text_buffer : m.lengths.text ≤ length m.text
  pub ml_buffer : ml? ≡ true → m.lengths.ml ≤ length m.ml

pub if_ml : (ml? t : Bool) → cond ml? t true ≡ true → ml? ≡ true → t ≡ true
if_ml true t e h = e
if_ml false t e h = cc

pub ml_if : (ml? t : Bool) → (ml? ≡ true → t ≡ true) → cond ml? t true ≡ true
ml_if true t f = f refl
ml_if false t f = refl

order_of_tests : (ml? : Bool) (m : Memory) → lengths_in_domain ml? m.lengths ≡ true → lengths_in_buffers ml? m ≡ true → In-order ml? m
order_of_tests ml? m d b =
    let n = m.lengths in
    let d₂ = and_true_l (leb n.seq 16000 && leb n.text 65536) _ d in
    let b₂ = and_true_l (leb n.seq (length m.seq) && leb n.text (length m.text)) _ b in
    record {
      seq_domain = leb-true _ _ (and_true_l (leb n.seq 16000) (leb n.text 65536) d₂);
      text_domain = leb-true _ _ (and_true_r (leb n.seq 16000) (leb n.text 65536) d₂);
      ml_domain = λ h. leb-true _ _ (if_ml ml? (leb n.ml 65536) (and_true_r (leb n.seq 16000 && leb n.text 65536) _ d) h);
      seq_buffer = leb-true _ _ (and_true_l (leb n.seq (length m.seq)) (leb n.text (length m.text)) b₂);
      text_buffer = leb-true _ _ (and_true_r (leb n.seq (length m.seq)) (leb n.text (length m.text)) b₂);
      ml_buffer = λ h. leb-true _ _ (if_ml ml? (leb n.ml (length m.ml)) (and_true_r (leb n.seq (length m.seq) && leb n.text (length m.text)) _ b) h);
    }

domain_test : (ml? : Bool) (m : Memory) → In-order ml? m → lengths_in_domain ml? m.lengths ≡ true
domain_test ml? m i =
    and_true _ _ (and_true _ _ (le-leb _ _ i.seq_domain) (le-leb _ _ i.text_domain))
    (ml_if ml? (leb m.lengths.ml 65536) (λ h. le-leb _ _ (i.ml_domain h)))

buffers_test : (ml? : Bool) (m : Memory) → In-order ml? m → lengths_in_buffers ml? m ≡ true
buffers_test ml? m i =
    and_true _ _ (and_true _ _ (le-leb _ _ i.seq_buffer) (le-leb _ _ i.text_buffer))
    (ml_if ml? (leb m.lengths.ml (length m.ml)) (λ h. le-leb _ _ (i.ml_buffer h)))

-- ---- what is stored is what is then held, and is in order

module _ (m : Memory) (s : Held) where
  stored_held : (ml? : Bool) → No-longer ml? (held_in m) s → held_in (stored ml? m s) ≡ s
  stored_held true w = rw (over_front s.seq m.seq, over_front s.text m.text, over_front s.ml m.ml)
  stored_held false w = rw (over_front s.seq m.seq, over_front s.text m.text, ← w.ml_kept refl)

  stored_in_order : (ml? : Bool) → In-order ml? m → No-longer ml? (held_in m) s → In-order ml? (stored ml? m s)
  stored_in_order true i w =
      let ls = length-take m.lengths.seq m.seq in
      let lt = length-take m.lengths.text m.text in
      let lm = length-take m.lengths.ml m.ml in
      record {
        seq_domain = omega (arith, i.seq_domain, w.seq_in);
        text_domain = omega (arith, i.text_domain, w.text_in);
        ml_domain = λ h. omega (arith, i.ml_domain h, w.ml_in);
        seq_buffer = omega (arith, length_over s.seq m.seq (omega (arith, w.seq_in)), w.seq_in);
        text_buffer = omega (arith, length_over s.text m.text (omega (arith, w.text_in)), w.text_in);
        ml_buffer = λ h. omega (arith, length_over s.ml m.ml (omega (arith, w.ml_in)), w.ml_in);
      }
  stored_in_order false i w =
      let ls = length-take m.lengths.seq m.seq in
      let lt = length-take m.lengths.text m.text in
      record {
        seq_domain = omega (arith, i.seq_domain, w.seq_in);
        text_domain = omega (arith, i.text_domain, w.text_in);
        ml_domain = i.ml_domain;
        seq_buffer = omega (arith, length_over s.seq m.seq (omega (arith, w.seq_in)), w.seq_in);
        text_buffer = omega (arith, length_over s.text m.text (omega (arith, w.text_in)), w.text_in);
        ml_buffer = i.ml_buffer;
      }

-- ---- step by step

in_order_is : {A : Type 0} (ml? : Bool) (m : Memory) → In-order ml? m → (o : Outcome A) → in_order_of ml? m o ≡ o
in_order_is ml? m i o = rw (domain_test ml? m i, buffers_test ml? m i)

-- a step in memory does to what is held what the step does
pub record Follows (ml? : Bool) (m : Memory) (o : Outcome Held) (r : Outcome Memory) : Type 0 where
  pub held_then : held_in (after_step m r) ≡ after_step (held_in m) o
  pub number_then : number_of r ≡ number_of o
  pub order_then : In-order ml? (after_step m r)

follows : (ml? : Bool) (m : Memory) → In-order ml? m → (o : Outcome Held) → Shrinks ml? (held_in m) o
    → Follows ml? m o (and_then o (λ s. Ok (stored ml? m s)))
follows ml? m i (Err r) w = record { held_then = refl; number_then = refl; order_then = i }
follows ml? m i (Ok s) w =
    record { held_then = stored_held m s ml? w; number_then = refl; order_then = stored_in_order m s ml? i w }

pub step_follows : (ml? : Bool) (t : Step) (m : Memory) → In-order ml? m → Follows ml? m (stepped ml? t (held_in m)) (step_in_memory ml? t m)
unfolding step_in_memory
step_follows ml? t m i =
    rw (in_order_is ml? m i (and_then (stepped ml? t (held_in m)) (λ s. Ok (stored ml? m s))))
    (follows ml? m i (stepped ml? t (held_in m)) (step_shrinks ml? t (held_in m)))

pub run_follows : (ml? : Bool) (ts : List Step) (m : Memory) → In-order ml? m
    → (held_in (run_in_memory ml? ts m) ≡ run ml? ts (held_in m)) × (answers_in_memory ml? ts m ≡ answers ml? ts (held_in m))
unfolding run_in_memory answers_in_memory run answers
run_follows ml? [] m i = (refl, refl)
run_follows ml? (t ∷ ts) m i =
    let f = step_follows ml? t m i in
    let rest = run_follows ml? ts (after_step m (step_in_memory ml? t m)) f.order_then in (
      rest.0 ∙ ap (run ml? ts) f.held_then,
      rw (f.number_then, rest.1, f.held_then),
    )

-- lengths in order stay so
run_in_order : (ml? : Bool) (ts : List Step) (m : Memory) → In-order ml? m → In-order ml? (run_in_memory ml? ts m)
unfolding run_in_memory
run_in_order ml? [] m i = i
run_in_order ml? (t ∷ ts) m i = run_in_order ml? ts (after_step m (step_in_memory ml? t m)) (step_follows ml? t m i).order_then

-- ---- the theorem

-- SEQ, the listing and the answers at the end, read off the buffers, are functions of the opening and the steps alone.
pub record Session-in-memory (ml? : Bool) (m : Memory) (ls : List Listing) (ts : List Step) : Type 0 where
  pub seq_then : (held_in (run_in_memory ml? ts m)).seq ≡ left_of_seq (after_steps ls ts (opening (held_in m).seq)) (held_in m).seq
  pub lists_then :
      (let h = held_in (run_in_memory ml? ts m) in lists ml? h.seq h.text h.ml)
      ≡ Ok (map (left_of_listing (after_steps ls ts (opening (held_in m).seq))) ls)
  pub answers_then : answers_in_memory ml? ts m ≡ answers_to ls ts (opening (held_in m).seq)

-- a session whose opening is accepted
opened_in_order : (ml? : Bool) (m : Memory) (ls : List Listing) → open_session ml? m ≡ Ok ls
    → In-order ml? m × (lists ml? (held_in m).seq (held_in m).text (held_in m).ml ≡ Ok ls)
unfolding open_session
opened_in_order ml? m ls e =
    let e₂ = need_rest (lengths_in_domain ml? m.lengths) 1 _ ls e in (
      order_of_tests ml? m (need_test (lengths_in_domain ml? m.lengths) 1 _ ls e) (need_test (lengths_in_buffers ml? m) 2 _ ls e₂),
      need_rest (lengths_in_buffers ml? m) 2 _ ls e₂,
    )

-- Demand 3: a session whose opening is accepted, with or without ML and on buffers of any length, results in what it means, whatever its steps.
pub session_in_memory : (ml? : Bool) (m : Memory) (ls : List Listing) → open_session ml? m ≡ Ok ls → (ts : List Step) → Session-in-memory ml? m ls ts
session_in_memory ml? m ls e ts =
    let o = opened_in_order ml? m ls e in
    let f = run_follows ml? ts m o.0 in
    let w = session_meaning ml? (held_in m) ls o.1 ts in
    record {
      seq_then = ap (λ (h : Held). h.seq) f.0 ∙ w.seq_then;
      lists_then = ap (λ (h : Held). lists ml? h.seq h.text h.ml) f.0 ∙ w.lists_then;
      answers_then = f.1 ∙ w.answers_then;
    }

-- The refused steps are exactly the drops of a listed call under a header that doesn't end in '?', and the cuts of more than SEQ holds.
pub refused_exactly : (ml? : Bool) (m : Memory) (ls : List Listing) → open_session ml? m ≡ Ok ls → (ts : List Step)
    → map is_refusal (answers_in_memory ml? ts m) ≡ refused_steps ls ts (opening (held_in m).seq)
refused_exactly ml? m ls e ts = rw (session_in_memory ml? m ls e ts).answers_then (refused_steps_lem ls ts (opening (held_in m).seq))

-- a step that answers a number other than 0, a refusal's or 21, changes nothing, whatever the step does otherwise
pub unchanged : (m : Memory) (o : Outcome Memory) → 0 < number_of o → after_step m o ≡ m
unchanged m (Err r) h = refl
unchanged m (Ok n) h = let z : ⊥ = omega arith in absurd z

pub refused_changes_nothing : (ml? : Bool) (t : Step) (m : Memory) → 0 < number_of (step_in_memory ml? t m) → after_step m (step_in_memory ml? t m) ≡ m
refused_changes_nothing ml? t m h = unchanged m (step_in_memory ml? t m) h

-- Such a session can be opened again after any steps, and then lists what is left.
pub opens_again : (ml? : Bool) (m : Memory) (ls : List Listing) → open_session ml? m ≡ Ok ls → (ts : List Step)
    → open_session ml? (run_in_memory ml? ts m) ≡ Ok (map (left_of_listing (after_steps ls ts (opening (held_in m).seq))) ls)
unfolding open_session
opens_again ml? m ls e ts =
    in_order_is ml? (run_in_memory ml? ts m) (run_in_order ml? ts m (opened_in_order ml? m ls e).0) _
    ∙ (session_in_memory ml? m ls e ts).lists_then

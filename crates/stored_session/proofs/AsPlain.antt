-- Editing a stored read is turning it into read orientation, editing it as the plain session does, and turning back. This is a law between the two codes'
-- contracts: a call of each, on rows that hold the same read.
-- Assumes nothing.
use Rattle.std.specs.Prelude.{Ok, Err}
use mathlib.Core.Path.{◌≡◌, sym, ap, ◌∙◌, subst}
use Prim.Native.Nat.{ℕ}
use native.Mathlib.Omega.{arith}
use mathlib.Core.Bool.{Bool, true, false, cond}
use mathlib.Core.List.{List}
use lib.ListN.{take}
use lib.Seq.{take_all}
use Rattle.lent.specs.Answers.{is_done}
use Rattle.lent.specs.Filled.{over}
use Rattle.lent.specs.Outcome.{Outcome, and_then, number_of}
use Rattle.packed.proofs.Turning.{length_in_read}
use Rattle.packed.specs.Stored.{as_stored, in_read, step_in_read}
use Rattle.samtags.proofs.Memory as memory
use Rattle.samtags.specs.Session.{Held, after_step, answers, held_in, run, stepped}
use Rattle.session.proofs.Demand as plain
use Rattle.session.specs.Chain.{Chain, at_end, left_by, numbers_of, steps_of}
use Rattle.session.specs.PublicContracts.{Call, Meets, Rows, in_memory, rows}
use Rattle.stepping.specs.Steps.{Came, came, leaves_memory, step_says}
use Rattle.stored_session.proofs.Demand as stored
use Rattle.stored_session.proofs.Held.{In-order, ordered_step}
use Rattle.stored_session.specs.Chain.{ChainStored, read_in, steps_in_read}
use Rattle.stored_session.specs.PublicContracts.{MeetsStored}
use Rattle.stored_steps.specs.Steps.{held_in_read, stored_back}

-- ---- the plain call

module _ (ml? : Bool) where
  -- a plain call does to what its rows hold what the step does
  pub record Edits (w : Rows) (c : Call) : Type 0 where
    pub held_then : held_in (in_memory (left_by w c)) ≡ after_step (held_in (in_memory w)) (stepped ml? c.asked (held_in (in_memory w)))
    pub number_then : number_of (step_says c.answered) ≡ number_of (stepped ml? c.asked (held_in (in_memory w)))
    pub order_then : memory.In-order ml? (in_memory (left_by w c))

  pub edits : (w : Rows) (c : Call) → memory.In-order ml? (in_memory w) → Meets ml? w c → Edits w c
  edits w c i e =
      let f = plain.follows ml? w c e in
      let s = memory.step_follows ml? c.asked (in_memory w) i in
      record {
        held_then = ap held_in f.0 ∙ s.held_then;
        number_then = f.1 ∙ s.number_then;
        order_then = rw f.0 s.order_then;
      }

  plain_runs : (cs : List Call) (w : Rows) → memory.In-order ml? (in_memory w) → Chain ml? w cs
      → (held_in (in_memory (at_end w cs)) ≡ run ml? (steps_of cs) (held_in (in_memory w))) × (numbers_of cs ≡ answers ml? (steps_of cs) (held_in (in_memory w)))
  plain_runs cs w i k =
      let r = plain.chain_runs ml? cs w k in
      let f = memory.run_follows ml? (steps_of cs) (in_memory w) i in
      (ap held_in r.0 ∙ f.0, r.1 ∙ f.1)

-- ---- a call of each

-- rows that are stored and rows in read orientation, with the lengths of each in order, that hold the same read
pub record Same-read (reverse ml? : Bool) (w w' : Rows) : Type 0 where
  pub stored_order : In-order ml? (in_memory w)
  pub plain_order : memory.In-order ml? (in_memory w')
  pub same_held : held_in (in_memory w') ≡ read_in reverse w

-- the rows with the read itself at SEQ's place, in read orientation
abbrev pub turned : Bool → Rows → Rows
turned reverse w = rows (read_in reverse w).seq w.mm w.ml w.lengths

-- every stored read in order has such rows
pub turned_same : (reverse ml? : Bool) (w : Rows) → In-order ml? (in_memory w) → Same-read reverse ml? w (turned reverse w)
unfolding held_in_read
turned_same reverse ml? w i =
    let n = w.lengths.seq in
    let long = length_in_read reverse n w.seq in
    record {
      stored_order = i;
      plain_order = record {
        seq_domain = i.seq_domain;
        text_domain = i.text_domain;
        ml_domain = i.ml_domain;
        seq_buffer = omega (arith, long);
        text_buffer = i.text_buffer;
        ml_buffer = i.ml_buffer;
      };
      same_held = λ j. record {
        seq = take_all n (in_read reverse n w.seq) (omega (arith, long)) j;
        text = take w.lengths.mm w.mm;
        ml = take w.lengths.ml w.ml;
      };
    }

-- the edited read at the front of each stored row, SEQ turned back and packed
pub record Turned-back (reverse ml? : Bool) (w : Rows) (h : Held) (c : Call) : Type 0 where
  pub seq_back : c.seq ≡ over (as_stored reverse h.seq) w.seq
  pub text_back : c.mm ≡ over h.text w.mm
  pub ml_back : c.ml ≡ cond ml? (over h.ml w.ml) w.ml

back_if_done : (reverse ml? : Bool) (w : Rows) (c : Call) (o : Outcome Held) → is_done (step_says c.answered) ≡ true
    → came (step_says c.answered) c.seq c.mm c.ml
    ≡ leaves_memory (in_memory w) (and_then o (λ s. Ok (stored_back reverse ml? (in_memory w) s)))
    → Turned-back reverse ml? w (after_step (read_in reverse w) o) c
unfolding leaves_memory stored_back
back_if_done reverse ml? w c (Err r) d e =
    let no : false ≡ true = sym (ap (λ (x : Came). is_done x.answer) e) ∙ d in
    let z : ◌≡◌ {A = ℕ} 0 1 = cc in absurd (omega arith)
back_if_done reverse ml? w c (Ok s) d e = record {
  seq_back = ap (λ (x : Came). x.seq) e;
  text_back = ap (λ (x : Came). x.text) e;
  ml_back = ap (λ (x : Came). x.ml) e;
}

module _ (reverse ml? : Bool) (w w' : Rows) (c c' : Call) (r : Same-read reverse ml? w w') (asks : c'.asked ≡ step_in_read reverse w.lengths.seq c.asked)
    (meets : MeetsStored reverse ml? w c) (meets' : Meets ml? w' c') where
  same_outcome : stepped ml? c'.asked (held_in (in_memory w')) ≡ stepped ml? (step_in_read reverse w.lengths.seq c.asked) (read_in reverse w)
  same_outcome = λ j. stepped ml? (asks j) (r.same_held j)

  -- both answer the same number
  pub same_number : number_of (step_says c.answered) ≡ number_of (step_says c'.answered)
  same_number =
      (stored.edits reverse ml? w c r.stored_order meets).number_then
      ∙ sym ((edits ml? w' c' r.plain_order meets').number_then ∙ ap number_of same_outcome)

  -- both leave the same read, in order, for the next call
  pub same_edit : Same-read reverse ml? (left_by w c) (left_by w' c')
  same_edit =
      let a = stored.edits reverse ml? w c r.stored_order meets in
      let b = edits ml? w' c' r.plain_order meets' in
      record {
        stored_order = a.order_then;
        plain_order = b.order_then;
        same_held = b.held_then ∙ (λ j. after_step (r.same_held j) (same_outcome j)) ∙ sym a.held_then;
      }

  -- if the call is done, the stored rows have what the plain rows hold, turned back
  pub same_turned_back : is_done (step_says c.answered) ≡ true → Turned-back reverse ml? w (held_in (in_memory (left_by w' c'))) c
  same_turned_back d =
      let o = stepped ml? (step_in_read reverse w.lengths.seq c.asked) (read_in reverse w) in
      let left : held_in (in_memory (left_by w' c')) ≡ after_step (read_in reverse w) o =
      (edits ml? w' c' r.plain_order meets').held_then ∙ (λ j. after_step (r.same_held j) (same_outcome j)) in
      subst (λ (h : Held). Turned-back reverse ml? w h c) (sym left)
      (back_if_done reverse ml? w c o d (meets ∙ ap (leaves_memory (in_memory w)) (ordered_step reverse ml? c.asked (in_memory w) r.stored_order)))

-- ---- calls one after the other

-- The two sessions give the same numbers and leave the same read, whatever the steps.
pub same_session : (reverse ml? : Bool) (w w' : Rows) (cs cs' : List Call) → Same-read reverse ml? w w' → steps_of cs' ≡ steps_in_read reverse w cs
    → ChainStored reverse ml? w cs → Chain ml? w' cs'
    → (numbers_of cs ≡ numbers_of cs') × (read_in reverse (at_end w cs) ≡ held_in (in_memory (at_end w' cs')))
same_session reverse ml? w w' cs cs' r asks k k' =
    let a = stored.chain_runs reverse ml? cs w r.stored_order k in
    let b = plain_runs ml? cs' w' r.plain_order k' in (
      a.1 ∙ sym (b.1 ∙ (λ j. answers ml? (asks j) (r.same_held j))),
      a.0 ∙ sym (b.0 ∙ (λ j. run ml? (asks j) (r.same_held j))),
    )

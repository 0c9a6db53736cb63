-- Demand 3 about a stored read, from the contracts of `open`, `mask`, `drop_calls` and `cut` alone. It holds for any list of calls in which each call
-- finds the rows and the lengths as the previous call left them: what the rows hold at the end, in read orientation, and all the answers are what the
-- session means. With and without ML, for a forward and for a reverse read.
-- Assumes nothing.
use Rattle.std.specs.Prelude.{Ok}
use mathlib.Core.Path.{◌≡◌, refl, sym, ap, ◌∙◌}
use Prim.Native.Nat.{ℕ, ◌<◌}
use native.Mathlib.Omega.{arith}
use mathlib.Core.Bool.{Bool}
use mathlib.Core.List.{List, [], ◌∷◌, map}
use Rattle.lent.proofs.Outcome.{on_done_inv}
use Rattle.lent.specs.Outcome.{number_of}
use Rattle.packed.proofs.Rows.{Bytes}
use Rattle.packed.specs.Stored.{step_in_read}
use Rattle.reading.specs.Calls.{counts_of}
use Rattle.samtags.proofs.Memory.{unchanged}
use Rattle.samtags.proofs.SessionMeaning.{refused_steps_lem, session_meaning}
use Rattle.samtags.specs.Meaning.{after_steps, answers_to, is_refusal, left_of_listing, left_of_seq, opening, refused_steps}
use Rattle.samtags.specs.Reading.{lists}
use Rattle.samtags.specs.Session.{Held, after_step, answers, run, stepped}
use Rattle.samtags.specs.Spots.{Listing}
use Rattle.session.specs.Chain.{at_end, left_by, numbers_of, steps_of}
use Rattle.session.specs.PublicContracts.{Call, Rows, in_memory}
use Rattle.stepping.proofs.StepLaws.{by_answer}
use Rattle.stepping.specs.Steps.{step_says}
use Rattle.stored_session.proofs.Held.{In-order, opened_in_order, step_follows}
use Rattle.stored_session.specs.Chain.{ChainStored, read_in, steps_in_read}
use Rattle.stored_session.specs.PublicContracts.{MeetsStored, OpensStored}
use Rattle.stored_steps.specs.Steps.{held_in_read, open_stored, step_stored}
use Rattle.session.proofs.Demand.{Does, same_rows, steps_determine}

-- ---- call by call

module _ (reverse ml? : Bool) where
  -- a call does to memory what its step does
  pub follows : (w : Rows) (c : Call) → MeetsStored reverse ml? w c → Does (step_stored reverse ml?) w c
  follows w c e = by_answer (in_memory w) w.lengths refl c.answered (step_stored reverse ml? c.asked (in_memory w)) c.seq c.mm c.ml e

  -- a call does to what the rows hold in read orientation what the plain step does
  pub record Edits (w : Rows) (c : Call) : Type 0 where
    pub held_then : read_in reverse (left_by w c)
        ≡ after_step (read_in reverse w) (stepped ml? (step_in_read reverse w.lengths.seq c.asked) (read_in reverse w))
    pub number_then : number_of (step_says c.answered) ≡ number_of (stepped ml? (step_in_read reverse w.lengths.seq c.asked) (read_in reverse w))
    pub order_then : In-order ml? (in_memory (left_by w c))

  pub edits : (w : Rows) (c : Call) → In-order ml? (in_memory w) → MeetsStored reverse ml? w c → Edits w c
  edits w c i e =
      let f = follows w c e in
      let s = step_follows reverse ml? c.asked (in_memory w) i in
      record {
        held_then = ap (held_in_read reverse) f.0 ∙ s.held_then;
        number_then = f.1 ∙ s.number_then;
        order_then = rw f.0 s.order_then;
      }

  -- the calls do what a run of their steps does to what is held
  pub chain_runs : (cs : List Call) (w : Rows) → In-order ml? (in_memory w) → ChainStored reverse ml? w cs
      → (read_in reverse (at_end w cs) ≡ run ml? (steps_in_read reverse w cs) (read_in reverse w))
      × (numbers_of cs ≡ answers ml? (steps_in_read reverse w cs) (read_in reverse w))
      × In-order ml? (in_memory (at_end w cs))
  unfolding run answers
  chain_runs [] w i k = (refl, refl, i)
  chain_runs (c ∷ cs) w i k =
      let f = edits w c i k.0 in
      let ts = steps_in_read reverse (left_by w c) cs in
      let rest = chain_runs cs (left_by w c) f.order_then k.1 in (
        rest.0 ∙ ap (run ml? ts) f.held_then,
        λ j. f.number_then j ∷ (rest.1 ∙ ap (answers ml? ts) f.held_then) j,
        rest.2,
      )

-- ---- the theorem

-- SEQ, the listing and the answers at the end, in read orientation, are functions of the opening and the steps alone
pub record As-meant (reverse ml? : Bool) (w : Rows) (ls : List Listing) (cs : List Call) : Type 0 where
  pub seq_then : (read_in reverse (at_end w cs)).seq
      ≡ left_of_seq (after_steps ls (steps_in_read reverse w cs) (opening (read_in reverse w).seq)) (read_in reverse w).seq
  pub lists_then :
      (let end = read_in reverse (at_end w cs) in lists ml? end.seq end.text end.ml)
      ≡ Ok (map (left_of_listing (after_steps ls (steps_in_read reverse w cs) (opening (read_in reverse w).seq))) ls)
  pub answers_then : numbers_of cs ≡ answers_to ls (steps_in_read reverse w cs) (opening (read_in reverse w).seq)
  -- the refused steps are exactly the drops of a listed call under a header that does not end in '?', and the cuts of more than SEQ holds
  pub refused_exactly : map is_refusal (numbers_of cs) ≡ refused_steps ls (steps_in_read reverse w cs) (opening (read_in reverse w).seq)

module _ (reverse ml? : Bool) (w : Rows) (bytes : Bytes w.seq) where
  pub as_meant : (ls : List Listing) → open_stored reverse ml? (in_memory w) ≡ Ok ls → (cs : List Call) → ChainStored reverse ml? w cs
      → As-meant reverse ml? w ls cs
  as_meant ls e cs k =
      let o = opened_in_order reverse ml? (in_memory w) ls bytes e in
      let ts = steps_in_read reverse w cs in
      let r = chain_runs reverse ml? cs w o.0 k in
      let m = session_meaning ml? (read_in reverse w) ls o.1 ts in
      let answered : numbers_of cs ≡ answers_to ls ts (opening (read_in reverse w).seq) = r.1 ∙ m.answers_then in
      record {
        seq_then = ap (λ (h : Held). h.seq) r.0 ∙ m.seq_then;
        lists_then = ap (λ (h : Held). lists ml? h.seq h.text h.ml) r.0 ∙ m.lists_then;
        answers_then = answered;
        refused_exactly = ap (map is_refusal) answered ∙ refused_steps_lem ls ts (opening (read_in reverse w).seq);
      }

  -- Demand 3: if `open` answered Ok, the tag lists as many groups and calls as it said. Whatever calls follow, the session results in what it
  -- means.
  pub session_as_meant : (groups calls : ℕ) → OpensStored reverse ml? w (Ok (groups, calls)) → (cs : List Call) → ChainStored reverse ml? w cs
      → (ls : List Listing) × (lists ml? (read_in reverse w).seq (read_in reverse w).text (read_in reverse w).ml ≡ Ok ls)
      × (◌≡◌ {A = ℕ × ℕ} (counts_of ls) (groups, calls)) × As-meant reverse ml? w ls cs
  session_as_meant groups calls opened cs k =
      let (ls, e, counted) = on_done_inv counts_of (open_stored reverse ml? (in_memory w)) (groups, calls) (sym opened) in
      (ls, (opened_in_order reverse ml? (in_memory w) ls bytes e).1, counted, as_meant ls e cs k)

-- A call that answers a number other than 0, a refusal's or 21, changes nothing: every row, with a spare half as it was, and every length is unchanged.
pub refused_changes_nothing : (reverse ml? : Bool) (w : Rows) (c : Call) → MeetsStored reverse ml? w c → 0 < number_of (step_says c.answered)
    → left_by w c ≡ w
refused_changes_nothing reverse ml? w c e l =
    let f = follows reverse ml? w c e in
    same_rows (left_by w c) w (f.0 ∙ unchanged (in_memory w) (step_stored reverse ml? c.asked (in_memory w)) (omega (arith, l, f.1)))

-- ---- the steps determine the session

-- Two lists of calls that ask for the same steps on the same rows leave the same rows and give the same numbers.
pub session_unique : (reverse ml? : Bool) (w : Rows) (cs ds : List Call) → steps_of cs ≡ steps_of ds → ChainStored reverse ml? w cs
    → ChainStored reverse ml? w ds → (at_end w cs ≡ at_end w ds) × (numbers_of cs ≡ numbers_of ds)
session_unique reverse ml? =
    steps_determine (step_stored reverse ml?) (ChainStored reverse ml?) (λ w c cs k. (follows reverse ml? w c k.0, k.1))

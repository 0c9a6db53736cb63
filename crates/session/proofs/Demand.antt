-- Demand 3 about this code, from the contracts of `open`, `mask`, `drop_calls` and `cut` alone. It holds for any list of calls in which each call finds
-- the rows and the lengths as the previous call left them: the rows at the end and all the answers are what the session means. With and without ML.
-- Assumes nothing.
use Rattle.std.specs.Prelude.{Ok}
use mathlib.Core.Path.{◌≡◌, refl, sym, ap, ◌∙◌, subst}
use Prim.Native.Nat.{ℕ, ◌<◌}
use native.Mathlib.Omega.{arith}
use mathlib.Core.Bool.{Bool}
use mathlib.Core.List.{List, [], ◌∷◌, map}
use Rattle.lent.proofs.Outcome.{need_rest, on_done_inv}
use Rattle.lent.specs.Outcome.{Outcome, number_of, on_done}
use Rattle.reading.specs.Calls.{counts_of}
use Rattle.samtags.proofs.Memory.{session_in_memory}
use Rattle.samtags.proofs.Memory as memory
use Rattle.samtags.specs.Meaning.{after_steps, answers_to, is_refusal, left_of_listing, left_of_seq, opening, refused_steps}
use Rattle.samtags.specs.Reading.{lists}
use Rattle.samtags.specs.Session.{Memory, Step, after_step, answers_in_memory, held_in, lengths_in_buffers, lengths_in_domain}
use Rattle.samtags.specs.Session.{open_session, run_in_memory, step_in_memory}
use Rattle.samtags.specs.Spots.{Listing}
use Rattle.stepping.proofs.StepLaws.{by_answer}
use Rattle.stepping.specs.Steps.{lengths_of, step_says}
use Rattle.session.specs.Chain.{Chain, at_end, left_by, ml_in, numbers_of, seq_in, steps_of, text_in}
use Rattle.session.specs.PublicContracts.{Call, Meets, Opens, Rows, in_memory}

-- ---- call by call

-- rows are known from the memory that they are
pub same_rows : (w u : Rows) → in_memory w ≡ in_memory u → w ≡ u
same_rows w u e = λ j. record {
  seq = (e j).seq;
  mm = (e j).text;
  ml = (e j).ml;
  lengths = record { seq = (e j).lengths.seq; mm = (e j).lengths.text; ml = (e j).lengths.ml };
}

-- a call does to memory what `step` does, and answers its number
abbrev pub Does : (Step → Memory → Outcome Memory) → Rows → Call → Type 0
Does step w c =
    (in_memory (left_by w c) ≡ after_step (in_memory w) (step c.asked (in_memory w)))
    × (number_of (step_says c.answered) ≡ number_of (step c.asked (in_memory w)))

pub follows : (ml? : Bool) (w : Rows) (c : Call) → Meets ml? w c → Does (step_in_memory ml?) w c
follows ml? w c e = by_answer (in_memory w) w.lengths refl c.answered (step_in_memory ml? c.asked (in_memory w)) c.seq c.mm c.ml e

-- the calls do what a run of their steps in memory does
pub chain_runs : (ml? : Bool) (cs : List Call) (w : Rows) → Chain ml? w cs
    → (in_memory (at_end w cs) ≡ run_in_memory ml? (steps_of cs) (in_memory w)) × (numbers_of cs ≡ answers_in_memory ml? (steps_of cs) (in_memory w))
unfolding run_in_memory answers_in_memory
chain_runs ml? [] w k = (refl, refl)
chain_runs ml? (c ∷ cs) w k =
    let f = follows ml? w c k.0 in
    let rest = chain_runs ml? cs (left_by w c) k.1 in (
      rest.0 ∙ ap (run_in_memory ml? (steps_of cs)) f.0,
      λ j. f.1 j ∷ (rest.1 ∙ ap (answers_in_memory ml? (steps_of cs)) f.0) j,
    )

-- ---- the theorem

-- SEQ, the listing and the answers at the end are functions of the opening and the steps alone
pub record As-meant (ml? : Bool) (w : Rows) (ls : List Listing) (cs : List Call) : Type 0 where
  pub seq_then : seq_in (at_end w cs) ≡ left_of_seq (after_steps ls (steps_of cs) (opening (seq_in w))) (seq_in w)
  pub lists_then :
      (let end = at_end w cs in lists ml? (seq_in end) (text_in end) (ml_in end))
      ≡ Ok (map (left_of_listing (after_steps ls (steps_of cs) (opening (seq_in w)))) ls)
  pub answers_then : numbers_of cs ≡ answers_to ls (steps_of cs) (opening (seq_in w))
  -- opened again, it has as many groups and calls as are left
  pub opens_then : on_done counts_of (open_session ml? (in_memory (at_end w cs)))
      ≡ Ok (counts_of (map (left_of_listing (after_steps ls (steps_of cs) (opening (seq_in w)))) ls))
  -- the refused steps are exactly the drops of a listed call under a header that does not end in '?', and the cuts of more than SEQ holds
  pub refused_exactly : map is_refusal (numbers_of cs) ≡ refused_steps ls (steps_of cs) (opening (seq_in w))

module _ (ml? : Bool) (w : Rows) where
  -- what a session that was opened lists
  opened_lists : (ls : List Listing) → open_session ml? (in_memory w) ≡ Ok ls → lists ml? (seq_in w) (text_in w) (ml_in w) ≡ Ok ls
  unfolding open_session
  opened_lists ls e =
      need_rest (lengths_in_buffers ml? (in_memory w)) 2 _ ls (need_rest (lengths_in_domain ml? (lengths_of w.lengths)) 1 _ ls e)

  as_meant : (ls : List Listing) → open_session ml? (in_memory w) ≡ Ok ls → (cs : List Call) → Chain ml? w cs → As-meant ml? w ls cs
  as_meant ls e cs k =
      let r = chain_runs ml? cs w k in
      let m = session_in_memory ml? (in_memory w) ls e (steps_of cs) in
      record {
        seq_then = ap (λ (n : Memory). (held_in n).seq) r.0 ∙ m.seq_then;
        lists_then = ap (λ (n : Memory). lists ml? (held_in n).seq (held_in n).text (held_in n).ml) r.0 ∙ m.lists_then;
        answers_then = r.1 ∙ m.answers_then;
        opens_then = ap (on_done counts_of) (ap (open_session ml?) r.0 ∙ memory.opens_again ml? (in_memory w) ls e (steps_of cs));
        refused_exactly = ap (map is_refusal) r.1 ∙ memory.refused_exactly ml? (in_memory w) ls e (steps_of cs);
      }

  -- Demand 3: if `open` answered Ok, the tag lists as many groups and calls as it said. Whatever calls follow, the session results in what it
  -- means.
  pub session_as_meant : (groups calls : ℕ) → Opens ml? w (Ok (groups, calls)) → (cs : List Call) → Chain ml? w cs
      → (ls : List Listing) × (lists ml? (seq_in w) (text_in w) (ml_in w) ≡ Ok ls)
      × (◌≡◌ {A = ℕ × ℕ} (counts_of ls) (groups, calls)) × As-meant ml? w ls cs
  session_as_meant groups calls opened cs k =
      let (ls, e, counted) = on_done_inv counts_of (open_session ml? (in_memory w)) (groups, calls) (sym opened) in
      (ls, opened_lists ls e, counted, as_meant ls e cs k)

-- A call that answers a number other than 0, a refusal's or 21, changes nothing: every row and every length is unchanged.
pub refused_changes_nothing : (ml? : Bool) (w : Rows) (c : Call) → Meets ml? w c → 0 < number_of (step_says c.answered) → left_by w c ≡ w
refused_changes_nothing ml? w c e l =
    let f = follows ml? w c e in
    same_rows (left_by w c) w (f.0 ∙ memory.refused_changes_nothing ml? c.asked (in_memory w) (omega (arith, l, f.1)))

-- ---- the steps determine the session

-- Calls one after the other, a chain K of them, that each do to memory what `step` does.
module _ (step : Step → Memory → Outcome Memory) (K : Rows → List Call → Type 0)
    (next : (w : Rows) (c : Call) (cs : List Call) → K w (c ∷ cs) → Does step w c × K (left_by w c) cs) where
  pub steps_determine : (w : Rows) (cs ds : List Call) → steps_of cs ≡ steps_of ds → K w cs → K w ds → (at_end w cs ≡ at_end w ds) × (numbers_of cs ≡ numbers_of ds)
  steps_determine w [] [] e k l = (refl, refl)
  steps_determine w [] (d ∷ ds) e k l = let z : ◌≡◌ {A = ℕ} 0 1 = cc in absurd (omega arith)
  steps_determine w (c ∷ cs) [] e k l = let z : ◌≡◌ {A = ℕ} 0 1 = cc in absurd (omega arith)
  steps_determine w (c ∷ cs) (d ∷ ds) e k l =
      let a = next w c cs k in
      let b = next w d ds l in
      let asks : c.asked ≡ d.asked = cc in
      let others : steps_of cs ≡ steps_of ds = cc in
      let left : left_by w c ≡ left_by w d =
      same_rows (left_by w c) (left_by w d)
      (a.0.0 ∙ ap (λ (t : Step). after_step (in_memory w) (step t (in_memory w))) asks ∙ sym b.0.0) in
      let number = a.0.1 ∙ ap (λ (t : Step). number_of (step t (in_memory w))) asks ∙ sym b.0.1 in
      let rest = steps_determine (left_by w c) cs ds others a.1 (subst (λ (u : Rows). K u ds) (sym left) b.1) in
      (rest.0 ∙ ap (λ (u : Rows). at_end u ds) left, λ j. number j ∷ rest.1 j)

-- Two lists of calls that ask for the same steps on the same rows leave the same rows and give the same numbers.
pub session_unique : (ml? : Bool) (w : Rows) (cs ds : List Call) → steps_of cs ≡ steps_of ds → Chain ml? w cs → Chain ml? w ds
    → (at_end w cs ≡ at_end w ds) × (numbers_of cs ≡ numbers_of ds)
session_unique ml? = steps_determine (step_in_memory ml?) (Chain ml?) (λ w c cs k. (follows ml? w c k.0, k.1))

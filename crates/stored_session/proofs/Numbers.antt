-- The numbers that each public call can answer: no other number, and 0 exactly when the call is done. They are those of the plain session. For each of them
-- there is an input, a reverse read that is stored.
-- Assumes nothing.
use Rattle.std.specs.Prelude.{Ok, Err}
use mathlib.Core.Path.{◌≡◌, refl, sym, ap, ◌∙◌}
use Prim.Native.Nat.{ℕ}
use mathlib.Core.Bool.{Bool, true, false, ◌&&◌}
use mathlib.Core.List.{List, [], ◌∷◌, ◌++◌, map}
use lib.ListN.{length}
use lib.Dec.{eqb, leb}
use Rattle.lent.proofs.Answers.{answers, only_and_then, only_need, only_on_done}
use Rattle.lent.specs.Answers.{Answers, refuses_only}
use Rattle.lent.specs.Lists.{among}
use Rattle.lent.specs.Outcome.{Outcome, number_of, on_done}
use Rattle.packed.specs.Packed.{bytes_for}
use Rattle.packed.specs.Stored.{as_stored, step_in_read}
use Rattle.reading.specs.Calls.{counts_of}
use Rattle.samtags.proofs.Numbers.{bad_tags, empty_buffers, good_tag, lists_only, open_numbers, step_numbers, stepped_only, unmarked_tag}
use Rattle.samtags.specs.Session.{Held, Memory, Step, cut, drop_calls, lengths_in_domain, mask, stepped}
use Rattle.session.specs.PublicContracts.{Call, Rows, in_memory}
use Rattle.stepping.specs.Steps.{Came, leaves_memory, step_says}
use Rattle.stored_session.proofs.Demand.{follows}
use Rattle.stored_session.specs.PublicContracts.{MeetsStored, OpensStored}
use Rattle.stored_steps.specs.Steps.{held_in_read, open_stored, step_stored, tag_in_buffers}

-- ---- no other number

pub open_stored_only : (reverse ml? : Bool) (m : Memory) → refuses_only open_numbers (open_stored reverse ml? m) ≡ true
unfolding open_stored
open_stored_only reverse ml? m =
    let h = held_in_read reverse m in
    only_need open_numbers (lengths_in_domain ml? m.lengths) 1 _ refl
    (only_need open_numbers (eqb (length m.seq) (bytes_for m.lengths.seq) && tag_in_buffers ml? m) 2 _ refl
    (lists_only open_numbers refl ml? h.seq h.text h.ml))

pub open_numbers_lem : (reverse ml? : Bool) (w : Rows) (r : Outcome (ℕ × ℕ)) → OpensStored reverse ml? w r → Answers open_numbers r
open_numbers_lem reverse ml? w r e =
    rw e (answers open_numbers _ refl (only_on_done open_numbers counts_of (open_stored reverse ml? (in_memory w)) (open_stored_only reverse ml? (in_memory w))))

-- a step and its counterpart in read orientation have the same numbers
same_numbers : (reverse : Bool) (n : ℕ) (t : Step) → step_numbers (step_in_read reverse n t) ≡ step_numbers t
same_numbers reverse n (mask ps) = refl
same_numbers reverse n (drop_calls ps) = refl
same_numbers reverse n (cut front back) = refl

one : (t : Step) → among (step_numbers t) 1 ≡ true
one (mask ps) = refl
one (drop_calls ps) = refl
one (cut front back) = refl

two : (t : Step) → among (step_numbers t) 2 ≡ true
two (mask ps) = refl
two (drop_calls ps) = refl
two (cut front back) = refl

-- no step has 0 among its refusals
zero_is_none : (t : Step) → among (step_numbers t) 0 ≡ false
zero_is_none (mask ps) = refl
zero_is_none (drop_calls ps) = refl
zero_is_none (cut front back) = refl

pub step_stored_only : (reverse ml? : Bool) (t : Step) (m : Memory) → refuses_only (step_numbers t) (step_stored reverse ml? t m) ≡ true
unfolding step_stored
step_stored_only reverse ml? t m =
    let h = held_in_read reverse m in
    let u = step_in_read reverse m.lengths.seq t in
    let ns = step_numbers t in
    let in-read : refuses_only ns (stepped ml? u h) ≡ true =
    ap (λ (ks : List ℕ). refuses_only ks (stepped ml? u h)) (sym (same_numbers reverse m.lengths.seq t)) ∙ stepped_only ml? u h in
    only_need ns (lengths_in_domain ml? m.lengths) 1 _ (one t)
    (only_need ns (leb (bytes_for m.lengths.seq) (length m.seq) && tag_in_buffers ml? m) 2 _ (two t)
    (only_and_then ns (stepped ml? u h) _ in-read (λ s. refl)))

-- a step's answer refuses as the step does
answer_refuses : (ns : List ℕ) (m : Memory) (o : Outcome Memory) → refuses_only ns o ≡ true → refuses_only ns (leaves_memory m o).answer ≡ true
unfolding leaves_memory
answer_refuses ns m (Err r) h = h
answer_refuses ns m (Ok n) h = refl

-- the set depends on the step that was asked for: a mask, a drop or a cut
pub step_numbers_lem : (reverse ml? : Bool) (w : Rows) (c : Call) → MeetsStored reverse ml? w c → Answers (step_numbers c.asked) (step_says c.answered)
step_numbers_lem reverse ml? w c e =
    let m = in_memory w in
    let ns = step_numbers c.asked in
    let is : step_says c.answered ≡ (leaves_memory m (step_stored reverse ml? c.asked m)).answer = ap (λ (x : Came). x.answer) e in
    rw is (answers ns _ (zero_is_none c.asked)
    (answer_refuses ns m (step_stored reverse ml? c.asked m) (step_stored_only reverse ml? c.asked m)))

-- ---- the number is the definition's

pub open_number : (reverse ml? : Bool) (w : Rows) (r : Outcome (ℕ × ℕ)) → OpensStored reverse ml? w r
    → number_of r ≡ number_of (on_done counts_of (open_stored reverse ml? (in_memory w)))
open_number reverse ml? w r e = ap number_of e

pub step_number : (reverse ml? : Bool) (w : Rows) (c : Call) → MeetsStored reverse ml? w c
    → number_of (step_says c.answered) ≡ number_of (step_stored reverse ml? c.asked (in_memory w))
step_number reverse ml? w c e = (follows reverse ml? w c e).1

-- ---- no set is too large: worked inputs, whose numbers are 0 and then each of the set in order

-- a reverse read as it is stored, in buffers that the session fills
abbrev pub filled : Held → Memory
filled h = record {
  seq = as_stored true h.seq;
  text = h.text;
  ml = h.ml;
  lengths = record { seq = length h.seq; text = length h.text; ml = length h.ml };
}

-- other bytes at SEQ's row
abbrev pub with_row : List ℕ → Memory → Memory
with_row row m = record { seq = row; text = m.text; ml = m.ml; lengths = m.lengths }

-- one C in read orientation: a G is stored, and the spare half is anything
abbrev pub good : Memory
good = with_row (0x4F ∷ []) (filled good_tag)

-- one byte too many, and one too few
abbrev pub longer : Memory
longer = with_row (0x4F ∷ 0x88 ∷ []) good

abbrev pub shorter : Memory
shorter = with_row [] good

abbrev opens : Memory → ℕ
opens m = number_of (open_stored true true m)

pub open_stored_each : map opens (good ∷ empty_buffers 16001 ∷ longer ∷ map filled bad_tags) ≡ 0 ∷ open_numbers
unfolding open_stored as_stored
open_stored_each = refl

-- the opening refuses a byte too few too
pub open_too_few : opens shorter ≡ 2
unfolding open_stored
open_too_few = refl

abbrev steps : Step → Memory → ℕ
steps t m = number_of (step_stored true true t m)

-- a step accepts a byte too many, and refuses a byte too few
abbrev pub step_memories : List Memory
step_memories = longer ∷ empty_buffers 16001 ∷ shorter ∷ map filled bad_tags

pub mask_step_each : map (steps (mask (0 ∷ []))) step_memories ≡ 0 ∷ step_numbers (mask (0 ∷ []))
unfolding step_stored as_stored
mask_step_each = refl

pub drop_step_each : map (steps (drop_calls (0 ∷ []))) (step_memories ++ filled unmarked_tag ∷ []) ≡ 0 ∷ step_numbers (drop_calls (0 ∷ []))
unfolding step_stored as_stored
drop_step_each = refl

pub cut_step_each : map (steps (cut 1 0)) step_memories ++ steps (cut 2 0) good ∷ steps (cut 0 0) good ∷ [] ≡ 0 ∷ step_numbers (cut 1 0)
unfolding step_stored as_stored
cut_step_each = refl

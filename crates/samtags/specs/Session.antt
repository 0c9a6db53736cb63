-- The edit session: its three steps on the session's contents, then on the lent buffers. Also a run of steps, each on the memory that the last one left.
-- Assumes nothing.
use Rattle.std.specs.Prelude.{ℕ, suc, ◌+◌, ◌-◌, Bool, true, cond, not, ◌&&◌, List, [], ◌∷◌, length, take, drop, leb, eqb, Ok, Err}
use Rattle.lent.specs.Lists.{among}
use Rattle.lent.specs.Filled.{over}
use Rattle.samtags.specs.Bytes.{letter_n}
use Rattle.lent.specs.Outcome.{Outcome, need, and_then, number_of}
use Rattle.samtags.specs.Spots.{Listing}
use Rattle.samtags.specs.Reading.{lists}
use Rattle.samtags.specs.Writing.{Tag}
use Rattle.samtags.specs.Edits.{edited, masked_to, dropping_at, cut_to}

pub data Step : Type 0 where
  -- write N at the places and edit the tag
  mask : List ℕ → Step
  -- drop the calls at the places
  drop_calls : List ℕ → Step
  -- take bases off the front and off the back
  cut : ℕ → ℕ → Step

-- what a session holds
pub record Held : Type 0 where
  pub seq : List ℕ
  pub text : List ℕ
  pub ml : List ℕ

-- N at the places that pass the test; the first place is i
abbrev pub mask_from : ℕ → (ℕ → Bool) → List ℕ → List ℕ
mask_from i t [] = []
mask_from i t (x ∷ xs) = cond (t i) letter_n x ∷ mask_from (suc i) t xs

abbrev pub masked : (ℕ → Bool) → List ℕ → List ℕ
masked t seq = mask_from 0 t seq

-- n bases from place a on
abbrev pub window : ℕ → ℕ → List ℕ → List ℕ
window a n seq = take n (drop a seq)

-- the new SEQ with the edited tag; without ML the ML stays unchanged
abbrev pub held_with : Bool → Held → List ℕ → Outcome Tag → Outcome Held
held_with ml? s seq o = and_then o (λ r. Ok (record { seq = seq; text = r.text; ml = cond ml? r.ml s.ml }))

-- a step's outcome: a refusal or 21, or the new contents of the session
unfoldable pub stepped : Bool → Step → Held → Outcome Held
unfolding edited masked_to dropping_at cut_to
stepped ml? (mask ps) s =
    let after = masked (among ps) s.seq in
    held_with ml? s after (edited (masked_to after) ml? s.seq s.text s.ml)
stepped ml? (drop_calls ps) s = held_with ml? s s.seq (edited (dropping_at ps) ml? s.seq s.text s.ml)
stepped ml? (cut front back) s =
    let after = window front (length s.seq - (front + back)) s.seq in
    need (not (eqb (front + back) 0)) 21
    (need (leb (front + back) (length s.seq)) 11
    (held_with ml? s after (edited (cut_to front after) ml? s.seq s.text s.ml)))

module _ {A : Type 0} where
  -- a refused step, or 21, changes nothing
  abbrev pub after_step : A → Outcome A → A
  after_step s (Err r) = s
  after_step s (Ok s') = s'

unfoldable pub run : Bool → List Step → Held → Held
unfolding stepped
run ml? [] s = s
run ml? (t ∷ ts) s = run ml? ts (after_step s (stepped ml? t s))

unfoldable pub answers : Bool → List Step → Held → List ℕ
unfolding stepped
answers ml? [] s = []
answers ml? (t ∷ ts) s = number_of (stepped ml? t s) ∷ answers ml? ts (after_step s (stepped ml? t s))

-- ---- in memory: three lent buffers, and how much of each the session holds

pub record Lengths : Type 0 where
  pub seq : ℕ
  pub text : ℕ
  pub ml : ℕ

pub record Memory : Type 0 where
  pub seq : List ℕ
  pub text : List ℕ
  pub ml : List ℕ
  pub lengths : Lengths

-- the session's own part of the buffers
abbrev pub held_in : Memory → Held
held_in m = record { seq = take m.lengths.seq m.seq; text = take m.lengths.text m.text; ml = take m.lengths.ml m.ml }

-- the new contents at the front of each buffer; bytes after the new lengths are unchanged. Without ML the ML buffer and its length are unchanged
abbrev pub stored : Bool → Memory → Held → Memory
stored ml? m s = record {
  seq = over s.seq m.seq;
  text = over s.text m.text;
  ml = cond ml? (over s.ml m.ml) m.ml;
  lengths = record { seq = length s.seq; text = length s.text; ml = cond ml? (length s.ml) m.lengths.ml };
}

-- the lengths are within the domain
abbrev pub lengths_in_domain : Bool → Lengths → Bool
lengths_in_domain ml? n = leb n.seq 16000 && leb n.text 65536 && cond ml? (leb n.ml 65536) true

-- each buffer is at least as long as the session's length of it
abbrev pub lengths_in_buffers : Bool → Memory → Bool
lengths_in_buffers ml? m =
    leb m.lengths.seq (length m.seq) && leb m.lengths.text (length m.text)
    && cond ml? (leb m.lengths.ml (length m.ml)) true

-- the outcome if the lengths are in order, else 1 or 2
abbrev pub in_order_of : {A : Type 0} → Bool → Memory → Outcome A → Outcome A
in_order_of ml? m o = need (lengths_in_domain ml? m.lengths) 1 (need (lengths_in_buffers ml? m) 2 o)

-- opening: what the tag lists, or the reader's number; nothing is written
unfoldable pub open_session : Bool → Memory → Outcome (List Listing)
unfolding lists over
open_session ml? m = in_order_of ml? m (lists ml? (held_in m).seq (held_in m).text (held_in m).ml)

-- a step on the buffers, whoever wrote their contents
unfoldable pub step_in_memory : Bool → Step → Memory → Outcome Memory
unfolding stepped over
step_in_memory ml? t m = in_order_of ml? m (and_then (stepped ml? t (held_in m)) (λ s. Ok (stored ml? m s)))

unfoldable pub run_in_memory : Bool → List Step → Memory → Memory
unfolding step_in_memory
run_in_memory ml? [] m = m
run_in_memory ml? (t ∷ ts) m = run_in_memory ml? ts (after_step m (step_in_memory ml? t m))

unfoldable pub answers_in_memory : Bool → List Step → Memory → List ℕ
unfolding step_in_memory
answers_in_memory ml? [] m = []
answers_in_memory ml? (t ∷ ts) m = number_of (step_in_memory ml? t m) ∷ answers_in_memory ml? ts (after_step m (step_in_memory ml? t m))

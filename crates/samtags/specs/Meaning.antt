-- The meaning of a session: SEQ, the calls that the tag lists, and every answer, as functions of the opening and the steps alone. Nothing here reads
-- or writes a tag. Places are those of the opening SEQ, unless stated otherwise.
-- Assumes nothing.
use Rattle.std.specs.Prelude.{ℕ, ◌+◌, ◌-◌, Bool, false, cond, not, ◌&&◌, ◌||◌, List, [], ◌∷◌, ◌++◌, map, length, leb, ltb, eqb}
use Rattle.lent.specs.Lists.{any, filter, among}
use Rattle.samtags.specs.Bytes.{letter_n}
use Rattle.samtags.specs.Text.{base_of, ends_in_question}
use Rattle.samtags.specs.Spots.{Call, Listing}
use Rattle.samtags.specs.Session.{Step, mask, drop_calls, cut, masked, window}

-- the steps so far: `front` bases were cut off the front and `size` bases are left; `masks` are the masked places, at `drops` the calls were dropped
pub record Sofar : Type 0 where
  pub front : ℕ
  pub size : ℕ
  pub masks : List ℕ
  pub drops : List ℕ

-- at the opening
abbrev pub opening : List ℕ → Sofar
opening seq = record { front = 0; size = length seq; masks = []; drops = [] }

-- the place is one of the n places from a on
abbrev pub inside : ℕ → ℕ → ℕ → Bool
inside a n p = leb a p && ltb p (a + n)

-- the base b at the place is neither cut off nor masked; a group on any base ('N') survives masking
abbrev pub base_stays : Sofar → ℕ → ℕ → Bool
base_stays σ b p = inside σ.front σ.size p && (eqb b letter_n || not (among σ.masks p))

-- the call's base stays, and the call was not dropped
abbrev pub call_stays : Sofar → ℕ → Call → Bool
call_stays σ b c = base_stays σ b c.place && not (among σ.drops c.place)

-- the call with its place reduced by a
abbrev pub nearer : ℕ → Call → Call
nearer a c = record { place = c.place - a; values = c.values }

-- a group's listing after the steps: the calls that stay, each at its old place minus the number of bases cut before it
unfoldable pub left_of_listing : Sofar → Listing → Listing
left_of_listing σ l = record {
  header = l.header;
  calls = map (nearer σ.front) (filter (call_stays σ (base_of l.header)) l.calls);
}

-- SEQ after the steps
unfoldable pub left_of_seq : Sofar → List ℕ → List ℕ
left_of_seq σ seq = window σ.front σ.size (masked (among σ.masks) seq)

-- places that a step counts in its own SEQ, as places of the opening SEQ
abbrev pub in_opening : Sofar → List ℕ → List ℕ
in_opening σ ps = map (λ p. σ.front + p) ps

-- the group lists a call at one of the places, and its header doesn't end in '?': dropping the call would say "unmodified"
unfoldable pub lists_unmarked : List ℕ → Listing → Bool
lists_unmarked ps l = any (λ (c : Call). among ps c.place) l.calls && not (ends_in_question l.header)

-- a step is refused if it drops a listed call under a header that doesn't end in '?', or if it cuts more than SEQ holds
unfoldable pub refuses : List Listing → Step → Sofar → Bool
unfolding lists_unmarked left_of_listing
refuses ls (mask ps) σ = false
refuses ls (drop_calls ps) σ = any (lists_unmarked ps) (map (left_of_listing σ) ls)
refuses ls (cut f b) σ = ltb σ.size (f + b)

-- the steps so far and one more, which is not refused
abbrev pub taken : Step → Sofar → Sofar
taken (mask ps) σ = record { front = σ.front; size = σ.size; masks = σ.masks ++ in_opening σ ps; drops = σ.drops }
taken (drop_calls ps) σ = record { front = σ.front; size = σ.size; masks = σ.masks; drops = σ.drops ++ in_opening σ ps }
taken (cut f b) σ = record { front = σ.front + f; size = σ.size - (f + b); masks = σ.masks; drops = σ.drops }

-- a refused step changes nothing
unfoldable pub next : List Listing → Step → Sofar → Sofar
unfolding refuses
next ls t σ = cond (refuses ls t σ) σ (taken t σ)

-- the number of a refusal
abbrev pub reason : Step → ℕ
reason (mask ps) = 0
reason (drop_calls ps) = 10
reason (cut f b) = 11

-- a cut of nothing is no refusal; it has its own number
abbrev pub cuts_nothing : Step → Bool
cuts_nothing (mask ps) = false
cuts_nothing (drop_calls ps) = false
cuts_nothing (cut f b) = eqb (f + b) 0

unfoldable pub answer_to : List Listing → Step → Sofar → ℕ
unfolding refuses
answer_to ls t σ = cond (refuses ls t σ) (reason t) (cond (cuts_nothing t) 21 0)

unfoldable pub after_steps : List Listing → List Step → Sofar → Sofar
unfolding next
after_steps ls [] σ = σ
after_steps ls (t ∷ ts) σ = after_steps ls ts (next ls t σ)

unfoldable pub answers_to : List Listing → List Step → Sofar → List ℕ
unfolding next answer_to
answers_to ls [] σ = []
answers_to ls (t ∷ ts) σ = answer_to ls t σ ∷ answers_to ls ts (next ls t σ)

-- which of the steps are refused
unfoldable pub refused_steps : List Listing → List Step → Sofar → List Bool
unfolding next refuses
refused_steps ls [] σ = []
refused_steps ls (t ∷ ts) σ = refuses ls t σ ∷ refused_steps ls ts (next ls t σ)

-- an answer is a refusal: neither 0 nor 21
abbrev pub is_refusal : ℕ → Bool
is_refusal n = not (eqb n 0) && not (eqb n 21)

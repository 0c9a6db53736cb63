-- Handing on the answers of the calls that read a tag: the number of the definition, the two lent numbers, and the columns.
-- Assumes nothing.
use Prim.Native.Nat.{ℕ}
use mathlib.Core.Bool.{Bool}
use mathlib.Core.List.{List}
use mathlib.Core.Path.{◌≡◌, ◌∙◌, ap}
use lib.ListN.{length}
use Rattle.lent.specs.Filled.{leaves}
use Rattle.lent.specs.Outcome.{Outcome, number_of, on_done}
use Rattle.samtags.specs.Spots.{Listing}
use Rattle.samtags.specs.Reading.{call_list, Tally}
use Rattle.reading.specs.Answers.{tally_says}
use Rattle.std.specs.Prelude.{Ok, Err}
use Rattle.reading.specs.Calls.{CallsRead, calls_read, counts_of, group_column, listed_calls, place_column, read_calls, start_column}
use Rattle.telling.specs.Told.{told}
use Rattle.telling.proofs.Handed.{number_handed, told_handed}

-- what a caller holds who was told of the answer w: the number r, how many groups g and how many calls c
abbrev pub ReadTold : Outcome (ℕ × ℕ) → ℕ → ℕ → ℕ → ℕ → ℕ → Type 0
ReadTold w r g₀ g c₀ c = (r ≡ number_of w) × (g ≡ told (λ (s : ℕ × ℕ). s.0) w g₀) × (c ≡ told (λ (s : ℕ × ℕ). s.1) w c₀)

-- and of the listings that were to be read
abbrev pub ListTold : Outcome (List Listing) → ℕ → ℕ → ℕ → ℕ → ℕ → Type 0
ListTold o r g₀ g c₀ c =
    (r ≡ number_of o) × (g ≡ told (λ (ls : List Listing). length ls) o g₀)
    × (c ≡ told (λ (ls : List Listing). length (call_list ls)) o c₀)

pub read_handed : (o : Outcome (List Listing)) (g₀ c₀ : ℕ) {w : Outcome (ℕ × ℕ)} {r g c : ℕ} → w ≡ on_done counts_of o
    → ReadTold w r g₀ g c₀ c → ListTold o r g₀ g c₀ c
read_handed o g₀ c₀ e h = (
  number_handed counts_of o e h.0,
  told_handed (λ (s : ℕ × ℕ). s.0) counts_of o g₀ e h.1,
  told_handed (λ (s : ℕ × ℕ). s.1) counts_of o c₀ e h.2,
)

-- with the columns gs, ps and ss, of which each is what the call list leaves of the one that was lent
pub calls_handed : (ml? : Bool) (seq text ml gs₀ ps₀ ss₀ : List ℕ) (g₀ c₀ : ℕ) {w : Outcome (ℕ × ℕ)} {r g c : ℕ}
    {gs ps ss : List ℕ} → calls_read w gs ps ss ≡ read_calls ml? seq text ml gs₀ ps₀ ss₀ → ReadTold w r g₀ g c₀ c
    → let o = listed_calls ml? seq text ml (length gs₀) (length ps₀) (length ss₀) in
    (r ≡ number_of o) × (g ≡ told (λ (ls : List Listing). length ls) o g₀) × (c ≡ told (λ (ls : List Listing). length (call_list ls)) o c₀)
    × (gs ≡ leaves group_column o gs₀) × (ps ≡ leaves place_column o ps₀) × (ss ≡ leaves start_column o ss₀)
unfolding read_calls
calls_handed ml? seq text ml gs₀ ps₀ ss₀ g₀ c₀ e h =
    let o = listed_calls ml? seq text ml (length gs₀) (length ps₀) (length ss₀) in
    let t = read_handed o g₀ c₀ (ap (λ (y : CallsRead). y.answer) e) h in
    (t.0, t.1, t.2, ap (λ (y : CallsRead). y.groups) e, ap (λ (y : CallsRead). y.places) e, ap (λ (y : CallsRead). y.starts) e)

-- the tally's two numbers, of which the answer is the pair
pub tally_handed : (o : Outcome Tally) (a₀ b₀ : ℕ) (w : Outcome (ℕ × ℕ)) {r a b : ℕ} → tally_says w ≡ o → ReadTold w r a₀ a b₀ b
    → (r ≡ number_of o) × (a ≡ told (λ (t : Tally). t.above) o a₀) × (b ≡ told (λ (t : Tally). t.below) o b₀)
tally_handed o a₀ b₀ (Ok (a, b)) e h = rw (← e) h
tally_handed o a₀ b₀ (Err q) e h = rw (← e) h

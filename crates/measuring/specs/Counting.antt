-- The answer of a walk that needs no places, step by step. These are contracts of support functions; no promise rests on them.
-- Assumes nothing.
use Rattle.std.specs.Prelude.{ℕ, ◌+◌, ◌≤◌, ◌≡◌, Bool, true, List, [], ◌∷◌, length, drop, Ok, Err, Some, None, Option}
use Rattle.lent.specs.Outcome.{Outcome, on_done}
use Rattle.samtags.specs.Text.{up_to}
use Rattle.samtags.specs.Spots.{Spot, Group, calls_in}
use Rattle.measuring.specs.declared.Count.{Count}

-- ---- what is counted

-- the number of calls after those of a group's spots, and the rest of ML
abbrev pub spots_counted : ℕ → List Spot × List ℕ → ℕ × List ℕ
spots_counted n r = (n + length (calls_in r.0), r.1)

abbrev pub group_counted : ℕ → Group × List ℕ → ℕ × List ℕ
group_counted n r = (n + length (calls_in r.0.spots), r.1)

-- how many calls the groups have
abbrev pub calls_of : List Group → ℕ
calls_of [] = 0
calls_of (g ∷ gs) = length (calls_in g.spots) + calls_of gs

-- the number of groups and of calls, counted on from g groups with n calls
abbrev pub groups_counted : ℕ → ℕ → List Group → ℕ × ℕ
groups_counted g n gs = (g + length gs, n + calls_of gs)

-- ---- the answers

-- the answer agrees with o, the outcome of the entries from the separator at c on
abbrev pub EntriesCounted : List ℕ → List ℕ → Count → Outcome (List Spot × List ℕ) → Outcome Count → Type 0
EntriesCounted text ml c o (Err r) = o ≡ Err r
EntriesCounted text ml c o (Ok d) =
    (d.at ≡ c.at + length (up_to 59 (drop c.at text))) × (d.used ≤ length ml) × (d.group ≡ c.group) × (d.calls ≤ d.at)
    × (on_done (spots_counted c.calls) o ≡ Ok (d.calls, drop d.used ml))

-- the answer agrees with o, the outcome of the group at c; it is none only if calls are marked
abbrev pub GroupCounted : Bool → List ℕ → List ℕ → Count → Outcome (Group × List ℕ) → Outcome (Option Count) → Type 0
GroupCounted marked text ml c o (Err r) = o ≡ Err r
GroupCounted marked text ml c o (Ok None) = marked ≡ true
GroupCounted marked text ml c o (Ok (Some d)) =
    (d.at ≡ c.at + length (up_to 59 (drop c.at text)) + 1) × (d.used ≤ length ml) × (d.group ≡ c.group + 1) × (d.calls ≤ d.at)
    × (on_done (group_counted c.calls) o ≡ Ok (d.calls, drop d.used ml))

-- the answer agrees with o, the outcome of all groups
abbrev pub TagCounted : Bool → Outcome (List Group) → Outcome (Option Count) → Type 0
TagCounted marked o (Err r) = o ≡ Err r
TagCounted marked o (Ok None) = marked ≡ true
TagCounted marked o (Ok (Some d)) = on_done (groups_counted 0 0) o ≡ Ok (d.group, d.calls)

-- The answer of a walk over a tag, and the columns after it, step by step. These are contracts of private functions; no promise rests on them.
-- Assumes nothing.
use Rattle.std.specs.Prelude.{ℕ, suc, ◌+◌, ◌≤◌, ◌≡◌, List, map, length, drop, Ok, Err}
use Rattle.std.proofs.lemmas.List.Edits.{sets}
use Rattle.lent.specs.Outcome.{Outcome, on_done}
use Rattle.samtags.specs.Text.{up_to}
use Rattle.samtags.specs.Spots.{Spot, Group, Call, calls_in, listing}
use Rattle.samtags.specs.Reading.{Row, rows_of, values_in, rows_from}
use Rattle.scanning.specs.declared.Cursor.{Cursor}

pub record Columns : Type 0 where
  pub groups : List ℕ
  pub places : List ℕ
  pub starts : List ℕ

abbrev pub columns : List ℕ → List ℕ → List ℕ → Columns
columns groups places starts = record { groups = groups; places = places; starts = starts }

-- rows stored one by one from index n on, as far as the columns reach
abbrev pub with_rows : Columns → ℕ → List Row → Columns
with_rows c n rows = record {
  groups = sets c.groups n (map (λ (r : Row). r.group) rows);
  places = sets c.places n (map (λ (r : Row). r.place) rows);
  starts = sets c.starts n (map (λ (r : Row). r.start) rows);
}

-- the columns after calls are stored, how many calls they hold, and how many values are used
pub record Listed : Type 0 where
  pub rows : Columns
  pub calls : ℕ
  pub used : ℕ

-- the calls of group g, after n calls that used u values
abbrev pub listed_of : ℕ → Columns → ℕ → ℕ → List Call → Listed
listed_of g c n u cs = record { rows = with_rows c n (rows_of g u cs); calls = n + length cs; used = u + values_in cs }

abbrev pub listed_spots : ℕ → Columns → ℕ → ℕ → List Spot × List ℕ → Listed × List ℕ
listed_spots g c n u r = (listed_of g c n u (calls_in r.0), r.1)

abbrev pub listed_group : ℕ → Columns → ℕ → ℕ → Group × List ℕ → Listed × List ℕ
listed_group g c n u r = (listed_of g c n u (calls_in r.0.spots), r.1)

-- the columns after all groups are listed, and how many groups and calls there are
pub record Finished : Type 0 where
  pub rows : Columns
  pub groups : ℕ
  pub calls : ℕ

-- the groups after g groups with n calls that used u values
abbrev pub finished : ℕ → Columns → ℕ → ℕ → List Group → Finished
finished g c n u gs = record {
  rows = with_rows c n (rows_from (suc g) u (map listing gs));
  groups = g + length gs;
  calls = n + length (rows_from (suc g) u (map listing gs));
}

-- the answer agrees with o, the outcome of the entries from the separator at c on
abbrev pub EntriesScanned : List ℕ → List ℕ → Cursor → Outcome (List Spot × List ℕ) → Columns → Outcome Cursor → Columns → Type 0
EntriesScanned text ml c o before (Err r) after = o ≡ Err r
EntriesScanned text ml c o before (Ok d) after =
    (d.at ≡ c.at + length (up_to 59 (drop c.at text))) × (d.used ≤ length ml) × (d.group ≡ c.group) × (d.calls ≤ d.at)
    × (on_done (listed_spots c.group before c.calls c.used) o ≡ Ok (record { rows = after; calls = d.calls; used = d.used }, drop d.used ml))

-- the answer agrees with o, the outcome of the group at c
abbrev pub GroupScanned : List ℕ → List ℕ → Cursor → Outcome (Group × List ℕ) → Columns → Outcome Cursor → Columns → Type 0
GroupScanned text ml c o before (Err r) after = o ≡ Err r
GroupScanned text ml c o before (Ok d) after =
    (d.at ≡ c.at + length (up_to 59 (drop c.at text)) + 1) × (d.used ≤ length ml) × (d.group ≡ c.group + 1) × (d.calls ≤ d.at)
    × (on_done (listed_group (c.group + 1) before c.calls c.used) o ≡ Ok (record { rows = after; calls = d.calls; used = d.used }, drop d.used ml))

-- the answer agrees with o, the outcome of all groups
abbrev pub TagScanned : Outcome (List Group) → Columns → Outcome Cursor → Columns → Type 0
TagScanned o before (Err r) after = o ≡ Err r
TagScanned o before (Ok d) after = on_done (finished 0 before 0 0) o ≡ Ok (record { rows = after; groups = d.group; calls = d.calls })

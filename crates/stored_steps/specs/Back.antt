-- From a plain step on the unpacked row back to the packed one: contracts of support functions; no promise rests on them.
-- Assumes nothing.
use Rattle.lent.specs.Outcome.{Outcome}
use Rattle.stepping.specs.declared.Lengths.{Lengths as Declared}
use Rattle.std.specs.Prelude.{ℕ, ◌≤◌, Bool, cond, List, length, take, Ok, Err}
use Rattle.lent.specs.Filled.{over}
use Rattle.packed.specs.Packed.{bytes_for}
use Rattle.packed.specs.Stored.{as_stored}
use Rattle.samtags.specs.Session.{Memory}

-- the lengths are within the domain and within the rows; without ML the ML length is ignored
abbrev pub OrderedStored : Bool → Memory → Type 0
OrderedStored ml? m =
    (m.lengths.seq ≤ 16000) × (m.lengths.text ≤ 65536) × (cond ml? m.lengths.ml 0 ≤ 65536)
    × (bytes_for m.lengths.seq ≤ length m.seq) × (m.lengths.text ≤ length m.text) × (cond ml? m.lengths.ml 0 ≤ length m.ml)

-- the bases of a step that is done are in the row, and the packed row has room for them
abbrev pub FitsBack : Outcome Declared → List ℕ → List ℕ → Type 0
FitsBack (Ok n) row packed = (n.seq ≤ 16000) × (n.seq ≤ length row) × (bytes_for n.seq ≤ length packed)
FitsBack (Err r) row packed = Unit {0}

-- the packed row with the bases of a step that is done; a refused step leaves it
abbrev pub packed_back : Outcome Declared → Bool → List ℕ → List ℕ → List ℕ
packed_back (Ok n) reverse row packed = over (as_stored reverse (take n.seq row)) packed
packed_back (Err r) reverse row packed = packed

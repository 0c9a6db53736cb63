-- A row whose first records are gated, and the row that `gate_row` leaves.
-- Assumes nothing.
use Rattle.lent.specs.Outcome.{Outcome}
use mathlib.Core.Path.{◌≡◌, sym, ◌∙◌}
use Prim.Native.Nat.{ℕ, suc, ◌≤◌, ◌<◌}
use native.Mathlib.Omega.{arith}
use mathlib.Core.List.{List, map}
use lib.Dec.{leb}
use lib.ListN.{length, get_or, set, length-map}
use borrow.Author.Tests.{le-leb}
use Rattle.lent.proofs.Filled.{leaves_done, leaves_refused, over_all}
use Rattle.lent.proofs.InPlace.{changed_up_to, length_changed, changed_more, changed_not_yet, changed_is_map}
use Rattle.lent.proofs.Tests.{by-test}
use Rattle.lent.specs.Filled.{leaves}
use Rattle.evidence.specs.PublicContracts.{GatesRow}
use Rattle.evidence.specs.Position.{gated}
use Rattle.evidence.specs.Row.{gated_row, row_of, records_to_gate}
use Rattle.evidence.specs.declared.MethylationEvidence.{MethylationEvidence}

-- the first k records gated
abbrev pub gated_up_to : ℕ → List MethylationEvidence → List MethylationEvidence
gated_up_to k row = changed_up_to (λ (i : ℕ) (e : MethylationEvidence). gated e) k row

pub length_gated : (k : ℕ) (row : List MethylationEvidence) → length (gated_up_to k row) ≡ length row
length_gated k row = length_changed (λ (i : ℕ) (e : MethylationEvidence). gated e) 0 k row

pub gated_more : (k : ℕ) (row : List MethylationEvidence) (d : MethylationEvidence) → k < length row
    → set (gated_up_to k row) k (gated (get_or (gated_up_to k row) k d)) ≡ gated_up_to (suc k) row
gated_more k row d h =
    rw (changed_not_yet (λ (i : ℕ) (e : MethylationEvidence). gated e) 0 k k row d (omega arith))
    (changed_more (λ (i : ℕ) (e : MethylationEvidence). gated e) k row d h)

-- no more records are gated than there are
pub gates_within : (n : ℕ) → records_to_gate n ≤ n
gates_within n = by-test (leb n 16000) (λ e. rw e (omega arith)) (λ e. rw e (omega arith))

-- with as many gated as the bound says, the row is what the call leaves
pub row_is_left : (row : List MethylationEvidence)
    → gated_up_to (records_to_gate (length row)) row ≡ leaves (λ (n : ℕ). gated_row row) (row_of (length row)) row
unfolding gated_row row_of
row_is_left row = by-test (leb (length row) 16000)
    (λ e. rw e (changed_is_map gated 0 row ∙ sym (leaves_done (λ (n : ℕ). map gated row) (length row) row ∙ over_all (map gated row) row (length-map row gated))))
    (λ e. rw e (sym (leaves_refused (λ (n : ℕ). map gated row) _ row)))

-- what the contract says of a row that the domain allows: each record is gated
pub short_row_gated : (row : List MethylationEvidence) (r : Outcome ℕ) (row' : List MethylationEvidence) → length row ≤ 16000
    → GatesRow row r row' → row' ≡ gated_row row
unfolding gated_row row_of
short_row_gated row r row' h p =
    (rw (le-leb (length row) 16000 h) at p.1)
    ∙ leaves_done (λ (n : ℕ). map gated row) (length row) row
    ∙ over_all (map gated row) row (length-map row gated)

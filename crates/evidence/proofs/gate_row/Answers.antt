-- One more record is gated on each turn, and at the end the row is what the call leaves.
-- Assumes nothing.
use Rattle.lent.specs.Outcome.{Outcome}
use mathlib.Core.Path.{◌≡◌, ◌∙◌}
use mathlib.Core.Bool.{false}
use mathlib.Core.List.{List, ◌++◌, append-nil}
use Prim.Native.Nat.{ℕ, ◌+◌, ◌≤◌, ◌<◌}
use native.Mathlib.Numerals.{add-one}
use native.Mathlib.Omega.{arith}
use lib.Dec.{leb}
use lib.ListN.{length, get_or, take, drop, set, drop_of_length-le}
use lib.Seq.{take_all, length-take-le}
use Rattle.lent.proofs.Tests.{by-test}
use Rattle.evidence.specs.PublicContracts.{GatesRow}
use Rattle.evidence.specs.Position.{fresh, gated}
use Rattle.evidence.specs.Row.{row_of, records_to_gate}
use Rattle.evidence.specs.declared.MethylationEvidence.{MethylationEvidence}
use Rattle.evidence.proofs.Rows.{gated_up_to, gated_more, length_gated, gates_within, row_is_left}
use Rattle.evidence.proofs.gate_row.Goals as goal

-- the record at place i is gated
next : (row row' : List MethylationEvidence) (i : ℕ) (e : MethylationEvidence) → i < length row → row' ≡ gated_up_to i row
    → e ≡ gated (get_or row' i (fresh false)) → set row' i e ≡ gated_up_to (i + 1) row
next row row' i e h is gives =
    rw (gives, is, add-one) (gated_more i row (fresh false) h)

-- the records that the domain allows are all or none: gated, and with the others after them, they are the row
joined : (row : List MethylationEvidence) → (let n = records_to_gate (length row) in gated_up_to n (take n row) ++ drop n row ≡ gated_up_to n row)
joined row =
    by-test (leb (length row) 16000)
    (λ e. rw (e, take_all (length row) row (omega arith), (let all : length row ≤ length row = omega arith in drop_of_length-le row all), append-nil (gated_up_to (length row) row)))
    (λ e. rw e)

at_end : (row items : List MethylationEvidence) (i n : ℕ) (r : Outcome ℕ) → r ≡ row_of (length (items ++ drop n row))
    → n ≡ records_to_gate (length row) → i ≤ length (take n row) → length (take n row) ≤ i → items ≡ gated_up_to i (take n row)
    → GatesRow row r (items ++ drop n row)
at_end row items i n r answered bound h k is =
    let e : i ≡ n = omega (arith, length-take-le n row (omega (arith, gates_within (length row)))) in
    let whole : items ++ drop n row ≡ gated_up_to (records_to_gate (length row)) row = rw (is, e, bound) (joined row) in
    (rw (whole, length_gated (records_to_gate (length row)) row) at answered, whole ∙ row_is_left row)

pub loop-e-preserved : goal.loop-e-preserved
loop-e-preserved c = next _ c.loop-e.e-items c.loop-e.e-index c.gated.result (omega arith) c.loop-e.invariant c.gated.ensures

pub returns : goal.returns
returns c = at_end _ _ _ _ _ c.answer_for_row.ensures c.records_to_gate-n.ensures (omega arith) (omega arith) c.loop-e.invariant

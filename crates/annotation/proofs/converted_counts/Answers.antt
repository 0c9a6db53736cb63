-- `converted_counts` passes on a refusal. Otherwise it writes the converted column's counts to the front of the row.
-- Assumes nothing.
use mathlib.Core.Path.{sym, ◌∙◌}
use Prim.Native.Nat.{ℕ}
use native.Mathlib.Omega.{arith}
use Rattle.columns.specs.Columns.{as_tag_counts}
use Rattle.lent.proofs.Outcome.{passed_on}
use Rattle.lent.proofs.Leaves.{said_done, refused_leaves, done_leaves}
use Rattle.annotation.proofs.Outcomes.{counts_in_room_done}
use Rattle.annotation.proofs.converted_counts.Goals as goal

pub returns-in_err-n : goal.returns-in_err-n
returns-in_err-n c = (
  passed_on _ _ c.from_residual.ensures.1 ∙ sym c.in_err-n.was ∙ c.counts_in_room.ensures,
  refused_leaves (λ (n : ℕ). as_tag_counts c.args.converted.now) c.counts_in_room.result _ c.in_err-n.field-0.0 c.args.counts.now
      c.counts_in_room.ensures c.in_err-n.was,
)

pub put_tag_counts-requires : goal.put_tag_counts-requires
put_tag_counts-requires c =
    omega (
      arith,
      counts_in_room_done _ _ _ _ _ (said_done c.counts_in_room.result _ _ c.counts_in_room.ensures
          c.in_ok-n.was),
    )

pub returns : goal.returns
returns c = (
  sym c.in_ok-n.was ∙ c.counts_in_room.ensures,
  rw c.put_tag_counts.ensures (done_leaves (λ (n : ℕ). as_tag_counts c.args.converted.now) c.counts_in_room.result _
      c.in_ok-n.n c.args.counts.now c.counts_in_room.ensures c.in_ok-n.was),
)

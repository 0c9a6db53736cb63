-- `gate_to_informative` passes on a refusal. Otherwise it gates both columns of counts.
-- Assumes nothing.
use mathlib.Core.Path.{sym, ◌∙◌}
use mathlib.Core.Bool.{cond}
use Prim.Native.Nat.{ℕ}
use native.Mathlib.Omega.{arith}
use lib.ListN.{length}
use Rattle.columns.specs.Columns.{is_yes, gated_counts}
use Rattle.lent.proofs.Tabulate.{length_zip}
use Rattle.lent.proofs.Outcome.{passed_on}
use Rattle.lent.proofs.Leaves.{said_done, refused_leaves, done_leaves_all}
use Rattle.annotation.proofs.Outcomes.{Columns, columns_done}
use Rattle.annotation.proofs.gate_to_informative.Goals as goal

pub returns-in_err-n : goal.returns-in_err-n
returns-in_err-n c =
    let w = c.columns_of.result in
    let e = c.columns_of.ensures in
    let inf = c.args.informative.now in (
      passed_on _ _ c.from_residual.ensures.1 ∙ sym c.in_err-n.was ∙ e,
      refused_leaves (λ (n : ℕ). gated_counts inf c.args.unconverted.now) w _ _ c.args.unconverted.now e c.in_err-n.was,
      refused_leaves (λ (n : ℕ). gated_counts inf c.args.converted.now) w _ _ c.args.converted.now e c.in_err-n.was,
    )

pub gate-requires : goal.gate-requires
gate-requires c =
    let columns : Columns (length c.args.informative.now) (length c.args.unconverted.now) (length c.args.converted.now) c.in_ok-n.n = columns_done _ _ _ _ (said_done c.columns_of.result _ _ c.columns_of.ensures c.in_ok-n.was) in
    omega (arith, columns)

pub gate-requires-2 : goal.gate-requires-2
gate-requires-2 c =
    let columns : Columns (length c.args.informative.now) (length c.args.unconverted.now) (length c.args.converted.now) c.in_ok-n.n = columns_done _ _ _ _ (said_done c.columns_of.result _ _ c.columns_of.ensures c.in_ok-n.was) in
    omega (arith, columns)

pub returns : goal.returns
returns c =
    let columns : Columns (length c.args.informative.now) (length c.args.unconverted.now) (length c.args.converted.now) c.in_ok-n.n = columns_done _ _ _ _ (said_done c.columns_of.result _ _ c.columns_of.ensures c.in_ok-n.was) in
    let w = c.columns_of.result in
    let e = c.columns_of.ensures in
    let inf = c.args.informative.now in
    let keep : ℕ → ℕ → ℕ = λ (y n : ℕ). cond (is_yes y) n 0 in (
      sym c.in_ok-n.was ∙ e,
      rw c.gate.ensures (done_leaves_all (λ (n : ℕ). gated_counts inf c.args.unconverted.now) w _ _ c.args.unconverted.now e
          c.in_ok-n.was (length_zip keep inf c.args.unconverted.now (omega (arith, columns)))),
      rw c.gate-2.ensures (done_leaves_all (λ (n : ℕ). gated_counts inf c.args.converted.now) w _ _ c.args.converted.now e
          c.in_ok-n.was (length_zip keep inf c.args.converted.now (omega (arith, columns)))),
    )

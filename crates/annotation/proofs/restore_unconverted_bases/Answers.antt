-- `restore_unconverted_bases` passes on a refusal. Otherwise it restores the bases in place.
-- Assumes nothing.
use mathlib.Core.Path.{sym, ◌∙◌}
use mathlib.Core.Bool.{cond, ◌&&◌}
use Prim.Native.Nat.{ℕ}
use native.Mathlib.Omega.{arith}
use lib.ListN.{length}
use Rattle.pattern.specs.Case.{same_in_any_case}
use Rattle.pattern.specs.Patterns.{bases_of}
use Rattle.columns.specs.Columns.{is_yes, restored}
use Rattle.lent.proofs.Tabulate.{length_zip}
use Rattle.lent.proofs.Outcome.{passed_on}
use Rattle.lent.proofs.Leaves.{said_done, refused_leaves, done_leaves_all}
use Rattle.annotation.proofs.Outcomes.{Restorable, restorable_done}
use Rattle.annotation.proofs.restore_unconverted_bases.Goals as goal

pub returns-in_err-n : goal.returns-in_err-n
returns-in_err-n c =
    let e = c.restorable.ensures in
    let seq = c.args.consensus_bases.now in
    (passed_on _ _ c.from_residual.ensures.1 ∙ sym c.in_err-n.was ∙ e, refused_leaves (λ (n : ℕ). restored c.args.pattern c.args.informative.now seq) c.restorable.result _ _ seq e c.in_err-n.was)

pub restore-requires : goal.restore-requires
restore-requires c =
    let lengths : Restorable (length c.args.consensus_bases.now) (length c.args.informative.now) c.in_ok-n.n = restorable_done _ _ _ (said_done c.restorable.result _ _ c.restorable.ensures c.in_ok-n.was) in
    omega (arith, lengths)

pub returns : goal.returns
returns c =
    let lengths : Restorable (length c.args.consensus_bases.now) (length c.args.informative.now) c.in_ok-n.n = restorable_done _ _ _ (said_done c.restorable.result _ _ c.restorable.ensures c.in_ok-n.was) in
    let e = c.restorable.ensures in
    let p = c.args.pattern in
    let inf = c.args.informative.now in
    let seq = c.args.consensus_bases.now in
    let one : ℕ → ℕ → ℕ = λ (y b : ℕ). cond (is_yes y && same_in_any_case b (bases_of p).converted) (bases_of p).unconverted b in (
      sym c.in_ok-n.was ∙ e,
      rw c.restore.ensures (done_leaves_all (λ (n : ℕ). restored p inf seq) c.restorable.result _ _ seq e
          c.in_ok-n.was (length_zip one inf seq (omega (arith, lengths)))),
    )

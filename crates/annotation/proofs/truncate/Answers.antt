-- `truncate` passes on a refusal. Otherwise it copies the positions that are kept to the front of each row.
-- Assumes nothing.
use mathlib.Core.Path.{◌≡◌, sym, ap, ◌∙◌}
use mathlib.Core.List.{List}
use Prim.Native.Nat.{ℕ}
use native.Mathlib.Omega.{arith}
use lib.ListN.{length, take, length-take, length-drop}
use Rattle.lent.specs.Outcome.{Outcome}
use Rattle.lent.specs.Filled.{over}
use Rattle.columns.specs.Columns.{as_yes}
use Rattle.refusals.specs.Refusals.{truncated}
use Rattle.lent.proofs.Tabulate.{front_is}
use Rattle.lent.proofs.Outcome.{passed_on}
use Rattle.lent.proofs.Leaves.{said_done, refused_leaves, done_leaves}
use Rattle.annotation.proofs.Outcomes.{Truncated, truncated_done}
use Rattle.annotation.proofs.truncate.Goals as goal

pub returns-in_err-k : goal.returns-in_err-k
returns-in_err-k c =
    let w = c.truncated.result in
    let o : Outcome ℕ = truncated c.args.len (length c.args.informative.now) (length c.args.unconverted.now) (length c.args.converted.now)
    (length c.args.kept_informative.now) (length c.args.kept_unconverted.now) (length c.args.kept_converted.now) in
    let e : w ≡ o = c.truncated.ensures in
    let t = c.in_err-k.was in (
      passed_on _ _ c.from_residual.ensures.1 ∙ sym t ∙ e,
      refused_leaves (λ (k : ℕ). as_yes (take k c.args.informative.now)) w o _ c.args.kept_informative.now e t,
      refused_leaves (λ (k : ℕ). take k c.args.unconverted.now) w o _ c.args.kept_unconverted.now e t,
      refused_leaves (λ (k : ℕ). take k c.args.converted.now) w o _ c.args.kept_converted.now e t,
    )

pub slice_bounds-copy_marks-end : goal.slice_bounds-copy_marks-end
slice_bounds-copy_marks-end c =
    let lengths : Truncated c.args.len (length c.args.informative.now) (length c.args.unconverted.now) (length c.args.converted.now) (length c.args.kept_informative.now) (length c.args.kept_unconverted.now) (length c.args.kept_converted.now) c.in_ok-k.k = (let o : Outcome ℕ = truncated c.args.len (length c.args.informative.now) (length c.args.unconverted.now) (length c.args.converted.now)
    (length c.args.kept_informative.now) (length c.args.kept_unconverted.now) (length c.args.kept_converted.now) in
    truncated_done _ _ _ _ _ _ _ _ (said_done c.truncated.result o _ c.truncated.ensures c.in_ok-k.was)) in
    omega (arith, lengths)

pub copy_marks-requires : goal.copy_marks-requires
copy_marks-requires c =
    let lengths : Truncated c.args.len (length c.args.informative.now) (length c.args.unconverted.now) (length c.args.converted.now) (length c.args.kept_informative.now) (length c.args.kept_unconverted.now) (length c.args.kept_converted.now) c.in_ok-k.k = (let o : Outcome ℕ = truncated c.args.len (length c.args.informative.now) (length c.args.unconverted.now) (length c.args.converted.now)
    (length c.args.kept_informative.now) (length c.args.kept_unconverted.now) (length c.args.kept_converted.now) in
    truncated_done _ _ _ _ _ _ _ _ (said_done c.truncated.result o _ c.truncated.ensures c.in_ok-k.was)) in
    simp (length-take, length-drop) (omega (arith, lengths))

pub slice_bounds-copy_counts-end : goal.slice_bounds-copy_counts-end
slice_bounds-copy_counts-end c =
    let lengths : Truncated c.args.len (length c.args.informative.now) (length c.args.unconverted.now) (length c.args.converted.now) (length c.args.kept_informative.now) (length c.args.kept_unconverted.now) (length c.args.kept_converted.now) c.in_ok-k.k = (let o : Outcome ℕ = truncated c.args.len (length c.args.informative.now) (length c.args.unconverted.now) (length c.args.converted.now)
    (length c.args.kept_informative.now) (length c.args.kept_unconverted.now) (length c.args.kept_converted.now) in
    truncated_done _ _ _ _ _ _ _ _ (said_done c.truncated.result o _ c.truncated.ensures c.in_ok-k.was)) in
    omega (arith, lengths)

pub copy_counts-requires : goal.copy_counts-requires
copy_counts-requires c =
    let lengths : Truncated c.args.len (length c.args.informative.now) (length c.args.unconverted.now) (length c.args.converted.now) (length c.args.kept_informative.now) (length c.args.kept_unconverted.now) (length c.args.kept_converted.now) c.in_ok-k.k = (let o : Outcome ℕ = truncated c.args.len (length c.args.informative.now) (length c.args.unconverted.now) (length c.args.converted.now)
    (length c.args.kept_informative.now) (length c.args.kept_unconverted.now) (length c.args.kept_converted.now) in
    truncated_done _ _ _ _ _ _ _ _ (said_done c.truncated.result o _ c.truncated.ensures c.in_ok-k.was)) in
    simp (length-take, length-drop) (omega
    (arith, lengths))

pub slice_bounds-copy_counts-end-2 : goal.slice_bounds-copy_counts-end-2
slice_bounds-copy_counts-end-2 c =
    let lengths : Truncated c.args.len (length c.args.informative.now) (length c.args.unconverted.now) (length c.args.converted.now) (length c.args.kept_informative.now) (length c.args.kept_unconverted.now) (length c.args.kept_converted.now) c.in_ok-k.k = (let o : Outcome ℕ = truncated c.args.len (length c.args.informative.now) (length c.args.unconverted.now) (length c.args.converted.now)
    (length c.args.kept_informative.now) (length c.args.kept_unconverted.now) (length c.args.kept_converted.now) in
    truncated_done _ _ _ _ _ _ _ _ (said_done c.truncated.result o _ c.truncated.ensures c.in_ok-k.was)) in
    omega (arith, lengths)

pub copy_counts-requires-2 : goal.copy_counts-requires-2
copy_counts-requires-2 c =
    let lengths : Truncated c.args.len (length c.args.informative.now) (length c.args.unconverted.now) (length c.args.converted.now) (length c.args.kept_informative.now) (length c.args.kept_unconverted.now) (length c.args.kept_converted.now) c.in_ok-k.k = (let o : Outcome ℕ = truncated c.args.len (length c.args.informative.now) (length c.args.unconverted.now) (length c.args.converted.now)
    (length c.args.kept_informative.now) (length c.args.kept_unconverted.now) (length c.args.kept_converted.now) in
    truncated_done _ _ _ _ _ _ _ _ (said_done c.truncated.result o _ c.truncated.ensures c.in_ok-k.was)) in
    simp (length-take, length-drop)
    (omega (arith, lengths))

pub returns : goal.returns
returns c =
    let a = c.args in
    let w = c.truncated.result in
    let o : Outcome ℕ = truncated a.len (length a.informative.now) (length a.unconverted.now) (length a.converted.now)
    (length a.kept_informative.now) (length a.kept_unconverted.now) (length a.kept_converted.now) in
    let e : w ≡ o = c.truncated.ensures in
    let k = c.in_ok-k.k in
    let t = c.in_ok-k.was in (
      sym {a = o} (said_done w o k e t),
      c.copy_marks.ensures
          ∙ ap (λ (l : List ℕ). over (as_yes l) a.kept_informative.now) (front_is k a.informative.now)
          ∙ done_leaves (λ (k : ℕ). as_yes (take k a.informative.now)) w o k a.kept_informative.now e t,
      c.copy_counts.ensures
          ∙ ap (λ (l : List ℕ). over l a.kept_unconverted.now) (front_is k a.unconverted.now)
          ∙ done_leaves (λ (k : ℕ). take k a.unconverted.now) w o k a.kept_unconverted.now e t,
      c.copy_counts-2.ensures
          ∙ ap (λ (l : List ℕ). over l a.kept_converted.now) (front_is k a.converted.now)
          ∙ done_leaves (λ (k : ℕ). take k a.converted.now) w o k a.kept_converted.now e t,
    )

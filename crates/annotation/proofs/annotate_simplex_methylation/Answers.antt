-- `annotate_simplex_methylation` passes on a refusal. Otherwise it lends the front of each column to `counting::fill`.
-- Assumes nothing.
use mathlib.Core.Path.{◌≡◌, sym, ◌∙◌}
use Prim.Native.Nat.{ℕ, ◌-◌}
use native.Mathlib.Omega.{arith}
use lib.ListN.{length, take, drop, length-take, length-drop}
use Rattle.lent.specs.Outcome.{Outcome}
use Rattle.pattern.specs.Patterns.{bases_of}
use Rattle.evidence.specs.Position.{capped}
use Rattle.columns.specs.Columns.{yes_byte, informative_at, informative_column}
use Rattle.counting.specs.Reads.{reads_of, bases_at, how_many, unconverted_column, converted_column}
use Rattle.refusals.specs.Refusals.{annotated}
use Rattle.lent.proofs.Tabulate.{length_tabulate, length_front, front_filled}
use Rattle.lent.proofs.Outcome.{passed_on}
use Rattle.lent.proofs.Leaves.{said_done, refused_leaves, done_leaves}
use Rattle.annotation.proofs.Outcomes.{Annotated, annotated_done}
use Rattle.annotation.proofs.annotate_simplex_methylation.Goals as goal

pub returns-in_err-n : goal.returns-in_err-n
returns-in_err-n c =
    let w = c.annotated.result in
    let o : Outcome ℕ = annotated c.args.consensus_len c.args.read_lengths.now c.args.read_bases.now c.args.read_aligned.now
    (length c.args.informative.now) (length c.args.unconverted.now) (length c.args.converted.now) in
    let e : w ≡ o = c.annotated.ensures in
    let t = c.in_err-n.was in
    let p = c.args.pattern in
    let row = c.args.ref_bases.now in
    let all? = c.args.count_all_positions in
    let reads = reads_of c.args.read_lengths.now c.args.read_bases.now c.args.read_aligned.now in (
      passed_on _ _ c.from_residual.ensures.1 ∙ sym t ∙ e,
      refused_leaves (informative_column p row) w o _ c.args.informative.now e t,
      refused_leaves (unconverted_column p all? row reads) w o _ c.args.unconverted.now e t,
      refused_leaves (converted_column p all? row reads) w o _ c.args.converted.now e t,
    )

pub slice_bounds-fill-end : goal.slice_bounds-fill-end
slice_bounds-fill-end c =
    let lengths : Annotated c.args.consensus_len c.args.read_lengths.now c.args.read_bases.now c.args.read_aligned.now (length c.args.informative.now) (length c.args.unconverted.now) (length c.args.converted.now) c.in_ok-n.n = (let o : Outcome ℕ = annotated c.args.consensus_len c.args.read_lengths.now c.args.read_bases.now c.args.read_aligned.now
    (length c.args.informative.now) (length c.args.unconverted.now) (length c.args.converted.now) in
    annotated_done _ _ _ _ _ _ _ _ (said_done c.annotated.result o _ c.annotated.ensures c.in_ok-n.was)) in
    omega (arith, lengths)

pub slice_bounds-fill-end-2 : goal.slice_bounds-fill-end-2
slice_bounds-fill-end-2 c =
    let lengths : Annotated c.args.consensus_len c.args.read_lengths.now c.args.read_bases.now c.args.read_aligned.now (length c.args.informative.now) (length c.args.unconverted.now) (length c.args.converted.now) c.in_ok-n.n = (let o : Outcome ℕ = annotated c.args.consensus_len c.args.read_lengths.now c.args.read_bases.now c.args.read_aligned.now
    (length c.args.informative.now) (length c.args.unconverted.now) (length c.args.converted.now) in
    annotated_done _ _ _ _ _ _ _ _ (said_done c.annotated.result o _ c.annotated.ensures c.in_ok-n.was)) in
    omega (arith, lengths)

pub slice_bounds-fill-end-3 : goal.slice_bounds-fill-end-3
slice_bounds-fill-end-3 c =
    let lengths : Annotated c.args.consensus_len c.args.read_lengths.now c.args.read_bases.now c.args.read_aligned.now (length c.args.informative.now) (length c.args.unconverted.now) (length c.args.converted.now) c.in_ok-n.n = (let o : Outcome ℕ = annotated c.args.consensus_len c.args.read_lengths.now c.args.read_bases.now c.args.read_aligned.now
    (length c.args.informative.now) (length c.args.unconverted.now) (length c.args.converted.now) in
    annotated_done _ _ _ _ _ _ _ _ (said_done c.annotated.result o _ c.annotated.ensures c.in_ok-n.was)) in
    omega (arith, lengths)

pub fill-requires : goal.fill-requires
fill-requires c =
    let lengths : Annotated c.args.consensus_len c.args.read_lengths.now c.args.read_bases.now c.args.read_aligned.now (length c.args.informative.now) (length c.args.unconverted.now) (length c.args.converted.now) c.in_ok-n.n = (let o : Outcome ℕ = annotated c.args.consensus_len c.args.read_lengths.now c.args.read_bases.now c.args.read_aligned.now
    (length c.args.informative.now) (length c.args.unconverted.now) (length c.args.converted.now) in
    annotated_done _ _ _ _ _ _ _ _ (said_done c.annotated.result o _ c.annotated.ensures c.in_ok-n.was)) in
    simp (length-take, length-drop) (omega (arith, lengths))

pub returns : goal.returns
returns c =
    let lengths : Annotated c.args.consensus_len c.args.read_lengths.now c.args.read_bases.now c.args.read_aligned.now (length c.args.informative.now) (length c.args.unconverted.now) (length c.args.converted.now) c.in_ok-n.n = (let o : Outcome ℕ = annotated c.args.consensus_len c.args.read_lengths.now c.args.read_bases.now c.args.read_aligned.now
    (length c.args.informative.now) (length c.args.unconverted.now) (length c.args.converted.now) in
    annotated_done _ _ _ _ _ _ _ _ (said_done c.annotated.result o _ c.annotated.ensures c.in_ok-n.was)) in
    let a = c.args in
    let w = c.annotated.result in
    let o : Outcome ℕ = annotated a.consensus_len a.read_lengths.now a.read_bases.now a.read_aligned.now
    (length a.informative.now) (length a.unconverted.now) (length a.converted.now) in
    let e : w ≡ o = c.annotated.ensures in
    let n = c.in_ok-n.n in
    let t = c.in_ok-n.was in
    let p = a.pattern in
    let row = a.ref_bases.now in
    let all? = a.count_all_positions in
    let reads = reads_of a.read_lengths.now a.read_bases.now a.read_aligned.now in
    let inf = a.informative.now in
    let m : length (take (n - 0) (drop 0 inf)) ≡ n = length_front n inf (omega (arith, lengths)) in
    let count : ℕ → ℕ → ℕ = λ (base i : ℕ). capped (how_many base (bases_at all? (informative_at p row i) i reads)) in (
      sym {a = o} (said_done w o n e t),
      front_filled (informative_column p row) n _ inf _ m (length_tabulate n (λ i. yes_byte (informative_at p row i))) c.fill.ensures.0
          ∙ done_leaves (informative_column p row) w o n inf e t,
      front_filled (unconverted_column p all? row reads) n _ a.unconverted.now _ m (length_tabulate n (count (bases_of p).unconverted))
          c.fill.ensures.1
          ∙ done_leaves (unconverted_column p all? row reads) w o n a.unconverted.now e t,
      front_filled (converted_column p all? row reads) n _ a.converted.now _ m (length_tabulate n (count (bases_of p).converted))
          c.fill.ensures.2
          ∙ done_leaves (converted_column p all? row reads) w o n a.converted.now e t,
    )

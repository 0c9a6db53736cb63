-- `put_text`: the text that waits is the edited tag's.
-- Assumes nothing.
use mathlib.Core.Path.{subst}
use Prim.Native.Nat.{ℕ, ◌≤◌}
use mathlib.Core.Bool.{true}
use mathlib.Core.List.{List, [], ◌∷◌}
use native.Mathlib.Omega.{arith}
use Rattle.record_fields.specs.Spots.{part}
use Rattle.record_pieces.proofs.PieceLaws.{no_longer, waiting_fits}
use Rattle.record_pieces.specs.Pens.{Wrote, text_in}
use Rattle.record_tags.specs.Plans.{by_window}
use Rattle.record_tags.specs.Values.{with_text}
use Rattle.record_pieces.proofs.put_text.Goals as goal

pub copy_text-end-requires : goal.copy_text-end-requires
copy_text-end-requires c =
    let xs = text_in (by_window c.args.lo c.args.after.now c.args.marks.now c.args.seq.now true c.args.mm.now c.args.ml.now) in
    let w = c.requires.waiting.1 c.if-pen.true in
    let short = no_longer c.args.lo c.args.after.now c.args.marks.now c.args.seq.now c.args.mm.now c.args.ml.now in
    (c.requires.at_in_bounds.0, waiting_fits xs c.args.work.now c.args.pen.kept w.0 w.1, omega (arith, short, w.0, c.requires.at_in_bounds))

pub returns-then-pen : goal.returns-then-pen
returns-then-pen c =
    let w = c.requires.waiting.1 c.if-pen.true in (
      λ (size : ℕ) (h : 4 ≤ size).
          subst (λ (xs : List ℕ). Wrote (with_text xs (part c.args.bam.now c.args.at size) ∷ []) c.args.pen.end c.args.out.now c.copy_text-end.result c.copy_text-end.new.out)
          w.1 (c.copy_text-end.ensures size h),
      c.requires.waiting,
    )

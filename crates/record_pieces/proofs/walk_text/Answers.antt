-- `walk_text`: the name and the type, the edited text, and a NUL; the values wait in the work row if it is long enough.
-- Assumes nothing.
use mathlib.Core.Path.{refl}
use Prim.Native.Nat.{ℕ, ◌+◌, ◌-◌, ◌≤◌}
use mathlib.Core.Bool.{true}
use native.Mathlib.Omega.{arith}
use Rattle.record_pieces.proofs.PieceLaws.{done_in, none_waits, now_waits, text_written}
use Rattle.record_pieces.specs.Pens.{text_in, values_in}
use Rattle.record_tags.specs.Plans.{by_window}
use Rattle.record_pieces.proofs.walk_text.Goals as goal

pub overflow_add-result : goal.overflow_add-result
overflow_add-result c = omega (arith, c.put_bytes-from.ensures.0, c.put_tag-put.ensures.text_in_bounds.0, c.requires.at_in_bounds)

pub returns : goal.returns
returns c =
    let o = by_window c.args.lo c.args.after.now c.args.marks.now c.args.seq.now true c.args.mm.now c.args.ml.now in
    let t = c.put_tag-put.ensures.text_value _ (done_in o c.requires.ml_value) in (
      λ (size : ℕ) (h : 4 ≤ size).
          text_written c.args.bam.now c.args.out.now c.put_bytes-from.new.out c.put_tag-put.new.out c.put.new.out c.args.at size c.args.end c.put_bytes-from.result (c.args.at + 3 - c.args.at) h (omega arith)
          c.put_bytes-from.ensures.0 c.put_bytes-from.ensures.1 (text_in o) c.put_tag-put.result.text (c.put_bytes-from.result + c.put_tag-put.result.text + 1) (omega arith) t.0 t.2 c.put.ensures refl,
      (now_waits (values_in o) c.args.work.now c.put_tag-put.new.work c.put_tag-put.result.values t.3 t.1, none_waits (text_in o) c.put_tag-put.new.work c.put_tag-put.result.values),
    )

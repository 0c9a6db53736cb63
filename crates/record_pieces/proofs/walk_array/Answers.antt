-- `walk_array`: the name and the type, the values, and their count; the text waits in the work row if it is long enough.
-- Assumes nothing.
use Prim.Native.Nat.{ℕ, ◌+◌, ◌-◌, ◌≤◌}
use mathlib.Core.Bool.{true}
use native.Mathlib.Omega.{arith}
use Rattle.record_pieces.proofs.PieceLaws.{done_in, none_waits, now_waits, values_first}
use Rattle.record_pieces.specs.Pens.{text_in, values_in}
use Rattle.record_tags.specs.Plans.{by_window}
use Rattle.record_pieces.proofs.walk_array.Goals as goal

pub returns : goal.returns
returns c =
    let o = by_window c.args.lo c.args.after.now c.args.marks.now c.args.seq.now true c.args.mm.now c.args.ml.now in
    let t = c.put_values-put.ensures.text_value _ (done_in o c.requires.ml_value) in (
      λ (size : ℕ) (h : 4 ≤ size).
          values_first c.args.bam.now c.args.out.now c.put_bytes-from.new.out c.put_values-put.new.out c.put_word.new.out c.args.at size c.args.end c.put_bytes-from.result (c.args.at + 4 - c.args.at) h (omega arith)
          c.put_bytes-from.ensures.0 c.put_bytes-from.ensures.1 (values_in o) c.put_values-put.result.values (c.put_bytes-from.result + 4 + c.put_values-put.result.values) (omega arith) t.1 t.2 c.put_word.ensures (omega (arith, t.1)),
      (none_waits (values_in o) c.put_values-put.new.work c.put_values-put.result.text, now_waits (text_in o) c.args.work.now c.put_values-put.new.work c.put_values-put.result.text t.3 t.0),
    )

-- `keep_record`: the record is copied, if it has room.
-- Assumes nothing.
use mathlib.Core.Path.{◌∙◌}
use mathlib.Core.Bool.{false}
use native.Mathlib.Omega.{arith}
use Rattle.lent.proofs.Filled.{over_stored}
use Rattle.record_tags.specs.Records.{finished_with}
use Rattle.record_writing.proofs.WalkLaws.{in_room_lem, no_room}
use Rattle.record_writing.proofs.whole.keep_record.Goals as goal

pub returns-then-out-bam : goal.returns-then-out-bam
returns-then-out-bam c =
    no_room (finished_with false c.args.bam.now) c.args.out.now (omega arith)

pub returns : goal.returns
returns c =
    in_room_lem (finished_with false c.args.bam.now) c.args.out.now c.put_bytes-n.new.out c.put_bytes-n.result (omega arith) (omega (arith, c.put_bytes-n.ensures.0))
    (c.put_bytes-n.ensures.1 ∙ over_stored c.args.bam.now c.args.out.now (omega arith))

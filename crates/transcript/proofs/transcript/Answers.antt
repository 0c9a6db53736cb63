-- `transcript` answers 1 for an input that is too long, and otherwise as `from_first` does. The output fits its row.
-- Assumes nothing.
use mathlib.Core.Path.{ap}
use Prim.Native.Nat.{◌≤◌}
use lib.ListN.{length}
use native.Mathlib.Omega.{arith}
use Rattle.lines.specs.Lines.{lines_of}
use Rattle.transcript.proofs.OpeningLaws.{filled, not_too_long, said_answer, said_same, too_long}
use Rattle.transcript.proofs.Room.{room}
use Rattle.transcript.specs.Transcript.{from_first, transcript_of}
use Rattle.transcript.proofs.transcript.Goals as goal

pub returns-then-input-gt65536 : goal.returns-then-input-gt65536
returns-then-input-gt65536 c =
    filled c.args.input.now c.put_answer.result c.args.out.now c.put_answer.new.out (omega arith)
    (said_answer (transcript_of c.args.input.now) c.put_answer.result c.args.out.now c.put_answer.new.out 1 (too_long c.args.input.now (omega arith)) c.put_answer.ensures)

pub from_first-requires : goal.from_first-requires
from_first-requires c =
    let fits : length c.args.input.now ≤ 65536 = omega arith in record { input_len_bound = fits; desk_fits = record { seq_room = omega arith; mm_room = omega arith; ml_room = omega arith }; input_len_bound_2 = omega (arith, room c.args.input.now, ap length (not_too_long c.args.input.now fits)) }

pub returns : goal.returns
returns c =
    let out = c.from_first.new.out in
    filled c.args.input.now c.from_first.result c.args.out.now out (omega arith)
    (said_same (transcript_of c.args.input.now) c.from_first.result c.args.out.now out (from_first (lines_of c.args.input.now))
    (not_too_long c.args.input.now (omega arith)) c.from_first.ensures)

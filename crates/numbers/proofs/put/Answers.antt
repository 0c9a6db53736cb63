-- `put` stores the entry if the place has room; past the room the row is unchanged.
-- Assumes nothing.
use mathlib.Core.Path.{sym}
use native.Mathlib.Omega.{arith}
use lib.Seq.{set_out}
use Rattle.numbers.proofs.put.Goals as goal

pub returns-else-at-out : goal.returns-else-at-out
returns-else-at-out g c = sym (set_out c.args.out.now c.args.at c.args.entry (omega arith))

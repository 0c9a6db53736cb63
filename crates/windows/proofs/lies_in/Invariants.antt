-- `lies_in`. Invariant: `after` lies in SEQ exactly when the flag is set and the remaining bytes lie there too.
-- Assumes nothing.
use mathlib.Core.Path.{◌≡◌}
use Prim.Native.Nat.{◌+◌}
use mathlib.Core.Bool.{◌&&◌}
use lib.ListN.{drop}
use Rattle.samtags.specs.Edits.{lies_in}
use Rattle.windows.proofs.lies_in.Given as goal

abbrev pub invariant-loop-i : goal.invariant-loop-i
invariant-loop-i l = lies_in l.after (drop l.lo l.seq) ≡ l.lies && lies_in (drop l.i l.after) (drop (l.lo + l.i) l.seq)

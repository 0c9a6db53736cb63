-- `put_bytes` stores the bytes that have room, and does not store the others.
-- Assumes nothing.
use mathlib.Core.Path.{◌≡◌}
use Prim.Native.Nat.{◌+◌}
use lib.ListN.{drop, length}
use lib.Seq.{sets}
use Rattle.record_rows.proofs.put_bytes.Given as goal

abbrev pub invariant-loop-i : goal.invariant-loop-i
invariant-loop-i l = (sets l.initial.out l.at l.bytes ≡ sets l.out (l.at + l.i) (drop l.i l.bytes)) × (length l.out ≡ length l.initial.out)

-- `all_ascii`. Invariant: the flag says whether all bytes so far are ASCII.
-- Assumes nothing.
use mathlib.Core.Path.{◌≡◌}
use lib.ListN.{take}
use Rattle.lent.specs.Lists.{every}
use Rattle.samtags.specs.Bytes.{is_ascii}
use Rattle.fields.proofs.all_ascii.Given as goal

abbrev pub invariant-loop-b : goal.invariant-loop-b
invariant-loop-b l = l.ascii ≡ every is_ascii (take l.b-index l.text)

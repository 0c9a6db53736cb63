-- `codes` takes marks off the end one by one, up to the first byte that is not a mark.
-- Assumes nothing.
use mathlib.Core.Path.{◌≡◌}
use Prim.Native.Nat.{◌-◌}
use lib.ListN.{drop, take}
use Rattle.samtags.specs.Text.{codes_of, without_marks}
use Rattle.headers.proofs.codes.Given as goal

abbrev pub invariant-loop-last : goal.invariant-loop-last
invariant-loop-last l = codes_of l.header ≡ without_marks (take (l.last - 2) (drop 2 l.header))

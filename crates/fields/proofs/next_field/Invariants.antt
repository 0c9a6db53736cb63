-- `next_field`: the part up to the next comma or semicolon, or up to the text's end.
-- Assumes nothing.
use mathlib.Core.Path.{◌≡◌}
use Prim.Native.Nat.{◌+◌, ◌-◌}
use lib.ListN.{drop, length}
use Rattle.fields.specs.Fields.{field_of}
use Rattle.fields.proofs.next_field.Given as goal

abbrev pub invariant-loop-end : goal.invariant-loop-end
invariant-loop-end l = length (field_of (drop l.from l.text)) ≡ (l.end - l.from) + length (field_of (drop l.end l.text))

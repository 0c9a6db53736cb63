-- `is_named`: the mark at the place; past the row's end no place is marked.
-- Assumes nothing.
use mathlib.Core.Path.{refl}
use native.Mathlib.Omega.{arith}
use lib.ListN.{get_or-eq_default}
use Rattle.changing.specs.Windows.{is_marked}
use Rattle.changing.proofs.is_named.Goals as goal

pub returns-then-marks-p : goal.returns-then-marks-p
unfolding is_marked
returns-then-marks-p c = rw (get_or-eq_default c.args.marks.now 0 {n = c.args.place.0} (omega arith))

pub returns : goal.returns
unfolding is_marked
returns c = refl

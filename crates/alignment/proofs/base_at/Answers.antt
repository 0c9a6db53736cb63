-- `base_at`, by cases: the place is negative, on the reference, or past its end.
-- Assumes nothing.
use mathlib.Core.Path.{◌≡◌, sym}
use Prim.Native.Nat.{◌≤◌}
use native.Mathlib.Omega.{arith}
use lib.ListN.{length, get_or-eq_default}
use lib.IntN.{pos}
use lib.Signed.{mag}
use Rattle.cigar.proofs.Signed.{was_negative, was_natural, cast_fits, cast_value}
use Rattle.alignment.proofs.base_at.Goals as goal

pub returns-then-place-lt0 : goal.returns-then-place-lt0
returns-then-place-lt0 c = rw (was_negative c.args.place c.ranges.place c.if-place-lt0.true)

pub overflow_cast-at : goal.overflow_cast-at
overflow_cast-at c =
    let natural : c.args.place ≡ pos (mag c.args.place) = was_natural c.args.place c.ranges.place c.if-place-lt0.false in
    cast_fits c.args.place c.ranges.place (natural)

pub returns-then-at-reference : goal.returns-then-at-reference
returns-then-at-reference c =
    let natural : c.args.place ≡ pos (mag c.args.place) = was_natural c.args.place c.ranges.place c.if-place-lt0.false in
    rw (cast_value c.args.place c.ranges.place (natural), natural)

pub returns : goal.returns
returns c =
    let natural : c.args.place ≡ pos (mag c.args.place) = was_natural c.args.place c.ranges.place c.if-place-lt0.false in
    let v = cast_value c.args.place c.ranges.place (natural) in
    let off : length c.args.reference.now ≤ mag c.args.place = omega arith in
    rw (natural) (sym (get_or-eq_default c.args.reference.now 0 off))

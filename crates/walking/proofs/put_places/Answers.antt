use native.Mathlib.Omega.{arith}
use mir.Syntax.{w64}
use mir.Facts.{to_z-of_z}
use Rattle.lent.proofs.Filled.{over_none, over_one_more}
use Rattle.walking.specs.Walk.{run, place_of}
use Rattle.walking.proofs.Walks.{run_more, run_none, length_run}
use Rattle.walking.proofs.put_places.Goals as goal

pub loop-i-init : goal.loop-i-init
loop-i-init c = rw (run_none c.args.is_reverse c.args.place) (over_none c.args.out.now)

pub loop-i-preserved : goal.loop-i-preserved
loop-i-preserved c =
    let a = c.args in
    let i = c.loop-i.i in
    rw (c.loop-i.invariant, to_z-of_z {w = w64} (record { sfits = c.place_of-at.type_inv }), c.place_of-at.ensures, run_more a.is_reverse a.place i)
    (over_one_more (run a.is_reverse a.place i) a.out.now i (place_of a.is_reverse a.place i) (length_run a.is_reverse a.place i) (omega arith))

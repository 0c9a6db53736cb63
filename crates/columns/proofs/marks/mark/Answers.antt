use mathlib.Core.Path.{◌≡◌, ◌∙◌}
use Prim.Native.Nat.{min}
use native.Mathlib.Omega.{arith}
use lib.ListN.{length}
use Rattle.lent.proofs.Tabulate.{changed_turn}
use Rattle.columns.proofs.Marked.{mark_at, mark_there, marked_column}
use Rattle.columns.proofs.marks.mark.Goals as goal

pub loop-i-preserved : goal.loop-i-preserved
loop-i-preserved c =
    let a = c.args in
    let row = a.ref_bases.now in
    changed_turn (mark_at a.pattern row) 0 c.clear.new.informative c.loop-i.informative c.loop-i.i c.mark_of.result c.loop-i.invariant
    (omega arith) (c.mark_of.ensures ∙ mark_there a.pattern row c.loop-i.i _ (omega arith))

pub returns : goal.returns
returns c =
    let a = c.args in
    let all : c.loop-i.i ≡ min (length a.ref_bases.now) (length a.informative.now) = omega arith in
    rw (c.loop-i.invariant, c.clear.ensures) (marked_column a.pattern a.ref_bases.now (length a.informative.now) c.loop-i.i all)

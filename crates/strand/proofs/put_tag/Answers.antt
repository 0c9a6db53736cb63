-- `put_tag` writes the group if there is a call, and nothing otherwise.
-- Assumes nothing.
use mathlib.Core.Path.{◌≡◌, refl}
use Prim.Native.Nat.{◌<◌}
use native.Mathlib.Omega.{arith}
use lib.ListN.{length}
use Rattle.samtags.proofs.OwnTag.{own_empty, own_full}
use Rattle.samtags.specs.Building.{Evidence, columns, own_tag}
use Rattle.samtags.specs.Writing.{ml_of, text_of, written}
use Rattle.strand.proofs.put_tag.Goals as goal

pub returns-then-calls-ne0 : goal.returns-then-calls-ne0
returns-then-calls-ne0 c =
    let a = c.args in
    let ev : Evidence = columns a.informative.now a.unconverted.now a.converted.now in
    let put = c.put_group in
    let some-call : 0 < length (own_tag a.mode a.pattern ev a.seq.now).ml = omega arith in
    rw (own_full a.mode a.pattern ev a.seq.now some-call) (put.ensures.2, put.ensures.3)

pub returns-else-calls-ne0 : goal.returns-else-calls-ne0
unfolding text_of ml_of written
returns-else-calls-ne0 c =
    let a = c.args in
    let ev : Evidence = columns a.informative.now a.unconverted.now a.converted.now in
    let no_call : length (own_tag a.mode a.pattern ev a.seq.now).ml ≡ 0 = omega arith in
    rw (own_empty a.mode a.pattern ev a.seq.now no_call) (refl, refl)

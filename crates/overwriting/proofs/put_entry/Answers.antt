-- `put_entry`, by cases: a base that is gone leaves the rows unchanged, a dropped call counts as one more passed base, and any other call is written.
-- Assumes nothing.
use mathlib.Core.Path.{◌∙◌, ◌≡◌, refl, sym}
use Prim.Native.Nat.{◌+◌}
use native.Mathlib.Omega.{arith}
use lib.ListN.{drop, length, length-drop, take}
use lib.Seq.{length-take-le}
use Rattle.entries.proofs.PutLaws.{entry_stored}
use Rattle.overwriting.proofs.put_entry.Goals as goal

pub returns-then-not-held : goal.returns-then-not-held
returns-then-not-held c = rw (sym c.still_held-held.ensures ∙ c.if-not-held.true)

pub returns-then-named : goal.returns-then-named
returns-then-named c = rw (
  sym c.still_held-held.ensures ∙ c.if-not-held.false,
  sym
      c.is_named-named.ensures ∙ c.if-named.true,
) refl

pub move_left-requires : goal.move_left-requires
move_left-requires c = (omega arith, omega arith)

pub returns : goal.returns
returns c =
    let v = c.move_left.ensures in
    let vs = take c.args.kind.values (drop c.args.used c.args.ml.now) in
    let size : length vs ≡ c.args.kind.values = length-take-le c.args.kind.values (drop c.args.used c.args.ml.now) (omega (
      arith,
      c.requires,
      length-drop c.args.used c.args.ml.now,
    )) in
    let kept : c.args.pen.kept + c.args.kind.values ≡ c.args.pen.kept + length vs = omega arith in
    rw (
      sym c.still_held-held.ensures ∙ c.if-not-held.false,
      sym
          c.is_named-named.ensures ∙
          c.if-named.false,
    )
    (entry_stored c.args.text.now c.args.pen.end c.args.ml.now c.args.pen.kept c.args.pen.gap vs _ _ _ _ c.put_skip-next_end.ensures.0 c.put_skip-next_end.ensures.1 kept v)

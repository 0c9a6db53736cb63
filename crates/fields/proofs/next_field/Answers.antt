use Prim.Native.Nat.{◌-◌}
use native.Mathlib.Omega.{arith}
use lib.ListN.{drop, length}
use Rattle.fields.proofs.FieldLaws.{field_comma, field_end, field_part, field_semicolon}
use Rattle.fields.proofs.next_field.Goals as goal

pub returns-then-text-end-eq44 : goal.returns-then-text-end-eq44
returns-then-text-end-eq44 c =
    let a = c.args in
    field_part (drop a.from a.text.now) (c.loop-end.end - a.from)
    (omega (arith, field_comma a.text.now c.loop-end.end (omega arith) (omega arith)))

pub returns-then-text-end-eq59 : goal.returns-then-text-end-eq59
returns-then-text-end-eq59 c =
    let a = c.args in
    field_part (drop a.from a.text.now) (c.loop-end.end - a.from)
    (omega (arith, field_semicolon a.text.now c.loop-end.end (omega arith) (omega arith)))

pub returns : goal.returns
returns c =
    let a = c.args in
    field_part (drop a.from a.text.now) (length a.text.now - a.from) (omega (arith, field_end a.text.now c.loop-end.end (omega arith)))

-- `field_size`: a field takes three bytes and its value, and all of them are there.
-- Assumes nothing.
use mathlib.Core.Path.{◌∙◌, refl, sym}
use Prim.Native.Nat.{◌+◌, ◌-◌}
use native.Mathlib.Omega.{arith}
use lib.ListN.{drop, get_or, length}
use Rattle.record_fields.proofs.SizeLaws.{field_at, in_fits, in_long, in_none, in_short}
use Rattle.record_fields.specs.Fields.{value_size}
use Rattle.record_fields.proofs.sizes.field_size.Goals as goal

pub returns-then-left-lt3 : goal.returns-then-left-lt3
returns-then-left-lt3 c =
    let a = c.args in
    let b = a.bytes.now in
    sym (field_at b a.at _ refl ∙ in_short (length b - a.at) (value_size (get_or b (a.at + 2) 0) (drop (a.at + 3) b)) (omega arith))

pub returns-then-n-eq0 : goal.returns-then-n-eq0
returns-then-n-eq0 c =
    let a = c.args in
    let b = a.bytes.now in
    let v = c.value_size-n in
    sym (field_at b a.at v.result v.ensures ∙ in_none (length b - a.at) v.result (omega arith))

pub returns-then-left-n : goal.returns-then-left-n
returns-then-left-n c =
    let a = c.args in
    let b = a.bytes.now in
    let v = c.value_size-n in
    sym (field_at b a.at v.result v.ensures ∙ in_long (length b - a.at) v.result (omega arith))

pub returns : goal.returns
returns c =
    let a = c.args in
    let b = a.bytes.now in
    let v = c.value_size-n in
    sym (field_at b a.at v.result v.ensures ∙ in_fits (length b - a.at) v.result (λ q. omega arith) (omega arith))

-- `measure`: nothing without a chemistry or a call, and otherwise the group's sizes.
-- Assumes nothing.
use mathlib.Core.Path.{◌∙◌, ◌≡◌, refl, sym}
use Prim.Native.Nat.{◌<◌}
use native.Mathlib.Omega.{arith}
use mathlib.Core.Bool.{false, true}
use mathlib.Core.List.{[], ◌∷◌}
use lib.ListN.{length}
use Rattle.pattern.specs.Patterns.{is_enabled}
use Rattle.samtags.proofs.OwnTag.{no_values, own_called, own_disabled, own_silent, some_values}
use Rattle.samtags.specs.Building.{Evidence, columns, strand_group}
use Rattle.samtags.specs.Writing.{ml_of, text_of, written}
use Rattle.strand.proofs.measure.Goals as goal

pub returns-then-not-enabled : goal.returns-then-not-enabled
unfolding written text_of ml_of
returns-then-not-enabled c =
    let a = c.args in
    let ev : Evidence = columns a.informative.now a.unconverted.now a.converted.now in
    let off : is_enabled a.mode ≡ false = sym c.is_enabled-enabled.ensures ∙ c.if-not-enabled.true in
    rw (own_disabled a.mode a.pattern ev a.seq.now off) (refl, refl)

pub returns-then-sizes-eq0 : goal.returns-then-sizes-eq0
unfolding text_of ml_of written
returns-then-sizes-eq0 c =
    let a = c.args in
    let ev : Evidence = columns a.informative.now a.unconverted.now a.converted.now in
    let put = c.put_group-sizes in
    let no_value : length (written (strand_group a.mode a.pattern ev a.seq.now ∷ [])).ml ≡ 0 = omega (arith, put.ensures.1) in
    rw (own_silent a.mode a.pattern ev a.seq.now (no_values a.mode a.pattern ev a.seq.now no_value)) (refl, refl)

pub returns : goal.returns
returns c =
    let a = c.args in
    let ev : Evidence = columns a.informative.now a.unconverted.now a.converted.now in
    let put = c.put_group-sizes in
    let on : is_enabled a.mode ≡ true = sym c.is_enabled-enabled.ensures ∙ c.if-not-enabled.false in
    let values : 0 < length (written (strand_group a.mode a.pattern ev a.seq.now ∷ [])).ml = omega (arith, put.ensures.1) in
    rw (own_called a.mode a.pattern ev a.seq.now on (some_values a.mode a.pattern ev a.seq.now values)) (put.ensures.0, put.ensures.1)

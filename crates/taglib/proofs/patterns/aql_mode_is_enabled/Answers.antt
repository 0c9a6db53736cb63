-- `aql_mode_is_enabled`: whether a chemistry is chosen, for C.
-- Assumes nothing.
use Rattle.std.specs.Prelude.{Ok, Err}
use mathlib.Core.Path.{◌≡◌, ◌∙◌, ap, refl, sym}
use Rattle.modes.specs.Modes.{mode_of}
use Rattle.taglib.proofs.Yes.{yes_told}
use Rattle.taglib.proofs.patterns.aql_mode_is_enabled.Reads as reads
use Rattle.taglib.proofs.patterns.aql_mode_is_enabled.Lts as lts
use Rattle.pattern.proofs.MethylationMode.is_enabled.Reads as is-enabled-reads
use Rattle.modes.proofs.mode_of.Reads as mode-of-reads
use Rattle.taglib.proofs.patterns.aql_mode_is_enabled.Goals as goal

pub returns-in-Ok : goal.returns-in-Ok
returns-in-Ok c =
    let e : mode_of c.args.mode ≡ Ok c.in-Ok.chosen = sym c.mode_of.ensures ∙ c.in-Ok.is in
    rw e (refl, yes_told c.is_enabled.ensures)

pub returns-in-Err : goal.returns-in-Err
returns-in-Err c =
    let e : mode_of c.args.mode ≡ Err c.in-Err.refusal = sym c.mode_of.ensures ∙ c.in-Err.is in
    rw e (c.number.ensures, refl)

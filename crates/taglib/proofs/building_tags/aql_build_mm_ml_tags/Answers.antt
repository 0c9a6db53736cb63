-- `aql_build_mm_ml_tags`: a strand's text and ML, for C.
-- Assumes nothing.
use Rattle.std.specs.Prelude.{Ok, Err}
use mathlib.Core.Path.{◌≡◌, ◌∙◌, ap, refl, sym}
use mathlib.Core.Bool.{true}
use lib.ListN.{length}
use Rattle.lent.specs.Filled.{leaves}
use Rattle.pattern.specs.Patterns.{pattern_of}
use Rattle.samtags.specs.Writing.{sizes_of}
use Rattle.samtags.specs.Building.{Evidence, columns, build_tag}
use Rattle.telling.proofs.Handed.{number_handed, told_handed}
use Rattle.modes.specs.Modes.{mode_of}
use Rattle.taglib.proofs.building_tags.aql_build_mm_ml_tags.Reads as reads
use Rattle.taglib.proofs.building_tags.aql_build_mm_ml_tags.Lts as lts
use Rattle.building.proofs.build_mm_ml_tags.Reads as build-mm-ml-tags-reads
use Rattle.pattern.proofs.ConversionPattern.from_read_flags.Reads as from-read-flags-reads
use Rattle.modes.proofs.mode_of.Reads as mode-of-reads
use Rattle.telling.proofs.both.Reads as tagged-reads
use Rattle.taglib.proofs.building_tags.aql_build_mm_ml_tags.Goals as goal

pub returns-in-Ok : goal.returns-in-Ok
returns-in-Ok c =
    let e : mode_of c.args.mode ≡ Ok c.in-Ok.chosen = sym c.mode_of.ensures ∙ c.in-Ok.is in
    let ev : Evidence = columns c.args.informative.now c.args.unconverted.now c.args.converted.now in
    let o = build_tag true c.in-Ok.chosen (pattern_of c.args.read_flags) ev c.args.consensus_bases.now (length c.args.mm.now) (length c.args.ml.now) in
    let made = rw c.from_read_flags.ensures at c.build_mm_ml_tags-answer.ensures in
    rw e (
      number_handed sizes_of o made.0 c.both.ensures.0,
      told_handed (λ s. s.0) sizes_of o c.args.mm_len.now made.0 c.both.ensures.1,
      told_handed (λ s. s.1) sizes_of o c.args.ml_len.now made.0 c.both.ensures.2,
      made.1,
      made.2,
    )

pub returns-in-Err : goal.returns-in-Err
unfolding leaves
returns-in-Err c =
    let e : mode_of c.args.mode ≡ Err c.in-Err.refusal = sym c.mode_of.ensures ∙ c.in-Err.is in
    rw e (c.number.ensures, refl, refl, refl, refl)

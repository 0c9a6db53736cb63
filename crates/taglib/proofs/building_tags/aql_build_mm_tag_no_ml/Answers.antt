-- `aql_build_mm_tag_no_ml`: a strand's text alone, for C.
-- Assumes nothing.
use Rattle.std.specs.Prelude.{Ok, Err}
use mathlib.Core.Path.{◌≡◌, ◌∙◌, ap, refl, sym}
use Prim.Native.Nat.{ℕ}
use mathlib.Core.Bool.{false}
use lib.ListN.{length}
use Rattle.lent.specs.Filled.{leaves}
use Rattle.pattern.specs.Patterns.{pattern_of}
use Rattle.samtags.specs.Writing.{Tag}
use Rattle.samtags.specs.Building.{Evidence, columns, build_tag}
use Rattle.telling.proofs.Handed.{number_handed, told_handed}
use Rattle.modes.specs.Modes.{mode_of}
use Rattle.taglib.proofs.building_tags.aql_build_mm_tag_no_ml.Reads as reads
use Rattle.taglib.proofs.building_tags.aql_build_mm_tag_no_ml.Lts as lts
use Rattle.building.proofs.build_mm_tag_no_ml.Reads as build-mm-tag-no-ml-reads
use Rattle.pattern.proofs.ConversionPattern.from_read_flags.Reads as from-read-flags-reads
use Rattle.modes.proofs.mode_of.Reads as mode-of-reads
use Rattle.telling.proofs.written.Reads as written-reads
use Rattle.taglib.proofs.building_tags.aql_build_mm_tag_no_ml.Goals as goal

pub returns-in-Ok : goal.returns-in-Ok
returns-in-Ok c =
    let e : mode_of c.args.mode ≡ Ok c.in-Ok.chosen = sym c.mode_of.ensures ∙ c.in-Ok.is in
    let ev : Evidence = columns c.args.informative.now c.args.unconverted.now c.args.converted.now in
    let o = build_tag false c.in-Ok.chosen (pattern_of c.args.read_flags) ev c.args.consensus_bases.now (length c.args.mm.now) 0 in
    let text_length : Tag → ℕ = λ t. length t.text in
    let made = rw c.from_read_flags.ensures at c.build_mm_tag_no_ml-answer.ensures in
    rw e (
      number_handed text_length o made.0 c.written.ensures.0,
      told_handed (λ m. m) text_length o c.args.mm_len.now made.0 c.written.ensures.1,
      made.1,
    )

pub returns-in-Err : goal.returns-in-Err
unfolding leaves
returns-in-Err c =
    let e : mode_of c.args.mode ≡ Err c.in-Err.refusal = sym c.mode_of.ensures ∙ c.in-Err.is in
    rw e (c.number.ensures, refl, refl)

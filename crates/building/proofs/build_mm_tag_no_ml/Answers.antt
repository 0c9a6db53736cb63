-- `build_mm_tag_no_ml` passes on a refusal, answers 12 if the row has no room, and otherwise stores the strand's text.
-- Assumes nothing.
use Rattle.std.specs.Prelude.{Ok}
use mathlib.Core.Path.{◌∙◌, ap, refl, sym}
use Prim.Native.Nat.{◌≤◌}
use native.Mathlib.Omega.{arith}
use mathlib.Core.Bool.{false}
use lib.ListN.{length}
use Rattle.building.proofs.Measured.{Measured, measured, not_built}
use Rattle.lent.proofs.Filled.{over_stored}
use Rattle.lent.specs.Filled.{leaves}
use Rattle.samtags.proofs.Room.{no_room_for_text, room_for_text}
use Rattle.samtags.specs.Building.{Evidence, build_tag, columns, own_tag}
use Rattle.samtags.specs.Writing.{Tag}
use Rattle.lent.proofs.Outcome.{passed_on}
use Rattle.building.proofs.build_mm_tag_no_ml.Goals as goal

pub returns-in_err-text_len : goal.returns-in_err-text_len
unfolding leaves
returns-in_err-text_len c =
    let ev : Evidence = columns c.args.informative.now c.args.unconverted.now c.args.converted.now in
    let off = not_built c.args.methylation_mode c.args.pattern ev c.args.consensus_bases.now false (length c.args.mm.now) 0 c.in_err-text_len.field-0.0
    (sym c.measure.ensures ∙ c.in_err-text_len.was) in
    rw off (passed_on _ _ c.from_residual.ensures.1, refl)

pub returns-then-mm-text_len : goal.returns-then-mm-text_len
unfolding leaves build_tag
returns-then-mm-text_len c =
    let found : Measured c.args.methylation_mode c.args.pattern (columns c.args.informative.now c.args.unconverted.now c.args.converted.now) c.args.consensus_bases.now c.in_ok-text_len.text_len c.in_ok-text_len.calls = measured c.args.methylation_mode c.args.pattern (columns c.args.informative.now c.args.unconverted.now c.args.converted.now) c.args.consensus_bases.now
    c.in_ok-text_len.text_len c.in_ok-text_len.calls (sym c.measure.ensures ∙ c.in_ok-text_len.was) in
    let f = found in
    let ev : Evidence = columns c.args.informative.now c.args.unconverted.now c.args.converted.now in
    let own : Tag = own_tag c.args.methylation_mode c.args.pattern ev c.args.consensus_bases.now in
    rw (f.built, no_room_for_text (length c.args.mm.now) 0 own false (omega (arith, f.text))) (refl, refl)

pub put_tag-requires : goal.put_tag-requires
put_tag-requires c =
    let found : Measured c.args.methylation_mode c.args.pattern (columns c.args.informative.now c.args.unconverted.now c.args.converted.now) c.args.consensus_bases.now c.in_ok-text_len.text_len c.in_ok-text_len.calls = measured c.args.methylation_mode c.args.pattern (columns c.args.informative.now c.args.unconverted.now c.args.converted.now) c.args.consensus_bases.now
    c.in_ok-text_len.text_len c.in_ok-text_len.calls (sym c.measure.ensures ∙ c.in_ok-text_len.was) in
    let f = found in
    record { seq_len_bound = (f.lengths.short, f.lengths.inf, f.lengths.unc, f.lengths.con); calls_value = f.values }

pub returns : goal.returns
unfolding leaves build_tag
returns c =
    let found : Measured c.args.methylation_mode c.args.pattern (columns c.args.informative.now c.args.unconverted.now c.args.converted.now) c.args.consensus_bases.now c.in_ok-text_len.text_len c.in_ok-text_len.calls = measured c.args.methylation_mode c.args.pattern (columns c.args.informative.now c.args.unconverted.now c.args.converted.now) c.args.consensus_bases.now
    c.in_ok-text_len.text_len c.in_ok-text_len.calls (sym c.measure.ensures ∙ c.in_ok-text_len.was) in
    let f = found in
    let ev : Evidence = columns c.args.informative.now c.args.unconverted.now c.args.converted.now in
    let own : Tag = own_tag c.args.methylation_mode c.args.pattern ev c.args.consensus_bases.now in
    let t-fits : length own.text ≤ length c.args.mm.now = omega (arith, f.text) in
    rw (f.built, room_for_text (length c.args.mm.now) 0 own t-fits) (
      ap Ok f.text,
      c.put_tag.ensures.0 ∙ over_stored own.text c.args.mm.now t-fits,
    )

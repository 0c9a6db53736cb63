use mathlib.Core.Path.{◌∙◌, ◌≡◌, sym}
use Prim.Native.Nat.{◌+◌, ◌<◌}
use native.Mathlib.Omega.{arith}
use mathlib.Core.List.{[]}
use lib.ListN.{length}
use Rattle.samtags.proofs.Skips.{entries_short}
use Rattle.samtags.specs.Building.{Evidence, columns}
use Rattle.strand.proofs.Spots.{one_spot, one_value, spots_end, text_turn, values_turn}
use Rattle.strand.specs.Walk.{spots_at, spots_from}
use Rattle.strand.proofs.put_entries.Goals as goal
use Rattle.strand.proofs.put_entries.Invariants.{entries_from, values_from}

pub loop-place-preserved : goal.loop-place-preserved
loop-place-preserved c =
    let a = c.args in
    let h = c.loop-place in
    let pass = c.pass_place-pen in
    let ev : Evidence = columns a.informative.now a.unconverted.now a.converted.now in
    let low : h.place < length a.seq.now = omega arith in
    let here = spots_at a.mode a.pattern ev a.seq.now h.place in
    let short = entries_short h.pen.skip here in
    let text = text_turn a.mode a.pattern ev a.seq.now h.place low h.text pass.new.text h.pen.text pass.result.text
    h.pen.skip pass.result.skip pass.ensures.0 pass.ensures.1 pass.ensures.3 in
    let values = values_turn a.mode a.pattern ev a.seq.now h.place low h.ml pass.new.ml h.pen.values pass.result.values
    pass.ensures.2 pass.ensures.4 in (
      omega (arith, h.invariant.0, pass.ensures.0, pass.ensures.1, short, one_spot a.mode a.pattern ev a.seq.now h.place),
      omega (arith, h.invariant.1, pass.ensures.2, one_value a.mode a.pattern ev a.seq.now h.place),
      h.invariant.2 ∙ text.0,
      h.invariant.3 ∙ values.0,
      h.invariant.4 ∙ text.1,
      h.invariant.5 ∙ values.1,
    )

pub returns : goal.returns
returns c =
    let a = c.args in
    let h = c.loop-place in
    let ev : Evidence = columns a.informative.now a.unconverted.now a.converted.now in
    let over : spots_from a.mode a.pattern ev a.seq.now h.place ≡ [] = spots_end a.mode a.pattern ev a.seq.now h.place (omega arith) in
    let text : a.at + length (entries_from a.mode a.pattern a.seq.now a.informative.now a.unconverted.now a.converted.now 0 0) ≡ h.pen.text + 0 =
    rw over at h.invariant.2 in
    let values : 0 + length (values_from a.mode a.pattern a.seq.now a.informative.now a.unconverted.now a.converted.now 0) ≡ h.pen.values + 0 =
    rw over at h.invariant.3 in (
      omega (arith, text),
      omega (arith, values),
      sym (rw over at h.invariant.4),
      sym (rw over at h.invariant.5),
    )

-- `put_back` packs the bases of a step that is done, and passes the answer on.
-- Assumes nothing.
use Rattle.std.specs.Prelude.{Ok}
use Rattle.lent.specs.Outcome.{Outcome}
use Rattle.stepping.specs.declared.Lengths.{Lengths as Declared}
use mathlib.Core.Path.{◌∙◌, ◌≡◌, ap, subst, sym}
use Prim.Native.Nat.{ℕ, ◌-◌}
use native.Mathlib.Omega.{arith}
use lib.ListN.{take}
use lib.Seq.{length-take-le}
use Rattle.lent.specs.Filled.{over}
use Rattle.packed.specs.Stored.{as_stored}
use Rattle.stored_steps.specs.Back.{FitsBack, packed_back}
use Rattle.stored_steps.proofs.put_back.Goals as goal

pub slice_bounds-pack_row-end : goal.slice_bounds-pack_row-end
slice_bounds-pack_row-end c =
    let fits : FitsBack (Ok c.in-Ok.held) c.args.row.now c.args.packed.now =
    subst (λ (r : Outcome Declared). FitsBack r c.args.row.now c.args.packed.now) c.in-Ok.is c.requires in
    omega (arith, fits.1)

pub pack_row-requires : goal.pack_row-requires
pack_row-requires c =
    let fits : FitsBack (Ok c.in-Ok.held) c.args.row.now c.args.packed.now =
    subst (λ (r : Outcome Declared). FitsBack r c.args.row.now c.args.packed.now) c.in-Ok.is c.requires in
    let long = length-take-le (c.in-Ok.held.seq - 0) c.args.row.now (omega (arith, fits.1)) in
    (omega (arith, long, fits.0), omega (arith, long, fits.2))

pub returns : goal.returns
returns c =
    let none : c.in-Ok.held.seq - 0 ≡ c.in-Ok.held.seq = omega arith in
    let made : c.pack_row.new.out ≡ over (as_stored c.args.reverse (take (c.in-Ok.held.seq - 0) c.args.row.now)) c.args.packed.now = c.pack_row.ensures in (
      sym c.in-Ok.is,
      made
          ∙ ap (λ (k : ℕ). over (as_stored c.args.reverse (take k c.args.row.now)) c.args.packed.now) none
          ∙ ap (λ (r : Outcome Declared). packed_back r c.args.reverse c.args.row.now c.args.packed.now) (sym c.in-Ok.is),
    )

-- `as_stored` mirrors the listed places of a reverse read, and passes the answer on.
-- Assumes nothing.
use Rattle.std.specs.Prelude.{Ok, ℕ}
use Rattle.lent.specs.Outcome.{Outcome}
use mathlib.Core.Path.{◌∙◌, ◌≡◌, ap, subst, sym}
use Prim.Native.Nat.{◌-◌, ◌≤◌}
use native.Mathlib.Omega.{arith}
use mathlib.Core.Bool.{Bool}
use mathlib.Core.List.{map}
use lib.ListN.{length, take}
use Rattle.packed.specs.Stored.{mirrored}
use Rattle.stored.proofs.ColumnLaws.{front_mirrored}
use Rattle.stored.specs.Mirrors.{CallsIn, places_as_stored}
use Rattle.stored.proofs.as_stored.Goals as goal

pub slice_bounds-mirror_all-end : goal.slice_bounds-mirror_all-end
slice_bounds-mirror_all-end c =
    let fits : c.in-Ok.calls ≤ length c.args.places.now = subst (λ (r : Outcome (ℕ × ℕ)). CallsIn r (length c.args.places.now)) c.in-Ok.is c.requires.1 in
    omega (arith, fits)

pub returns-then-reverse : goal.returns-then-reverse
returns-then-reverse c =
    let fits : c.in-Ok.calls ≤ length c.args.places.now = subst (λ (r : Outcome (ℕ × ℕ)). CallsIn r (length c.args.places.now)) c.in-Ok.is c.requires.1 in
    let new : c.mirror_all.new.places ≡ map (mirrored c.args.n) (take (c.in-Ok.calls - 0) c.args.places.now) = c.mirror_all.ensures in (
      sym c.in-Ok.is,
      front_mirrored c.args.n c.in-Ok.calls (c.in-Ok.calls - 0) c.args.places.now c.mirror_all.new.places (omega arith) fits new
          ∙ ap (λ (w : Bool). places_as_stored (Ok (c.in-Ok.groups, c.in-Ok.calls)) w c.args.n c.args.places.now) (sym c.if-reverse.true)
          ∙ ap (λ (r : Outcome (ℕ × ℕ)). places_as_stored r c.args.reverse c.args.n c.args.places.now) (sym c.in-Ok.is),
    )

pub returns : goal.returns
returns c = (
  sym c.in-Ok.is,
  ap (λ (w : Bool). places_as_stored (Ok (c.in-Ok.groups, c.in-Ok.calls)) w c.args.n c.args.places.now) (sym c.if-reverse.false)
      ∙ ap (λ (r : Outcome (ℕ × ℕ)). places_as_stored r c.args.reverse c.args.n c.args.places.now) (sym c.in-Ok.is),
)

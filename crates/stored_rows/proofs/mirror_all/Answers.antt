use mathlib.Core.Path.{◌∙◌, ◌≡◌, ap}
use Prim.Native.Nat.{ℕ}
use native.Mathlib.Omega.{arith}
use lib.ListN.{length, length-set}
use Rattle.lent.proofs.InPlace.{changed_is_map, changed_up_to}
use Rattle.lent.proofs.Tabulate.{changed_turn}
use Rattle.packed.specs.Stored.{mirrored}
use Rattle.stored_rows.proofs.mirror_all.Goals as goal

pub loop-place-preserved : goal.loop-place-preserved
loop-place-preserved c = (
  length-set c.loop-place.places c.loop-place.place-index c.mirror.result ∙ c.loop-place.invariant.0,
  changed_turn (λ (j p : ℕ). mirrored c.args.n p) 0 c.args.places.now c.loop-place.places c.loop-place.place-index _ c.loop-place.invariant.1 (omega arith) c.mirror.ensures,
)

pub returns : goal.returns
returns c =
    let all : c.loop-place.place-index ≡ length c.args.places.now = omega arith in
    c.loop-place.invariant.1
    ∙ ap (λ (k : ℕ). changed_up_to (λ (j p : ℕ). mirrored c.args.n p) k c.args.places.now) all
    ∙ changed_is_map (mirrored c.args.n) 0 c.args.places.now

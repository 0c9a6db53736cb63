-- `ahead` starts at the place itself, or behind whole blocks.
-- Assumes nothing.
use mathlib.Core.Path.{ap, sym}
use Prim.Native.Nat.{ℕ}
use native.Mathlib.Omega.{arith}
use mathlib.Core.List.{List}
use lib.ListN.{length}
use Rattle.lent.specs.Lists.{filter}
use Rattle.strides.proofs.StrideLaws.{between_none}
use Rattle.strides.specs.Counts.{held_there}
use Rattle.entries.proofs.ahead.Goals as goal

pub returns-then-skip-lt6 : goal.returns-then-skip-lt6
returns-then-skip-lt6 c =
    let none = between_none c.args.base c.args.seq.now c.args.from in (
      omega arith,
      omega arith,
      omega arith,
      sym (ap length none),
      sym (ap (λ (ps : List ℕ). length (filter (held_there c.args.window.lo c.args.after.now c.args.base) ps)) none),
    )

pub pass_blocks-requires : goal.pass_blocks-requires
pass_blocks-requires c = (omega arith, omega arith, c.if-base-eq78.false, c.requires.2)

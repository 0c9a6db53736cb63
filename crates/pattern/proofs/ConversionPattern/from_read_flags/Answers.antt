-- `from_read_flags` looks at bit 7 alone.
-- Assumes nothing.
use Prim.Native.Nat.{◌/◌, ◌%◌}
use native.Mathlib.Omega.{arith}
use lib.Bits.{and_high}
use borrow.Author.Tests.{eq-eqb, ne_eqb}
use Rattle.pattern.proofs.ConversionPattern.from_read_flags.Goals as goal

pub returns-then-read_flags-eq0 : goal.returns-then-read_flags-eq0
returns-then-read_flags-eq0 c =
    let f = c.args.read_flags in
    rw (eq-eqb (f / 128 % 2) 0 (omega (arith, and_high f 1 7)))

pub returns-else-read_flags-eq0 : goal.returns-else-read_flags-eq0
returns-else-read_flags-eq0 c =
    let f = c.args.read_flags in
    rw (ne_eqb (f / 128 % 2) 0 (λ e. c.if-read_flags-eq0.false (omega (arith, and_high f 1 7))))

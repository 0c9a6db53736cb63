-- `start_mirrored`: a start that is unknown stays so; a window that does not fit has none.
-- Assumes nothing.
use Rattle.std.specs.Prelude.{Option, ℕ}
use mathlib.Core.Path.{◌∙◌, ap, sym}
use native.Mathlib.Omega.{arith}
use Rattle.packed.specs.Stored.{start_mirrored}
use Rattle.stored_rows.proofs.PlaceLaws.{start_inside, start_past}
use Rattle.stored_rows.proofs.start_mirrored.Goals as goal

pub returns-then-n-k : goal.returns-then-n-k
returns-then-n-k c =
    sym (ap (λ (w : Option ℕ). start_mirrored c.args.n c.args.k w) c.in-Some.is ∙ start_past c.args.n c.args.k c.in-Some.s (omega arith))

pub returns-then-n-k-2 : goal.returns-then-n-k-2
returns-then-n-k-2 c =
    sym (ap (λ (w : Option ℕ). start_mirrored c.args.n c.args.k w) c.in-Some.is ∙ start_past c.args.n c.args.k c.in-Some.s (omega arith))

pub returns : goal.returns
returns c =
    sym (ap (λ (w : Option ℕ). start_mirrored c.args.n c.args.k w) c.in-Some.is ∙ start_inside c.args.n c.args.k c.in-Some.s (omega arith))

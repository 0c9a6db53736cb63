-- `start_of`: 0 if nothing was cut off, else the start in read orientation if it is known.
-- Assumes nothing.
use mathlib.Core.Path.{◌≡◌, ◌∙◌, sym}
use native.Mathlib.Omega.{arith}
use borrow.Author.Tests.{eq-eqb, ne_eqb}
use Rattle.record_tags.specs.Records.{same_direction}
use Rattle.record_steps.proofs.start_of.Goals as goal

pub returns-then-k-n : goal.returns-then-k-n
returns-then-k-n c = rw (eq-eqb c.args.k c.args.n (omega arith))

pub returns-then-not-same : goal.returns-then-not-same
returns-then-not-same c =
    let told : c.same_direction-same.result ≡ same_direction c.args.reverse c.args.before_reverse = c.same_direction-same.ensures in
    rw (ne_eqb c.args.k c.args.n c.if-k-n.false, sym told ∙ c.if-not-same.true)

pub returns : goal.returns
returns c =
    rw (ne_eqb c.args.k c.args.n c.if-k-n.false, sym c.same_direction-same.ensures ∙ c.if-not-same.false)
    c.start_in_read.ensures

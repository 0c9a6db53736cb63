-- `values_per`: one if the codes are digits or empty, and otherwise one for each byte of the codes.
-- Assumes nothing.
use Rattle.samtags.specs.Text.{values_per}
use Rattle.headers.proofs.values_per.Goals as goal

pub returns-then-digits : goal.returns-then-digits
unfolding values_per
returns-then-digits c = rw (← c.codes-codes.ensures, ← c.all_digits-digits.ensures, c.if-digits.true)

pub returns : goal.returns
unfolding values_per
returns c = rw (← c.codes-codes.ensures, ← c.all_digits-digits.ensures, c.if-digits.false)

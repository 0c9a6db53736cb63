-- `read_skip` reads digit by digit, up to the first byte that is not a digit.
-- Assumes nothing.
use mathlib.Core.Path.{◌≡◌}
use Prim.Native.Nat.{◌≤◌, min}
use lib.ListN.{drop}
use Rattle.lent.specs.Lists.{every}
use Rattle.samtags.specs.Bytes.{is_digit}
use Rattle.samtags.specs.Decimal.{is_number, value, value_from}
use Rattle.numbers.proofs.read_skip.Given as goal

abbrev pub invariant-loop-digit : goal.invariant-loop-digit
invariant-loop-digit l = record {
  bounded : l.n ≤ l.most;
  value : min l.most (value l.field) ≡ min l.most (value_from l.n (drop l.digit-index l.field));
  digits : is_number l.field ≡ every is_digit (drop l.digit-index l.field);
}

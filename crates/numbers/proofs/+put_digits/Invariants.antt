-- `put_digits`: all digits but the last are those of a tenth of the number, written by the same function. The last digit is the remainder.
-- Assumes nothing.
use Rattle.numbers.proofs.+put_digits.Given as goal

abbrev pub decreases-put_digits : goal.decreases-put_digits
decreases-put_digits l = l.n

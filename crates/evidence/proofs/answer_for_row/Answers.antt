-- `answer_for_row`: 1 above 16,000 records, and otherwise the number of records.
-- Assumes nothing.
use native.Mathlib.Omega.{arith}
use borrow.Author.Tests.{le-leb, lt-leb}
use Rattle.evidence.specs.Row.{row_of}
use Rattle.evidence.proofs.answer_for_row.Goals as goal

pub returns-then-records-gt16000 : goal.returns-then-records-gt16000
unfolding row_of
returns-then-records-gt16000 c = rw (lt-leb c.args.records 16000 (omega arith))

pub returns : goal.returns
unfolding row_of
returns c = rw (le-leb c.args.records 16000 (omega arith))

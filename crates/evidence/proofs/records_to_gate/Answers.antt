-- `records_to_gate`: none if the row has more than 16,000 records, and otherwise all.
-- Assumes nothing.
use native.Mathlib.Omega.{arith}
use borrow.Author.Tests.{le-leb, lt-leb}
use Rattle.evidence.proofs.records_to_gate.Goals as goal

pub returns-then-records-gt16000 : goal.returns-then-records-gt16000
returns-then-records-gt16000 c = rw (lt-leb c.args.records 16000 (omega arith))

pub returns : goal.returns
returns c = rw (le-leb c.args.records 16000 (omega arith))

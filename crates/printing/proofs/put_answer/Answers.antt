-- `put_answer` writes two bytes, the digits, and LF.
-- Assumes nothing.
use native.Mathlib.Omega.{arith}
use Rattle.samtags.specs.Decimal.{digits}
use Rattle.printing.proofs.OutputLaws.{byte_short, line_stored}
use Rattle.lines.specs.Lines.{answer_line}
use Rattle.printing.proofs.put_answer.Goals as goal

pub overflow_add-result : goal.overflow_add-result
overflow_add-result c = omega (arith, byte_short c.args.number (omega arith))

pub returns : goal.returns
unfolding answer_line
returns c =
    line_stored c.args.out.now c.args.at 65 78 (digits c.args.number) c.put.new.out c.put-2.new.out c.put_decimal-end.new.out
    c.put-3.new.out c.put_decimal-end.result c.put.ensures
    c.put-2.ensures c.put_decimal-end.ensures.1 c.put_decimal-end.ensures.0 c.put-3.ensures

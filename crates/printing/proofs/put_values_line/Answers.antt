-- `put_values_line` writes two bytes, the values, and LF.
-- Assumes nothing.
use Rattle.printing.proofs.OutputLaws.{line_stored}
use Rattle.lines.specs.Lines.{decimals}
use Rattle.printing.proofs.put_values_line.Goals as goal

pub returns : goal.returns
returns c =
    line_stored c.args.out.now c.args.at 77 76 (decimals c.args.values.now) c.put.new.out c.put-2.new.out c.put_decimals-end.new.out
    c.put-3.new.out
    c.put_decimals-end.result c.put.ensures c.put-2.ensures c.put_decimals-end.ensures.1 c.put_decimals-end.ensures.0 c.put-3.ensures

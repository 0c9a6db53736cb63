-- `put_line` writes two bytes, the body, and LF.
-- Assumes nothing.
use Rattle.printing.proofs.OutputLaws.{line_stored}
use Rattle.printing.proofs.put_line.Goals as goal

pub returns : goal.returns
returns c =
    line_stored c.args.out.now c.args.at c.args.a c.args.b c.args.body.now c.put.new.out c.put-2.new.out c.put_all-end.new.out
    c.put-3.new.out c.put_all-end.result c.put.ensures
    c.put-2.ensures c.put_all-end.ensures.1 c.put_all-end.ensures.0 c.put-3.ensures

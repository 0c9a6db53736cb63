-- `clear` fills the column with 0.
-- Assumes nothing.
use Rattle.std.proofs.Common.{rules, ◌∙◌, length}
use Rattle.columns.proofs.Zeroes.{filled_with}
use Rattle.columns.proofs.marks.clear.Goals as goal

pub returns : goal.returns
returns c = c.fill.ensures.after (search rules) ∙ filled_with (length c.args.informative.now) 0

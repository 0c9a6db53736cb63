-- `up_to`: the part before the next byte c, or up to the text's end.
-- Assumes nothing.
use mathlib.Core.Path.{◌∙◌, sym}
use Rattle.lines.proofs.UpToLaws.{up_to_none, up_to_some}
use Rattle.lines.proofs.up_to.Goals as goal

pub returns-in_default : goal.returns-in_default
returns-in_default c = up_to_none c.args.c c.args.text.now c.args.from (sym c.first_of.ensures ∙ c.in_default.is)

pub returns : goal.returns
returns c = up_to_some c.args.c c.args.text.now c.args.from c.in-Some.n (sym c.first_of.ensures ∙ c.in-Some.is)

-- `text_size`: how far the first NUL is.
-- Assumes nothing.
use mathlib.Core.Path.{◌∙◌, sym}
use Rattle.record_fields.proofs.SizeLaws.{text_none, text_some}
use Rattle.record_fields.proofs.sizes.text_size.Goals as goal

pub returns-in_default : goal.returns-in_default
returns-in_default c = text_none c.args.bytes.now c.args.from (sym c.first_nul.ensures ∙ c.in_default.is)

pub returns : goal.returns
returns c = text_some c.args.bytes.now c.args.from c.in-Some.n (sym c.first_nul.ensures ∙ c.in-Some.is)

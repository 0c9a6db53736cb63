-- `lengths_in_order` checks for 1, and then each row for 2; the packed row by the bases that it has.
-- Assumes nothing.
use mathlib.Core.Path.{◌∙◌}
use Rattle.stored_steps.proofs.BackLaws.{packed_tests}
use Rattle.stored_steps.proofs.lengths_in_order.Goals as goal

pub returns : goal.returns
returns c =
    c.lengths_in_order.ensures ∙ packed_tests c.args.has_ml c.args.packed c.args.mm c.args.ml c.bases_in-bases.result c.args.lengths c.bases_in-bases.ensures

-- `count_base`: if the base does not count, the columns are unchanged, and storing the same counts again would change nothing either.
-- Assumes nothing.
use mathlib.Core.Path.{◌≡◌, refl, sym, ◌∙◌}
use mathlib.Core.Bool.{true, false}
use lib.Seq.{set-get_or}
use Rattle.counting.specs.Counting.{counts_there}
use Rattle.counting.proofs.count_base.Goals as goal

pub returns-then-not-counts : goal.returns-then-not-counts
returns-then-not-counts c =
    let off : counts_there c.args.count_all_positions c.args.informative c.args.aligned ≡ false =
    sym c.counts_there-counts.ensures ∙ c.if-not-counts.true in
    rw off (sym (set-get_or c.args.unconverted.now c.args.i 0), sym (set-get_or c.args.converted.now c.args.i 0))

pub returns : goal.returns
returns c =
    let counts : counts_there c.args.count_all_positions c.args.informative c.args.aligned ≡ true =
    sym c.counts_there-counts.ensures ∙ c.if-not-counts.false in
    rw (counts, c.counted-after.ensures) (refl, refl)

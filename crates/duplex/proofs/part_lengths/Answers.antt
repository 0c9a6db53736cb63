-- `part_lengths`: field by field.
-- Assumes nothing.
use Rattle.duplex.proofs.part_lengths.Goals as goal

pub returns : goal.returns
returns c =
    let n = c.second_counts-counts.ensures in
    rw n

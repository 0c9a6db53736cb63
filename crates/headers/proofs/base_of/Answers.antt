-- `base_of`: the first byte, in upper case.
-- Assumes nothing.
use Rattle.samtags.specs.Text.{base_of}
use Rattle.headers.proofs.base_of.Goals as goal

pub returns : goal.returns
unfolding base_of
returns c = c.to_ascii_uppercase.ensures

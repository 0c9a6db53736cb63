-- `no_spots`: six zeros, and past them a place reads as 0 too.
-- Assumes nothing.
use mathlib.Core.Path.{refl}
use Rattle.record_fields.proofs.SizeLaws.{zeros}
use Rattle.record_fields.proofs.no_spots.Goals as goal

pub returns : goal.returns
returns c = (refl, zeros 6)

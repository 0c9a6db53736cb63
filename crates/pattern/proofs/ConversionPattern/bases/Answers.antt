-- `bases` gives the pattern's three bases.
-- Assumes nothing.
use Rattle.pattern.proofs.ConversionPattern.bases.Goals as goal

pub returns-in-CToT : goal.returns-in-CToT
returns-in-CToT c = rw c.in-CToT.is

pub returns-in-GToA : goal.returns-in-GToA
returns-in-GToA c = rw c.in-GToA.is

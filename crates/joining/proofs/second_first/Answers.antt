-- `second_first`, by cases of the two patterns.
-- Assumes nothing.
use Rattle.joining.proofs.second_first.Goals as goal

pub returns-in-CToT : goal.returns-in-CToT
returns-in-CToT c = rw c.in-CToT.is

pub returns-in-CToT-second : goal.returns-in-CToT-second
returns-in-CToT-second c = rw (c.in-CToT-second.is, c.in-GToA.is)

pub returns-in-GToA-second : goal.returns-in-GToA-second
returns-in-GToA-second c = rw (c.in-GToA-second.is, c.in-GToA.is)

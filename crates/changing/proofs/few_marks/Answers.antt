-- `few_marks` returns 1,024 zeros, so no place is marked.
-- Assumes nothing.
use mathlib.Core.Path.{sym}
use Prim.Native.Nat.{ℕ}
use lib.ListN.{length-replicate}
use Rattle.changing.proofs.WindowLaws.{unmarked_row}
use Rattle.changing.proofs.few_marks.Goals as goal

pub returns : goal.returns
returns c = (sym (length-replicate {A = ℕ} 1024 0), unmarked_row 1024)

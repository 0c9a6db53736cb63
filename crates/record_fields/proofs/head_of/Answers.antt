-- `head_of`: the head is made of numbers of 16 and 32 bits, so that no sum wraps.
-- Assumes nothing.
use mathlib.Core.Path.{refl}
use native.Mathlib.Omega.{arith}
use Rattle.record_fields.proofs.head_of.Goals as goal

pub overflow_cast-seq_at : goal.overflow_cast-seq_at
overflow_cast-seq_at c = omega (arith, c.type_inv.bam 8)

pub overflow_add-seq_at : goal.overflow_add-seq_at
overflow_add-seq_at c = omega (arith, c.type_inv.bam 8)

pub overflow_add-seq_at-2 : goal.overflow_add-seq_at-2
overflow_add-seq_at-2 c = omega (arith, c.type_inv.bam 8)

pub overflow_add-result-2 : goal.overflow_add-result-2
overflow_add-result-2 c = omega (arith, c.type_inv.bam 8)

pub overflow_add-result-3 : goal.overflow_add-result-3
overflow_add-result-3 c = omega (arith, c.type_inv.bam 8)

pub returns : goal.returns
returns c =
    rw (c.half_at.ensures.0, c.half_at-words.ensures.0, c.word_at-bases.ensures.0) (refl, refl, omega arith, omega arith)

-- `cut_with` unpacks SEQ, cuts its ends in read orientation, and packs it back.
-- Assumes nothing.
use mathlib.Core.Path.{◌∙◌, ◌≡◌, refl}
use Prim.Native.Nat.{ℕ, ◌≤◌}
use native.Mathlib.Omega.{arith}
use mathlib.Core.List.{List}
use lib.ListN.{length, take}
use Rattle.packed.proofs.Turning.{read_front}
use Rattle.packed.specs.Stored.{in_read, step_in_read}
use Rattle.stepping.specs.Steps.{came, leaves_memory, memory, step_says}
use Rattle.stored_steps.proofs.BackLaws.{back_is_step, fits_back}
use mathlib.Core.Bool.{cond}
use Rattle.samtags.specs.Session.{cut, step_in_memory}
use Rattle.stored_steps.proofs.cut_with.Goals as goal

pub put_back-requires : goal.put_back-requires
put_back-requires c =
    let row_of : List ℕ = c.unpack_row.new.row in
    let front : take c.args.lengths.seq (row_of) ≡ in_read c.args.reverse c.args.lengths.seq c.args.packed.now = read_front c.args.reverse c.args.lengths.seq c.args.packed.now (row_of) c.args.seq.now c.args.lengths.seq refl c.unpack_row.ensures in
    let room : c.args.lengths.seq ≤ length (row_of) = omega (arith, c.requires.1, c.unpack_row.auto.row) in
    let made : let m = memory (row_of) c.args.mm.now c.args.ml.now c.args.lengths in came (step_says c.cut_ends-made.result) c.cut_ends-made.new.seq c.cut_ends-made.new.mm c.cut_ends-made.new.ml ≡ leaves_memory m (step_in_memory c.args.has_ml (step_in_read c.args.reverse c.args.lengths.seq (cut c.args.front c.args.back)) m) = (let m = memory (row_of) c.args.mm.now c.args.ml.now c.args.lengths in
    let first : c.end_in_read-first.result ≡ cond c.args.reverse c.args.back c.args.front = c.end_in_read-first.ensures in
    let last : c.end_in_read-last.result ≡ cond c.args.reverse c.args.front c.args.back = c.end_in_read-last.ensures in
    c.cut_ends-made.ensures ∙ (λ j. leaves_memory m (step_in_memory c.args.has_ml (cut (first j) (last j)) m))) in
    fits_back c.args.reverse c.args.has_ml c.args.packed.now c.args.mm.now c.args.ml.now (row_of) c.args.lengths c.requires.0 (front) (room) (cut c.args.front c.args.back)
    c.cut_ends-made.result c.cut_ends-made.new.seq c.cut_ends-made.new.mm c.cut_ends-made.new.ml (made)

pub returns : goal.returns
returns c =
    let row_of : List ℕ = c.unpack_row.new.row in
    let front : take c.args.lengths.seq (row_of) ≡ in_read c.args.reverse c.args.lengths.seq c.args.packed.now = read_front c.args.reverse c.args.lengths.seq c.args.packed.now (row_of) c.args.seq.now c.args.lengths.seq refl c.unpack_row.ensures in
    let room : c.args.lengths.seq ≤ length (row_of) = omega (arith, c.requires.1, c.unpack_row.auto.row) in
    let made : let m = memory (row_of) c.args.mm.now c.args.ml.now c.args.lengths in came (step_says c.cut_ends-made.result) c.cut_ends-made.new.seq c.cut_ends-made.new.mm c.cut_ends-made.new.ml ≡ leaves_memory m (step_in_memory c.args.has_ml (step_in_read c.args.reverse c.args.lengths.seq (cut c.args.front c.args.back)) m) = (let m = memory (row_of) c.args.mm.now c.args.ml.now c.args.lengths in
    let first : c.end_in_read-first.result ≡ cond c.args.reverse c.args.back c.args.front = c.end_in_read-first.ensures in
    let last : c.end_in_read-last.result ≡ cond c.args.reverse c.args.front c.args.back = c.end_in_read-last.ensures in
    c.cut_ends-made.ensures ∙ (λ j. leaves_memory m (step_in_memory c.args.has_ml (cut (first j) (last j)) m))) in
    (λ j. came (step_says (c.put_back.ensures.0 j)) (c.put_back.ensures.1 j) c.cut_ends-made.new.mm c.cut_ends-made.new.ml)
    ∙ back_is_step c.args.reverse c.args.has_ml c.args.packed.now c.args.mm.now c.args.ml.now (row_of) c.args.lengths c.requires.0 (front) (room) (cut c.args.front c.args.back)
    c.cut_ends-made.result c.cut_ends-made.new.seq c.cut_ends-made.new.mm c.cut_ends-made.new.ml (made)

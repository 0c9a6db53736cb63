-- `drop_with` unpacks SEQ, marks the places in read orientation, makes the plain step, and packs SEQ back.
-- Assumes nothing.
use mathlib.Core.Path.{◌∙◌, ◌≡◌, ap, refl}
use Prim.Native.Nat.{ℕ, ◌<◌, ◌≤◌}
use native.Mathlib.Omega.{arith}
use mathlib.Core.List.{List}
use lib.ListN.{length, take}
use Rattle.packed.proofs.Turning.{read_front}
use Rattle.packed.specs.Stored.{in_read, places_in_read, step_in_read}
use Rattle.stepping.specs.Steps.{came, leaves_memory, memory, step_says}
use Rattle.stored_steps.proofs.BackLaws.{back_is_step, fits_back, plain_ordered}
use lib.ListN.{length-take}
use Rattle.changing.proofs.WindowLaws.{marked_only}
use Rattle.changing.specs.Windows.{is_marked, stored_at}
use Rattle.lent.specs.Lists.{among}
use Rattle.samtags.specs.Session.{drop_calls, held_in, step_in_memory}
use Rattle.stepping.proofs.StepLaws.{drop_is_step}
use Rattle.stored_steps.proofs.drop_with.Goals as goal

pub put_back-requires : goal.put_back-requires
put_back-requires c =
    let row_of : List ℕ = c.unpack_row.new.row in
    let front : take c.args.lengths.seq (row_of) ≡ in_read c.args.reverse c.args.lengths.seq c.args.packed.now = read_front c.args.reverse c.args.lengths.seq c.args.packed.now (row_of) c.args.seq.now c.args.lengths.seq refl c.unpack_row.ensures in
    let room : c.args.lengths.seq ≤ length (row_of) = omega (arith, c.requires.1, c.unpack_row.auto.row) in
    let made : let m = memory (row_of) c.args.mm.now c.args.ml.now c.args.lengths in came (step_says c.drop_marked-made.result) (row_of) c.drop_marked-made.new.mm c.drop_marked-made.new.ml ≡ leaves_memory m (step_in_memory c.args.has_ml (step_in_read c.args.reverse c.args.lengths.seq (drop_calls c.args.places.now)) m) = (let m = memory (row_of) c.args.mm.now c.args.ml.now c.args.lengths in
    let places = places_in_read c.args.reverse c.args.lengths.seq c.args.places.now in
    let marks = c.mark_in_read.new.row in
    let put : marks ≡ stored_at 1 places c.args.marks.now = c.mark_in_read.ensures in
    let in_row : length (held_in m).seq ≤ length c.args.marks.now = omega (arith, c.requires.2, length-take c.args.lengths.seq (row_of)) in
    let named : (p : ℕ) → p < length (held_in m).seq → is_marked marks p ≡ among places p =
    λ p l. ap (λ (r : List ℕ). is_marked r p) put ∙ marked_only places c.args.marks.now c.requires.3.1 p (omega (arith, l, in_row)) in
    c.drop_marked-made.ensures
    ∙ ap (leaves_memory m) (drop_is_step c.args.has_ml m (plain_ordered c.args.reverse c.args.has_ml c.args.packed.now c.args.mm.now c.args.ml.now (row_of) c.args.lengths c.requires.0
    (front) (room)) places marks named)) in
    fits_back c.args.reverse c.args.has_ml c.args.packed.now c.args.mm.now c.args.ml.now (row_of) c.args.lengths c.requires.0 (front) (room) (drop_calls c.args.places.now)
    c.drop_marked-made.result (row_of) c.drop_marked-made.new.mm c.drop_marked-made.new.ml (made)

pub returns : goal.returns
returns c =
    let row_of : List ℕ = c.unpack_row.new.row in
    let front : take c.args.lengths.seq (row_of) ≡ in_read c.args.reverse c.args.lengths.seq c.args.packed.now = read_front c.args.reverse c.args.lengths.seq c.args.packed.now (row_of) c.args.seq.now c.args.lengths.seq refl c.unpack_row.ensures in
    let room : c.args.lengths.seq ≤ length (row_of) = omega (arith, c.requires.1, c.unpack_row.auto.row) in
    let made : let m = memory (row_of) c.args.mm.now c.args.ml.now c.args.lengths in came (step_says c.drop_marked-made.result) (row_of) c.drop_marked-made.new.mm c.drop_marked-made.new.ml ≡ leaves_memory m (step_in_memory c.args.has_ml (step_in_read c.args.reverse c.args.lengths.seq (drop_calls c.args.places.now)) m) = (let m = memory (row_of) c.args.mm.now c.args.ml.now c.args.lengths in
    let places = places_in_read c.args.reverse c.args.lengths.seq c.args.places.now in
    let marks = c.mark_in_read.new.row in
    let put : marks ≡ stored_at 1 places c.args.marks.now = c.mark_in_read.ensures in
    let in_row : length (held_in m).seq ≤ length c.args.marks.now = omega (arith, c.requires.2, length-take c.args.lengths.seq (row_of)) in
    let named : (p : ℕ) → p < length (held_in m).seq → is_marked marks p ≡ among places p =
    λ p l. ap (λ (r : List ℕ). is_marked r p) put ∙ marked_only places c.args.marks.now c.requires.3.1 p (omega (arith, l, in_row)) in
    c.drop_marked-made.ensures
    ∙ ap (leaves_memory m) (drop_is_step c.args.has_ml m (plain_ordered c.args.reverse c.args.has_ml c.args.packed.now c.args.mm.now c.args.ml.now (row_of) c.args.lengths c.requires.0
    (front) (room)) places marks named)) in
    (λ j. came (step_says (c.put_back.ensures.0 j)) (c.put_back.ensures.1 j) c.drop_marked-made.new.mm c.drop_marked-made.new.ml)
    ∙ back_is_step c.args.reverse c.args.has_ml c.args.packed.now c.args.mm.now c.args.ml.now (row_of) c.args.lengths c.requires.0 (front) (room) (drop_calls c.args.places.now)
    c.drop_marked-made.result (row_of) c.drop_marked-made.new.mm c.drop_marked-made.new.ml (made)

-- `mask_with` unpacks SEQ, makes the masked copy, makes the plain step, and packs SEQ back.
-- Assumes nothing.
use mathlib.Core.Path.{◌∙◌, ◌≡◌, ap, refl, sym}
use Prim.Native.Nat.{ℕ, ◌-◌, ◌≤◌}
use native.Mathlib.Omega.{arith}
use mathlib.Core.List.{List}
use lib.ListN.{length, take}
use Rattle.packed.proofs.Turning.{read_front}
use Rattle.packed.specs.Stored.{in_read, places_in_read, step_in_read}
use Rattle.stepping.specs.Steps.{came, leaves_memory, memory, step_says}
use Rattle.stored_steps.proofs.BackLaws.{back_is_step, fits_back, plain_ordered}
use native.Mathlib.Nat.{sub-zero}
use lib.Seq.{length-take-le}
use Rattle.lent.specs.Lists.{among}
use Rattle.samtags.specs.Session.{held_in, mask, masked, step_in_memory}
use Rattle.stepping.proofs.StepLaws.{mask_is_step}
use Rattle.stored_steps.proofs.mask_with.Goals as goal

pub put_back-requires : goal.put_back-requires
put_back-requires c =
    let row_of : List ℕ = c.unpack_row.new.row in
    let front : take c.args.lengths.seq (row_of) ≡ in_read c.args.reverse c.args.lengths.seq c.args.packed.now = read_front c.args.reverse c.args.lengths.seq c.args.packed.now (row_of) c.args.seq.now c.args.lengths.seq refl c.unpack_row.ensures in
    let room : c.args.lengths.seq ≤ length (row_of) = omega (arith, c.requires.1, c.unpack_row.auto.row) in
    let made : let m = memory (row_of) c.args.mm.now c.args.ml.now c.args.lengths in came (step_says c.mask_to-made.result) c.mask_to-made.new.seq c.mask_to-made.new.mm c.mask_to-made.new.ml ≡ leaves_memory m (step_in_memory c.args.has_ml (step_in_read c.args.reverse c.args.lengths.seq (mask c.args.places.now)) m) = (let m = memory (row_of) c.args.mm.now c.args.ml.now c.args.lengths in
    let n = c.args.lengths.seq - 0 in
    let masked_row = c.mask_copy.new.row in
    let places = places_in_read c.args.reverse c.args.lengths.seq c.args.places.now in
    let long : length (take n (row_of)) ≡ n = length-take-le n (row_of) (omega (arith, room)) in
    let none = sub-zero c.args.lengths.seq in
    let masks : take n masked_row ≡ masked (among places) (held_in m).seq =
    ap (λ (k : ℕ). take k masked_row) (sym long) ∙ c.mask_copy.ensures
    ∙ ap (λ (k : ℕ). masked (among (places_in_read c.args.reverse k c.args.places.now)) (take n (row_of))) (long ∙ none)
    ∙ ap (λ (k : ℕ). masked (among places) (take k (row_of))) none in
    c.mask_to-made.ensures
    ∙ ap (leaves_memory m) (mask_is_step c.args.has_ml m (plain_ordered c.args.reverse c.args.has_ml c.args.packed.now c.args.mm.now c.args.ml.now (row_of) c.args.lengths c.requires.0
    (front) (room)) places (take n masked_row) masks)) in
    fits_back c.args.reverse c.args.has_ml c.args.packed.now c.args.mm.now c.args.ml.now (row_of) c.args.lengths c.requires.0 (front) (room) (mask c.args.places.now)
    c.mask_to-made.result c.mask_to-made.new.seq c.mask_to-made.new.mm c.mask_to-made.new.ml (made)

pub returns : goal.returns
returns c =
    let row_of : List ℕ = c.unpack_row.new.row in
    let front : take c.args.lengths.seq (row_of) ≡ in_read c.args.reverse c.args.lengths.seq c.args.packed.now = read_front c.args.reverse c.args.lengths.seq c.args.packed.now (row_of) c.args.seq.now c.args.lengths.seq refl c.unpack_row.ensures in
    let room : c.args.lengths.seq ≤ length (row_of) = omega (arith, c.requires.1, c.unpack_row.auto.row) in
    let made : let m = memory (row_of) c.args.mm.now c.args.ml.now c.args.lengths in came (step_says c.mask_to-made.result) c.mask_to-made.new.seq c.mask_to-made.new.mm c.mask_to-made.new.ml ≡ leaves_memory m (step_in_memory c.args.has_ml (step_in_read c.args.reverse c.args.lengths.seq (mask c.args.places.now)) m) = (let m = memory (row_of) c.args.mm.now c.args.ml.now c.args.lengths in
    let n = c.args.lengths.seq - 0 in
    let masked_row = c.mask_copy.new.row in
    let places = places_in_read c.args.reverse c.args.lengths.seq c.args.places.now in
    let long : length (take n (row_of)) ≡ n = length-take-le n (row_of) (omega (arith, room)) in
    let none = sub-zero c.args.lengths.seq in
    let masks : take n masked_row ≡ masked (among places) (held_in m).seq =
    ap (λ (k : ℕ). take k masked_row) (sym long) ∙ c.mask_copy.ensures
    ∙ ap (λ (k : ℕ). masked (among (places_in_read c.args.reverse k c.args.places.now)) (take n (row_of))) (long ∙ none)
    ∙ ap (λ (k : ℕ). masked (among places) (take k (row_of))) none in
    c.mask_to-made.ensures
    ∙ ap (leaves_memory m) (mask_is_step c.args.has_ml m (plain_ordered c.args.reverse c.args.has_ml c.args.packed.now c.args.mm.now c.args.ml.now (row_of) c.args.lengths c.requires.0
    (front) (room)) places (take n masked_row) masks)) in
    (λ j. came (step_says (c.put_back.ensures.0 j)) (c.put_back.ensures.1 j) c.mask_to-made.new.mm c.mask_to-made.new.ml)
    ∙ back_is_step c.args.reverse c.args.has_ml c.args.packed.now c.args.mm.now c.args.ml.now (row_of) c.args.lengths c.requires.0 (front) (room) (mask c.args.places.now)
    c.mask_to-made.result c.mask_to-made.new.seq c.mask_to-made.new.mm c.mask_to-made.new.ml (made)

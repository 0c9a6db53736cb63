-- `put_other`: each number of a plan, but 3 and 4, by the function that carries it out.
-- Assumes nothing.
use Prim.Native.Nat.{◌+◌, ◌-◌}
use mathlib.Core.Bool.{false}
use mathlib.Core.List.{[], ◌∷◌}
use mathlib.Core.Path.{◌≡◌}
use native.Mathlib.Omega.{arith}
use Rattle.record_fields.specs.Fields.{Field}
use Rattle.record_fields.specs.Spots.{part}
use Rattle.record_pieces.proofs.PieceLaws.{by_alone, by_goes, by_goes_once, by_length, by_none, kept_written, ready_alone, wrote_as, wrote_none}
use Rattle.record_pieces.specs.Pens.{text_in}
use Rattle.record_tags.specs.Changes.{applied, length_set}
use Rattle.record_tags.specs.Plans.{Means, by_window, means, queue_by}
use Rattle.record_tags.specs.Values.{text_of, with_text}
use Rattle.record_pieces.proofs.put_other.Goals as goal

pub returns-then-number-eq-GOES : goal.returns-then-number-eq-GOES
returns-then-number-eq-GOES c =
    let meant : Means = means (by_window c.args.lo c.args.after.now c.args.marks.now c.args.seq.now) [] [] c.args.bases in
    let field : Field = part c.args.bam.now c.args.at c.args.size in
    wrote_none (applied (queue_by (meant) c.args.number) (field)) c.args.end c.args.out.now (by_goes (meant) c.args.number (field) (omega arith))

pub returns-then-number-eq-GOES_THEN_LENGTH : goal.returns-then-number-eq-GOES_THEN_LENGTH
returns-then-number-eq-GOES_THEN_LENGTH c =
    let meant : Means = means (by_window c.args.lo c.args.after.now c.args.marks.now c.args.seq.now) [] [] c.args.bases in
    let field : Field = part c.args.bam.now c.args.at c.args.size in
    wrote_none (applied (queue_by (meant) c.args.number) (field)) c.args.end c.args.out.now (by_goes_once (meant) c.args.number (field) (omega arith))

pub put_alone-requires : goal.put_alone-requires
put_alone-requires c =
    let meant : Means = means (by_window c.args.lo c.args.after.now c.args.marks.now c.args.seq.now) [] [] c.args.bases in
    let field : Field = part c.args.bam.now c.args.at c.args.size in
    let ready = ready_alone (meant) c.args.number (field) c.requires.size_value (omega arith) in
    record { size_in_bounds = (c.requires.size_in_bounds.0, c.requires.size_in_bounds.1, c.requires.size_in_bounds.2, c.requires.size_in_bounds.3); size_value = (ready.0, ready.1) }

pub returns-then-number-eq-ALONE : goal.returns-then-number-eq-ALONE
returns-then-number-eq-ALONE c =
    let meant : Means = means (by_window c.args.lo c.args.after.now c.args.marks.now c.args.seq.now) [] [] c.args.bases in
    let field : Field = part c.args.bam.now c.args.at c.args.size in
    wrote_as (applied (queue_by (meant) c.args.number) (field)) (with_text (text_in ((meant).edit false (text_of (field)) [])) (field) ∷ [])
    c.args.end c.put_alone.result c.args.out.now _ (by_alone (meant) c.args.number (field) c.requires.size_value (omega arith)) c.put_alone.ensures

pub returns-then-number-eq-LENGTH : goal.returns-then-number-eq-LENGTH
returns-then-number-eq-LENGTH c =
    let meant : Means = means (by_window c.args.lo c.args.after.now c.args.marks.now c.args.seq.now) [] [] c.args.bases in
    let field : Field = part c.args.bam.now c.args.at c.args.size in
    wrote_as (applied (queue_by (meant) c.args.number) (field)) (length_set c.args.bases (field))
    c.args.end c.put_length.result c.args.out.now _ (by_length (meant) c.args.number (field) (omega arith)) c.put_length.ensures

pub returns : goal.returns
returns c =
    let meant : Means = means (by_window c.args.lo c.args.after.now c.args.marks.now c.args.seq.now) [] [] c.args.bases in
    let field : Field = part c.args.bam.now c.args.at c.args.size in
    let not_one : c.args.number ≡ 1 → ⊥ = λ e. absurd (omega (arith, e)) in
    let not_six : c.args.number ≡ 6 → ⊥ = λ e. absurd (omega (arith, e)) in
    let not_two : c.args.number ≡ 2 → ⊥ = λ e. absurd (omega (arith, e)) in
    let not_five : c.args.number ≡ 5 → ⊥ = λ e. absurd (omega (arith, e)) in
    wrote_as (applied (queue_by (meant) c.args.number) (field)) (field ∷ []) c.args.end c.put_bytes.result c.args.out.now c.put_bytes.new.out
    (by_none (meant) c.args.number (field) (not_one) (not_two) c.requires.size_in_bounds.5 c.requires.size_in_bounds.6 (not_five) (not_six))
    (kept_written c.args.bam.now c.args.out.now c.put_bytes.new.out c.args.at c.args.size c.args.end c.put_bytes.result (c.args.at + c.args.size - c.args.at) (omega arith)
    c.put_bytes.ensures.0 c.put_bytes.ensures.1)

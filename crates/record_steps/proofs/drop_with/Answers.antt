-- `drop_with` marks the places in read orientation, and edits over SEQ in read orientation.
-- Assumes nothing.
use mathlib.Core.Path.{◌≡◌, ◌∙◌, ap, refl, sym}
use Prim.Native.Nat.{◌-◌}
use native.Mathlib.Omega.{arith}
use lib.ListN.{length, take}
use Rattle.packed.proofs.Turning.{length_in_read, read_front}
use Rattle.packed.specs.Packed.{bytes_for}
use Rattle.packed.specs.Stored.{in_read}
use Rattle.record_fields.specs.Spots.{part}
use Rattle.record_steps.proofs.CallLaws.{drop_edited}
use Rattle.record_steps.proofs.HeadLaws.{bases_short, dropped_is, edit_needs, left_by, seq_fits}
use Rattle.record_steps.proofs.drop_with.Goals as goal

pub unpack_seq-requires : goal.unpack_seq-requires
unpack_seq-requires c =
    let room = c.requires.bam_value.3 in
    let n = c.requires.opened_as.1.1 in (
      seq_fits c.args.bam.now c.args.head c.requires.opened_as.1 c.requires.opened_as.0,
      bases_short c.args.bam.now 0 c.args.ats.now c.args.sizes.now c.args.head c.requires.opened_as,
      omega (arith, room, n),
    )

pub edit_record-requires : goal.edit_record-requires
edit_record-requires c =
    let front : take (c.args.head.bases - 0) c.unpack_seq.new.row ≡ in_read c.args.head.reverse c.args.head.bases (part c.args.bam.now c.args.head.seq_at (bytes_for c.args.head.bases)) = read_front c.args.head.reverse c.args.head.bases (part c.args.bam.now c.args.head.seq_at (bytes_for c.args.head.bases)) c.unpack_seq.new.row c.args.row.now (c.args.head.bases - 0)
    (omega arith) c.unpack_seq.ensures in
    let h = c.args.head in
    let long = ap length (front) in
    let few = bases_short c.args.bam.now 0 c.args.ats.now c.args.sizes.now h c.requires.opened_as in
    let both = edit_needs c.args.bam.now 0 c.args.ats.now c.args.sizes.now h c.requires.opened_as (take (h.bases - 0) c.unpack_seq.new.row)
    (omega (arith, few, long, length_in_read h.reverse h.bases (part c.args.bam.now h.seq_at (bytes_for h.bases)))) in
    record { from_in_bounds = both.0; by_index = both.1 }

pub returns : goal.returns
returns c =
    let front : take (c.args.head.bases - 0) c.unpack_seq.new.row ≡ in_read c.args.head.reverse c.args.head.bases (part c.args.bam.now c.args.head.seq_at (bytes_for c.args.head.bases)) = read_front c.args.head.reverse c.args.head.bases (part c.args.bam.now c.args.head.seq_at (bytes_for c.args.head.bases)) c.unpack_seq.new.row c.args.row.now (c.args.head.bases - 0)
    (omega arith) c.unpack_seq.ensures in
    let x = c.args.bam.now in
    c.edit_record.ensures
    ∙ left_by c.args.out.now
    (dropped_is x c.args.head c.requires.opened_as.1 (length c.args.out.now) c.args.places.now c.args.marks.now _ _ (front) c.mark_in_read.ensures c.requires.bam_value.4 c.requires.bam_value.5.1
    ∙ sym (drop_edited x 0 c.requires.opened_as.0 c.requires.opened_as.2 c.requires.opened_as.4 (length c.args.out.now) c.args.places.now refl c.requires.bam_value.1 c.requires.bam_value.0 c.requires.bam_value.2))

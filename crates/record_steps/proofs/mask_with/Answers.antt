-- `mask_with` compares SEQ as it is stored, and then edits over both SEQs in read orientation.
-- Assumes nothing.
use mathlib.Core.Path.{◌≡◌, ◌∙◌, ap, refl, sym}
use Prim.Native.Nat.{◌-◌}
use native.Mathlib.Omega.{arith}
use mathlib.Core.Bool.{false}
use lib.ListN.{length, take}
use Rattle.packed.proofs.Turning.{read_front}
use Rattle.packed.specs.Packed.{bytes_for, unpack}
use Rattle.packed.specs.Stored.{in_read}
use Rattle.record_fates.proofs.FateLaws.{opened_inside}
use Rattle.record_fields.specs.Bam.{packed_seq, seq_length}
use Rattle.record_fields.specs.Spots.{part}
use Rattle.record_rows.proofs.LetterLaws.{length_turned}
use Rattle.record_rows.specs.Letters.{turned_letters}
use Rattle.record_steps.proofs.CallLaws.{mask_edited, mask_same}
use Rattle.record_steps.proofs.HeadLaws.{bases_short, edit_needs, left_by, letters_front, masked_is, read_plain, seq_fits, seq_is}
use Rattle.samtags.specs.Edits.{same_bytes_of}
use Rattle.record_steps.proofs.mask_with.Goals as goal

pub unpack_seq-requires : goal.unpack_seq-requires
unpack_seq-requires c =
    let room = c.requires.bam_value.3 in
    let n = c.requires.opened_as.1.1 in (
      seq_fits c.args.bam.now c.args.head c.requires.opened_as.1 c.requires.opened_as.0,
      bases_short c.args.bam.now (length c.args.before.now) c.args.ats.now c.args.sizes.now c.args.head c.requires.opened_as,
      omega (arith, room, n),
    )

pub returns-then-same : goal.returns-then-same
returns-then-same c =
    let stored : c.same_bytes-same.result ≡ same_bytes_of c.args.before.now (unpack (seq_length c.args.bam.now) (packed_seq c.args.bam.now)) = (let front = read_front false c.args.head.bases (part c.args.bam.now c.args.head.seq_at (bytes_for c.args.head.bases)) c.unpack_seq.new.row c.args.second.now (c.args.head.bases - 0) (omega arith) c.unpack_seq.ensures in
    c.same_bytes-same.ensures
    ∙ ap (same_bytes_of c.args.before.now) (front ∙ seq_is c.args.bam.now c.args.head c.requires.opened_as.1 false ∙ read_plain (seq_length c.args.bam.now) (packed_seq c.args.bam.now))) in
    let x = c.args.bam.now in
    c.keep_record.ensures
    ∙ left_by c.args.out.now (sym (mask_same x (length c.args.before.now) c.requires.opened_as.0 c.requires.opened_as.2 c.requires.opened_as.4 (length c.args.out.now) c.args.before.now refl c.requires.bam_value.0 c.requires.bam_value.1
    (sym (stored) ∙ c.if-same.true)))

pub unpack_seq-requires-2 : goal.unpack_seq-requires-2
unpack_seq-requires-2 c =
    let room = c.requires.bam_value.3 in
    let n = c.requires.opened_as.1.1 in (
      seq_fits c.args.bam.now c.args.head c.requires.opened_as.1 c.requires.opened_as.0,
      bases_short c.args.bam.now (length c.args.before.now) c.args.ats.now c.args.sizes.now c.args.head c.requires.opened_as,
      omega (arith, room, n),
    )

pub edit_record-requires : goal.edit_record-requires
edit_record-requires c =
    let first_front : take (length c.args.before.now - 0) c.turn_letters.new.row ≡ turned_letters c.args.head.reverse c.args.before.now = (letters_front c.args.head.reverse c.args.before.now c.turn_letters.new.row c.args.first.now (length c.args.before.now - 0) (omega arith) c.turn_letters.ensures) in
    let front = ap length (first_front) in
    let few = (opened_inside c.args.bam.now (length c.args.before.now) c.args.ats.now c.args.sizes.now c.args.head c.requires.opened_as).letters_fit in
    let both = edit_needs c.args.bam.now (length c.args.before.now) c.args.ats.now c.args.sizes.now c.args.head c.requires.opened_as
    (take (length c.args.before.now - 0) c.turn_letters.new.row)
    (omega (arith, few, front, length_turned c.args.head.reverse c.args.before.now)) in
    record { from_in_bounds = both.0; by_index = both.1 }

pub returns : goal.returns
returns c =
    let stored : c.same_bytes-same.result ≡ same_bytes_of c.args.before.now (unpack (seq_length c.args.bam.now) (packed_seq c.args.bam.now)) = (let front = read_front false c.args.head.bases (part c.args.bam.now c.args.head.seq_at (bytes_for c.args.head.bases)) c.unpack_seq.new.row c.args.second.now (c.args.head.bases - 0) (omega arith) c.unpack_seq.ensures in
    c.same_bytes-same.ensures
    ∙ ap (same_bytes_of c.args.before.now) (front ∙ seq_is c.args.bam.now c.args.head c.requires.opened_as.1 false ∙ read_plain (seq_length c.args.bam.now) (packed_seq c.args.bam.now))) in
    let first_front : take (length c.args.before.now - 0) c.turn_letters.new.row ≡ turned_letters c.args.head.reverse c.args.before.now = (letters_front c.args.head.reverse c.args.before.now c.turn_letters.new.row c.args.first.now (length c.args.before.now - 0) (omega arith) c.turn_letters.ensures) in
    let second_front : take (c.args.head.bases - 0) c.unpack_seq-2.new.row ≡ in_read c.args.head.reverse c.args.head.bases (part c.args.bam.now c.args.head.seq_at (bytes_for c.args.head.bases)) = read_front c.args.head.reverse c.args.head.bases (part c.args.bam.now c.args.head.seq_at (bytes_for c.args.head.bases)) c.unpack_seq-2.new.row _ (c.args.head.bases - 0) (omega arith)
    c.unpack_seq-2.ensures in
    let x = c.args.bam.now in
    c.edit_record.ensures
    ∙ left_by c.args.out.now
    (masked_is x c.args.head c.requires.opened_as.1 (length c.args.out.now) c.args.before.now _ _ (first_front) (second_front)
    ∙ sym (mask_edited x (length c.args.before.now) c.requires.opened_as.0 c.requires.opened_as.2 c.requires.opened_as.4 (length c.args.out.now) c.args.before.now refl c.requires.bam_value.0 c.requires.bam_value.1
    (sym (stored) ∙ c.if-same.false)))

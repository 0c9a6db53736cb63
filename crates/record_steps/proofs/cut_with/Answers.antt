-- `cut_with` puts both SEQs in read orientation and compares them; then it cuts.
-- Assumes nothing.
use Rattle.std.specs.Prelude.{Ok, Some}
use mathlib.Core.Path.{◌≡◌, ◌∙◌, ap, refl, subst, sym}
use Prim.Native.Nat.{◌-◌, ℕ}
use native.Mathlib.Omega.{arith}
use mathlib.Core.Bool.{cond}
use lib.Dec.{eqb}
use lib.ListN.{drop, length, take}
use Rattle.packed.proofs.Turning.{length_in_read, read_front}
use Rattle.packed.specs.Packed.{bytes_for}
use Rattle.packed.specs.Stored.{in_read}
use Rattle.record_fates.specs.Fates.{OpenedAs}
use Rattle.record_fields.specs.Bam.{head_size, is_reverse, packed_seq, seq_length}
use Rattle.record_fields.specs.Fields.{fields_of}
use Rattle.record_fields.specs.Spots.{part}
use Rattle.record_rows.proofs.LetterLaws.{length_turned}
use Rattle.record_rows.specs.Letters.{turned_letters}
use Rattle.record_steps.proofs.CallLaws.{cut_same, cut_turned_is}
use Rattle.record_steps.proofs.HeadLaws.{bases_short, fields_by, left_by, letters_front, seq_fits, seq_read}
use Rattle.record_steps.specs.Cuts.{cut_turned}
use Rattle.record_tags.specs.Records.{start_of}
use Rattle.samtags.specs.Edits.{same_bytes_of, window_start}
use Rattle.record_steps.proofs.cut_with.Goals as goal

pub unpack_seq-requires : goal.unpack_seq-requires
unpack_seq-requires c =
    let room = c.requires.bam_value.4 in
    let n = c.requires.opened_as.1.1 in (
      seq_fits c.args.bam.now c.args.head c.requires.opened_as.1 c.requires.opened_as.0,
      bases_short c.args.bam.now (length c.args.before.now) c.args.ats.now c.args.sizes.now c.args.head c.requires.opened_as,
      omega (arith, room, n),
    )

pub returns-then-same : goal.returns-then-same
returns-then-same c =
    let old_front : take (length c.args.before.now - 0) c.turn_letters.new.row ≡ turned_letters c.args.before_reverse c.args.before.now = (letters_front c.args.before_reverse c.args.before.now c.turn_letters.new.row c.args.first.now (length c.args.before.now - 0) (omega arith) c.turn_letters.ensures) in
    let new_front : take (c.args.head.bases - 0) c.unpack_seq.new.row ≡ in_read (is_reverse c.args.bam.now) (seq_length c.args.bam.now) (packed_seq c.args.bam.now) = read_front c.args.head.reverse c.args.head.bases (part c.args.bam.now c.args.head.seq_at (bytes_for c.args.head.bases)) c.unpack_seq.new.row c.args.second.now (c.args.head.bases - 0)
    (omega arith) c.unpack_seq.ensures
    ∙ seq_read c.args.bam.now c.args.head c.requires.opened_as.1 in
    let compared : c.same_bytes-same.result ≡ same_bytes_of (turned_letters c.args.before_reverse c.args.before.now) (in_read (is_reverse c.args.bam.now) (seq_length c.args.bam.now) (packed_seq c.args.bam.now)) = c.same_bytes-same.ensures ∙ (λ j. same_bytes_of (old_front j) (new_front j)) in
    let x = c.args.bam.now in
    c.keep_record.ensures
    ∙ left_by c.args.out.now (sym (cut_same x (length c.args.before.now) c.requires.opened_as.0 c.requires.opened_as.2 c.requires.opened_as.4 (length c.args.out.now) c.args.before.now refl c.args.before_reverse c.args.start
    c.requires.bam_value.0 c.requires.bam_value.2 c.requires.bam_value.1 (sym (compared) ∙ c.if-same.true)))

pub cut_turned-requires : goal.cut_turned-requires
cut_turned-requires c =
    let old_front : take (length c.args.before.now - 0) c.turn_letters.new.row ≡ turned_letters c.args.before_reverse c.args.before.now = (letters_front c.args.before_reverse c.args.before.now c.turn_letters.new.row c.args.first.now (length c.args.before.now - 0) (omega arith) c.turn_letters.ensures) in
    let new_front : take (c.args.head.bases - 0) c.unpack_seq.new.row ≡ in_read (is_reverse c.args.bam.now) (seq_length c.args.bam.now) (packed_seq c.args.bam.now) = read_front c.args.head.reverse c.args.head.bases (part c.args.bam.now c.args.head.seq_at (bytes_for c.args.head.bases)) c.unpack_seq.new.row c.args.second.now (c.args.head.bases - 0)
    (omega arith) c.unpack_seq.ensures
    ∙ seq_read c.args.bam.now c.args.head c.requires.opened_as.1 in
    let x = c.args.bam.now in
    let long : length (take (length c.args.before.now - 0) c.turn_letters.new.row) ≡ length c.args.before.now =
    ap length (old_front) ∙ length_turned c.args.before_reverse c.args.before.now in record { opened_as = subst (λ (k : ℕ). OpenedAs x k c.args.ats.now c.args.sizes.now (Ok c.args.head)) (sym long) c.requires.opened_as; bam_value = (c.requires.bam_value.0, ap length (new_front) ∙ length_in_read (is_reverse x) (seq_length x) (packed_seq x)) }

pub returns : goal.returns
returns c =
    let old_front : take (length c.args.before.now - 0) c.turn_letters.new.row ≡ turned_letters c.args.before_reverse c.args.before.now = (letters_front c.args.before_reverse c.args.before.now c.turn_letters.new.row c.args.first.now (length c.args.before.now - 0) (omega arith) c.turn_letters.ensures) in
    let new_front : take (c.args.head.bases - 0) c.unpack_seq.new.row ≡ in_read (is_reverse c.args.bam.now) (seq_length c.args.bam.now) (packed_seq c.args.bam.now) = read_front c.args.head.reverse c.args.head.bases (part c.args.bam.now c.args.head.seq_at (bytes_for c.args.head.bases)) c.unpack_seq.new.row c.args.second.now (c.args.head.bases - 0)
    (omega arith) c.unpack_seq.ensures
    ∙ seq_read c.args.bam.now c.args.head c.requires.opened_as.1 in
    let compared : c.same_bytes-same.result ≡ same_bytes_of (turned_letters c.args.before_reverse c.args.before.now) (in_read (is_reverse c.args.bam.now) (seq_length c.args.bam.now) (packed_seq c.args.bam.now)) = c.same_bytes-same.ensures ∙ (λ j. same_bytes_of (old_front j) (new_front j)) in
    let x = c.args.bam.now in
    let n = seq_length x in
    let old = turned_letters c.args.before_reverse c.args.before.now in
    let new = in_read (is_reverse x) n (packed_seq x) in
    let fs = fields_of (drop (head_size x) x) in
    let start = start_of (is_reverse x) c.args.before_reverse (length c.args.before.now) n c.args.start in
    let begin : c.start_of-begin.result ≡ window_start start old new =
    c.start_of-begin.ensures
    ∙ (λ j. cond (eqb (length c.args.before.now) (c.requires.opened_as.1.1 j)) (Some 0) (start_of (c.requires.opened_as.1.0 j) c.args.before_reverse (length c.args.before.now) (c.requires.opened_as.1.1 j) c.args.start))
    ∙ (λ j. cond (eqb (sym (length_turned c.args.before_reverse c.args.before.now) j) (sym (length_in_read (is_reverse x) n (packed_seq x)) j)) (Some 0) start) in
    c.cut_turned.ensures
    ∙ left_by c.args.out.now
    (fields_by x (length c.args.out.now) fs (λ j. cut_turned x (old_front j) (new_front j) (begin j) fs)
    ∙ sym (cut_turned_is x (length c.args.before.now) c.requires.opened_as.0 c.requires.opened_as.2 c.requires.opened_as.4 (length c.args.out.now) c.args.before.now refl c.args.before_reverse c.args.start
    c.requires.bam_value.0 c.requires.bam_value.2 c.requires.bam_value.1 (sym (compared) ∙ c.if-same.false) (length_turned c.args.before_reverse c.args.before.now)))

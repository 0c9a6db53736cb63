-- What is not one of the five tags is untouched: head, name, CIGAR, SEQ, qualities, and every other field in its order.
-- Assumes nothing.
use mathlib.Core.Path.{ap, ◌∙◌}
use Prim.Native.Nat.{ℕ}
use mathlib.Core.List.{List}
use Rattle.lent.specs.Lists.{filter}
use Rattle.record_fields.specs.Fields.{Field}
use Rattle.record_says.proofs.Made.{Made, cut_made, drop_made, fields_are, front_same, mask_made, packed_same, reverse_same, seq_length_same, size_same}
use Rattle.record_says.proofs.Pieces.{each_others}
use Rattle.record_says.specs.Says.{Remade, Untouched, cut, dropped, is_other, masked}
use Rattle.record_tags.specs.Records.{Finished}

stays : {n : ℕ} {bam : List ℕ} {new : List Field} {r : Finished} → Made n bam new r → Untouched bam r.bytes
stays {n} {bam} {new} {r} m = record {
  front = front_same m;
  head_size_lem = size_same m;
  length_of_seq = seq_length_same bam r.bytes (front_same m);
  strand = reverse_same bam r.bytes (front_same m);
  seq = packed_same bam r.bytes (front_same m);
  others = ap (filter is_other) (fields_are m) ∙ each_others m.each;
}

-- Each of the three calls leaves untouched what is not one of the five tags.
pub the_rest_stays : {bam : List ℕ} {r : Finished} → Remade bam r → Untouched bam r.bytes
the_rest_stays {bam} {r} (masked before room e) = stays (mask_made bam before room r e)
the_rest_stays {bam} {r} (dropped places room e) = stays (drop_made bam places room r e)
the_rest_stays {bam} {r} (cut before before-reverse start room e) = stays (cut_made bam before before-reverse start room r e)

-- What comes out parses again: a record that a call makes is whole, and its fields are exactly those that the call's definition names.
-- Assumes nothing.
use Rattle.std.specs.Prelude.{Ok, Option}
use mathlib.Core.Path.{◌≡◌}
use Prim.Native.Nat.{ℕ}
use mathlib.Core.Bool.{Bool}
use mathlib.Core.List.{List}
use Rattle.record_fields.specs.Fields.{Field}
use Rattle.record_says.proofs.Made.{Made, cut_made, drop_made, mask_made, new_whole, tail_parses}
use Rattle.record_says.specs.Says.{ParsesTo, cut_fields_of, dropped_fields, masked_fields}
use Rattle.record_tags.specs.Records.{Finished, cut_record, drop_record, mask_record}

parses : {n : ℕ} {bam : List ℕ} {new : List Field} {r : Finished} → Made n bam new r → ParsesTo r.bytes new
parses m = record { whole = new_whole m; parsed = tail_parses m }

-- A masked record parses to the fields that a mask leaves.
pub mask_parses : (bam before : List ℕ) (room : ℕ) (r : Finished) → mask_record bam before room ≡ Ok r → ParsesTo r.bytes (masked_fields bam before)
mask_parses bam before room r e = parses (mask_made bam before room r e)

-- A record after a drop parses to the fields that the drop leaves.
pub drop_parses : (bam places : List ℕ) (room : ℕ) (r : Finished) → drop_record bam places room ≡ Ok r → ParsesTo r.bytes (dropped_fields bam places)
drop_parses bam places room r e = parses (drop_made bam places room r e)

-- A record after a cut parses to the fields that the cut leaves.
pub cut_parses : (bam before : List ℕ) (before-reverse : Bool) (start : Option ℕ) (room : ℕ) (r : Finished)
    → cut_record bam before before-reverse start room ≡ Ok r → ParsesTo r.bytes (cut_fields_of bam before before-reverse start)
cut_parses bam before before-reverse start room r e = parses (cut_made bam before before-reverse start room r e)

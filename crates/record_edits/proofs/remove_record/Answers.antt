-- `remove_record` writes the record by the plan that lets the five names go.
-- Assumes nothing.
use mathlib.Core.Path.{◌∙◌, ap}
use native.Mathlib.Omega.{arith}
use mathlib.Core.List.{[]}
use lib.ListN.{drop, length}
use Rattle.record_edits.proofs.EditedLaws.{removed}
use Rattle.record_edits.proofs.Removal.{removal_ready}
use Rattle.record_fields.specs.Fields.{fields_of}
use Rattle.record_tags.specs.Plans.{by_window, means}
use Rattle.record_tags.specs.Records.{Finished, in_room}
use Rattle.record_writing.specs.Answers.{leaves_record}
use Rattle.record_edits.proofs.remove_record.Goals as goal

pub write_record-requires : goal.write_record-requires
write_record-requires c =
    let fs = fields_of (drop c.args.from c.args.bam.now) in
    record { from_in_bounds = (c.requires.0, omega arith, omega arith, omega arith, omega arith); bam_value = c.requires.1; ready = removal_ready (means (by_window 0 [] [] []) [] [] 0) fs }

pub returns : goal.returns
returns c =
    c.write_record.ensures
    ∙ ap (λ (f : Finished). leaves_record (in_room (length c.args.out.now) f) c.args.out.now)
    (removed (means (by_window 0 [] [] []) [] [] 0) c.args.bam.now c.args.from c.requires.2)

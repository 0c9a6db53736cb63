-- `cut_turned`: without a window all tags go, else they are edited over it.
-- Assumes nothing.
use mathlib.Core.Path.{◌∙◌, ap, refl, sym}
use mathlib.Core.Bool.{not}
use lib.Dec.{eqb}
use lib.ListN.{drop, length}
use Rattle.record_fates.proofs.FateLaws.{opened_inside}
use Rattle.record_fields.specs.Bam.{head_size}
use Rattle.record_fields.specs.Fields.{fields_of}
use Rattle.record_steps.proofs.HeadLaws.{cut_is_made, cut_to, cut_unknown, cut_unlike, edit_needs, fields_by, left_by, removal_needs, removed_from}
use Rattle.record_steps.proofs.cut_turned.Goals as goal

pub remove_record-requires : goal.remove_record-requires
remove_record-requires c =
    removal_needs c.args.bam.now (length c.args.old.now) c.args.ats.now c.args.sizes.now c.args.head c.requires.opened_as c.requires.bam_value.0

pub returns-in_default : goal.returns-in_default
returns-in_default c =
    let x = c.args.bam.now in
    let fs = fields_of (drop (head_size x) x) in
    c.remove_record.ensures
    ∙ left_by c.args.out.now (removed_from x c.args.head c.requires.opened_as.1 (length c.args.out.now)
    ∙ fields_by x (length c.args.out.now) fs (sym (cut_unknown x c.args.old.now c.args.new.now fs c.args.start (sym c.in_default.is))))

pub remove_record-requires-then-not-window : goal.remove_record-requires-then-not-window
remove_record-requires-then-not-window c =
    removal_needs c.args.bam.now (length c.args.old.now) c.args.ats.now c.args.sizes.now c.args.head c.requires.opened_as c.requires.bam_value.0

pub returns-then-not-window : goal.returns-then-not-window
returns-then-not-window c =
    let x = c.args.bam.now in
    let fs = fields_of (drop (head_size x) x) in
    c.remove_record-then-not-window.ensures
    ∙ left_by c.args.out.now (removed_from x c.args.head c.requires.opened_as.1 (length c.args.out.now)
    ∙ fields_by x (length c.args.out.now) fs (sym (cut_unlike x c.args.old.now c.args.new.now fs c.args.start c.in-Some.lo (sym c.in-Some.is)
    (sym c.lies_in-window.ensures ∙ c.if-not-window.true))))

pub edit_record-requires : goal.edit_record-requires
edit_record-requires c =
    let few = (opened_inside c.args.bam.now (length c.args.old.now) c.args.ats.now c.args.sizes.now c.args.head c.requires.opened_as).letters_fit in
    let both = edit_needs c.args.bam.now (length c.args.old.now) c.args.ats.now c.args.sizes.now c.args.head c.requires.opened_as c.args.old.now few in
    record { from_in_bounds = both.0; by_index = both.1 }

pub returns : goal.returns
returns c =
    let x = c.args.bam.now in
    let fs = fields_of (drop (head_size x) x) in
    c.edit_record.ensures
    ∙ left_by c.args.out.now (cut_is_made x c.args.head c.requires.opened_as.1 (length c.args.out.now) c.in-Some.lo c.args.old.now c.args.new.now
    (not (eqb (length c.args.old.now) (length c.args.new.now))) refl c.requires.bam_value.1
    ∙ fields_by x (length c.args.out.now) fs (sym (cut_to x c.args.old.now c.args.new.now fs c.args.start c.in-Some.lo (sym c.in-Some.is)
    (sym c.lies_in-window.ensures ∙ c.if-not-window.false))))

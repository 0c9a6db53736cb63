-- `cut_record` opens the record, looks whether it is tagged, whether there is a base and whether MN agrees, and then cuts.
-- Assumes nothing.
use Rattle.std.specs.Prelude.{Ok, Err}
use mathlib.Core.Path.{◌≡◌, ◌∙◌, ap, refl, subst, sym}
use mathlib.Core.Bool.{◌&&◌}
use lib.ListN.{drop, length}
use lib.Dec.{eqb}
use Rattle.lent.specs.Lists.{is_empty}
use Rattle.lent.specs.Outcome.{Outcome}
use Rattle.record_fates.specs.Fates.{OpenedAs}
use Rattle.record_fields.specs.Bam.{head_size, seq_length}
use Rattle.record_fields.specs.Fields.{MN, fields_of, first_named}
use Rattle.record_steps.proofs.CallLaws.{cut_nothing, cut_stale, cut_untagged}
use Rattle.record_steps.proofs.HeadLaws.{left_by, removal_needs, removed_from}
use Rattle.record_tags.specs.Changes.{is_tagged}
use Rattle.record_tags.specs.Values.{disagrees}
use Rattle.record_writing.specs.Answers.{left}
use Rattle.record.proofs.RecordLaws.{cut_refused, left_alone, nothing_is, stale_is, stale_needs}
use Rattle.lent.proofs.Outcome.{passed_on}
use Rattle.record.proofs.cut_record.Goals as goal

pub returns-in_err-head : goal.returns-in_err-head
returns-in_err-head c =
    let not : OpenedAs c.args.bam.now (length c.args.before.now) c.open_record.new.ats c.open_record.new.sizes (Err c.in_err-head.field-0.0) = subst (OpenedAs c.args.bam.now (length c.args.before.now) c.open_record.new.ats c.open_record.new.sizes) c.in_err-head.was c.open_record.ensures in
    ap (λ (o : Outcome _). left o c.args.out.now) (passed_on _ _ c.from_residual.ensures.1)
    ∙ left_alone _ c.args.out.now c.in_err-head.field-0.0
    (cut_refused c.args.bam.now (length c.args.before.now) (length c.args.out.now) c.in_err-head.field-0.0 (not) c.args.before.now c.args.before_reverse c.args.start refl)

pub returns-then-not-tagged : goal.returns-then-not-tagged
returns-then-not-tagged c =
    let to : OpenedAs c.args.bam.now (length c.args.before.now) c.open_record.new.ats c.open_record.new.sizes (Ok c.in_ok-head.head) = subst (OpenedAs c.args.bam.now (length c.args.before.now) c.open_record.new.ats c.open_record.new.sizes) c.in_ok-head.was c.open_record.ensures in
    let tagged : c.is_tagged-tagged.result ≡ is_tagged (fields_of (drop (head_size c.args.bam.now) c.args.bam.now)) = c.is_tagged-tagged.ensures c.args.bam.now (fields_of (drop (head_size c.args.bam.now) c.args.bam.now)) c.open_record.new.ats (to).3 in
    let x = c.args.bam.now in
    let o = to in
    c.keep_record.ensures
    ∙ left_by c.args.out.now (sym (cut_untagged x (length c.args.before.now) o.0 o.2 o.4 (length c.args.out.now) c.args.before.now refl c.args.before_reverse c.args.start (sym (tagged) ∙ c.if-not-tagged.true)))

pub returns-then-nothing : goal.returns-then-nothing
returns-then-nothing c =
    let to : OpenedAs c.args.bam.now (length c.args.before.now) c.open_record.new.ats c.open_record.new.sizes (Ok c.in_ok-head.head) = subst (OpenedAs c.args.bam.now (length c.args.before.now) c.open_record.new.ats c.open_record.new.sizes) c.in_ok-head.was c.open_record.ensures in
    let tagged : c.is_tagged-tagged.result ≡ is_tagged (fields_of (drop (head_size c.args.bam.now) c.args.bam.now)) = c.is_tagged-tagged.ensures c.args.bam.now (fields_of (drop (head_size c.args.bam.now) c.args.bam.now)) c.open_record.new.ats (to).3 in
    let nothing : c.is_nothing-nothing.result ≡ (is_empty c.args.before.now && eqb (seq_length c.args.bam.now) 0) = nothing_is c.args.before.now c.is_nothing-nothing.result _ _ (to).1.1 c.is_nothing-nothing.ensures in
    let x = c.args.bam.now in
    let o = to in
    c.keep_record-then-nothing.ensures
    ∙ left_by c.args.out.now (sym (cut_nothing x (length c.args.before.now) o.0 o.2 o.4 (length c.args.out.now) c.args.before.now refl c.args.before_reverse c.args.start (sym (tagged) ∙ c.if-not-tagged.false) (sym (nothing) ∙ c.if-nothing.true)))

pub is_stale-stale-requires : goal.is_stale-stale-requires
is_stale-stale-requires c =
    let to : OpenedAs c.args.bam.now (length c.args.before.now) c.open_record.new.ats c.open_record.new.sizes (Ok c.in_ok-head.head) = subst (OpenedAs c.args.bam.now (length c.args.before.now) c.open_record.new.ats c.open_record.new.sizes) c.in_ok-head.was c.open_record.ensures in
    let x = c.args.bam.now in
    let o = to in
    stale_needs x (length c.args.before.now) c.open_record.new.ats c.open_record.new.sizes c.in_ok-head.head o

pub remove_record-requires : goal.remove_record-requires
remove_record-requires c =
    let to : OpenedAs c.args.bam.now (length c.args.before.now) c.open_record.new.ats c.open_record.new.sizes (Ok c.in_ok-head.head) = subst (OpenedAs c.args.bam.now (length c.args.before.now) c.open_record.new.ats c.open_record.new.sizes) c.in_ok-head.was c.open_record.ensures in
    let tagged : c.is_tagged-tagged.result ≡ is_tagged (fields_of (drop (head_size c.args.bam.now) c.args.bam.now)) = c.is_tagged-tagged.ensures c.args.bam.now (fields_of (drop (head_size c.args.bam.now) c.args.bam.now)) c.open_record.new.ats (to).3 in
    let x = c.args.bam.now in
    let o = to in
    removal_needs x (length c.args.before.now) c.open_record.new.ats c.open_record.new.sizes c.in_ok-head.head o (sym (tagged) ∙ c.if-not-tagged.false)

pub returns-then-stale : goal.returns-then-stale
returns-then-stale c =
    let to : OpenedAs c.args.bam.now (length c.args.before.now) c.open_record.new.ats c.open_record.new.sizes (Ok c.in_ok-head.head) = subst (OpenedAs c.args.bam.now (length c.args.before.now) c.open_record.new.ats c.open_record.new.sizes) c.in_ok-head.was c.open_record.ensures in
    let tagged : c.is_tagged-tagged.result ≡ is_tagged (fields_of (drop (head_size c.args.bam.now) c.args.bam.now)) = c.is_tagged-tagged.ensures c.args.bam.now (fields_of (drop (head_size c.args.bam.now) c.args.bam.now)) c.open_record.new.ats (to).3 in
    let stale : c.is_stale-stale.result ≡ disagrees (length c.args.before.now) (first_named MN (fields_of (drop (head_size c.args.bam.now) c.args.bam.now))) = stale_is c.args.bam.now (length c.args.before.now) c.open_record.new.ats c.open_record.new.sizes c.in_ok-head.head (to) c.is_stale-stale.result _ _ refl c.is_stale-stale.ensures in
    let nothing : c.is_nothing-nothing.result ≡ (is_empty c.args.before.now && eqb (seq_length c.args.bam.now) 0) = nothing_is c.args.before.now c.is_nothing-nothing.result _ _ (to).1.1 c.is_nothing-nothing.ensures in
    let x = c.args.bam.now in
    let o = to in
    c.remove_record.ensures
    ∙ left_by c.args.out.now (removed_from x c.in_ok-head.head o.1 (length c.args.out.now)
    ∙ sym (cut_stale x (length c.args.before.now) o.0 o.2 o.4 (length c.args.out.now) c.args.before.now refl c.args.before_reverse c.args.start (sym (tagged) ∙ c.if-not-tagged.false) (sym (nothing) ∙ c.if-nothing.false) (sym (stale) ∙ c.if-stale.true)))

pub cut_opened-requires : goal.cut_opened-requires
cut_opened-requires c =
    let to : OpenedAs c.args.bam.now (length c.args.before.now) c.open_record.new.ats c.open_record.new.sizes (Ok c.in_ok-head.head) = subst (OpenedAs c.args.bam.now (length c.args.before.now) c.open_record.new.ats c.open_record.new.sizes) c.in_ok-head.was c.open_record.ensures in
    let tagged : c.is_tagged-tagged.result ≡ is_tagged (fields_of (drop (head_size c.args.bam.now) c.args.bam.now)) = c.is_tagged-tagged.ensures c.args.bam.now (fields_of (drop (head_size c.args.bam.now) c.args.bam.now)) c.open_record.new.ats (to).3 in
    let stale : c.is_stale-stale.result ≡ disagrees (length c.args.before.now) (first_named MN (fields_of (drop (head_size c.args.bam.now) c.args.bam.now))) = stale_is c.args.bam.now (length c.args.before.now) c.open_record.new.ats c.open_record.new.sizes c.in_ok-head.head (to) c.is_stale-stale.result _ _ refl c.is_stale-stale.ensures in
    let nothing : c.is_nothing-nothing.result ≡ (is_empty c.args.before.now && eqb (seq_length c.args.bam.now) 0) = nothing_is c.args.before.now c.is_nothing-nothing.result _ _ (to).1.1 c.is_nothing-nothing.ensures in
    let o = to in
    record { opened_as = o; bam_value = ((sym (tagged) ∙ c.if-not-tagged.false), sym (stale) ∙ c.if-stale.false, (sym (nothing) ∙ c.if-nothing.false)) }

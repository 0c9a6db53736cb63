-- `drop_record` opens the record, looks whether there is a place and a tag and whether MN agrees, and then drops.
-- Assumes nothing.
use Rattle.std.specs.Prelude.{Ok, Err}
use mathlib.Core.Path.{◌≡◌, ◌∙◌, ap, refl, subst, sym}
use native.Mathlib.Omega.{arith}
use mathlib.Core.Bool.{false, true}
use lib.ListN.{drop, length}
use borrow.Author.Tests.{eq-eqb, ne_eqb}
use Rattle.lent.specs.Lists.{is_empty}
use Rattle.lent.specs.Outcome.{Outcome}
use Rattle.record_fates.specs.Fates.{OpenedAs}
use Rattle.record_fields.specs.Bam.{head_size, seq_length}
use Rattle.record_fields.specs.Fields.{MN, fields_of, first_named}
use Rattle.record_steps.proofs.CallLaws.{drop_none, drop_stale, drop_untagged}
use Rattle.record_steps.proofs.HeadLaws.{left_by, removal_needs, removed_from}
use Rattle.record_tags.specs.Changes.{is_tagged}
use Rattle.record_tags.specs.Values.{disagrees}
use Rattle.record_writing.specs.Answers.{left}
use Rattle.record.proofs.RecordLaws.{drop_refused, empty_is, left_alone, stale_is, stale_needs}
use Rattle.lent.proofs.Outcome.{passed_on}
use Rattle.record.proofs.drop_record.Goals as goal

pub returns-in_err-head : goal.returns-in_err-head
returns-in_err-head c =
    let not : OpenedAs c.args.bam.now 0 c.open_record.new.ats c.open_record.new.sizes (Err c.in_err-head.field-0.0) = subst (OpenedAs c.args.bam.now 0 c.open_record.new.ats c.open_record.new.sizes) c.in_err-head.was c.open_record.ensures in
    ap (λ (o : Outcome _). left o c.args.out.now) (passed_on _ _ c.from_residual.ensures.1)
    ∙ left_alone _ c.args.out.now c.in_err-head.field-0.0
    (drop_refused c.args.bam.now 0 (length c.args.out.now) c.in_err-head.field-0.0 (not) c.args.places.now refl)

pub returns-then-places-eq0 : goal.returns-then-places-eq0
returns-then-places-eq0 c =
    let to : OpenedAs c.args.bam.now 0 c.open_record.new.ats c.open_record.new.sizes (Ok c.in_ok-head.head) = subst (OpenedAs c.args.bam.now 0 c.open_record.new.ats c.open_record.new.sizes) c.in_ok-head.was c.open_record.ensures in
    let x = c.args.bam.now in
    let o = to in
    c.keep_record.ensures
    ∙ left_by c.args.out.now (sym (drop_none x 0 o.0 o.2 o.4 (length c.args.out.now) c.args.places.now refl (empty_is c.args.places.now ∙ eq-eqb (length c.args.places.now) 0 (let none = c.if-places-eq0.true in omega (arith, none)))))

pub returns-then-not-tagged : goal.returns-then-not-tagged
returns-then-not-tagged c =
    let to : OpenedAs c.args.bam.now 0 c.open_record.new.ats c.open_record.new.sizes (Ok c.in_ok-head.head) = subst (OpenedAs c.args.bam.now 0 c.open_record.new.ats c.open_record.new.sizes) c.in_ok-head.was c.open_record.ensures in
    let tagged : c.is_tagged-tagged.result ≡ is_tagged (fields_of (drop (head_size c.args.bam.now) c.args.bam.now)) = c.is_tagged-tagged.ensures c.args.bam.now (fields_of (drop (head_size c.args.bam.now) c.args.bam.now)) c.open_record.new.ats (to).3 in
    let some_place : is_empty c.args.places.now ≡ false = empty_is c.args.places.now ∙ ne_eqb (length c.args.places.now) 0 (λ z. let left = c.if-places-eq0.false in omega (arith, z, left)) in
    let x = c.args.bam.now in
    let o = to in
    c.keep_record-then-not-tagged.ensures
    ∙ left_by c.args.out.now (sym (drop_untagged x 0 o.0 o.2 o.4 (length c.args.out.now) c.args.places.now refl (some_place) (sym (tagged) ∙ c.if-not-tagged.true)))

pub is_stale-stale-requires : goal.is_stale-stale-requires
is_stale-stale-requires c =
    let to : OpenedAs c.args.bam.now 0 c.open_record.new.ats c.open_record.new.sizes (Ok c.in_ok-head.head) = subst (OpenedAs c.args.bam.now 0 c.open_record.new.ats c.open_record.new.sizes) c.in_ok-head.was c.open_record.ensures in
    let x = c.args.bam.now in
    let o = to in
    stale_needs x 0 c.open_record.new.ats c.open_record.new.sizes c.in_ok-head.head o

pub remove_record-requires : goal.remove_record-requires
remove_record-requires c =
    let to : OpenedAs c.args.bam.now 0 c.open_record.new.ats c.open_record.new.sizes (Ok c.in_ok-head.head) = subst (OpenedAs c.args.bam.now 0 c.open_record.new.ats c.open_record.new.sizes) c.in_ok-head.was c.open_record.ensures in
    let tagged : c.is_tagged-tagged.result ≡ is_tagged (fields_of (drop (head_size c.args.bam.now) c.args.bam.now)) = c.is_tagged-tagged.ensures c.args.bam.now (fields_of (drop (head_size c.args.bam.now) c.args.bam.now)) c.open_record.new.ats (to).3 in
    let x = c.args.bam.now in
    let o = to in
    removal_needs x 0 c.open_record.new.ats c.open_record.new.sizes c.in_ok-head.head o (sym (tagged) ∙ c.if-not-tagged.false)

pub returns-then-stale : goal.returns-then-stale
returns-then-stale c =
    let to : OpenedAs c.args.bam.now 0 c.open_record.new.ats c.open_record.new.sizes (Ok c.in_ok-head.head) = subst (OpenedAs c.args.bam.now 0 c.open_record.new.ats c.open_record.new.sizes) c.in_ok-head.was c.open_record.ensures in
    let tagged : c.is_tagged-tagged.result ≡ is_tagged (fields_of (drop (head_size c.args.bam.now) c.args.bam.now)) = c.is_tagged-tagged.ensures c.args.bam.now (fields_of (drop (head_size c.args.bam.now) c.args.bam.now)) c.open_record.new.ats (to).3 in
    let stale : c.is_stale-stale.result ≡ disagrees (seq_length c.args.bam.now) (first_named MN (fields_of (drop (head_size c.args.bam.now) c.args.bam.now))) = stale_is c.args.bam.now 0 c.open_record.new.ats c.open_record.new.sizes c.in_ok-head.head (to) c.is_stale-stale.result _ _ (to).1.1 c.is_stale-stale.ensures in
    let some_place : is_empty c.args.places.now ≡ false = empty_is c.args.places.now ∙ ne_eqb (length c.args.places.now) 0 (λ z. let left = c.if-places-eq0.false in omega (arith, z, left)) in
    let x = c.args.bam.now in
    let o = to in
    let yes : is_tagged (fields_of (drop (head_size x) x)) ≡ true = sym (tagged) ∙ c.if-not-tagged.false in
    let gone : c.is_stale-stale.result ≡ true = c.if-stale.true in
    c.remove_record.ensures
    ∙ left_by c.args.out.now (removed_from x c.in_ok-head.head o.1 (length c.args.out.now)
    ∙ sym (drop_stale x 0 o.0 o.2 o.4 (length c.args.out.now) c.args.places.now refl (some_place) yes (sym (stale) ∙ gone)))

pub drop_opened-requires : goal.drop_opened-requires
drop_opened-requires c =
    let to : OpenedAs c.args.bam.now 0 c.open_record.new.ats c.open_record.new.sizes (Ok c.in_ok-head.head) = subst (OpenedAs c.args.bam.now 0 c.open_record.new.ats c.open_record.new.sizes) c.in_ok-head.was c.open_record.ensures in
    let tagged : c.is_tagged-tagged.result ≡ is_tagged (fields_of (drop (head_size c.args.bam.now) c.args.bam.now)) = c.is_tagged-tagged.ensures c.args.bam.now (fields_of (drop (head_size c.args.bam.now) c.args.bam.now)) c.open_record.new.ats (to).3 in
    let stale : c.is_stale-stale.result ≡ disagrees (seq_length c.args.bam.now) (first_named MN (fields_of (drop (head_size c.args.bam.now) c.args.bam.now))) = stale_is c.args.bam.now 0 c.open_record.new.ats c.open_record.new.sizes c.in_ok-head.head (to) c.is_stale-stale.result _ _ (to).1.1 c.is_stale-stale.ensures in
    let some_place : is_empty c.args.places.now ≡ false = empty_is c.args.places.now ∙ ne_eqb (length c.args.places.now) 0 (λ z. let left = c.if-places-eq0.false in omega (arith, z, left)) in
    let o = to in
    record { opened_as = o; bam_value = (sym (tagged) ∙ c.if-not-tagged.false, some_place, sym (stale) ∙ c.if-stale.false) }

-- `open_record`: head, fields and lengths, in this order. What the callees say at the byte that the head names is said at the head's size.
-- Assumes nothing.
use mathlib.Core.Path.{◌∙◌, ◌≡◌, subst, sym}
use mathlib.Core.Bool.{true}
use Prim.Native.Nat.{ℕ}
use native.Mathlib.Omega.{arith}
use lib.ListN.{drop}
use Rattle.lent.specs.Answers.{is_done}
use Rattle.record_fates.proofs.OpeningLaws.{refused_1, refused_14, refused_15, spots_sound, whole_fits}
use Rattle.record_fields.specs.Bam.{head_size, is_whole, seq_length}
use Rattle.record_fields.specs.Fields.{fields, fields_of}
use Rattle.record_fields.specs.Spots.{Spots}
use Rattle.record_tags.specs.Records.{in_domain}
use Rattle.record_fates.proofs.open_record.Goals as goal

pub returns-then-not-whole : goal.returns-then-not-whole
returns-then-not-whole c =
    λ room new. refused_14 c.args.bam.now c.args.letters room new (sym c.is_whole-whole.ensures ∙ c.if-not-whole.true)

pub head_of-head-requires : goal.head_of-head-requires
head_of-head-requires c =
    let whole : is_whole c.args.bam.now ≡ true = sym c.is_whole-whole.ensures ∙ c.if-not-whole.false in
    (whole_fits c.args.bam.now (whole)).0

pub scan_fields-parsed-requires : goal.scan_fields-parsed-requires
scan_fields-parsed-requires c =
    let whole : is_whole c.args.bam.now ≡ true = sym c.is_whole-whole.ensures ∙ c.if-not-whole.false in
    let bam = c.args.bam.now in
    omega (arith, (whole_fits bam (whole)).1, c.head_of-head.ensures.3)

pub returns-then-not-parsed : goal.returns-then-not-parsed
returns-then-not-parsed c =
    let whole : is_whole c.args.bam.now ≡ true = sym c.is_whole-whole.ensures ∙ c.if-not-whole.false in
    let parsed : c.scan_fields-parsed.result ≡ is_done (fields (drop (head_size c.args.bam.now) c.args.bam.now)) = subst (λ (at : ℕ). c.scan_fields-parsed.result ≡ is_done (fields (drop at c.args.bam.now))) c.head_of-head.ensures.3 c.scan_fields-parsed.ensures.0 in
    λ room new.
    refused_15 c.args.bam.now c.args.letters room new (whole) (sym (parsed) ∙ c.if-not-parsed.true)

pub lengths_fit-fits-requires : goal.lengths_fit-fits-requires
lengths_fit-fits-requires c =
    let parsed : c.scan_fields-parsed.result ≡ is_done (fields (drop (head_size c.args.bam.now) c.args.bam.now)) = subst (λ (at : ℕ). c.scan_fields-parsed.result ≡ is_done (fields (drop at c.args.bam.now))) c.head_of-head.ensures.3 c.scan_fields-parsed.ensures.0 in
    let noted : (is_done (fields (drop (head_size c.args.bam.now) c.args.bam.now)) ≡ true) × Spots c.args.bam.now (fields_of (drop (head_size c.args.bam.now) c.args.bam.now)) c.scan_fields-parsed.new.ats c.scan_fields-parsed.new.sizes = (let yes : c.scan_fields-parsed.result ≡ true = c.if-not-parsed.false in (
      sym (parsed) ∙ yes,
      subst (λ (at : ℕ). Spots c.args.bam.now (fields_of (drop at c.args.bam.now)) c.scan_fields-parsed.new.ats c.scan_fields-parsed.new.sizes) c.head_of-head.ensures.3 (c.scan_fields-parsed.ensures.1 yes),
    )) in
    let bam = c.args.bam.now in
    let n = noted in
    spots_sound bam (head_size bam) c.scan_fields-parsed.new.ats c.scan_fields-parsed.new.sizes n.0 n.1

pub returns-then-not-fits : goal.returns-then-not-fits
returns-then-not-fits c =
    let whole : is_whole c.args.bam.now ≡ true = sym c.is_whole-whole.ensures ∙ c.if-not-whole.false in
    let parsed : c.scan_fields-parsed.result ≡ is_done (fields (drop (head_size c.args.bam.now) c.args.bam.now)) = subst (λ (at : ℕ). c.scan_fields-parsed.result ≡ is_done (fields (drop at c.args.bam.now))) c.head_of-head.ensures.3 c.scan_fields-parsed.ensures.0 in
    let noted : (is_done (fields (drop (head_size c.args.bam.now) c.args.bam.now)) ≡ true) × Spots c.args.bam.now (fields_of (drop (head_size c.args.bam.now) c.args.bam.now)) c.scan_fields-parsed.new.ats c.scan_fields-parsed.new.sizes = (let yes : c.scan_fields-parsed.result ≡ true = c.if-not-parsed.false in (
      sym (parsed) ∙ yes,
      subst (λ (at : ℕ). Spots c.args.bam.now (fields_of (drop at c.args.bam.now)) c.scan_fields-parsed.new.ats c.scan_fields-parsed.new.sizes) c.head_of-head.ensures.3 (c.scan_fields-parsed.ensures.1 yes),
    )) in
    let domain : (let bam = c.args.bam.now in c.lengths_fit-fits.result ≡ in_domain (seq_length bam) c.args.letters (fields_of (drop (head_size bam) bam))) = (let fs = fields_of (drop (head_size c.args.bam.now) c.args.bam.now) in
    subst (λ (n : ℕ). c.lengths_fit-fits.result ≡ in_domain n c.args.letters fs) c.head_of-head.ensures.1 (c.lengths_fit-fits.ensures fs (noted).1)) in
    λ room new.
    refused_1 c.args.bam.now c.args.letters room new (whole) (noted).0 (sym (domain) ∙ c.if-not-fits.true)

pub returns : goal.returns
returns c =
    let whole : is_whole c.args.bam.now ≡ true = sym c.is_whole-whole.ensures ∙ c.if-not-whole.false in
    let parsed : c.scan_fields-parsed.result ≡ is_done (fields (drop (head_size c.args.bam.now) c.args.bam.now)) = subst (λ (at : ℕ). c.scan_fields-parsed.result ≡ is_done (fields (drop at c.args.bam.now))) c.head_of-head.ensures.3 c.scan_fields-parsed.ensures.0 in
    let noted : (is_done (fields (drop (head_size c.args.bam.now) c.args.bam.now)) ≡ true) × Spots c.args.bam.now (fields_of (drop (head_size c.args.bam.now) c.args.bam.now)) c.scan_fields-parsed.new.ats c.scan_fields-parsed.new.sizes = (let yes : c.scan_fields-parsed.result ≡ true = c.if-not-parsed.false in (
      sym (parsed) ∙ yes,
      subst (λ (at : ℕ). Spots c.args.bam.now (fields_of (drop at c.args.bam.now)) c.scan_fields-parsed.new.ats c.scan_fields-parsed.new.sizes) c.head_of-head.ensures.3 (c.scan_fields-parsed.ensures.1 yes),
    )) in
    let domain : (let bam = c.args.bam.now in c.lengths_fit-fits.result ≡ in_domain (seq_length bam) c.args.letters (fields_of (drop (head_size bam) bam))) = (let fs = fields_of (drop (head_size c.args.bam.now) c.args.bam.now) in
    subst (λ (n : ℕ). c.lengths_fit-fits.result ≡ in_domain n c.args.letters fs) c.head_of-head.ensures.1 (c.lengths_fit-fits.ensures fs (noted).1)) in
    let n = noted in
    (whole, c.head_of-head.ensures, n.0, n.1, sym (domain) ∙ c.if-not-fits.false)

-- `duplex_methylation_tags` passes on a refusal, answers 12 if a row has no room, and otherwise writes each part of the answer to its row.
-- Assumes nothing.
-- ---- what the first pass found out
-- ---- SEQ, once both strands have restored it
use Rattle.std.specs.Prelude.{Ok, Err}
use mathlib.Core.Path.{◌∙◌, ◌≡◌, ap, refl, sym}
use Prim.Native.Nat.{◌-◌, ◌≤◌, ℕ}
use native.Mathlib.Omega.{arith}
use mathlib.Core.Bool.{Bool, cond, false, true}
use mathlib.Core.List.{List}
use lib.Dec.{eqb}
use lib.ListN.{drop, length, take}
use Rattle.duplex.proofs.Admitted.{Passed, passed, refused_anyway}
use Rattle.duplex.proofs.Pieces.{Known, known, lengths_are, pieces, room_asked, tags_fit}
use Rattle.duplex.proofs.Roomy.{Roomy, roomy}
use Rattle.duplex.specs.Duplex.{Duplexed, admitted, duplex_tags, duplexed, lengths_of, rows, strand, within}
use Rattle.duplex.specs.Measured.{both_sizes, part_lengths, restored_seq}
use Rattle.duplex.specs.declared.Lengths.{Lengths}
use Rattle.joining.proofs.Parts.{both_length, front_held}
use Rattle.joining.specs.Order.{in_order_of, second_tag}
use Rattle.joining.specs.declared.BothSizes.{BothSizes}
use Rattle.lent.proofs.Filled.{over_front}
use Rattle.lent.specs.Filled.{leaves, over}
use Rattle.lent.specs.Outcome.{need, refuse}
use Rattle.samtags.specs.Building.{Strand, own_tag}
use Rattle.samtags.specs.Writing.{Tag}
use Rattle.lent.proofs.Outcome.{passed_on}
use Rattle.duplex.proofs.duplex_methylation_tags.Goals as goal

-- a row for the second strand's counts, where there is one
second_room : (two? : Bool) (m n k : ℕ) → two? ≡ true → m ≡ n → cond two? n 0 ≤ k → m ≤ k
second_room true m n k t e h = omega arith
second_room false m n k t e h = let z : ◌≡◌ {A = ℕ} 0 1 = cc in absurd (omega arith)

pub returns-in_err-sizes : goal.returns-in_err-sizes
unfolding leaves duplex_tags
returns-in_err-sizes c =
    let two : Bool = eqb c.args.strands 2 in
    let first : Strand = strand c.args.first c.args.first_informative.now c.args.first_unconverted.now c.args.first_converted.now in
    let second : Strand = strand c.args.second c.args.second_informative.now c.args.second_unconverted.now c.args.second_converted.now in
    let two? = eqb c.args.strands 2 in
    let sizes = both_sizes two? c.args.methylation_mode (restored_seq two? c.args.bases.now first second) first second in
    let off : admitted c.args.strands c.args.bases.now first second (duplexed two? c.args.methylation_mode c.args.bases.now first second) ≡ Err c.in_err-sizes.field-0.0 =
    refused_anyway c.args.strands c.args.bases.now first second sizes _ c.in_err-sizes.field-0.0 (sym c.measure.ensures ∙ c.in_err-sizes.was) in
    rw off (passed_on _ _ c.from_residual.ensures.1, refl, refl, refl, refl, refl, refl, refl, refl, refl, refl, refl)

pub part_lengths-parts-requires : goal.part_lengths-parts-requires
part_lengths-parts-requires c =
    let first_strand : Strand = strand c.args.first c.args.first_informative.now c.args.first_unconverted.now c.args.first_converted.now in
    let second_strand : Strand = strand c.args.second c.args.second_informative.now c.args.second_unconverted.now c.args.second_converted.now in
    let two : Bool = eqb c.args.strands 2 in
    let seq_of : List ℕ = restored_seq two c.args.bases.now first_strand second_strand in
    let sizes_of : BothSizes = both_sizes two c.args.methylation_mode seq_of first_strand second_strand in
    let pass : Passed c.args.strands c.args.bases.now first_strand second_strand sizes_of c.in_ok-sizes.sizes = passed c.args.strands c.args.bases.now first_strand second_strand sizes_of c.in_ok-sizes.sizes
    (sym c.measure.ensures ∙ c.in_ok-sizes.was) in
    let lengths : Known two c.args.bases.now first_strand second_strand = known c.args.strands c.args.bases.now first_strand second_strand sizes_of c.in_ok-sizes.sizes pass in
    let f = tags_fit two c.args.methylation_mode c.args.bases.now first_strand second_strand lengths in
    rw (← pass.is) (omega (arith, f.0), omega (arith, f.1))

pub returns-then-not-roomy : goal.returns-then-not-roomy
unfolding leaves
returns-then-not-roomy c =
    let first_strand : Strand = strand c.args.first c.args.first_informative.now c.args.first_unconverted.now c.args.first_converted.now in
    let second_strand : Strand = strand c.args.second c.args.second_informative.now c.args.second_unconverted.now c.args.second_converted.now in
    let two : Bool = eqb c.args.strands 2 in
    let seq_of : List ℕ = restored_seq two c.args.bases.now first_strand second_strand in
    let sizes_of : BothSizes = both_sizes two c.args.methylation_mode seq_of first_strand second_strand in
    let answer_of : Duplexed = pieces two c.args.methylation_mode c.args.bases.now first_strand second_strand in
    let pass : Passed c.args.strands c.args.bases.now first_strand second_strand sizes_of c.in_ok-sizes.sizes = passed c.args.strands c.args.bases.now first_strand second_strand sizes_of c.in_ok-sizes.sizes
    (sym c.measure.ensures ∙ c.in_ok-sizes.was) in
    let lengths : Known two c.args.bases.now first_strand second_strand = known c.args.strands c.args.bases.now first_strand second_strand sizes_of c.in_ok-sizes.sizes pass in
    let parts_are : c.part_lengths-parts.result ≡ lengths_of answer_of = c.part_lengths-parts.ensures
    ∙ ap (part_lengths two (length c.args.bases.now)) (sym pass.is)
    ∙ sym (lengths_are two c.args.methylation_mode c.args.bases.now first_strand second_strand lengths) in
    let lent_of : Lengths = rows (length c.args.seq.now) (length c.args.mm.now) (length c.args.ml.now) (length c.args.unconverted.now) (length c.args.converted.now)
    (length c.args.first_mm.now) (length c.args.first_unconverted_counts.now) (length c.args.first_converted_counts.now)
    (length c.args.second_mm.now) (length c.args.second_unconverted_counts.now) (length c.args.second_converted_counts.now) in
    let fits_answer : c.within-roomy.result ≡ within (lengths_of answer_of) lent_of = c.within-roomy.ensures ∙ ap (λ (l : Lengths). within l lent_of) parts_are in
    let no : within (lengths_of answer_of) lent_of ≡ false = sym fits_answer ∙ c.if-not-roomy.true in
    let twelve : duplex_tags c.args.strands c.args.methylation_mode c.args.bases.now first_strand second_strand lent_of ≡ refuse 12 =
    room_asked c.args.strands c.args.methylation_mode c.args.bases.now first_strand second_strand lent_of sizes_of c.in_ok-sizes.sizes pass
    ∙ ap (λ (t : Bool). need t 12 (Ok answer_of)) no in
    rw twelve (refl, refl, refl, refl, refl, refl, refl, refl, refl, refl, refl, refl)

pub restore-requires : goal.restore-requires
restore-requires c =
    let first_strand : Strand = strand c.args.first c.args.first_informative.now c.args.first_unconverted.now c.args.first_converted.now in
    let second_strand : Strand = strand c.args.second c.args.second_informative.now c.args.second_unconverted.now c.args.second_converted.now in
    let two : Bool = eqb c.args.strands 2 in
    let seq_of : List ℕ = restored_seq two c.args.bases.now first_strand second_strand in
    let sizes_of : BothSizes = both_sizes two c.args.methylation_mode seq_of first_strand second_strand in
    let answer_of : Duplexed = pieces two c.args.methylation_mode c.args.bases.now first_strand second_strand in
    let pass : Passed c.args.strands c.args.bases.now first_strand second_strand sizes_of c.in_ok-sizes.sizes = passed c.args.strands c.args.bases.now first_strand second_strand sizes_of c.in_ok-sizes.sizes
    (sym c.measure.ensures ∙ c.in_ok-sizes.was) in
    let lengths : Known two c.args.bases.now first_strand second_strand = known c.args.strands c.args.bases.now first_strand second_strand sizes_of c.in_ok-sizes.sizes pass in
    let parts_are : c.part_lengths-parts.result ≡ lengths_of answer_of = c.part_lengths-parts.ensures
    ∙ ap (part_lengths two (length c.args.bases.now)) (sym pass.is)
    ∙ sym (lengths_are two c.args.methylation_mode c.args.bases.now first_strand second_strand lengths) in
    let lent_of : Lengths = rows (length c.args.seq.now) (length c.args.mm.now) (length c.args.ml.now) (length c.args.unconverted.now) (length c.args.converted.now)
    (length c.args.first_mm.now) (length c.args.first_unconverted_counts.now) (length c.args.first_converted_counts.now)
    (length c.args.second_mm.now) (length c.args.second_unconverted_counts.now) (length c.args.second_converted_counts.now) in
    let fits_answer : c.within-roomy.result ≡ within (lengths_of answer_of) lent_of = c.within-roomy.ensures ∙ ap (λ (l : Lengths). within l lent_of) parts_are in
    let room : Roomy (part_lengths two (length c.args.bases.now) sizes_of) lent_of = (let is = lengths_are two c.args.methylation_mode c.args.bases.now first_strand second_strand lengths in
    let yes : within (lengths_of answer_of) lent_of ≡ true = sym fits_answer ∙ c.if-not-roomy.false in
    roomy (part_lengths two (length c.args.bases.now) sizes_of) lent_of (sym (ap (λ (l : Lengths). within l lent_of) is) ∙ yes)) in
    let l = lengths in
    let r = room in
    (l.first.inf, (λ (t : two ≡ true). (l.second t).inf), r.seq)

pub put_counts-requires : goal.put_counts-requires
put_counts-requires c =
    let first_strand : Strand = strand c.args.first c.args.first_informative.now c.args.first_unconverted.now c.args.first_converted.now in
    let second_strand : Strand = strand c.args.second c.args.second_informative.now c.args.second_unconverted.now c.args.second_converted.now in
    let two : Bool = eqb c.args.strands 2 in
    let seq_of : List ℕ = restored_seq two c.args.bases.now first_strand second_strand in
    let sizes_of : BothSizes = both_sizes two c.args.methylation_mode seq_of first_strand second_strand in
    let answer_of : Duplexed = pieces two c.args.methylation_mode c.args.bases.now first_strand second_strand in
    let pass : Passed c.args.strands c.args.bases.now first_strand second_strand sizes_of c.in_ok-sizes.sizes = passed c.args.strands c.args.bases.now first_strand second_strand sizes_of c.in_ok-sizes.sizes
    (sym c.measure.ensures ∙ c.in_ok-sizes.was) in
    let lengths : Known two c.args.bases.now first_strand second_strand = known c.args.strands c.args.bases.now first_strand second_strand sizes_of c.in_ok-sizes.sizes pass in
    let parts_are : c.part_lengths-parts.result ≡ lengths_of answer_of = c.part_lengths-parts.ensures
    ∙ ap (part_lengths two (length c.args.bases.now)) (sym pass.is)
    ∙ sym (lengths_are two c.args.methylation_mode c.args.bases.now first_strand second_strand lengths) in
    let lent_of : Lengths = rows (length c.args.seq.now) (length c.args.mm.now) (length c.args.ml.now) (length c.args.unconverted.now) (length c.args.converted.now)
    (length c.args.first_mm.now) (length c.args.first_unconverted_counts.now) (length c.args.first_converted_counts.now)
    (length c.args.second_mm.now) (length c.args.second_unconverted_counts.now) (length c.args.second_converted_counts.now) in
    let fits_answer : c.within-roomy.result ≡ within (lengths_of answer_of) lent_of = c.within-roomy.ensures ∙ ap (λ (l : Lengths). within l lent_of) parts_are in
    let room : Roomy (part_lengths two (length c.args.bases.now) sizes_of) lent_of = (let is = lengths_are two c.args.methylation_mode c.args.bases.now first_strand second_strand lengths in
    let yes : within (lengths_of answer_of) lent_of ≡ true = sym fits_answer ∙ c.if-not-roomy.false in
    roomy (part_lengths two (length c.args.bases.now) sizes_of) lent_of (sym (ap (λ (l : Lengths). within l lent_of) is) ∙ yes)) in
    let l = lengths in
    let r = room in (
      (λ (t : two ≡ true). (l.second t).unc ∙ sym l.first.unc),
      omega (arith, r.unc, l.first.unc),
      omega (arith, r.unc₁, l.first.unc),
      (λ (t : two ≡ true). second_room two _ _ _ t l.first.unc r.unc₂),
    )

pub put_counts-requires-2 : goal.put_counts-requires-2
put_counts-requires-2 c =
    let first_strand : Strand = strand c.args.first c.args.first_informative.now c.args.first_unconverted.now c.args.first_converted.now in
    let second_strand : Strand = strand c.args.second c.args.second_informative.now c.args.second_unconverted.now c.args.second_converted.now in
    let two : Bool = eqb c.args.strands 2 in
    let seq_of : List ℕ = restored_seq two c.args.bases.now first_strand second_strand in
    let sizes_of : BothSizes = both_sizes two c.args.methylation_mode seq_of first_strand second_strand in
    let answer_of : Duplexed = pieces two c.args.methylation_mode c.args.bases.now first_strand second_strand in
    let pass : Passed c.args.strands c.args.bases.now first_strand second_strand sizes_of c.in_ok-sizes.sizes = passed c.args.strands c.args.bases.now first_strand second_strand sizes_of c.in_ok-sizes.sizes
    (sym c.measure.ensures ∙ c.in_ok-sizes.was) in
    let lengths : Known two c.args.bases.now first_strand second_strand = known c.args.strands c.args.bases.now first_strand second_strand sizes_of c.in_ok-sizes.sizes pass in
    let parts_are : c.part_lengths-parts.result ≡ lengths_of answer_of = c.part_lengths-parts.ensures
    ∙ ap (part_lengths two (length c.args.bases.now)) (sym pass.is)
    ∙ sym (lengths_are two c.args.methylation_mode c.args.bases.now first_strand second_strand lengths) in
    let lent_of : Lengths = rows (length c.args.seq.now) (length c.args.mm.now) (length c.args.ml.now) (length c.args.unconverted.now) (length c.args.converted.now)
    (length c.args.first_mm.now) (length c.args.first_unconverted_counts.now) (length c.args.first_converted_counts.now)
    (length c.args.second_mm.now) (length c.args.second_unconverted_counts.now) (length c.args.second_converted_counts.now) in
    let fits_answer : c.within-roomy.result ≡ within (lengths_of answer_of) lent_of = c.within-roomy.ensures ∙ ap (λ (l : Lengths). within l lent_of) parts_are in
    let room : Roomy (part_lengths two (length c.args.bases.now) sizes_of) lent_of = (let is = lengths_are two c.args.methylation_mode c.args.bases.now first_strand second_strand lengths in
    let yes : within (lengths_of answer_of) lent_of ≡ true = sym fits_answer ∙ c.if-not-roomy.false in
    roomy (part_lengths two (length c.args.bases.now) sizes_of) lent_of (sym (ap (λ (l : Lengths). within l lent_of) is) ∙ yes)) in
    let l = lengths in
    let r = room in (
      (λ (t : two ≡ true). (l.second t).con ∙ sym l.first.con),
      omega (arith, r.con, l.first.con),
      omega (arith, r.con₁, l.first.con),
      (λ (t : two ≡ true). second_room two _ _ _ t l.first.con r.con₂),
    )

pub slice_bounds-put_tags-end : goal.slice_bounds-put_tags-end
slice_bounds-put_tags-end c =
    let first_strand : Strand = strand c.args.first c.args.first_informative.now c.args.first_unconverted.now c.args.first_converted.now in
    let second_strand : Strand = strand c.args.second c.args.second_informative.now c.args.second_unconverted.now c.args.second_converted.now in
    let two : Bool = eqb c.args.strands 2 in
    let seq_of : List ℕ = restored_seq two c.args.bases.now first_strand second_strand in
    let sizes_of : BothSizes = both_sizes two c.args.methylation_mode seq_of first_strand second_strand in
    let answer_of : Duplexed = pieces two c.args.methylation_mode c.args.bases.now first_strand second_strand in
    let pass : Passed c.args.strands c.args.bases.now first_strand second_strand sizes_of c.in_ok-sizes.sizes = passed c.args.strands c.args.bases.now first_strand second_strand sizes_of c.in_ok-sizes.sizes
    (sym c.measure.ensures ∙ c.in_ok-sizes.was) in
    let lengths : Known two c.args.bases.now first_strand second_strand = known c.args.strands c.args.bases.now first_strand second_strand sizes_of c.in_ok-sizes.sizes pass in
    let parts_are : c.part_lengths-parts.result ≡ lengths_of answer_of = c.part_lengths-parts.ensures
    ∙ ap (part_lengths two (length c.args.bases.now)) (sym pass.is)
    ∙ sym (lengths_are two c.args.methylation_mode c.args.bases.now first_strand second_strand lengths) in
    let lent_of : Lengths = rows (length c.args.seq.now) (length c.args.mm.now) (length c.args.ml.now) (length c.args.unconverted.now) (length c.args.converted.now)
    (length c.args.first_mm.now) (length c.args.first_unconverted_counts.now) (length c.args.first_converted_counts.now)
    (length c.args.second_mm.now) (length c.args.second_unconverted_counts.now) (length c.args.second_converted_counts.now) in
    let fits_answer : c.within-roomy.result ≡ within (lengths_of answer_of) lent_of = c.within-roomy.ensures ∙ ap (λ (l : Lengths). within l lent_of) parts_are in
    let room : Roomy (part_lengths two (length c.args.bases.now) sizes_of) lent_of = (let is = lengths_are two c.args.methylation_mode c.args.bases.now first_strand second_strand lengths in
    let yes : within (lengths_of answer_of) lent_of ≡ true = sym fits_answer ∙ c.if-not-roomy.false in
    roomy (part_lengths two (length c.args.bases.now) sizes_of) lent_of (sym (ap (λ (l : Lengths). within l lent_of) is) ∙ yes)) in
    let r = room in
    omega (arith, r.seq, c.restore.auto.seq)

pub put_tags-requires : goal.put_tags-requires
put_tags-requires c =
    let first_strand : Strand = strand c.args.first c.args.first_informative.now c.args.first_unconverted.now c.args.first_converted.now in
    let second_strand : Strand = strand c.args.second c.args.second_informative.now c.args.second_unconverted.now c.args.second_converted.now in
    let two : Bool = eqb c.args.strands 2 in
    let seq_of : List ℕ = restored_seq two c.args.bases.now first_strand second_strand in
    let sizes_of : BothSizes = both_sizes two c.args.methylation_mode seq_of first_strand second_strand in
    let answer_of : Duplexed = pieces two c.args.methylation_mode c.args.bases.now first_strand second_strand in
    let pass : Passed c.args.strands c.args.bases.now first_strand second_strand sizes_of c.in_ok-sizes.sizes = passed c.args.strands c.args.bases.now first_strand second_strand sizes_of c.in_ok-sizes.sizes
    (sym c.measure.ensures ∙ c.in_ok-sizes.was) in
    let lengths : Known two c.args.bases.now first_strand second_strand = known c.args.strands c.args.bases.now first_strand second_strand sizes_of c.in_ok-sizes.sizes pass in
    let parts_are : c.part_lengths-parts.result ≡ lengths_of answer_of = c.part_lengths-parts.ensures
    ∙ ap (part_lengths two (length c.args.bases.now)) (sym pass.is)
    ∙ sym (lengths_are two c.args.methylation_mode c.args.bases.now first_strand second_strand lengths) in
    let lent_of : Lengths = rows (length c.args.seq.now) (length c.args.mm.now) (length c.args.ml.now) (length c.args.unconverted.now) (length c.args.converted.now)
    (length c.args.first_mm.now) (length c.args.first_unconverted_counts.now) (length c.args.first_converted_counts.now)
    (length c.args.second_mm.now) (length c.args.second_unconverted_counts.now) (length c.args.second_converted_counts.now) in
    let fits_answer : c.within-roomy.result ≡ within (lengths_of answer_of) lent_of = c.within-roomy.ensures ∙ ap (λ (l : Lengths). within l lent_of) parts_are in
    let room : Roomy (part_lengths two (length c.args.bases.now) sizes_of) lent_of = (let is = lengths_are two c.args.methylation_mode c.args.bases.now first_strand second_strand lengths in
    let yes : within (lengths_of answer_of) lent_of ≡ true = sym fits_answer ∙ c.if-not-roomy.false in
    roomy (part_lengths two (length c.args.bases.now) sizes_of) lent_of (sym (ap (λ (l : Lengths). within l lent_of) is) ∙ yes)) in
    let seq_long : length seq_of ≡ length c.args.bases.now = (let inf : two ≡ true → length c.args.second_informative.now ≡ length c.args.bases.now = λ (t : two ≡ true). (lengths.second t).inf in
    both_length two c.args.first c.args.first_informative.now c.args.second c.args.second_informative.now c.args.bases.now lengths.first.inf inf) in
    let held : take (length c.args.bases.now - 0) (drop 0 c.restore.new.seq) ≡ seq_of = front_held seq_of c.args.seq.now c.restore.new.seq (length c.args.bases.now) c.restore.ensures seq_long in
    let l = lengths in
    let r = room in
    let p = pass in
    let long = seq_long in
    rw (held) record {
      seq_len_bound = (omega (arith, long, l.first.short), l.first.inf ∙ sym long, l.first.unc ∙ sym long, l.first.con ∙ sym long);
      second_informative_len = (λ (t : two ≡ true). ((l.second t).inf ∙ sym long, (l.second t).unc ∙ sym long, (l.second t).con ∙ sym long));
      fact = (
        sym (ap (λ (s : BothSizes). s.first_values) p.is),
        sym (ap (λ (s : BothSizes). s.second_values) p.is),
        rw (← p.is) r.ml,
        r.mm₁,
        r.mm₂,
      );
    }

pub join-requires : goal.join-requires
join-requires c =
    let first_strand : Strand = strand c.args.first c.args.first_informative.now c.args.first_unconverted.now c.args.first_converted.now in
    let second_strand : Strand = strand c.args.second c.args.second_informative.now c.args.second_unconverted.now c.args.second_converted.now in
    let two : Bool = eqb c.args.strands 2 in
    let seq_of : List ℕ = restored_seq two c.args.bases.now first_strand second_strand in
    let sizes_of : BothSizes = both_sizes two c.args.methylation_mode seq_of first_strand second_strand in
    let answer_of : Duplexed = pieces two c.args.methylation_mode c.args.bases.now first_strand second_strand in
    let pass : Passed c.args.strands c.args.bases.now first_strand second_strand sizes_of c.in_ok-sizes.sizes = passed c.args.strands c.args.bases.now first_strand second_strand sizes_of c.in_ok-sizes.sizes
    (sym c.measure.ensures ∙ c.in_ok-sizes.was) in
    let lengths : Known two c.args.bases.now first_strand second_strand = known c.args.strands c.args.bases.now first_strand second_strand sizes_of c.in_ok-sizes.sizes pass in
    let parts_are : c.part_lengths-parts.result ≡ lengths_of answer_of = c.part_lengths-parts.ensures
    ∙ ap (part_lengths two (length c.args.bases.now)) (sym pass.is)
    ∙ sym (lengths_are two c.args.methylation_mode c.args.bases.now first_strand second_strand lengths) in
    let lent_of : Lengths = rows (length c.args.seq.now) (length c.args.mm.now) (length c.args.ml.now) (length c.args.unconverted.now) (length c.args.converted.now)
    (length c.args.first_mm.now) (length c.args.first_unconverted_counts.now) (length c.args.first_converted_counts.now)
    (length c.args.second_mm.now) (length c.args.second_unconverted_counts.now) (length c.args.second_converted_counts.now) in
    let fits_answer : c.within-roomy.result ≡ within (lengths_of answer_of) lent_of = c.within-roomy.ensures ∙ ap (λ (l : Lengths). within l lent_of) parts_are in
    let room : Roomy (part_lengths two (length c.args.bases.now) sizes_of) lent_of = (let is = lengths_are two c.args.methylation_mode c.args.bases.now first_strand second_strand lengths in
    let yes : within (lengths_of answer_of) lent_of ≡ true = sym fits_answer ∙ c.if-not-roomy.false in
    roomy (part_lengths two (length c.args.bases.now) sizes_of) lent_of (sym (ap (λ (l : Lengths). within l lent_of) is) ∙ yes)) in
    let p = pass in
    let r = room in
    rw (← p.is) (
      omega (arith, r.mm₁, c.put_tags.auto.first_mm),
      omega (arith, r.mm₂, c.put_tags.auto.second_mm),
      r.mm,
    )

pub shape_of-seq : goal.shape_of-seq
shape_of-seq c =
    c.restore.auto.seq

pub shape_of-unconverted : goal.shape_of-unconverted
shape_of-unconverted c =
    c.put_counts.auto.all

pub returns : goal.returns
unfolding leaves
returns c =
    let first_strand : Strand = strand c.args.first c.args.first_informative.now c.args.first_unconverted.now c.args.first_converted.now in
    let second_strand : Strand = strand c.args.second c.args.second_informative.now c.args.second_unconverted.now c.args.second_converted.now in
    let two : Bool = eqb c.args.strands 2 in
    let seq_of : List ℕ = restored_seq two c.args.bases.now first_strand second_strand in
    let own_of : Tag = own_tag c.args.methylation_mode c.args.first first_strand.evidence seq_of in
    let other_of : Tag = second_tag two c.args.methylation_mode c.args.second second_strand.evidence seq_of in
    let sizes_of : BothSizes = both_sizes two c.args.methylation_mode seq_of first_strand second_strand in
    let answer_of : Duplexed = pieces two c.args.methylation_mode c.args.bases.now first_strand second_strand in
    let pass : Passed c.args.strands c.args.bases.now first_strand second_strand sizes_of c.in_ok-sizes.sizes = passed c.args.strands c.args.bases.now first_strand second_strand sizes_of c.in_ok-sizes.sizes
    (sym c.measure.ensures ∙ c.in_ok-sizes.was) in
    let lengths : Known two c.args.bases.now first_strand second_strand = known c.args.strands c.args.bases.now first_strand second_strand sizes_of c.in_ok-sizes.sizes pass in
    let parts_are : c.part_lengths-parts.result ≡ lengths_of answer_of = c.part_lengths-parts.ensures
    ∙ ap (part_lengths two (length c.args.bases.now)) (sym pass.is)
    ∙ sym (lengths_are two c.args.methylation_mode c.args.bases.now first_strand second_strand lengths) in
    let lent_of : Lengths = rows (length c.args.seq.now) (length c.args.mm.now) (length c.args.ml.now) (length c.args.unconverted.now) (length c.args.converted.now)
    (length c.args.first_mm.now) (length c.args.first_unconverted_counts.now) (length c.args.first_converted_counts.now)
    (length c.args.second_mm.now) (length c.args.second_unconverted_counts.now) (length c.args.second_converted_counts.now) in
    let fits_answer : c.within-roomy.result ≡ within (lengths_of answer_of) lent_of = c.within-roomy.ensures ∙ ap (λ (l : Lengths). within l lent_of) parts_are in
    let done_answer : duplex_tags c.args.strands c.args.methylation_mode c.args.bases.now first_strand second_strand lent_of ≡ Ok answer_of = (let yes : within (lengths_of answer_of) lent_of ≡ true = sym fits_answer ∙ c.if-not-roomy.false in
    room_asked c.args.strands c.args.methylation_mode c.args.bases.now first_strand second_strand lent_of sizes_of c.in_ok-sizes.sizes pass
    ∙ ap (λ (t : Bool). need t 12 (Ok answer_of)) yes) in
    let seq_long : length seq_of ≡ length c.args.bases.now = (let inf : two ≡ true → length c.args.second_informative.now ≡ length c.args.bases.now = λ (t : two ≡ true). (lengths.second t).inf in
    both_length two c.args.first c.args.first_informative.now c.args.second c.args.second_informative.now c.args.bases.now lengths.first.inf inf) in
    let held : take (length c.args.bases.now - 0) (drop 0 c.restore.new.seq) ≡ seq_of = front_held seq_of c.args.seq.now c.restore.new.seq (length c.args.bases.now) c.restore.ensures seq_long in
    let tags : (c.put_tags.new.first_mm ≡ over own_of.text c.args.first_mm.now) × (c.put_tags.new.second_mm ≡ over other_of.text c.args.second_mm.now) × (c.put_tags.new.ml ≡ over (in_order_of c.args.first c.args.second own_of.ml other_of.ml) c.args.ml.now) = (let h = held in
    (rw h at c.put_tags.ensures.0, rw h at c.put_tags.ensures.1, rw h at c.put_tags.ensures.2)) in
    let p = pass in
    let t = tags in
    let own_text : take c.in_ok-sizes.sizes.first_text c.put_tags.new.first_mm ≡ own_of.text =
    rw (← p.is, t.0) (over_front own_of.text c.args.first_mm.now) in
    let other_text : take c.in_ok-sizes.sizes.second_text c.put_tags.new.second_mm ≡ other_of.text =
    rw (← p.is, t.1) (over_front other_of.text c.args.second_mm.now) in
    rw done_answer (
      ap Ok parts_are,
      c.restore.ensures,
      c.join.ensures ∙ (λ j. over (in_order_of c.args.first c.args.second (own_text j) (other_text j)) c.args.mm.now),
      t.2,
      c.put_counts.ensures.all_after,
      c.put_counts-2.ensures.all_after,
      t.0,
      c.put_counts.ensures.first_counts_after,
      c.put_counts-2.ensures.first_counts_after,
      t.1,
      c.put_counts.ensures.second_counts_after,
      c.put_counts-2.ensures.second_counts_after,
    )

-- `measure` makes the checks in order, and then measures both strands' own tags.
-- Assumes nothing.
use Rattle.std.specs.Prelude.{Ok}
use mathlib.Core.Path.{◌∙◌, ◌≡◌, ap, sym}
use mathlib.Core.Bool.{◌||◌, cond, false, true}
use lib.Dec.{eqb}
use Rattle.duplex.proofs.Admitted.{all_pass, first_differs, first_long, not_counted, second_differs, second_long}
use Rattle.duplex.specs.Duplex.{strand}
use Rattle.duplex.specs.Measured.{both_sizes, restored_seq}
use Rattle.samtags.specs.Building.{Strand, evidence_agrees, evidence_in_domain}
use Rattle.strand.proofs.Lengths.{Lengths, lengths_known}
use Rattle.duplex.proofs.measure.Goals as goal

pub returns-then-not-known : goal.returns-then-not-known
returns-then-not-known c =
    let first : Strand = strand c.args.first c.args.first_informative.now c.args.first_unconverted.now c.args.first_converted.now in
    let second : Strand = strand c.args.second c.args.second_informative.now c.args.second_unconverted.now c.args.second_converted.now in
    let bases = c.args.bases.now in
    let two? = eqb c.args.strands 2 in
    let sizes = both_sizes two? c.args.mode (restored_seq two? bases first second) first second in
    let k : (eqb c.args.strands 1 || eqb c.args.strands 2) ≡ false = sym c.is_count-known.ensures ∙ c.if-not-known.true in
    sym (not_counted c.args.strands bases first second sizes k)

pub returns-then-not-first_short : goal.returns-then-not-first_short
returns-then-not-first_short c =
    let first : Strand = strand c.args.first c.args.first_informative.now c.args.first_unconverted.now c.args.first_converted.now in
    let second : Strand = strand c.args.second c.args.second_informative.now c.args.second_unconverted.now c.args.second_converted.now in
    let bases = c.args.bases.now in
    let two? = eqb c.args.strands 2 in
    let sizes = both_sizes two? c.args.mode (restored_seq two? bases first second) first second in
    let k : (eqb c.args.strands 1 || eqb c.args.strands 2) ≡ true = sym c.is_count-known.ensures ∙ c.if-not-known.false in
    let p : evidence_in_domain first.evidence bases ≡ false = sym c.in_domain-first_short.ensures ∙ c.if-not-first_short.true in
    sym (first_long c.args.strands bases first second sizes k p)

pub returns-then-not-second_short : goal.returns-then-not-second_short
returns-then-not-second_short c =
    let first : Strand = strand c.args.first c.args.first_informative.now c.args.first_unconverted.now c.args.first_converted.now in
    let second : Strand = strand c.args.second c.args.second_informative.now c.args.second_unconverted.now c.args.second_converted.now in
    let bases = c.args.bases.now in
    let two? = eqb c.args.strands 2 in
    let sizes = both_sizes two? c.args.mode (restored_seq two? bases first second) first second in
    let k : (eqb c.args.strands 1 || eqb c.args.strands 2) ≡ true = sym c.is_count-known.ensures ∙ c.if-not-known.false in
    let p : evidence_in_domain first.evidence bases ≡ true = sym c.in_domain-first_short.ensures ∙ c.if-not-first_short.false in
    let q : cond two? (evidence_in_domain second.evidence bases) true ≡ false = sym c.second_in_domain-second_short.ensures ∙ c.if-not-second_short.true in
    sym (second_long c.args.strands bases first second sizes k p q)

pub returns-then-not-first_same : goal.returns-then-not-first_same
returns-then-not-first_same c =
    let first : Strand = strand c.args.first c.args.first_informative.now c.args.first_unconverted.now c.args.first_converted.now in
    let second : Strand = strand c.args.second c.args.second_informative.now c.args.second_unconverted.now c.args.second_converted.now in
    let bases = c.args.bases.now in
    let two? = eqb c.args.strands 2 in
    let sizes = both_sizes two? c.args.mode (restored_seq two? bases first second) first second in
    let k : (eqb c.args.strands 1 || eqb c.args.strands 2) ≡ true = sym c.is_count-known.ensures ∙ c.if-not-known.false in
    let p : evidence_in_domain first.evidence bases ≡ true = sym c.in_domain-first_short.ensures ∙ c.if-not-first_short.false in
    let q : cond two? (evidence_in_domain second.evidence bases) true ≡ true = sym c.second_in_domain-second_short.ensures ∙ c.if-not-second_short.false in
    let r : evidence_agrees first.evidence bases ≡ false = sym c.agree-first_same.ensures ∙ c.if-not-first_same.true in
    sym (first_differs c.args.strands bases first second sizes k p q r)

pub returns-then-not-second_same : goal.returns-then-not-second_same
returns-then-not-second_same c =
    let first : Strand = strand c.args.first c.args.first_informative.now c.args.first_unconverted.now c.args.first_converted.now in
    let second : Strand = strand c.args.second c.args.second_informative.now c.args.second_unconverted.now c.args.second_converted.now in
    let bases = c.args.bases.now in
    let two? = eqb c.args.strands 2 in
    let sizes = both_sizes two? c.args.mode (restored_seq two? bases first second) first second in
    let k : (eqb c.args.strands 1 || eqb c.args.strands 2) ≡ true = sym c.is_count-known.ensures ∙ c.if-not-known.false in
    let p : evidence_in_domain first.evidence bases ≡ true = sym c.in_domain-first_short.ensures ∙ c.if-not-first_short.false in
    let q : cond two? (evidence_in_domain second.evidence bases) true ≡ true = sym c.second_in_domain-second_short.ensures ∙ c.if-not-second_short.false in
    let r : evidence_agrees first.evidence bases ≡ true = sym c.agree-first_same.ensures ∙ c.if-not-first_same.false in
    let s : cond two? (evidence_agrees second.evidence bases) true ≡ false = sym c.second_agrees-second_same.ensures ∙ c.if-not-second_same.true in
    sym (second_differs c.args.strands bases first second sizes k p q r s)

pub measure-requires : goal.measure-requires
measure-requires c =
    let first : Strand = strand c.args.first c.args.first_informative.now c.args.first_unconverted.now c.args.first_converted.now in
    let second : Strand = strand c.args.second c.args.second_informative.now c.args.second_unconverted.now c.args.second_converted.now in
    let bases = c.args.bases.now in
    let two? = eqb c.args.strands 2 in
    let sizes = both_sizes two? c.args.mode (restored_seq two? bases first second) first second in
    let k : (eqb c.args.strands 1 || eqb c.args.strands 2) ≡ true = sym c.is_count-known.ensures ∙ c.if-not-known.false in
    let p : evidence_in_domain first.evidence bases ≡ true = sym c.in_domain-first_short.ensures ∙ c.if-not-first_short.false in
    let q : cond two? (evidence_in_domain second.evidence bases) true ≡ true = sym c.second_in_domain-second_short.ensures ∙ c.if-not-second_short.false in
    let r : evidence_agrees first.evidence bases ≡ true = sym c.agree-first_same.ensures ∙ c.if-not-first_same.false in
    let s : cond two? (evidence_agrees second.evidence bases) true ≡ true = sym c.second_agrees-second_same.ensures ∙ c.if-not-second_same.false in
    let l = lengths_known first.evidence bases p r in
    let other : two? ≡ true → Lengths second.evidence bases =
    λ (t : two? ≡ true). lengths_known second.evidence bases (rw t at q) (rw t at s) in
    record { bases_len_bound = (l.short, l.inf, l.unc, l.con); second_informative_len = (λ (t : two? ≡ true). ((other t).inf, (other t).unc, (other t).con)) }

pub returns : goal.returns
returns c =
    let first : Strand = strand c.args.first c.args.first_informative.now c.args.first_unconverted.now c.args.first_converted.now in
    let second : Strand = strand c.args.second c.args.second_informative.now c.args.second_unconverted.now c.args.second_converted.now in
    let bases = c.args.bases.now in
    let two? = eqb c.args.strands 2 in
    let sizes = both_sizes two? c.args.mode (restored_seq two? bases first second) first second in
    let k : (eqb c.args.strands 1 || eqb c.args.strands 2) ≡ true = sym c.is_count-known.ensures ∙ c.if-not-known.false in
    let p : evidence_in_domain first.evidence bases ≡ true = sym c.in_domain-first_short.ensures ∙ c.if-not-first_short.false in
    let q : cond two? (evidence_in_domain second.evidence bases) true ≡ true = sym c.second_in_domain-second_short.ensures ∙ c.if-not-second_short.false in
    let r : evidence_agrees first.evidence bases ≡ true = sym c.agree-first_same.ensures ∙ c.if-not-first_same.false in
    let s : cond two? (evidence_agrees second.evidence bases) true ≡ true = sym c.second_agrees-second_same.ensures ∙ c.if-not-second_same.false in
    let is : c.measure.result ≡ sizes = λ j. record { first_text = c.measure.ensures.0 j; first_values = c.measure.ensures.1 j; second_text = c.measure.ensures.2 j; second_values = c.measure.ensures.3 j } in
    ap Ok is ∙ sym (all_pass c.args.strands bases first second sizes k p q r s)

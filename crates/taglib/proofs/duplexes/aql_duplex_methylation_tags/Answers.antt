-- `aql_duplex_methylation_tags`: SEQ, tags and counts of one strand or two, for C.
-- Assumes nothing.
use Rattle.std.specs.Prelude.{Ok, Err}
use mathlib.Core.Path.{◌≡◌, ◌∙◌, ap, refl, sym}
use lib.ListN.{length}
use Rattle.lent.specs.Filled.{leaves}
use Rattle.lent.specs.Outcome.{Outcome, and_then, on_done}
use Rattle.pattern.specs.Patterns.{pattern_of}
use Rattle.pattern.specs.declared.ConversionPattern.{ConversionPattern}
use Rattle.pattern.specs.declared.MethylationMode.{MethylationMode}
use Rattle.duplex.specs.Duplex.{Duplexed, strand, rows, lengths_of, duplex_tags}
use Rattle.telling.proofs.Handed.{number_handed, told_handed}
use Rattle.modes.specs.Modes.{mode_of}
use Rattle.telling_strands.specs.Strands.{part_row}
use Rattle.taglib.proofs.Chosen.{chosen_outcome, row_handed}
use Rattle.taglib.proofs.duplexes.aql_duplex_methylation_tags.Reads as reads
use Rattle.taglib.proofs.duplexes.aql_duplex_methylation_tags.Lts as lts
use Rattle.duplex.proofs.duplex_methylation_tags.Reads as duplex-methylation-tags-reads
use Rattle.pattern.proofs.ConversionPattern.from_read_flags.Reads as from-read-flags-reads
use Rattle.modes.proofs.mode_of.Reads as mode-of-reads
use Rattle.telling_strands.proofs.joined.Reads as joined-reads
use Rattle.taglib.proofs.duplexes.aql_duplex_methylation_tags.Goals as goal

pub returns-in-Ok : goal.returns-in-Ok
returns-in-Ok c =
    let e : mode_of c.args.mode ≡ Ok c.in-Ok.chosen = sym c.mode_of.ensures ∙ c.in-Ok.is in
    let run : MethylationMode → ConversionPattern → ConversionPattern → Outcome Duplexed = λ m p q.
    duplex_tags c.args.strands m c.args.bases.now
    (strand p c.args.first_informative.now c.args.first_unconverted.now c.args.first_converted.now)
    (strand q c.args.second_informative.now c.args.second_unconverted.now c.args.second_converted.now)
    (rows (length c.args.seq.now) (length c.args.mm.now) (length c.args.ml.now) (length c.args.unconverted.now) (length c.args.converted.now)
    (length c.args.first_mm.now) (length c.args.first_unconverted_counts.now) (length c.args.first_converted_counts.now)
    (length c.args.second_mm.now) (length c.args.second_unconverted_counts.now) (length c.args.second_converted_counts.now)) in
    let same = chosen_outcome run c.args.mode c.args.first_flags c.args.second_flags e
    c.from_read_flags.ensures c.from_read_flags-in-Ok.ensures in
    let o = and_then (mode_of c.args.mode) (λ m. run m (pattern_of c.args.first_flags) (pattern_of c.args.second_flags)) in
    let answered : c.duplex_methylation_tags-answer.result ≡ on_done lengths_of o = c.duplex_methylation_tags-answer.ensures.0 ∙ ap (on_done lengths_of) same in (
      number_handed lengths_of o answered c.joined.ensures.0,
      told_handed part_row lengths_of o c.args.lengths.now answered c.joined.ensures.1,
      row_handed (λ d. d.seq) c.args.seq.now same c.duplex_methylation_tags-answer.ensures.1,
      row_handed (λ d. d.joined.text) c.args.mm.now same c.duplex_methylation_tags-answer.ensures.2,
      row_handed (λ d. d.joined.ml) c.args.ml.now same c.duplex_methylation_tags-answer.ensures.3,
      row_handed (λ d. d.unconverted) c.args.unconverted.now same c.duplex_methylation_tags-answer.ensures.4,
      row_handed (λ d. d.converted) c.args.converted.now same c.duplex_methylation_tags-answer.ensures.5,
      row_handed (λ d. d.first.text) c.args.first_mm.now same c.duplex_methylation_tags-answer.ensures.6,
      row_handed (λ d. d.first.unconverted) c.args.first_unconverted_counts.now same c.duplex_methylation_tags-answer.ensures.7,
      row_handed (λ d. d.first.converted) c.args.first_converted_counts.now same c.duplex_methylation_tags-answer.ensures.8,
      row_handed (λ d. d.second.text) c.args.second_mm.now same c.duplex_methylation_tags-answer.ensures.9,
      row_handed (λ d. d.second.unconverted) c.args.second_unconverted_counts.now same c.duplex_methylation_tags-answer.ensures.10,
      row_handed (λ d. d.second.converted) c.args.second_converted_counts.now same c.duplex_methylation_tags-answer.ensures.11,
    )

pub returns-in-Err : goal.returns-in-Err
unfolding leaves
returns-in-Err c =
    let e : mode_of c.args.mode ≡ Err c.in-Err.refusal = sym c.mode_of.ensures ∙ c.in-Err.is in
    rw e (c.number.ensures, refl, refl, refl, refl, refl, refl, refl, refl, refl, refl, refl, refl)

-- An export that returns a number other than 0 has written nothing: every row, number and array that was lent to it is unchanged.
-- Assumes nothing.
use mathlib.Core.Path.{◌≡◌}
use Prim.Native.Nat.{ℕ}
use mathlib.Core.Bool.{true, false}
use mathlib.Core.List.{List}
use lib.Dec.{eqb}
use lib.IntN.{ℤ}
use lib.ListN.{length}
use Rattle.lent.specs.Outcome.{on_done}
use Rattle.lent.proofs.Answers.{row_kept}
use Rattle.pattern.specs.Patterns.{is_enabled}
use Rattle.cigar.specs.Cigar.{query_places}
use Rattle.alignment.specs.Reference.{fetched_bases}
use Rattle.refusals.specs.Refusals.{annotated, columns_of, counts_in_room, restorable, truncated}
use Rattle.samtags.specs.Building.{Strand, columns}
use Rattle.samtags.specs.Edits.{cut_tag, drop_from_tag, mask_tag}
use Rattle.samtags.specs.Reading.{read_tag, tally_tag}
use Rattle.samtags.specs.Session.{Step, open_session, step_in_memory}
use Rattle.reading.specs.Calls.{listed_calls}
use Rattle.duplex.specs.PublicContracts.{Rows, eleven_rows, lengths_lent}
use Rattle.modes.specs.Modes.{mode_of}
use Rattle.stored.specs.Reads.{listed_stored, read_stored, tally_stored, turn_stored, unpack_stored}
use Rattle.stored_edits.specs.Edits.{cut_stored, drop_stored, mask_stored}
use Rattle.stored_steps.specs.Steps.{open_stored, step_stored}
use Rattle.telling.specs.Starts.{given_start}
use Rattle.telling.specs.Told.{yes}
use Rattle.taglib.specs.PatternContracts.{TellsEnabledInC}
use Rattle.taglib.specs.AlignmentContracts.{FindsPlacesInC, FetchesBasesInC}
use Rattle.taglib.specs.EvidenceContracts.{AnnotatesInC, GatesInC, TruncatesInC, GivesCountsInC, RestoresInC}
use Rattle.taglib.specs.BuildingContracts.{BuildsInC, BuildsTextInC, builds_as}
use Rattle.taglib.specs.DuplexContracts.{DuplexesInC, duplexes_as}
use Rattle.taglib.specs.ReadingContracts.{ChecksTagInC, ReadsCallsInC, TalliesInC}
use Rattle.taglib.specs.RewritingContracts.{MasksTagInC, DropsFromTagInC, CutsTagInC}
use Rattle.taglib.specs.SessionContracts.{OpensInC, StepsInC, session_in}
use Rattle.taglib.specs.StoredReadingContracts.{ChecksStoredInC, ReadsStoredInC, TalliesStoredInC, TurnsInC, UnpacksInC}
use Rattle.taglib.specs.StoredRewritingContracts.{CutsStoredInC, DropsStoredInC, MasksStoredInC}
use Rattle.taglib.specs.StoredSessionContracts.{OpensStoredInC, StepsStoredInC}
use Rattle.telling.proofs.Returned.{not_returned, told_kept}

pub aql_mode_is_enabled_refused : (mode enabled r enabled' : ℕ) → TellsEnabledInC mode enabled r enabled' → eqb r 0 ≡ false → enabled' ≡ enabled
aql_mode_is_enabled_refused mode enabled r enabled' h z =
    let o = on_done is_enabled (mode_of mode) in
    let d = not_returned o h.0 z in
    told_kept _ o enabled enabled' h.1 d

pub aql_query_to_ref_positions_refused : (cigar : List ℕ) (start : ℤ) (is_reverse : ℕ) (positions : List ℤ) (n r : ℕ) (positions' : List ℤ) (n' : ℕ)
    → FindsPlacesInC cigar start is_reverse positions n r positions' n' → eqb r 0 ≡ false → (n' ≡ n) × (positions' ≡ positions)
aql_query_to_ref_positions_refused cigar start is_reverse positions n r positions' n' h z =
    let o = query_places cigar start (yes is_reverse) (length positions) in
    let d = not_returned o h.0 z in
    (told_kept _ o n n' h.1 d, row_kept _ o positions positions' h.2 d)

pub aql_fetch_ref_bases_at_positions_refused : (positions : List ℤ) (reference bases : List ℕ) (n r : ℕ) (bases' : List ℕ) (n' : ℕ)
    → FetchesBasesInC positions reference bases n r bases' n' → eqb r 0 ≡ false → (n' ≡ n) × (bases' ≡ bases)
aql_fetch_ref_bases_at_positions_refused positions reference bases n r bases' n' h z =
    let o = fetched_bases positions reference (length bases) in
    let d = not_returned o h.0 z in
    (told_kept _ o n n' h.1 d, row_kept _ o bases bases' h.2 d)

pub aql_annotate_simplex_methylation_refused : (len : ℕ) (lengths bases row : List ℕ) (flags : ℕ) (aligned : List ℕ) (all? : ℕ) (inf unc con : List ℕ)
    (n r : ℕ) (inf' unc' con' : List ℕ) (n' : ℕ) → AnnotatesInC len lengths bases row flags aligned all? inf unc con n r inf' unc' con' n'
    → eqb r 0 ≡ false → (n' ≡ n) × (inf' ≡ inf) × (unc' ≡ unc) × (con' ≡ con)
aql_annotate_simplex_methylation_refused len lengths bases row flags aligned all? inf unc con n r inf' unc' con' n' h z =
    let o = annotated len lengths bases aligned (length inf) (length unc) (length con) in
    let d = not_returned o h.0 z in
    (told_kept _ o n n' h.1 d, row_kept _ o inf inf' h.2 d, row_kept _ o unc unc' h.3 d, row_kept _ o con con' h.4 d)

pub aql_gate_to_informative_refused : (inf unc con : List ℕ) (n r : ℕ) (unc' con' : List ℕ) (n' : ℕ) → GatesInC inf unc con n r unc' con' n'
    → eqb r 0 ≡ false → (n' ≡ n) × (unc' ≡ unc) × (con' ≡ con)
aql_gate_to_informative_refused inf unc con n r unc' con' n' h z =
    let o = columns_of (length inf) (length unc) (length con) in
    let d = not_returned o h.0 z in
    (told_kept _ o n n' h.1 d, row_kept _ o unc unc' h.2 d, row_kept _ o con con' h.3 d)

pub aql_truncate_refused : (len : ℕ) (inf unc con keptInf keptUnc keptCon : List ℕ) (n r : ℕ) (inf' unc' con' : List ℕ) (n' : ℕ)
    → TruncatesInC len inf unc con keptInf keptUnc keptCon n r inf' unc' con' n' → eqb r 0 ≡ false
    → (n' ≡ n) × (inf' ≡ keptInf) × (unc' ≡ keptUnc) × (con' ≡ keptCon)
aql_truncate_refused len inf unc con keptInf keptUnc keptCon n r inf' unc' con' n' h z =
    let o = truncated len (length inf) (length unc) (length con) (length keptInf) (length keptUnc) (length keptCon) in
    let d = not_returned o h.0 z in
    (told_kept _ o n n' h.1 d, row_kept _ o keptInf inf' h.2 d, row_kept _ o keptUnc unc' h.3 d, row_kept _ o keptCon con' h.4 d)

-- `aql_unconverted_counts` and `aql_converted_counts`
pub aql_counts_refused : (column inf unc con : List ℕ) (counts : List ℤ) (n r : ℕ) (counts' : List ℤ) (n' : ℕ)
    → GivesCountsInC column inf unc con counts n r counts' n' → eqb r 0 ≡ false → (n' ≡ n) × (counts' ≡ counts)
aql_counts_refused column inf unc con counts n r counts' n' h z =
    let o = counts_in_room (length inf) (length unc) (length con) (length counts) in
    let d = not_returned o h.0 z in
    (told_kept _ o n n' h.1 d, row_kept _ o counts counts' h.2 d)

pub aql_restore_unconverted_bases_refused : (seq : List ℕ) (flags : ℕ) (inf : List ℕ) (n r : ℕ) (seq' : List ℕ) (n' : ℕ)
    → RestoresInC seq flags inf n r seq' n' → eqb r 0 ≡ false → (n' ≡ n) × (seq' ≡ seq)
aql_restore_unconverted_bases_refused seq flags inf n r seq' n' h z =
    let o = restorable (length seq) (length inf) in
    let d = not_returned o h.0 z in
    (told_kept _ o n n' h.1 d, row_kept _ o seq seq' h.2 d)

pub aql_build_mm_ml_tags_refused : (seq inf unc con : List ℕ) (flags mode : ℕ) (mm ml : List ℕ) (t v r : ℕ) (mm' ml' : List ℕ) (t' v' : ℕ)
    → BuildsInC seq inf unc con flags mode mm ml t v r mm' ml' t' v' → eqb r 0 ≡ false → (t' ≡ t) × (v' ≡ v) × (mm' ≡ mm) × (ml' ≡ ml)
aql_build_mm_ml_tags_refused seq inf unc con flags mode mm ml t v r mm' ml' t' v' h z =
    let o = builds_as true mode flags (columns inf unc con) seq (length mm) (length ml) in
    let d = not_returned o h.0 z in
    (told_kept _ o t t' h.1 d, told_kept _ o v v' h.2 d, row_kept _ o mm mm' h.3 d, row_kept _ o ml ml' h.4 d)

pub aql_build_mm_tag_no_ml_refused : (seq inf unc con : List ℕ) (flags mode : ℕ) (mm : List ℕ) (t r : ℕ) (mm' : List ℕ) (t' : ℕ)
    → BuildsTextInC seq inf unc con flags mode mm t r mm' t' → eqb r 0 ≡ false → (t' ≡ t) × (mm' ≡ mm)
aql_build_mm_tag_no_ml_refused seq inf unc con flags mode mm t r mm' t' h z =
    let o = builds_as false mode flags (columns inf unc con) seq (length mm) 0 in
    let d = not_returned o h.0 z in
    (told_kept _ o t t' h.1 d, row_kept _ o mm mm' h.2 d)

pub aql_duplex_methylation_tags_refused : (bases : List ℕ) (count mode : ℕ) (a b : Strand) (lent : Rows) (lengths : List ℕ) (r : ℕ) (left : Rows)
    (lengths' : List ℕ) → DuplexesInC bases count mode a b lent lengths r left lengths' → eqb r 0 ≡ false → (lengths' ≡ lengths) × (left ≡ lent)
aql_duplex_methylation_tags_refused bases count mode a b lent lengths r left lengths' h z =
    let o = duplexes_as count mode bases a b (lengths_lent lent) in
    let d = not_returned o h.0 z in (
      told_kept _ o lengths lengths' h.1 d,
      λ j. eleven_rows
          (row_kept _ o lent.seq left.seq h.2 d j)
          (row_kept _ o lent.mm left.mm h.3 d j)
          (row_kept _ o lent.ml left.ml h.4 d j)
          (row_kept _ o lent.unconverted left.unconverted h.5 d j)
          (row_kept _ o lent.converted left.converted h.6 d j)
          (row_kept _ o lent.first_mm left.first_mm h.7 d j)
          (row_kept _ o lent.first_unconverted left.first_unconverted h.8 d j)
          (row_kept _ o lent.first_converted left.first_converted h.9 d j)
          (row_kept _ o lent.second_mm left.second_mm h.10 d j)
          (row_kept _ o lent.second_unconverted left.second_unconverted h.11 d j)
          (row_kept _ o lent.second_converted left.second_converted h.12 d j),
    )

pub aql_check_tag_refused : (seq mm ml : List ℕ) (hasMl groups calls r groups' calls' : ℕ)
    → ChecksTagInC seq mm ml hasMl groups calls r groups' calls' → eqb r 0 ≡ false → (groups' ≡ groups) × (calls' ≡ calls)
aql_check_tag_refused seq mm ml hasMl groups calls r groups' calls' h z =
    let o = read_tag (yes hasMl) seq mm ml in
    let d = not_returned o h.0 z in
    (told_kept _ o groups groups' h.1 d, told_kept _ o calls calls' h.2 d)

pub aql_read_calls_refused : (seq mm ml : List ℕ) (hasMl : ℕ) (gs ps ss : List ℕ) (groups calls r : ℕ) (gs' ps' ss' : List ℕ) (groups' calls' : ℕ)
    → ReadsCallsInC seq mm ml hasMl gs ps ss groups calls r gs' ps' ss' groups' calls' → eqb r 0 ≡ false
    → (groups' ≡ groups) × (calls' ≡ calls) × (gs' ≡ gs) × (ps' ≡ ps) × (ss' ≡ ss)
aql_read_calls_refused seq mm ml hasMl gs ps ss groups calls r gs' ps' ss' groups' calls' h z =
    let o = listed_calls (yes hasMl) seq mm ml (length gs) (length ps) (length ss) in
    let d = not_returned o h.0 z in (
      told_kept _ o groups groups' h.1 d,
      told_kept _ o calls calls' h.2 d,
      row_kept _ o gs gs' h.3 d,
      row_kept _ o ps ps' h.4 d,
      row_kept _ o ss ss' h.5 d,
    )

pub aql_tally_refused : (seq mm ml : List ℕ) (above below r above' below' : ℕ) → TalliesInC seq mm ml above below r above' below' → eqb r 0 ≡ false
    → (above' ≡ above) × (below' ≡ below)
aql_tally_refused seq mm ml above below r above' below' h z =
    let o = tally_tag seq mm ml in
    let d = not_returned o h.0 z in
    (told_kept _ o above above' h.1 d, told_kept _ o below below' h.2 d)

pub aql_drop_masked_modifications_refused : (before after mm ml : List ℕ) (hasMl : ℕ) (mmOut mlOut : List ℕ) (t v r : ℕ) (mmOut' mlOut' : List ℕ)
    (t' v' : ℕ) → MasksTagInC before after mm ml hasMl mmOut mlOut t v r mmOut' mlOut' t' v' → eqb r 0 ≡ false
    → (t' ≡ t) × (v' ≡ v) × (mmOut' ≡ mmOut) × (mlOut' ≡ mlOut)
aql_drop_masked_modifications_refused before after mm ml hasMl mmOut mlOut t v r mmOut' mlOut' t' v' h z =
    let o = mask_tag (yes hasMl) before after mm ml (length mmOut) (length mlOut) in
    let d = not_returned o h.0 z in
    (told_kept _ o t t' h.1 d, told_kept _ o v v' h.2 d, row_kept _ o mmOut mmOut' h.3 d, row_kept _ o mlOut mlOut' h.4 d)

pub aql_drop_modifications_at_refused : (seq places mm ml : List ℕ) (hasMl : ℕ) (mmOut mlOut : List ℕ) (t v r : ℕ) (mmOut' mlOut' : List ℕ)
    (t' v' : ℕ) → DropsFromTagInC seq places mm ml hasMl mmOut mlOut t v r mmOut' mlOut' t' v' → eqb r 0 ≡ false
    → (t' ≡ t) × (v' ≡ v) × (mmOut' ≡ mmOut) × (mlOut' ≡ mlOut)
aql_drop_modifications_at_refused seq places mm ml hasMl mmOut mlOut t v r mmOut' mlOut' t' v' h z =
    let o = drop_from_tag (yes hasMl) seq places mm ml (length mmOut) (length mlOut) in
    let d = not_returned o h.0 z in
    (told_kept _ o t t' h.1 d, told_kept _ o v v' h.2 d, row_kept _ o mmOut mmOut' h.3 d, row_kept _ o mlOut mlOut' h.4 d)

pub aql_trim_clipped_modifications_refused : (before after : List ℕ) (startKnown start : ℕ) (mm ml : List ℕ) (hasMl : ℕ) (mmOut mlOut : List ℕ)
    (t v r : ℕ) (mmOut' mlOut' : List ℕ) (t' v' : ℕ) → CutsTagInC before after startKnown start mm ml hasMl mmOut mlOut t v r mmOut' mlOut' t' v'
    → eqb r 0 ≡ false → (t' ≡ t) × (v' ≡ v) × (mmOut' ≡ mmOut) × (mlOut' ≡ mlOut)
aql_trim_clipped_modifications_refused before after startKnown start mm ml hasMl mmOut mlOut t v r mmOut' mlOut' t' v' h z =
    let o = cut_tag (yes hasMl) (given_start startKnown start) before after mm ml (length mmOut) (length mlOut) in
    let d = not_returned o h.0 z in
    (told_kept _ o t t' h.1 d, told_kept _ o v v' h.2 d, row_kept _ o mmOut mmOut' h.3 d, row_kept _ o mlOut mlOut' h.4 d)

pub aql_session_open_refused : (seq mm ml : List ℕ) (hasMl : ℕ) (lengths : List ℕ) (groups calls r groups' calls' : ℕ)
    → OpensInC seq mm ml hasMl lengths groups calls r groups' calls' → eqb r 0 ≡ false → (groups' ≡ groups) × (calls' ≡ calls)
aql_session_open_refused seq mm ml hasMl lengths groups calls r groups' calls' h z =
    let o = open_session (yes hasMl) (session_in seq mm ml lengths) in
    let d = not_returned o h.0 z in
    (told_kept _ o groups groups' h.1 d, told_kept _ o calls calls' h.2 d)

-- `aql_session_mask`, `aql_session_drop_calls` and `aql_session_cut`
pub aql_session_step_refused : (t : Step) (seq mm ml : List ℕ) (hasMl : ℕ) (lengths : List ℕ) (r : ℕ) (seq' mm' ml' lengths' : List ℕ)
    → StepsInC t seq mm ml hasMl lengths r seq' mm' ml' lengths' → eqb r 0 ≡ false → (lengths' ≡ lengths) × (seq' ≡ seq) × (mm' ≡ mm) × (ml' ≡ ml)
aql_session_step_refused t seq mm ml hasMl lengths r seq' mm' ml' lengths' h z =
    let o = step_in_memory (yes hasMl) t (session_in seq mm ml lengths) in
    let d = not_returned o h.0 z in
    (told_kept _ o lengths lengths' h.1 d, told_kept _ o seq seq' h.2 d, told_kept _ o mm mm' h.3 d, told_kept _ o ml ml' h.4 d)

-- ---- reads as a BAM record stores them

pub aql_turn_refused : (packed : List ℕ) (bases : ℕ) (out : List ℕ) (n r : ℕ) (out' : List ℕ) (n' : ℕ)
    → TurnsInC packed bases out n r out' n' → eqb r 0 ≡ false → (n' ≡ n) × (out' ≡ out)
aql_turn_refused packed bases out n r out' n' h z =
    let o = turn_stored bases packed (length out) in
    let d = not_returned o h.0 z in (
      told_kept _ o n n' h.1 d,
      row_kept _ o out out' h.2 d,
    )

pub aql_unpack_refused : (packed : List ℕ) (bases reverse : ℕ) (seq : List ℕ) (n r : ℕ) (seq' : List ℕ) (n' : ℕ)
    → UnpacksInC packed bases reverse seq n r seq' n' → eqb r 0 ≡ false → (n' ≡ n) × (seq' ≡ seq)
aql_unpack_refused packed bases reverse seq n r seq' n' h z =
    let o = unpack_stored (yes reverse) bases packed (length seq) in
    let d = not_returned o h.0 z in (
      told_kept _ o n n' h.1 d,
      row_kept _ o seq seq' h.2 d,
    )

pub aql_stored_check_tag_refused : (packed : List ℕ) (bases reverse : ℕ) (mm ml : List ℕ) (hasMl groups calls r groups' calls' : ℕ)
    → ChecksStoredInC packed bases reverse mm ml hasMl groups calls r groups' calls' → eqb r 0 ≡ false → (groups' ≡ groups) × (calls' ≡ calls)
aql_stored_check_tag_refused packed bases reverse mm ml hasMl groups calls r groups' calls' h z =
    let o = read_stored (yes reverse) (yes hasMl) bases packed mm ml in
    let d = not_returned o h.0 z in (
      told_kept _ o groups groups' h.1 d,
      told_kept _ o calls calls' h.2 d,
    )

pub aql_stored_read_calls_refused : (packed : List ℕ) (bases reverse : ℕ) (mm ml : List ℕ) (hasMl : ℕ) (gs ps ss : List ℕ) (groups calls r : ℕ) (gs' ps' ss' : List ℕ) (groups' calls' : ℕ)
    → ReadsStoredInC packed bases reverse mm ml hasMl gs ps ss groups calls r gs' ps' ss' groups' calls' → eqb r 0 ≡ false → (groups' ≡ groups) × (calls' ≡ calls) × (gs' ≡ gs) × (ps' ≡ ps) × (ss' ≡ ss)
aql_stored_read_calls_refused packed bases reverse mm ml hasMl gs ps ss groups calls r gs' ps' ss' groups' calls' h z =
    let o = listed_stored (yes reverse) (yes hasMl) bases packed mm ml (length gs) (length ps) (length ss) in
    let d = not_returned o h.0 z in (
      told_kept _ o groups groups' h.1 d,
      told_kept _ o calls calls' h.2 d,
      row_kept _ o gs gs' h.3 d,
      row_kept _ o ps ps' h.4 d,
      row_kept _ o ss ss' h.5 d,
    )

pub aql_stored_tally_refused : (packed : List ℕ) (bases reverse : ℕ) (mm ml : List ℕ) (above below r above' below' : ℕ)
    → TalliesStoredInC packed bases reverse mm ml above below r above' below' → eqb r 0 ≡ false → (above' ≡ above) × (below' ≡ below)
aql_stored_tally_refused packed bases reverse mm ml above below r above' below' h z =
    let o = tally_stored (yes reverse) bases packed mm ml in
    let d = not_returned o h.0 z in (
      told_kept _ o above above' h.1 d,
      told_kept _ o below below' h.2 d,
    )

pub aql_stored_drop_masked_modifications_refused : (before : List ℕ) (n : ℕ) (after : List ℕ) (k reverse : ℕ) (mm ml : List ℕ) (hasMl : ℕ) (mmOut mlOut : List ℕ) (t v r : ℕ) (mmOut' mlOut' : List ℕ) (t' v' : ℕ)
    → MasksStoredInC before n after k reverse mm ml hasMl mmOut mlOut t v r mmOut' mlOut' t' v' → eqb r 0 ≡ false → (t' ≡ t) × (v' ≡ v) × (mmOut' ≡ mmOut) × (mlOut' ≡ mlOut)
aql_stored_drop_masked_modifications_refused before n after k reverse mm ml hasMl mmOut mlOut t v r mmOut' mlOut' t' v' h z =
    let o = mask_stored (yes reverse) (yes hasMl) n before k after mm ml (length mmOut) (length mlOut) in
    let d = not_returned o h.0 z in (
      told_kept _ o t t' h.1 d,
      told_kept _ o v v' h.2 d,
      row_kept _ o mmOut mmOut' h.3 d,
      row_kept _ o mlOut mlOut' h.4 d,
    )

pub aql_stored_drop_modifications_at_refused : (packed : List ℕ) (bases reverse : ℕ) (places mm ml : List ℕ) (hasMl : ℕ) (mmOut mlOut : List ℕ) (t v r : ℕ) (mmOut' mlOut' : List ℕ) (t' v' : ℕ)
    → DropsStoredInC packed bases reverse places mm ml hasMl mmOut mlOut t v r mmOut' mlOut' t' v' → eqb r 0 ≡ false → (t' ≡ t) × (v' ≡ v) × (mmOut' ≡ mmOut) × (mlOut' ≡ mlOut)
aql_stored_drop_modifications_at_refused packed bases reverse places mm ml hasMl mmOut mlOut t v r mmOut' mlOut' t' v' h z =
    let o = drop_stored (yes reverse) (yes hasMl) bases packed places mm ml (length mmOut) (length mlOut) in
    let d = not_returned o h.0 z in (
      told_kept _ o t t' h.1 d,
      told_kept _ o v v' h.2 d,
      row_kept _ o mmOut mmOut' h.3 d,
      row_kept _ o mlOut mlOut' h.4 d,
    )

pub aql_stored_trim_clipped_modifications_refused : (before : List ℕ) (n : ℕ) (after : List ℕ) (k reverse startKnown start : ℕ) (mm ml : List ℕ) (hasMl : ℕ) (mmOut mlOut : List ℕ) (t v r : ℕ) (mmOut' mlOut' : List ℕ) (t' v' : ℕ)
    → CutsStoredInC before n after k reverse startKnown start mm ml hasMl mmOut mlOut t v r mmOut' mlOut' t' v' → eqb r 0 ≡ false → (t' ≡ t) × (v' ≡ v) × (mmOut' ≡ mmOut) × (mlOut' ≡ mlOut)
aql_stored_trim_clipped_modifications_refused before n after k reverse startKnown start mm ml hasMl mmOut mlOut t v r mmOut' mlOut' t' v' h z =
    let o = cut_stored (yes reverse) (yes hasMl) (given_start startKnown start) n before k after mm ml (length mmOut) (length mlOut) in
    let d = not_returned o h.0 z in (
      told_kept _ o t t' h.1 d,
      told_kept _ o v v' h.2 d,
      row_kept _ o mmOut mmOut' h.3 d,
      row_kept _ o mlOut mlOut' h.4 d,
    )

pub aql_stored_open_refused : (packed : List ℕ) (reverse : ℕ) (mm ml : List ℕ) (hasMl : ℕ) (lengths : List ℕ) (groups calls r groups' calls' : ℕ)
    → OpensStoredInC packed reverse mm ml hasMl lengths groups calls r groups' calls' → eqb r 0 ≡ false → (groups' ≡ groups) × (calls' ≡ calls)
aql_stored_open_refused packed reverse mm ml hasMl lengths groups calls r groups' calls' h z =
    let o = open_stored (yes reverse) (yes hasMl) (session_in packed mm ml lengths) in
    let d = not_returned o h.0 z in (
      told_kept _ o groups groups' h.1 d,
      told_kept _ o calls calls' h.2 d,
    )

-- `aql_stored_mask`, `aql_stored_drop_calls` and `aql_stored_cut`
pub aql_stored_step_refused : (t : Step) (packed : List ℕ) (reverse : ℕ) (mm ml : List ℕ) (hasMl : ℕ) (lengths : List ℕ) (r : ℕ) (packed' mm' ml' lengths' : List ℕ)
    → StepsStoredInC t packed reverse mm ml hasMl lengths r packed' mm' ml' lengths' → eqb r 0 ≡ false → (lengths' ≡ lengths) × (packed' ≡ packed) × (mm' ≡ mm) × (ml' ≡ ml)
aql_stored_step_refused t packed reverse mm ml hasMl lengths r packed' mm' ml' lengths' h z =
    let o = step_stored (yes reverse) (yes hasMl) t (session_in packed mm ml lengths) in
    let d = not_returned o h.0 z in (
      told_kept _ o lengths lengths' h.1 d,
      told_kept _ o packed packed' h.2 d,
      told_kept _ o mm mm' h.3 d,
      told_kept _ o ml ml' h.4 d,
    )

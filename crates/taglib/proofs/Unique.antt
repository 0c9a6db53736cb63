-- Each export's proposition determines its return value and everything that was lent to it, but for the work rows of `aql_transcript`: two outcomes that
-- meet the proposition are equal.
-- Assumes nothing.
use mathlib.Core.Path.{◌≡◌}
use Prim.Native.Nat.{ℕ}
use mathlib.Core.List.{List}
use lib.IntN.{ℤ}
use Rattle.lent.proofs.Filled.{settled}
use Rattle.samtags.specs.Building.{Strand}
use Rattle.samtags.specs.Session.{Step}
use Rattle.duplex.specs.PublicContracts.{Rows, eleven_rows}
use Rattle.taglib.specs.PatternContracts.{UppercasesInC, ComparesInC, FindsPatternInC, NamesBasesInC, NamesLetterInC, NamesSignInC, TellsEnabledInC}
use Rattle.taglib.specs.AlignmentContracts.{FindsPlacesInC, TellsCpgInC, FetchesBasesInC}
use Rattle.taglib.specs.EvidenceContracts.{StartsEvidenceInC, CountsBaseInC, GatesPositionInC, AnnotatesInC, GatesInC, TruncatesInC, GivesCountsInC, RestoresInC}
use Rattle.taglib.specs.BuildingContracts.{BuildsInC, BuildsTextInC}
use Rattle.taglib.specs.DuplexContracts.{DuplexesInC}
use Rattle.taglib.specs.ReadingContracts.{ChecksTagInC, ReadsCallsInC, TalliesInC}
use Rattle.taglib.specs.RewritingContracts.{MasksTagInC, DropsFromTagInC, CutsTagInC}
use Rattle.taglib.specs.SessionContracts.{OpensInC, StepsInC}
use Rattle.taglib.specs.StoredReadingContracts.{ChecksStoredInC, ReadsStoredInC, TalliesStoredInC, TurnsInC, UnpacksInC}
use Rattle.taglib.specs.StoredRewritingContracts.{CutsStoredInC, DropsStoredInC, MasksStoredInC}
use Rattle.taglib.specs.StoredSessionContracts.{OpensStoredInC, StepsStoredInC}
use Rattle.taglib.specs.TranscriptContracts.{TranscribesInC}

-- ---- bytes, patterns and the chemistry

pub aql_to_ascii_uppercase_unique : (b r s : ℕ) → UppercasesInC b r → UppercasesInC b s → r ≡ s
aql_to_ascii_uppercase_unique b r s h k = settled r s h k

pub aql_eq_ignore_ascii_case_unique : (a b r s : ℕ) → ComparesInC a b r → ComparesInC a b s → r ≡ s
aql_eq_ignore_ascii_case_unique a b r s h k = settled r s h k

pub aql_pattern_from_read_flags_unique : (flags r s : ℕ) → FindsPatternInC flags r → FindsPatternInC flags s → r ≡ s
aql_pattern_from_read_flags_unique flags r s h k = settled r s h k

pub aql_pattern_bases_unique : (flags reference' unconverted' converted' reference'' unconverted'' converted'' : ℕ)
    → NamesBasesInC flags reference' unconverted' converted' → NamesBasesInC flags reference'' unconverted'' converted''
    → (reference' ≡ reference'') × (unconverted' ≡ unconverted'') × (converted' ≡ converted'')
aql_pattern_bases_unique flags reference' unconverted' converted' reference'' unconverted'' converted'' h k =
    (settled reference' reference'' h.0 k.0, settled unconverted' unconverted'' h.1 k.1, settled converted' converted'' h.2 k.2)

pub aql_pattern_letter_unique : (flags r s : ℕ) → NamesLetterInC flags r → NamesLetterInC flags s → r ≡ s
aql_pattern_letter_unique flags r s h k = settled r s h k

pub aql_pattern_sign_unique : (flags r s : ℕ) → NamesSignInC flags r → NamesSignInC flags s → r ≡ s
aql_pattern_sign_unique flags r s h k = settled r s h k

pub aql_mode_is_enabled_unique : (mode enabled r enabled' s enabled'' : ℕ) → TellsEnabledInC mode enabled r enabled'
    → TellsEnabledInC mode enabled s enabled'' → (r ≡ s) × (enabled' ≡ enabled'')
aql_mode_is_enabled_unique mode enabled r enabled' s enabled'' h k = (settled r s h.0 k.0, settled enabled' enabled'' h.1 k.1)

-- ---- alignment

pub aql_query_to_ref_positions_unique : (cigar : List ℕ) (start : ℤ) (is_reverse : ℕ) (positions : List ℤ) (n r : ℕ) (positions' : List ℤ) (n' s : ℕ)
    (positions'' : List ℤ) (n'' : ℕ) → FindsPlacesInC cigar start is_reverse positions n r positions' n'
    → FindsPlacesInC cigar start is_reverse positions n s positions'' n'' → (r ≡ s) × (n' ≡ n'') × (positions' ≡ positions'')
aql_query_to_ref_positions_unique cigar start is_reverse positions n r positions' n' s positions'' n'' h k =
    (settled r s h.0 k.0, settled n' n'' h.1 k.1, settled positions' positions'' h.2 k.2)

pub aql_is_cpg_context_unique : (reference : List ℕ) (pos isTopStrand r s : ℕ) → TellsCpgInC reference pos isTopStrand r
    → TellsCpgInC reference pos isTopStrand s → r ≡ s
aql_is_cpg_context_unique reference pos isTopStrand r s h k = settled r s h k

pub aql_fetch_ref_bases_at_positions_unique : (positions : List ℤ) (reference bases : List ℕ) (n r : ℕ) (bases' : List ℕ) (n' s : ℕ) (bases'' : List ℕ)
    (n'' : ℕ) → FetchesBasesInC positions reference bases n r bases' n' → FetchesBasesInC positions reference bases n s bases'' n''
    → (r ≡ s) × (n' ≡ n'') × (bases' ≡ bases'')
aql_fetch_ref_bases_at_positions_unique positions reference bases n r bases' n' s bases'' n'' h k =
    (settled r s h.0 k.0, settled n' n'' h.1 k.1, settled bases' bases'' h.2 k.2)

-- ---- evidence

pub aql_evidence_new_unique : (informative r unconverted' converted' s unconverted'' converted'' : ℕ)
    → StartsEvidenceInC informative r unconverted' converted' → StartsEvidenceInC informative s unconverted'' converted''
    → (r ≡ s) × (unconverted' ≡ unconverted'') × (converted' ≡ converted'')
aql_evidence_new_unique informative r unconverted' converted' s unconverted'' converted'' h k =
    (settled r s h.0 k.0, settled unconverted' unconverted'' h.1 k.1, settled converted' converted'' h.2 k.2)

pub aql_evidence_counted_unique : (base flags unconverted converted unconverted' converted' unconverted'' converted'' : ℕ)
    → CountsBaseInC base flags unconverted converted unconverted' converted' → CountsBaseInC base flags unconverted converted unconverted'' converted''
    → (unconverted' ≡ unconverted'') × (converted' ≡ converted'')
aql_evidence_counted_unique base flags unconverted converted unconverted' converted' unconverted'' converted'' h k =
    (settled unconverted' unconverted'' h.0 k.0, settled converted' converted'' h.1 k.1)

pub aql_evidence_gated_unique : (informative unconverted converted unconverted' converted' unconverted'' converted'' : ℕ)
    → GatesPositionInC informative unconverted converted unconverted' converted'
    → GatesPositionInC informative unconverted converted unconverted'' converted'' → (unconverted' ≡ unconverted'') × (converted' ≡ converted'')
aql_evidence_gated_unique informative unconverted converted unconverted' converted' unconverted'' converted'' h k =
    (settled unconverted' unconverted'' h.0 k.0, settled converted' converted'' h.1 k.1)

pub aql_annotate_simplex_methylation_unique : (len : ℕ) (lengths bases row : List ℕ) (flags : ℕ) (aligned : List ℕ) (all? : ℕ) (inf unc con : List ℕ)
    (n r : ℕ) (inf' unc' con' : List ℕ) (n' s : ℕ) (inf'' unc'' con'' : List ℕ) (n'' : ℕ)
    → AnnotatesInC len lengths bases row flags aligned all? inf unc con n r inf' unc' con' n'
    → AnnotatesInC len lengths bases row flags aligned all? inf unc con n s inf'' unc'' con'' n''
    → (r ≡ s) × (n' ≡ n'') × (inf' ≡ inf'') × (unc' ≡ unc'') × (con' ≡ con'')
aql_annotate_simplex_methylation_unique len lengths bases row flags aligned all? inf unc con n r inf' unc' con' n' s inf'' unc'' con'' n'' h k = (
  settled r s h.0 k.0,
  settled n' n'' h.1 k.1,
  settled inf' inf'' h.2 k.2,
  settled unc' unc'' h.3 k.3,
  settled con' con'' h.4 k.4,
)

pub aql_gate_to_informative_unique : (inf unc con : List ℕ) (n r : ℕ) (unc' con' : List ℕ) (n' s : ℕ) (unc'' con'' : List ℕ) (n'' : ℕ)
    → GatesInC inf unc con n r unc' con' n' → GatesInC inf unc con n s unc'' con'' n'' → (r ≡ s) × (n' ≡ n'') × (unc' ≡ unc'') × (con' ≡ con'')
aql_gate_to_informative_unique inf unc con n r unc' con' n' s unc'' con'' n'' h k =
    (settled r s h.0 k.0, settled n' n'' h.1 k.1, settled unc' unc'' h.2 k.2, settled con' con'' h.3 k.3)

pub aql_truncate_unique : (len : ℕ) (inf unc con keptInf keptUnc keptCon : List ℕ) (n r : ℕ) (inf' unc' con' : List ℕ) (n' s : ℕ)
    (inf'' unc'' con'' : List ℕ) (n'' : ℕ) → TruncatesInC len inf unc con keptInf keptUnc keptCon n r inf' unc' con' n'
    → TruncatesInC len inf unc con keptInf keptUnc keptCon n s inf'' unc'' con'' n'' → (r ≡ s) × (n' ≡ n'') × (inf' ≡ inf'') × (unc' ≡ unc'') × (con' ≡ con'')
aql_truncate_unique len inf unc con keptInf keptUnc keptCon n r inf' unc' con' n' s inf'' unc'' con'' n'' h k = (
  settled r s h.0 k.0,
  settled n' n'' h.1 k.1,
  settled inf' inf'' h.2 k.2,
  settled unc' unc'' h.3 k.3,
  settled con' con'' h.4 k.4,
)

-- `aql_unconverted_counts` and `aql_converted_counts`
pub aql_counts_unique : (column inf unc con : List ℕ) (counts : List ℤ) (n r : ℕ) (counts' : List ℤ) (n' s : ℕ) (counts'' : List ℤ) (n'' : ℕ)
    → GivesCountsInC column inf unc con counts n r counts' n' → GivesCountsInC column inf unc con counts n s counts'' n''
    → (r ≡ s) × (n' ≡ n'') × (counts' ≡ counts'')
aql_counts_unique column inf unc con counts n r counts' n' s counts'' n'' h k =
    (settled r s h.0 k.0, settled n' n'' h.1 k.1, settled counts' counts'' h.2 k.2)

pub aql_restore_unconverted_bases_unique : (seq : List ℕ) (flags : ℕ) (inf : List ℕ) (n r : ℕ) (seq' : List ℕ) (n' s : ℕ) (seq'' : List ℕ) (n'' : ℕ)
    → RestoresInC seq flags inf n r seq' n' → RestoresInC seq flags inf n s seq'' n'' → (r ≡ s) × (n' ≡ n'') × (seq' ≡ seq'')
aql_restore_unconverted_bases_unique seq flags inf n r seq' n' s seq'' n'' h k =
    (settled r s h.0 k.0, settled n' n'' h.1 k.1, settled seq' seq'' h.2 k.2)

-- ---- building

pub aql_build_mm_ml_tags_unique : (seq inf unc con : List ℕ) (flags mode : ℕ) (mm ml : List ℕ) (t v r : ℕ) (mm' ml' : List ℕ) (t' v' s : ℕ)
    (mm'' ml'' : List ℕ) (t'' v'' : ℕ) → BuildsInC seq inf unc con flags mode mm ml t v r mm' ml' t' v'
    → BuildsInC seq inf unc con flags mode mm ml t v s mm'' ml'' t'' v'' → (r ≡ s) × (t' ≡ t'') × (v' ≡ v'') × (mm' ≡ mm'') × (ml' ≡ ml'')
aql_build_mm_ml_tags_unique seq inf unc con flags mode mm ml t v r mm' ml' t' v' s mm'' ml'' t'' v'' h k = (
  settled r s h.0 k.0,
  settled t' t'' h.1 k.1,
  settled v' v'' h.2 k.2,
  settled mm' mm'' h.3 k.3,
  settled ml' ml'' h.4 k.4,
)

pub aql_build_mm_tag_no_ml_unique : (seq inf unc con : List ℕ) (flags mode : ℕ) (mm : List ℕ) (t r : ℕ) (mm' : List ℕ) (t' s : ℕ) (mm'' : List ℕ)
    (t'' : ℕ) → BuildsTextInC seq inf unc con flags mode mm t r mm' t' → BuildsTextInC seq inf unc con flags mode mm t s mm'' t''
    → (r ≡ s) × (t' ≡ t'') × (mm' ≡ mm'')
aql_build_mm_tag_no_ml_unique seq inf unc con flags mode mm t r mm' t' s mm'' t'' h k =
    (settled r s h.0 k.0, settled t' t'' h.1 k.1, settled mm' mm'' h.2 k.2)

-- ---- duplex

pub aql_duplex_methylation_tags_unique : (bases : List ℕ) (count mode : ℕ) (a b : Strand) (lent : Rows) (lengths : List ℕ) (r : ℕ) (left : Rows)
    (lengths' : List ℕ) (s : ℕ) (left₂ : Rows) (lengths'' : List ℕ) → DuplexesInC bases count mode a b lent lengths r left lengths'
    → DuplexesInC bases count mode a b lent lengths s left₂ lengths'' → (r ≡ s) × (lengths' ≡ lengths'') × (left ≡ left₂)
aql_duplex_methylation_tags_unique bases count mode a b lent lengths r left lengths' s left₂ lengths'' h k = (
  settled r s h.0 k.0,
  settled lengths' lengths'' h.1 k.1,
  λ j. eleven_rows
      (settled left.seq left₂.seq h.2 k.2 j)
      (settled left.mm left₂.mm h.3 k.3 j)
      (settled left.ml left₂.ml h.4 k.4 j)
      (settled left.unconverted left₂.unconverted h.5 k.5 j)
      (settled left.converted left₂.converted h.6 k.6 j)
      (settled left.first_mm left₂.first_mm h.7 k.7 j)
      (settled left.first_unconverted left₂.first_unconverted h.8 k.8 j)
      (settled left.first_converted left₂.first_converted h.9 k.9 j)
      (settled left.second_mm left₂.second_mm h.10 k.10 j)
      (settled left.second_unconverted left₂.second_unconverted h.11 k.11 j)
      (settled left.second_converted left₂.second_converted h.12 k.12 j),
)

-- ---- reading

pub aql_check_tag_unique : (seq mm ml : List ℕ) (hasMl groups calls r groups' calls' s groups'' calls'' : ℕ)
    → ChecksTagInC seq mm ml hasMl groups calls r groups' calls' → ChecksTagInC seq mm ml hasMl groups calls s groups'' calls''
    → (r ≡ s) × (groups' ≡ groups'') × (calls' ≡ calls'')
aql_check_tag_unique seq mm ml hasMl groups calls r groups' calls' s groups'' calls'' h k =
    (settled r s h.0 k.0, settled groups' groups'' h.1 k.1, settled calls' calls'' h.2 k.2)

pub aql_read_calls_unique : (seq mm ml : List ℕ) (hasMl : ℕ) (gs ps ss : List ℕ) (groups calls r : ℕ) (gs' ps' ss' : List ℕ) (groups' calls' s : ℕ)
    (gs'' ps'' ss'' : List ℕ) (groups'' calls'' : ℕ) → ReadsCallsInC seq mm ml hasMl gs ps ss groups calls r gs' ps' ss' groups' calls'
    → ReadsCallsInC seq mm ml hasMl gs ps ss groups calls s gs'' ps'' ss'' groups'' calls''
    → (r ≡ s) × (groups' ≡ groups'') × (calls' ≡ calls'') × (gs' ≡ gs'') × (ps' ≡ ps'') × (ss' ≡ ss'')
aql_read_calls_unique seq mm ml hasMl gs ps ss groups calls r gs' ps' ss' groups' calls' s gs'' ps'' ss'' groups'' calls'' h k = (
  settled r s h.0 k.0,
  settled groups' groups'' h.1 k.1,
  settled calls' calls'' h.2 k.2,
  settled gs' gs'' h.3 k.3,
  settled ps' ps'' h.4 k.4,
  settled ss' ss'' h.5 k.5,
)

pub aql_tally_unique : (seq mm ml : List ℕ) (above below r above' below' s above'' below'' : ℕ) → TalliesInC seq mm ml above below r above' below'
    → TalliesInC seq mm ml above below s above'' below'' → (r ≡ s) × (above' ≡ above'') × (below' ≡ below'')
aql_tally_unique seq mm ml above below r above' below' s above'' below'' h k =
    (settled r s h.0 k.0, settled above' above'' h.1 k.1, settled below' below'' h.2 k.2)

-- ---- rewriting

pub aql_drop_masked_modifications_unique : (before after mm ml : List ℕ) (hasMl : ℕ) (mmOut mlOut : List ℕ) (t v r : ℕ) (mmOut' mlOut' : List ℕ)
    (t' v' s : ℕ) (mmOut'' mlOut'' : List ℕ) (t'' v'' : ℕ) → MasksTagInC before after mm ml hasMl mmOut mlOut t v r mmOut' mlOut' t' v'
    → MasksTagInC before after mm ml hasMl mmOut mlOut t v s mmOut'' mlOut'' t'' v''
    → (r ≡ s) × (t' ≡ t'') × (v' ≡ v'') × (mmOut' ≡ mmOut'') × (mlOut' ≡ mlOut'')
aql_drop_masked_modifications_unique before after mm ml hasMl mmOut mlOut t v r mmOut' mlOut' t' v' s mmOut'' mlOut'' t'' v'' h k = (
  settled r s h.0 k.0,
  settled t' t'' h.1 k.1,
  settled v' v'' h.2 k.2,
  settled mmOut' mmOut'' h.3 k.3,
  settled mlOut' mlOut'' h.4 k.4,
)

pub aql_drop_modifications_at_unique : (seq places mm ml : List ℕ) (hasMl : ℕ) (mmOut mlOut : List ℕ) (t v r : ℕ) (mmOut' mlOut' : List ℕ)
    (t' v' s : ℕ) (mmOut'' mlOut'' : List ℕ) (t'' v'' : ℕ) → DropsFromTagInC seq places mm ml hasMl mmOut mlOut t v r mmOut' mlOut' t' v'
    → DropsFromTagInC seq places mm ml hasMl mmOut mlOut t v s mmOut'' mlOut'' t'' v''
    → (r ≡ s) × (t' ≡ t'') × (v' ≡ v'') × (mmOut' ≡ mmOut'') × (mlOut' ≡ mlOut'')
aql_drop_modifications_at_unique seq places mm ml hasMl mmOut mlOut t v r mmOut' mlOut' t' v' s mmOut'' mlOut'' t'' v'' h k = (
  settled r s h.0 k.0,
  settled t' t'' h.1 k.1,
  settled v' v'' h.2 k.2,
  settled mmOut' mmOut'' h.3 k.3,
  settled mlOut' mlOut'' h.4 k.4,
)

pub aql_trim_clipped_modifications_unique : (before after : List ℕ) (startKnown start : ℕ) (mm ml : List ℕ) (hasMl : ℕ) (mmOut mlOut : List ℕ)
    (t v r : ℕ) (mmOut' mlOut' : List ℕ) (t' v' s : ℕ) (mmOut'' mlOut'' : List ℕ) (t'' v'' : ℕ)
    → CutsTagInC before after startKnown start mm ml hasMl mmOut mlOut t v r mmOut' mlOut' t' v'
    → CutsTagInC before after startKnown start mm ml hasMl mmOut mlOut t v s mmOut'' mlOut'' t'' v''
    → (r ≡ s) × (t' ≡ t'') × (v' ≡ v'') × (mmOut' ≡ mmOut'') × (mlOut' ≡ mlOut'')
aql_trim_clipped_modifications_unique before after startKnown start mm ml hasMl mmOut mlOut t v r mmOut' mlOut' t' v' s mmOut'' mlOut'' t'' v'' h k = (
  settled r s h.0 k.0,
  settled t' t'' h.1 k.1,
  settled v' v'' h.2 k.2,
  settled mmOut' mmOut'' h.3 k.3,
  settled mlOut' mlOut'' h.4 k.4,
)

-- ---- the session

pub aql_session_open_unique : (seq mm ml : List ℕ) (hasMl : ℕ) (lengths : List ℕ) (groups calls r groups' calls' s groups'' calls'' : ℕ)
    → OpensInC seq mm ml hasMl lengths groups calls r groups' calls' → OpensInC seq mm ml hasMl lengths groups calls s groups'' calls''
    → (r ≡ s) × (groups' ≡ groups'') × (calls' ≡ calls'')
aql_session_open_unique seq mm ml hasMl lengths groups calls r groups' calls' s groups'' calls'' h k =
    (settled r s h.0 k.0, settled groups' groups'' h.1 k.1, settled calls' calls'' h.2 k.2)

-- `aql_session_mask`, `aql_session_drop_calls` and `aql_session_cut`
pub aql_session_step_unique : (t : Step) (seq mm ml : List ℕ) (hasMl : ℕ) (lengths : List ℕ) (r : ℕ) (seq' mm' ml' lengths' : List ℕ) (s : ℕ)
    (seq'' mm'' ml'' lengths'' : List ℕ) → StepsInC t seq mm ml hasMl lengths r seq' mm' ml' lengths'
    → StepsInC t seq mm ml hasMl lengths s seq'' mm'' ml'' lengths'' → (r ≡ s) × (lengths' ≡ lengths'') × (seq' ≡ seq'') × (mm' ≡ mm'') × (ml' ≡ ml'')
aql_session_step_unique t seq mm ml hasMl lengths r seq' mm' ml' lengths' s seq'' mm'' ml'' lengths'' h k = (
  settled r s h.0 k.0,
  settled lengths' lengths'' h.1 k.1,
  settled seq' seq'' h.2 k.2,
  settled mm' mm'' h.3 k.3,
  settled ml' ml'' h.4 k.4,
)

-- ---- reads as a BAM record stores them

pub aql_turn_unique : (packed : List ℕ) (bases : ℕ) (out : List ℕ) (n r : ℕ) (out' : List ℕ) (n' s : ℕ) (out'' : List ℕ) (n'' : ℕ)
    → TurnsInC packed bases out n r out' n' → TurnsInC packed bases out n s out'' n''
    → (r ≡ s) × (n' ≡ n'') × (out' ≡ out'')
aql_turn_unique packed bases out n r out' n' s out'' n'' h k = (
  settled r s h.0 k.0,
  settled n' n'' h.1 k.1,
  settled out' out'' h.2 k.2,
)

pub aql_unpack_unique : (packed : List ℕ) (bases reverse : ℕ) (seq : List ℕ) (n r : ℕ) (seq' : List ℕ) (n' s : ℕ) (seq'' : List ℕ) (n'' : ℕ)
    → UnpacksInC packed bases reverse seq n r seq' n' → UnpacksInC packed bases reverse seq n s seq'' n''
    → (r ≡ s) × (n' ≡ n'') × (seq' ≡ seq'')
aql_unpack_unique packed bases reverse seq n r seq' n' s seq'' n'' h k = (
  settled r s h.0 k.0,
  settled n' n'' h.1 k.1,
  settled seq' seq'' h.2 k.2,
)

pub aql_stored_check_tag_unique : (packed : List ℕ) (bases reverse : ℕ) (mm ml : List ℕ) (hasMl groups calls r groups' calls' s groups'' calls'' : ℕ)
    → ChecksStoredInC packed bases reverse mm ml hasMl groups calls r groups' calls' → ChecksStoredInC packed bases reverse mm ml hasMl groups calls s groups'' calls''
    → (r ≡ s) × (groups' ≡ groups'') × (calls' ≡ calls'')
aql_stored_check_tag_unique packed bases reverse mm ml hasMl groups calls r groups' calls' s groups'' calls'' h k = (
  settled r s h.0 k.0,
  settled groups' groups'' h.1 k.1,
  settled calls' calls'' h.2 k.2,
)

pub aql_stored_read_calls_unique : (packed : List ℕ) (bases reverse : ℕ) (mm ml : List ℕ) (hasMl : ℕ) (gs ps ss : List ℕ) (groups calls r : ℕ) (gs' ps' ss' : List ℕ) (groups' calls' s : ℕ) (gs'' ps'' ss'' : List ℕ) (groups'' calls'' : ℕ)
    → ReadsStoredInC packed bases reverse mm ml hasMl gs ps ss groups calls r gs' ps' ss' groups' calls' → ReadsStoredInC packed bases reverse mm ml hasMl gs ps ss groups calls s gs'' ps'' ss'' groups'' calls''
    → (r ≡ s) × (groups' ≡ groups'') × (calls' ≡ calls'') × (gs' ≡ gs'') × (ps' ≡ ps'') × (ss' ≡ ss'')
aql_stored_read_calls_unique packed bases reverse mm ml hasMl gs ps ss groups calls r gs' ps' ss' groups' calls' s gs'' ps'' ss'' groups'' calls'' h k = (
  settled r s h.0 k.0,
  settled groups' groups'' h.1 k.1,
  settled calls' calls'' h.2 k.2,
  settled gs' gs'' h.3 k.3,
  settled ps' ps'' h.4 k.4,
  settled ss' ss'' h.5 k.5,
)

pub aql_stored_tally_unique : (packed : List ℕ) (bases reverse : ℕ) (mm ml : List ℕ) (above below r above' below' s above'' below'' : ℕ)
    → TalliesStoredInC packed bases reverse mm ml above below r above' below' → TalliesStoredInC packed bases reverse mm ml above below s above'' below''
    → (r ≡ s) × (above' ≡ above'') × (below' ≡ below'')
aql_stored_tally_unique packed bases reverse mm ml above below r above' below' s above'' below'' h k = (
  settled r s h.0 k.0,
  settled above' above'' h.1 k.1,
  settled below' below'' h.2 k.2,
)

pub aql_stored_drop_masked_modifications_unique : (before : List ℕ) (n : ℕ) (after : List ℕ) (k reverse : ℕ) (mm ml : List ℕ) (hasMl : ℕ) (mmOut mlOut : List ℕ) (t v r : ℕ) (mmOut' mlOut' : List ℕ) (t' v' s : ℕ) (mmOut'' mlOut'' : List ℕ) (t'' v'' : ℕ)
    → MasksStoredInC before n after k reverse mm ml hasMl mmOut mlOut t v r mmOut' mlOut' t' v' → MasksStoredInC before n after k reverse mm ml hasMl mmOut mlOut t v s mmOut'' mlOut'' t'' v''
    → (r ≡ s) × (t' ≡ t'') × (v' ≡ v'') × (mmOut' ≡ mmOut'') × (mlOut' ≡ mlOut'')
aql_stored_drop_masked_modifications_unique before n after k reverse mm ml hasMl mmOut mlOut t v r mmOut' mlOut' t' v' s mmOut'' mlOut'' t'' v'' h g = (
  settled r s h.0 g.0,
  settled t' t'' h.1 g.1,
  settled v' v'' h.2 g.2,
  settled mmOut' mmOut'' h.3 g.3,
  settled mlOut' mlOut'' h.4 g.4,
)

pub aql_stored_drop_modifications_at_unique : (packed : List ℕ) (bases reverse : ℕ) (places mm ml : List ℕ) (hasMl : ℕ) (mmOut mlOut : List ℕ) (t v r : ℕ) (mmOut' mlOut' : List ℕ) (t' v' s : ℕ) (mmOut'' mlOut'' : List ℕ) (t'' v'' : ℕ)
    → DropsStoredInC packed bases reverse places mm ml hasMl mmOut mlOut t v r mmOut' mlOut' t' v' → DropsStoredInC packed bases reverse places mm ml hasMl mmOut mlOut t v s mmOut'' mlOut'' t'' v''
    → (r ≡ s) × (t' ≡ t'') × (v' ≡ v'') × (mmOut' ≡ mmOut'') × (mlOut' ≡ mlOut'')
aql_stored_drop_modifications_at_unique packed bases reverse places mm ml hasMl mmOut mlOut t v r mmOut' mlOut' t' v' s mmOut'' mlOut'' t'' v'' h k = (
  settled r s h.0 k.0,
  settled t' t'' h.1 k.1,
  settled v' v'' h.2 k.2,
  settled mmOut' mmOut'' h.3 k.3,
  settled mlOut' mlOut'' h.4 k.4,
)

pub aql_stored_trim_clipped_modifications_unique : (before : List ℕ) (n : ℕ) (after : List ℕ) (k reverse startKnown start : ℕ) (mm ml : List ℕ) (hasMl : ℕ) (mmOut mlOut : List ℕ) (t v r : ℕ) (mmOut' mlOut' : List ℕ) (t' v' s : ℕ) (mmOut'' mlOut'' : List ℕ) (t'' v'' : ℕ)
    → CutsStoredInC before n after k reverse startKnown start mm ml hasMl mmOut mlOut t v r mmOut' mlOut' t' v' → CutsStoredInC before n after k reverse startKnown start mm ml hasMl mmOut mlOut t v s mmOut'' mlOut'' t'' v''
    → (r ≡ s) × (t' ≡ t'') × (v' ≡ v'') × (mmOut' ≡ mmOut'') × (mlOut' ≡ mlOut'')
aql_stored_trim_clipped_modifications_unique before n after k reverse startKnown start mm ml hasMl mmOut mlOut t v r mmOut' mlOut' t' v' s mmOut'' mlOut'' t'' v'' h g = (
  settled r s h.0 g.0,
  settled t' t'' h.1 g.1,
  settled v' v'' h.2 g.2,
  settled mmOut' mmOut'' h.3 g.3,
  settled mlOut' mlOut'' h.4 g.4,
)

pub aql_stored_open_unique : (packed : List ℕ) (reverse : ℕ) (mm ml : List ℕ) (hasMl : ℕ) (lengths : List ℕ) (groups calls r groups' calls' s groups'' calls'' : ℕ)
    → OpensStoredInC packed reverse mm ml hasMl lengths groups calls r groups' calls' → OpensStoredInC packed reverse mm ml hasMl lengths groups calls s groups'' calls''
    → (r ≡ s) × (groups' ≡ groups'') × (calls' ≡ calls'')
aql_stored_open_unique packed reverse mm ml hasMl lengths groups calls r groups' calls' s groups'' calls'' h k = (
  settled r s h.0 k.0,
  settled groups' groups'' h.1 k.1,
  settled calls' calls'' h.2 k.2,
)

-- `aql_stored_mask`, `aql_stored_drop_calls` and `aql_stored_cut`
pub aql_stored_step_unique : (t : Step) (packed : List ℕ) (reverse : ℕ) (mm ml : List ℕ) (hasMl : ℕ) (lengths : List ℕ) (r : ℕ) (packed' mm' ml' lengths' : List ℕ) (s : ℕ) (packed'' mm'' ml'' lengths'' : List ℕ)
    → StepsStoredInC t packed reverse mm ml hasMl lengths r packed' mm' ml' lengths' → StepsStoredInC t packed reverse mm ml hasMl lengths s packed'' mm'' ml'' lengths''
    → (r ≡ s) × (lengths' ≡ lengths'') × (packed' ≡ packed'') × (mm' ≡ mm'') × (ml' ≡ ml'')
aql_stored_step_unique t packed reverse mm ml hasMl lengths r packed' mm' ml' lengths' s packed'' mm'' ml'' lengths'' h k = (
  settled r s h.0 k.0,
  settled lengths' lengths'' h.1 k.1,
  settled packed' packed'' h.2 k.2,
  settled mm' mm'' h.3 k.3,
  settled ml' ml'' h.4 k.4,
)

-- ---- tagedit

pub aql_transcript_unique : (input out : List ℕ) (r : ℕ) (out' : List ℕ) (s : ℕ) (out'' : List ℕ) → TranscribesInC input out r out'
    → TranscribesInC input out s out'' → (r ≡ s) × (out' ≡ out'')
aql_transcript_unique input out r out' s out'' h k = (settled r s h.0 k.0, settled out' out'' h.1 k.1)

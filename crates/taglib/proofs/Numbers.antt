-- The numbers that each export can return to a C program, and 0 exactly when its call is done: from the export's proposition. The returned number is the
-- one that the definition of the call gives, and the definition's own crate has an input for each of these numbers. For `aql_mode_is_enabled` and the
-- build exports, 13 (the number names no chemistry) is one more number, and the inputs are in this file.
-- Assumes nothing.
use mathlib.Core.Path.{◌≡◌, refl}
use Prim.Native.Nat.{ℕ}
use mathlib.Core.Bool.{Bool, true, false, ◌&&◌}
use mathlib.Core.List.{List, [], ◌∷◌, map}
use lib.Dec.{leb}
use lib.IntN.{ℤ}
use lib.ListN.{length}
use Rattle.lent.specs.Answers.{refuses_only}
use Rattle.lent.specs.Outcome.{number_of, on_done}
use Rattle.lent.proofs.Answers.{only_and_then, only_need, only_on_done}
use Rattle.pattern.specs.Patterns.{pattern_of, is_enabled}
use Rattle.cigar.specs.Cigar.{query_places}
use Rattle.alignment.specs.Reference.{fetched_bases}
use Rattle.refusals.specs.Refusals.{annotated, columns_of, counts_in_room, restorable, truncated}
use Rattle.samtags.specs.Building.{Evidence, Strand, build_tag, columns}
use Rattle.samtags.specs.Bytes.{ascii}
use Rattle.samtags.specs.Edits.{cut_tag, drop_from_tag, mask_tag}
use Rattle.samtags.specs.Reading.{call_list, read_tag, tally_tag}
use Rattle.samtags.specs.Session.{cut, drop_calls, mask, open_session, step_in_memory}
use Rattle.reading.specs.Calls.{listed_calls}
use Rattle.duplex.specs.PublicContracts.{Rows, lengths_lent}
use Rattle.modes.specs.Modes.{mode_of}
use Rattle.stored.specs.Reads.{listed_stored, read_stored, tally_stored, turn_stored, unpack_stored}
use Rattle.stored_edits.specs.Edits.{cut_stored, drop_stored, mask_stored}
use Rattle.stored_steps.specs.Steps.{open_stored, step_stored}
use Rattle.telling.specs.Starts.{given_start}
use Rattle.telling.specs.Told.{yes}
use Rattle.taglib.specs.AlignmentContracts.{FetchesBasesInC, FindsPlacesInC}
use Rattle.taglib.specs.BuildingContracts.{BuildsInC, BuildsTextInC, builds_as}
use Rattle.taglib.specs.DuplexContracts.{DuplexesInC, duplexes_as}
use Rattle.taglib.specs.EvidenceContracts.{AnnotatesInC, GatesInC, GivesCountsInC, RestoresInC, TruncatesInC}
use Rattle.taglib.specs.PatternContracts.{TellsEnabledInC}
use Rattle.taglib.specs.ReadingContracts.{ChecksTagInC, ReadsCallsInC, TalliesInC}
use Rattle.telling.specs.Returns.{Returns}
use Rattle.taglib.specs.RewritingContracts.{CutsTagInC, DropsFromTagInC, MasksTagInC}
use Rattle.taglib.specs.SessionContracts.{OpensInC, StepsInC, session_in}
use Rattle.taglib.specs.StoredReadingContracts.{ChecksStoredInC, ReadsStoredInC, TalliesStoredInC, TurnsInC, UnpacksInC}
use Rattle.taglib.specs.StoredRewritingContracts.{CutsStoredInC, DropsStoredInC, MasksStoredInC}
use Rattle.taglib.specs.StoredSessionContracts.{OpensStoredInC, StepsStoredInC}
use Rattle.taglib.proofs.ModeNumbers.{mode_only}
use Rattle.telling.proofs.Returned.{only_more, returned_filled, returned_only, returned_written}
use Rattle.alignment.proofs.Numbers.{fetch_ref_bases_at_positions_numbers, query_to_ref_positions_numbers}
use Rattle.annotation.proofs.Numbers.{annotate_simplex_methylation_numbers, converted_counts_numbers, gate_to_informative_numbers, restore_unconverted_bases_numbers, truncate_numbers, unconverted_counts_numbers}
use Rattle.duplex.proofs.Numbers.{duplex_numbers, duplex_tags_only}
use Rattle.stored.proofs.Numbers.{listed_stored_only, read_stored_only, tally_stored_only, turn_stored_only, unpack_stored_only}
use Rattle.stored_edits.proofs.Numbers.{cut_stored_only, drop_stored_only, mask_stored_only}
use Rattle.stored_session.proofs.Numbers.{open_stored_only, step_stored_only}
use Rattle.samtags.proofs.Numbers.{build_tag_only, build_numbers, cut_tag_only, drop_tag_only, long_tag, mask_tag_only, open_session_only, read_tag_only, step_only, tally_tag_only}

-- ---- the chemistry

pub aql_mode_is_enabled_numbers : (mode enabled r enabled' : ℕ) → TellsEnabledInC mode enabled r enabled'
    → Returns (13 ∷ []) (on_done is_enabled (mode_of mode)) r
aql_mode_is_enabled_numbers mode enabled r enabled' h =
    returned_only (13 ∷ []) _ refl h.0 (only_on_done (13 ∷ []) is_enabled (mode_of mode) (mode_only (13 ∷ []) mode refl))

pub aql_mode_is_enabled_each_number : map (λ (mode : ℕ). number_of (on_done is_enabled (mode_of mode))) (2 ∷ 3 ∷ []) ≡ 0 ∷ 13 ∷ []
aql_mode_is_enabled_each_number = refl

-- ---- alignment

pub aql_query_to_ref_positions_numbers : (cigar : List ℕ) (start : ℤ) (is_reverse : ℕ) (positions : List ℤ) (n r : ℕ) (positions' : List ℤ) (n' : ℕ)
    → FindsPlacesInC cigar start is_reverse positions n r positions' n'
    → Returns (1 ∷ 12 ∷ 13 ∷ []) (query_places cigar start (yes is_reverse) (length positions)) r
aql_query_to_ref_positions_numbers cigar start is_reverse positions n r positions' n' h =
    returned_filled _ _ h.0 (λ w e. query_to_ref_positions_numbers cigar start (yes is_reverse) positions w positions' (e, h.2))

pub aql_fetch_ref_bases_at_positions_numbers : (positions : List ℤ) (reference bases : List ℕ) (n r : ℕ) (bases' : List ℕ) (n' : ℕ)
    → FetchesBasesInC positions reference bases n r bases' n'
    → Returns (12 ∷ []) (fetched_bases positions reference (length bases)) r
aql_fetch_ref_bases_at_positions_numbers positions reference bases n r bases' n' h =
    returned_filled _ _ h.0 (λ w e. fetch_ref_bases_at_positions_numbers positions reference bases w bases' (e, h.2))

-- ---- evidence

pub aql_annotate_simplex_methylation_numbers : (len : ℕ) (lengths bases row : List ℕ) (flags : ℕ) (aligned : List ℕ) (all : ℕ)
    (inf unc con : List ℕ) (n r : ℕ) (inf' unc' con' : List ℕ) (n' : ℕ)
    → AnnotatesInC len lengths bases row flags aligned all inf unc con n r inf' unc' con' n'
    → Returns (1 ∷ 2 ∷ 12 ∷ []) (annotated len lengths bases aligned (length inf) (length unc) (length con)) r
aql_annotate_simplex_methylation_numbers len lengths bases row flags aligned all inf unc con n r inf' unc' con' n' h =
    returned_written _ _ h.0 (λ w e.
    annotate_simplex_methylation_numbers len lengths bases row (pattern_of flags) aligned (yes all) inf unc con w inf' unc' con'
    (e, h.2, h.3, h.4))

pub aql_gate_to_informative_numbers : (inf unc con : List ℕ) (n r : ℕ) (unc' con' : List ℕ) (n' : ℕ)
    → GatesInC inf unc con n r unc' con' n' → Returns (1 ∷ 2 ∷ []) (columns_of (length inf) (length unc) (length con)) r
aql_gate_to_informative_numbers inf unc con n r unc' con' n' h =
    returned_written _ _ h.0 (λ w e. gate_to_informative_numbers inf unc con w unc' con' (e, h.2, h.3))

pub aql_truncate_numbers : (len : ℕ) (inf unc con keptInf keptUnc keptCon : List ℕ) (n r : ℕ) (inf' unc' con' : List ℕ) (n' : ℕ)
    → TruncatesInC len inf unc con keptInf keptUnc keptCon n r inf' unc' con' n'
    → Returns (1 ∷ 2 ∷ 12 ∷ []) (truncated len (length inf) (length unc) (length con) (length keptInf) (length keptUnc) (length keptCon)) r
aql_truncate_numbers len inf unc con keptInf keptUnc keptCon n r inf' unc' con' n' h =
    returned_written _ _ h.0 (λ w e. truncate_numbers len inf unc con keptInf keptUnc keptCon w inf' unc' con' (e, h.2, h.3, h.4))

pub aql_unconverted_counts_numbers : (inf unc con : List ℕ) (counts : List ℤ) (n r : ℕ) (counts' : List ℤ) (n' : ℕ)
    → GivesCountsInC unc inf unc con counts n r counts' n'
    → Returns (1 ∷ 2 ∷ 12 ∷ []) (counts_in_room (length inf) (length unc) (length con) (length counts)) r
aql_unconverted_counts_numbers inf unc con counts n r counts' n' h =
    returned_written _ _ h.0 (λ w e. unconverted_counts_numbers inf unc con counts w counts' (e, h.2))

pub aql_converted_counts_numbers : (inf unc con : List ℕ) (counts : List ℤ) (n r : ℕ) (counts' : List ℤ) (n' : ℕ)
    → GivesCountsInC con inf unc con counts n r counts' n'
    → Returns (1 ∷ 2 ∷ 12 ∷ []) (counts_in_room (length inf) (length unc) (length con) (length counts)) r
aql_converted_counts_numbers inf unc con counts n r counts' n' h =
    returned_written _ _ h.0 (λ w e. converted_counts_numbers inf unc con counts w counts' (e, h.2))

pub aql_restore_unconverted_bases_numbers : (seq : List ℕ) (flags : ℕ) (inf : List ℕ) (n r : ℕ) (seq' : List ℕ) (n' : ℕ)
    → RestoresInC seq flags inf n r seq' n' → Returns (1 ∷ 2 ∷ []) (restorable (length seq) (length inf)) r
aql_restore_unconverted_bases_numbers seq flags inf n r seq' n' h =
    returned_written _ _ h.0 (λ w e. restore_unconverted_bases_numbers seq (pattern_of flags) inf w seq' (e, h.2))

-- ---- building

-- with or without ML
builds_only : (ml? : Bool) (mode flags : ℕ) (ev : Evidence) (seq : List ℕ) (t m : ℕ)
    → refuses_only (1 ∷ 2 ∷ 12 ∷ 13 ∷ 20 ∷ []) (builds_as ml? mode flags ev seq t m) ≡ true
builds_only ml? mode flags ev seq t m =
    let ns : List ℕ = 1 ∷ 2 ∷ 12 ∷ 13 ∷ 20 ∷ [] in
    only_and_then ns (mode_of mode) _ (mode_only ns mode refl) (λ c.
    only_more build_numbers ns (build_tag ml? c (pattern_of flags) ev seq t m) refl (build_tag_only ml? c (pattern_of flags) ev seq t m))

pub aql_build_mm_ml_tags_numbers : (seq inf unc con : List ℕ) (flags mode : ℕ) (mm ml : List ℕ) (t v r : ℕ) (mm' ml' : List ℕ) (t' v' : ℕ)
    → BuildsInC seq inf unc con flags mode mm ml t v r mm' ml' t' v'
    → Returns (1 ∷ 2 ∷ 12 ∷ 13 ∷ 20 ∷ []) (builds_as true mode flags (columns inf unc con) seq (length mm) (length ml)) r
aql_build_mm_ml_tags_numbers seq inf unc con flags mode mm ml t v r mm' ml' t' v' h =
    returned_only _ _ refl h.0 (builds_only true mode flags (columns inf unc con) seq (length mm) (length ml))

pub aql_build_mm_tag_no_ml_numbers : (seq inf unc con : List ℕ) (flags mode : ℕ) (mm : List ℕ) (t r : ℕ) (mm' : List ℕ) (t' : ℕ)
    → BuildsTextInC seq inf unc con flags mode mm t r mm' t'
    → Returns (1 ∷ 2 ∷ 12 ∷ 13 ∷ 20 ∷ []) (builds_as false mode flags (columns inf unc con) seq (length mm) 0) r
aql_build_mm_tag_no_ml_numbers seq inf unc con flags mode mm t r mm' t' h =
    returned_only _ _ refl h.0 (builds_only false mode flags (columns inf unc con) seq (length mm) 0)

-- one C with one read: with room; SEQ too long; columns too short; no room; an unknown chemistry; the place is not informative
abbrev builds_each : Bool → List ℕ
builds_each ml? =
    let one : List ℕ = 1 ∷ [] in
    let none : List ℕ = 0 ∷ [] in
    let number : ℕ → Evidence → List ℕ → ℕ → ℕ = λ mode ev seq room. number_of (builds_as ml? mode 0 ev seq room room) in
    number 1 (columns one one none) (ascii "C") 100
    ∷ number 1 (columns [] [] []) long_tag.seq 100
    ∷ number 1 (columns [] [] []) (ascii "C") 100
    ∷ number 1 (columns one one none) (ascii "C") 0
    ∷ number 3 (columns one one none) (ascii "C") 100
    ∷ number 1 (columns none one none) (ascii "C") 100
    ∷ []

pub aql_build_each_number : (ml? : Bool) → builds_each ml? ≡ 0 ∷ 1 ∷ 2 ∷ 12 ∷ 13 ∷ 20 ∷ []
unfolding build_tag
aql_build_each_number true = refl
aql_build_each_number false = refl

-- ---- duplex

pub aql_duplex_methylation_tags_numbers : (bases : List ℕ) (count mode : ℕ) (a b : Strand) (lent : Rows) (lengths : List ℕ) (r : ℕ) (left : Rows)
    (lengths' : List ℕ) → DuplexesInC bases count mode a b lent lengths r left lengths'
    → Returns (1 ∷ 2 ∷ 12 ∷ 13 ∷ []) (duplexes_as count mode bases a b (lengths_lent lent)) r
aql_duplex_methylation_tags_numbers bases count mode a b lent lengths r left lengths' h =
    returned_only duplex_numbers _ refl h.0
    (only_and_then duplex_numbers (mode_of mode) _ (mode_only duplex_numbers mode refl) (λ c. duplex_tags_only count c bases a b (lengths_lent lent)))

-- ---- reading

pub aql_check_tag_numbers : (seq mm ml : List ℕ) (hasMl groups calls r groups' calls' : ℕ)
    → ChecksTagInC seq mm ml hasMl groups calls r groups' calls'
    → Returns (1 ∷ 3 ∷ 4 ∷ 5 ∷ 6 ∷ 7 ∷ 8 ∷ 9 ∷ []) (read_tag (yes hasMl) seq mm ml) r
aql_check_tag_numbers seq mm ml hasMl groups calls r groups' calls' h =
    let ns : List ℕ = 1 ∷ 3 ∷ 4 ∷ 5 ∷ 6 ∷ 7 ∷ 8 ∷ 9 ∷ [] in
    returned_only ns _ refl h.0 (read_tag_only ns refl refl (yes hasMl) seq mm ml)

pub aql_read_calls_numbers : (seq mm ml : List ℕ) (hasMl : ℕ) (gs ps ss : List ℕ) (groups calls r : ℕ) (gs' ps' ss' : List ℕ) (groups' calls' : ℕ)
    → ReadsCallsInC seq mm ml hasMl gs ps ss groups calls r gs' ps' ss' groups' calls'
    → Returns (1 ∷ 3 ∷ 4 ∷ 5 ∷ 6 ∷ 7 ∷ 8 ∷ 9 ∷ 12 ∷ []) (listed_calls (yes hasMl) seq mm ml (length gs) (length ps) (length ss)) r
unfolding listed_calls
aql_read_calls_numbers seq mm ml hasMl gs ps ss groups calls r gs' ps' ss' groups' calls' h =
    let ns : List ℕ = 1 ∷ 3 ∷ 4 ∷ 5 ∷ 6 ∷ 7 ∷ 8 ∷ 9 ∷ 12 ∷ [] in
    returned_only ns _ refl h.0
    (only_and_then ns (read_tag (yes hasMl) seq mm ml) _ (read_tag_only ns refl refl (yes hasMl) seq mm ml) (λ ls.
    let n = length (call_list ls) in
    only_need ns (leb n (length gs) && leb n (length ps) && leb n (length ss)) 12 _ refl refl))

pub aql_tally_numbers : (seq mm ml : List ℕ) (above below r above' below' : ℕ) → TalliesInC seq mm ml above below r above' below'
    → Returns (1 ∷ 3 ∷ 4 ∷ 5 ∷ 6 ∷ 7 ∷ 8 ∷ 9 ∷ []) (tally_tag seq mm ml) r
aql_tally_numbers seq mm ml above below r above' below' h =
    let ns : List ℕ = 1 ∷ 3 ∷ 4 ∷ 5 ∷ 6 ∷ 7 ∷ 8 ∷ 9 ∷ [] in
    returned_only ns _ refl h.0 (tally_tag_only ns refl refl seq mm ml)

-- ---- rewriting

pub aql_drop_masked_modifications_numbers : (before after mm ml : List ℕ) (hasMl : ℕ) (mmOut mlOut : List ℕ) (t v r : ℕ) (mmOut' mlOut' : List ℕ)
    (t' v' : ℕ)
    → MasksTagInC before after mm ml hasMl mmOut mlOut t v r mmOut' mlOut' t' v'
    → Returns (1 ∷ 2 ∷ 3 ∷ 4 ∷ 5 ∷ 6 ∷ 7 ∷ 8 ∷ 9 ∷ 12 ∷ []) (mask_tag (yes hasMl) before after mm ml (length mmOut) (length mlOut)) r
aql_drop_masked_modifications_numbers before after mm ml hasMl mmOut mlOut t v r mmOut' mlOut' t' v' h =
    returned_only _ _ refl h.0 (mask_tag_only (yes hasMl) before after mm ml (length mmOut) (length mlOut))

pub aql_drop_modifications_at_numbers : (seq places mm ml : List ℕ) (hasMl : ℕ) (mmOut mlOut : List ℕ) (t v r : ℕ) (mmOut' mlOut' : List ℕ)
    (t' v' : ℕ)
    → DropsFromTagInC seq places mm ml hasMl mmOut mlOut t v r mmOut' mlOut' t' v'
    → Returns (1 ∷ 3 ∷ 4 ∷ 5 ∷ 6 ∷ 7 ∷ 8 ∷ 9 ∷ 10 ∷ 12 ∷ []) (drop_from_tag (yes hasMl) seq places mm ml (length mmOut) (length mlOut)) r
aql_drop_modifications_at_numbers seq places mm ml hasMl mmOut mlOut t v r mmOut' mlOut' t' v' h =
    returned_only _ _ refl h.0 (drop_tag_only (yes hasMl) seq places mm ml (length mmOut) (length mlOut))

pub aql_trim_clipped_modifications_numbers : (before after : List ℕ) (startKnown start : ℕ) (mm ml : List ℕ) (hasMl : ℕ) (mmOut mlOut : List ℕ)
    (t v r : ℕ) (mmOut' mlOut' : List ℕ) (t' v' : ℕ)
    → CutsTagInC before after startKnown start mm ml hasMl mmOut mlOut t v r mmOut' mlOut' t' v'
    → Returns (1 ∷ 3 ∷ 4 ∷ 5 ∷ 6 ∷ 7 ∷ 8 ∷ 9 ∷ 11 ∷ 12 ∷ 21 ∷ [])
    (cut_tag (yes hasMl) (given_start startKnown start) before after mm ml (length mmOut) (length mlOut)) r
aql_trim_clipped_modifications_numbers before after startKnown start mm ml hasMl mmOut mlOut t v r mmOut' mlOut' t' v' h =
    returned_only _ _ refl h.0 (cut_tag_only (yes hasMl) (given_start startKnown start) before after mm ml (length mmOut) (length mlOut))

-- ---- the session

pub aql_session_open_numbers : (seq mm ml : List ℕ) (hasMl : ℕ) (lengths : List ℕ) (groups calls r groups' calls' : ℕ)
    → OpensInC seq mm ml hasMl lengths groups calls r groups' calls'
    → Returns (1 ∷ 2 ∷ 3 ∷ 4 ∷ 5 ∷ 6 ∷ 7 ∷ 8 ∷ 9 ∷ []) (open_session (yes hasMl) (session_in seq mm ml lengths)) r
aql_session_open_numbers seq mm ml hasMl lengths groups calls r groups' calls' h =
    returned_only _ _ refl h.0 (open_session_only (yes hasMl) (session_in seq mm ml lengths))

pub aql_session_mask_numbers : (places seq mm ml : List ℕ) (hasMl : ℕ) (lengths : List ℕ) (r : ℕ) (seq' mm' ml' lengths' : List ℕ)
    → StepsInC (mask places) seq mm ml hasMl lengths r seq' mm' ml' lengths'
    → Returns (1 ∷ 2 ∷ 3 ∷ 4 ∷ 5 ∷ 6 ∷ 7 ∷ 8 ∷ 9 ∷ []) (step_in_memory (yes hasMl) (mask places) (session_in seq mm ml lengths)) r
aql_session_mask_numbers places seq mm ml hasMl lengths r seq' mm' ml' lengths' h =
    returned_only _ _ refl h.0 (step_only (yes hasMl) (mask places) (session_in seq mm ml lengths))

pub aql_session_drop_calls_numbers : (places seq mm ml : List ℕ) (hasMl : ℕ) (lengths : List ℕ) (r : ℕ) (seq' mm' ml' lengths' : List ℕ)
    → StepsInC (drop_calls places) seq mm ml hasMl lengths r seq' mm' ml' lengths'
    → Returns (1 ∷ 2 ∷ 3 ∷ 4 ∷ 5 ∷ 6 ∷ 7 ∷ 8 ∷ 9 ∷ 10 ∷ []) (step_in_memory (yes hasMl) (drop_calls places) (session_in seq mm ml lengths)) r
aql_session_drop_calls_numbers places seq mm ml hasMl lengths r seq' mm' ml' lengths' h =
    returned_only _ _ refl h.0 (step_only (yes hasMl) (drop_calls places) (session_in seq mm ml lengths))

pub aql_session_cut_numbers : (front back : ℕ) (seq mm ml : List ℕ) (hasMl : ℕ) (lengths : List ℕ) (r : ℕ) (seq' mm' ml' lengths' : List ℕ)
    → StepsInC (cut front back) seq mm ml hasMl lengths r seq' mm' ml' lengths'
    → Returns (1 ∷ 2 ∷ 3 ∷ 4 ∷ 5 ∷ 6 ∷ 7 ∷ 8 ∷ 9 ∷ 11 ∷ 21 ∷ []) (step_in_memory (yes hasMl) (cut front back) (session_in seq mm ml lengths)) r
aql_session_cut_numbers front back seq mm ml hasMl lengths r seq' mm' ml' lengths' h =
    returned_only _ _ refl h.0 (step_only (yes hasMl) (cut front back) (session_in seq mm ml lengths))

-- ---- reads as a BAM record stores them

pub aql_turn_numbers : (packed : List ℕ) (bases : ℕ) (out : List ℕ) (n r : ℕ) (out' : List ℕ) (n' : ℕ)
    → TurnsInC packed bases out n r out' n'
    → Returns (1 ∷ 2 ∷ 12 ∷ [])
    (turn_stored bases packed (length out)) r
aql_turn_numbers packed bases out n r out' n' h =
    returned_only _ _ refl h.0 (turn_stored_only bases packed (length out))

pub aql_unpack_numbers : (packed : List ℕ) (bases reverse : ℕ) (seq : List ℕ) (n r : ℕ) (seq' : List ℕ) (n' : ℕ)
    → UnpacksInC packed bases reverse seq n r seq' n'
    → Returns (1 ∷ 2 ∷ 12 ∷ [])
    (unpack_stored (yes reverse) bases packed (length seq)) r
aql_unpack_numbers packed bases reverse seq n r seq' n' h =
    returned_only _ _ refl h.0 (unpack_stored_only (yes reverse) bases packed (length seq))

pub aql_stored_check_tag_numbers : (packed : List ℕ) (bases reverse : ℕ) (mm ml : List ℕ) (hasMl groups calls r groups' calls' : ℕ)
    → ChecksStoredInC packed bases reverse mm ml hasMl groups calls r groups' calls'
    → Returns (1 ∷ 2 ∷ 3 ∷ 4 ∷ 5 ∷ 6 ∷ 7 ∷ 8 ∷ 9 ∷ [])
    (read_stored (yes reverse) (yes hasMl) bases packed mm ml) r
aql_stored_check_tag_numbers packed bases reverse mm ml hasMl groups calls r groups' calls' h =
    returned_only _ _ refl h.0 (read_stored_only (yes reverse) (yes hasMl) bases packed mm ml)

pub aql_stored_read_calls_numbers : (packed : List ℕ) (bases reverse : ℕ) (mm ml : List ℕ) (hasMl : ℕ) (gs ps ss : List ℕ) (groups calls r : ℕ) (gs' ps' ss' : List ℕ) (groups' calls' : ℕ)
    → ReadsStoredInC packed bases reverse mm ml hasMl gs ps ss groups calls r gs' ps' ss' groups' calls'
    → Returns (1 ∷ 2 ∷ 3 ∷ 4 ∷ 5 ∷ 6 ∷ 7 ∷ 8 ∷ 9 ∷ 12 ∷ [])
    (listed_stored (yes reverse) (yes hasMl) bases packed mm ml (length gs) (length ps) (length ss)) r
aql_stored_read_calls_numbers packed bases reverse mm ml hasMl gs ps ss groups calls r gs' ps' ss' groups' calls' h =
    returned_only _ _ refl h.0 (listed_stored_only (yes reverse) (yes hasMl) bases packed mm ml (length gs) (length ps) (length ss))

pub aql_stored_tally_numbers : (packed : List ℕ) (bases reverse : ℕ) (mm ml : List ℕ) (above below r above' below' : ℕ)
    → TalliesStoredInC packed bases reverse mm ml above below r above' below'
    → Returns (1 ∷ 2 ∷ 3 ∷ 4 ∷ 5 ∷ 6 ∷ 7 ∷ 8 ∷ 9 ∷ [])
    (tally_stored (yes reverse) bases packed mm ml) r
aql_stored_tally_numbers packed bases reverse mm ml above below r above' below' h =
    returned_only _ _ refl h.0 (tally_stored_only (yes reverse) bases packed mm ml)

pub aql_stored_drop_masked_modifications_numbers : (before : List ℕ) (n : ℕ) (after : List ℕ) (k reverse : ℕ) (mm ml : List ℕ) (hasMl : ℕ) (mmOut mlOut : List ℕ) (t v r : ℕ) (mmOut' mlOut' : List ℕ) (t' v' : ℕ)
    → MasksStoredInC before n after k reverse mm ml hasMl mmOut mlOut t v r mmOut' mlOut' t' v'
    → Returns (1 ∷ 2 ∷ 3 ∷ 4 ∷ 5 ∷ 6 ∷ 7 ∷ 8 ∷ 9 ∷ 12 ∷ [])
    (mask_stored (yes reverse) (yes hasMl) n before k after mm ml (length mmOut) (length mlOut)) r
aql_stored_drop_masked_modifications_numbers before n after k reverse mm ml hasMl mmOut mlOut t v r mmOut' mlOut' t' v' h =
    returned_only _ _ refl h.0 (mask_stored_only (yes reverse) (yes hasMl) mm ml (length mmOut) (length mlOut) n before k after)

pub aql_stored_drop_modifications_at_numbers : (packed : List ℕ) (bases reverse : ℕ) (places mm ml : List ℕ) (hasMl : ℕ) (mmOut mlOut : List ℕ) (t v r : ℕ) (mmOut' mlOut' : List ℕ) (t' v' : ℕ)
    → DropsStoredInC packed bases reverse places mm ml hasMl mmOut mlOut t v r mmOut' mlOut' t' v'
    → Returns (1 ∷ 2 ∷ 3 ∷ 4 ∷ 5 ∷ 6 ∷ 7 ∷ 8 ∷ 9 ∷ 10 ∷ 12 ∷ [])
    (drop_stored (yes reverse) (yes hasMl) bases packed places mm ml (length mmOut) (length mlOut)) r
aql_stored_drop_modifications_at_numbers packed bases reverse places mm ml hasMl mmOut mlOut t v r mmOut' mlOut' t' v' h =
    returned_only _ _ refl h.0 (drop_stored_only (yes reverse) (yes hasMl) mm ml (length mmOut) (length mlOut) bases packed places)

pub aql_stored_trim_clipped_modifications_numbers : (before : List ℕ) (n : ℕ) (after : List ℕ) (k reverse startKnown start : ℕ) (mm ml : List ℕ) (hasMl : ℕ) (mmOut mlOut : List ℕ) (t v r : ℕ) (mmOut' mlOut' : List ℕ) (t' v' : ℕ)
    → CutsStoredInC before n after k reverse startKnown start mm ml hasMl mmOut mlOut t v r mmOut' mlOut' t' v'
    → Returns (1 ∷ 2 ∷ 3 ∷ 4 ∷ 5 ∷ 6 ∷ 7 ∷ 8 ∷ 9 ∷ 11 ∷ 12 ∷ 21 ∷ [])
    (cut_stored (yes reverse) (yes hasMl) (given_start startKnown start) n before k after mm ml (length mmOut) (length mlOut)) r
aql_stored_trim_clipped_modifications_numbers before n after k reverse startKnown start mm ml hasMl mmOut mlOut t v r mmOut' mlOut' t' v' h =
    returned_only _ _ refl h.0 (cut_stored_only (yes reverse) (yes hasMl) mm ml (length mmOut) (length mlOut) (given_start startKnown start) n before k after)

pub aql_stored_open_numbers : (packed : List ℕ) (reverse : ℕ) (mm ml : List ℕ) (hasMl : ℕ) (lengths : List ℕ) (groups calls r groups' calls' : ℕ)
    → OpensStoredInC packed reverse mm ml hasMl lengths groups calls r groups' calls'
    → Returns (1 ∷ 2 ∷ 3 ∷ 4 ∷ 5 ∷ 6 ∷ 7 ∷ 8 ∷ 9 ∷ [])
    (open_stored (yes reverse) (yes hasMl) (session_in packed mm ml lengths)) r
aql_stored_open_numbers packed reverse mm ml hasMl lengths groups calls r groups' calls' h =
    returned_only _ _ refl h.0 (open_stored_only (yes reverse) (yes hasMl) (session_in packed mm ml lengths))

pub aql_stored_mask_numbers : (places : List ℕ) (packed : List ℕ) (reverse : ℕ) (mm ml : List ℕ) (hasMl : ℕ) (lengths : List ℕ) (r : ℕ)
    (packed' mm' ml' lengths' : List ℕ) → StepsStoredInC (mask places) packed reverse mm ml hasMl lengths r packed' mm' ml' lengths'
    → Returns (1 ∷ 2 ∷ 3 ∷ 4 ∷ 5 ∷ 6 ∷ 7 ∷ 8 ∷ 9 ∷ []) (step_stored (yes reverse) (yes hasMl) (mask places) (session_in packed mm ml lengths)) r
aql_stored_mask_numbers places packed reverse mm ml hasMl lengths r packed' mm' ml' lengths' h =
    returned_only _ _ refl h.0 (step_stored_only (yes reverse) (yes hasMl) (mask places) (session_in packed mm ml lengths))

pub aql_stored_drop_calls_numbers : (places : List ℕ) (packed : List ℕ) (reverse : ℕ) (mm ml : List ℕ) (hasMl : ℕ) (lengths : List ℕ) (r : ℕ)
    (packed' mm' ml' lengths' : List ℕ) → StepsStoredInC (drop_calls places) packed reverse mm ml hasMl lengths r packed' mm' ml' lengths'
    → Returns (1 ∷ 2 ∷ 3 ∷ 4 ∷ 5 ∷ 6 ∷ 7 ∷ 8 ∷ 9 ∷ 10 ∷ []) (step_stored (yes reverse) (yes hasMl) (drop_calls places) (session_in packed mm ml lengths)) r
aql_stored_drop_calls_numbers places packed reverse mm ml hasMl lengths r packed' mm' ml' lengths' h =
    returned_only _ _ refl h.0 (step_stored_only (yes reverse) (yes hasMl) (drop_calls places) (session_in packed mm ml lengths))

pub aql_stored_cut_numbers : (front back : ℕ) (packed : List ℕ) (reverse : ℕ) (mm ml : List ℕ) (hasMl : ℕ) (lengths : List ℕ) (r : ℕ)
    (packed' mm' ml' lengths' : List ℕ) → StepsStoredInC (cut front back) packed reverse mm ml hasMl lengths r packed' mm' ml' lengths'
    → Returns (1 ∷ 2 ∷ 3 ∷ 4 ∷ 5 ∷ 6 ∷ 7 ∷ 8 ∷ 9 ∷ 11 ∷ 21 ∷ []) (step_stored (yes reverse) (yes hasMl) (cut front back) (session_in packed mm ml lengths)) r
aql_stored_cut_numbers front back packed reverse mm ml hasMl lengths r packed' mm' ml' lengths' h =
    returned_only _ _ refl h.0 (step_stored_only (yes reverse) (yes hasMl) (cut front back) (session_in packed mm ml lengths))

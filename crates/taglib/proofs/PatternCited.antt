-- The contract that the kit makes of each export's `ensures` is the proposition of specs/PatternContracts.
-- Assumes nothing.
use Rattle.lent.proofs.Cited.{Gives}
use Rattle.taglib.specs.PatternContracts.{UppercasesInC, ComparesInC, FindsPatternInC, NamesBasesInC, NamesLetterInC, NamesSignInC, TellsEnabledInC}
use Rattle.taglib.proofs.patterns.aql_to_ascii_uppercase.Kinds as to_ascii_uppercase
use Rattle.taglib.proofs.patterns.aql_to_ascii_uppercase.Reads as to-ascii-uppercase-reads
use Rattle.taglib.proofs.patterns.aql_eq_ignore_ascii_case.Kinds as eq_ignore_ascii_case
use Rattle.taglib.proofs.patterns.aql_eq_ignore_ascii_case.Reads as eq-ignore-ascii-case-reads
use Rattle.taglib.proofs.patterns.aql_pattern_from_read_flags.Kinds as pattern-from-read-flags
use Rattle.taglib.proofs.patterns.aql_pattern_from_read_flags.Reads as pattern-from-read-flags-reads
use Rattle.taglib.proofs.patterns.aql_pattern_bases.Kinds as pattern-bases
use Rattle.taglib.proofs.patterns.aql_pattern_bases.Reads as pattern-bases-reads
use Rattle.taglib.proofs.patterns.aql_pattern_letter.Kinds as pattern-letter
use Rattle.taglib.proofs.patterns.aql_pattern_letter.Reads as pattern-letter-reads
use Rattle.taglib.proofs.patterns.aql_pattern_sign.Kinds as pattern-sign
use Rattle.taglib.proofs.patterns.aql_pattern_sign.Reads as pattern-sign-reads
use Rattle.taglib.proofs.patterns.aql_mode_is_enabled.Kinds as mode-is-enabled
use Rattle.taglib.proofs.patterns.aql_mode_is_enabled.Reads as mode-is-enabled-reads

pub aql_to_ascii_uppercase_cited : Gives 0 to_ascii_uppercase.ps to_ascii_uppercase.r to-ascii-uppercase-reads.Post (λ κs a r e.
    UppercasesInC a.0 r)
aql_to_ascii_uppercase_cited κs a r e p = p

pub aql_eq_ignore_ascii_case_cited : Gives 0 eq_ignore_ascii_case.ps eq_ignore_ascii_case.r eq-ignore-ascii-case-reads.Post (λ κs a r e.
    ComparesInC a.0 a.1.0 r)
aql_eq_ignore_ascii_case_cited κs a r e p = p

pub aql_pattern_from_read_flags_cited : Gives 0 pattern-from-read-flags.ps pattern-from-read-flags.r pattern-from-read-flags-reads.Post (λ κs a r e.
    FindsPatternInC a.0 r)
aql_pattern_from_read_flags_cited κs a r e p = p

pub aql_pattern_bases_cited : Gives 3 pattern-bases.ps pattern-bases.r pattern-bases-reads.Post (λ κs a r e.
    NamesBasesInC a.0 e.1.0.now e.1.1.0.now e.1.1.1.0.now)
aql_pattern_bases_cited κs a r e p = p

pub aql_pattern_letter_cited : Gives 0 pattern-letter.ps pattern-letter.r pattern-letter-reads.Post (λ κs a r e. NamesLetterInC a.0 r)
aql_pattern_letter_cited κs a r e p = p

pub aql_pattern_sign_cited : Gives 0 pattern-sign.ps pattern-sign.r pattern-sign-reads.Post (λ κs a r e. NamesSignInC a.0 r)
aql_pattern_sign_cited κs a r e p = p

pub aql_mode_is_enabled_cited : Gives 1 mode-is-enabled.ps mode-is-enabled.r mode-is-enabled-reads.Post (λ κs a r e.
    TellsEnabledInC a.0 a.1.0.now r e.1.0.now)
aql_mode_is_enabled_cited κs a r e p = p

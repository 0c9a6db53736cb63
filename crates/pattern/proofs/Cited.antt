-- The contract that the kit makes of a public call's `ensures` gives the call's proposition of specs/PublicContracts. Theorems start from that proposition.
-- Assumes nothing.
use Rattle.lent.proofs.Cited.{Gives}
use Rattle.pattern.specs.PublicContracts.{Uppercases, ComparesInAnyCase, FindsPattern, NamesBases, NamesLetter, NamesSign, TellsEnabled}
use Rattle.pattern.proofs.to_ascii_uppercase.Kinds as upper
use Rattle.pattern.proofs.to_ascii_uppercase.Reads as upper-reads
use Rattle.pattern.proofs.eq_ignore_ascii_case.Kinds as same
use Rattle.pattern.proofs.eq_ignore_ascii_case.Reads as same_Reads
use Rattle.pattern.proofs.ConversionPattern.from_read_flags.Kinds as flags
use Rattle.pattern.proofs.ConversionPattern.from_read_flags.Reads as flags-reads
use Rattle.pattern.proofs.ConversionPattern.bases.Kinds as bases
use Rattle.pattern.proofs.ConversionPattern.bases.Reads as bases-reads
use Rattle.pattern.proofs.ConversionPattern.letter.Kinds as letter
use Rattle.pattern.proofs.ConversionPattern.letter.Reads as letter-reads
use Rattle.pattern.proofs.ConversionPattern.sign.Kinds as sign
use Rattle.pattern.proofs.ConversionPattern.sign.Reads as sign_reads
use Rattle.pattern.proofs.MethylationMode.is_enabled.Kinds as enabled
use Rattle.pattern.proofs.MethylationMode.is_enabled.Reads as enabled-reads

pub to_ascii_uppercase_cited : Gives 0 upper.ps upper.r upper-reads.Post (λ κs a r e. Uppercases a.0 r)
to_ascii_uppercase_cited κs a r e p = p

pub eq_ignore_ascii_case_cited : Gives 0 same.ps same.r same_Reads.Post (λ κs a r e. ComparesInAnyCase a.0 a.1.0 r)
eq_ignore_ascii_case_cited κs a r e p = p

pub from_read_flags_cited : Gives 0 flags.ps flags.r flags-reads.Post (λ κs a r e. FindsPattern a.0 r)
from_read_flags_cited κs a r e p = p

pub bases_cited : Gives 0 bases.ps bases.r bases-reads.Post (λ κs a r e. NamesBases a.0 r)
bases_cited κs a r e p = p

pub letter_cited : Gives 0 letter.ps letter.r letter-reads.Post (λ κs a r e. NamesLetter a.0 r)
letter_cited κs a r e p = p

pub sign_cited : Gives 0 sign.ps sign.r sign_reads.Post (λ κs a r e. NamesSign a.0 r)
sign_cited κs a r e p = p

pub is_enabled_cited : Gives 0 enabled.ps enabled.r enabled-reads.Post (λ κs a r e. TellsEnabled a.0 r)
is_enabled_cited κs a r e p = p

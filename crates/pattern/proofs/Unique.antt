-- Each public call's contract determines its answer: two answers that meet the contract are equal.
-- Assumes nothing.
use mathlib.Core.Path.{◌≡◌}
use Prim.Native.Nat.{ℕ}
use mathlib.Core.Bool.{Bool}
use Rattle.lent.proofs.Filled.{settled}
use Rattle.pattern.specs.PublicContracts.{Uppercases, ComparesInAnyCase, FindsPattern, NamesBases, NamesLetter, NamesSign, TellsEnabled}
use Rattle.pattern.specs.declared.ConversionPattern.{ConversionPattern}
use Rattle.pattern.specs.declared.MethylationMode.{MethylationMode}
use Rattle.pattern.specs.declared.Bases.{Bases}

pub to_ascii_uppercase_unique : (b r s : ℕ) → Uppercases b r → Uppercases b s → r ≡ s
to_ascii_uppercase_unique b r s = settled r s

pub eq_ignore_ascii_case_unique : (a b : ℕ) (r s : Bool) → ComparesInAnyCase a b r → ComparesInAnyCase a b s → r ≡ s
eq_ignore_ascii_case_unique a b r s = settled r s

pub from_read_flags_unique : (flags : ℕ) (r s : ConversionPattern) → FindsPattern flags r → FindsPattern flags s → r ≡ s
from_read_flags_unique flags r s = settled r s

pub bases_unique : (p : ConversionPattern) (r s : Bases) → NamesBases p r → NamesBases p s → r ≡ s
bases_unique p r s = settled r s

pub letter_unique : (p : ConversionPattern) (r s : ℕ) → NamesLetter p r → NamesLetter p s → r ≡ s
letter_unique p r s = settled r s

pub sign_unique : (p : ConversionPattern) (r s : ℕ) → NamesSign p r → NamesSign p s → r ≡ s
sign_unique p r s = settled r s

pub is_enabled_unique : (m : MethylationMode) (r s : Bool) → TellsEnabled m r → TellsEnabled m s → r ≡ s
is_enabled_unique m r s = settled r s

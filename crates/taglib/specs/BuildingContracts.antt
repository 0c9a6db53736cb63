-- What each export that builds a strand's tag promises to a C program: one proposition per export, about its arguments, the returned number, and the
-- lent rows and numbers after the call. The export's `ensures` cites it, and every theorem about the export uses it.
-- Assumes nothing.
use Rattle.std.specs.Prelude.{◌≡◌, ℕ, Bool, true, false, List, length}
use Rattle.lent.specs.Outcome.{Outcome, number_of, and_then}
use Rattle.lent.specs.Filled.{leaves}
use Rattle.pattern.specs.Patterns.{pattern_of}
use Rattle.samtags.specs.Writing.{Tag}
use Rattle.samtags.specs.Building.{Evidence, columns, build_tag}
use Rattle.telling.specs.Told.{told}
use Rattle.modes.specs.Modes.{mode_of}
use Rattle.taglib.specs.RewritingContracts.{WritesTagInC}

-- a strand's tag with the chemistry and the pattern that C's numbers name, into rooms of t and m bytes; 13 first if the chemistry is unknown
abbrev pub builds_as : Bool → ℕ → ℕ → Evidence → List ℕ → ℕ → ℕ → Outcome Tag
builds_as ml? mode flags ev seq t m = and_then (mode_of mode) (λ c. build_tag ml? c (pattern_of flags) ev seq t m)

-- `aql_build_mm_ml_tags`: the consensus, its three columns, the flags and the chemistry's number; the lent rows and lengths; the returned number;
-- rows and lengths after the call
abbrev pub BuildsInC : List ℕ → List ℕ → List ℕ → List ℕ → ℕ → ℕ → List ℕ → List ℕ → ℕ → ℕ → ℕ → List ℕ → List ℕ → ℕ → ℕ → Type 0
BuildsInC seq inf unc con flags mode mm ml t v r mm' ml' t' v' =
    WritesTagInC true (builds_as true mode flags (columns inf unc con) seq (length mm) (length ml)) mm ml t v r mm' ml' t' v'

-- `aql_build_mm_tag_no_ml`: the same with only the text's row and length
abbrev pub BuildsTextInC : List ℕ → List ℕ → List ℕ → List ℕ → ℕ → ℕ → List ℕ → ℕ → ℕ → List ℕ → ℕ → Type 0
BuildsTextInC seq inf unc con flags mode mm t r mm' t' =
    let o = builds_as false mode flags (columns inf unc con) seq (length mm) 0 in
    (r ≡ number_of o) × (t' ≡ told (λ (u : Tag). length u.text) o t) × (mm' ≡ leaves (λ (u : Tag). u.text) o mm)

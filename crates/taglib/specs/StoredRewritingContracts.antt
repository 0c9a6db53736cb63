-- What each export that rewrites the tag of a stored read promises to a C program: one proposition per export, about its arguments, the returned number,
-- and the lent rows and numbers after the call. The export's `ensures` cites it, and every theorem about the export uses it.
-- Assumes nothing.
use Rattle.std.specs.Prelude.{ℕ, List, length}
use Rattle.stored_edits.specs.Edits.{cut_stored, drop_stored, mask_stored}
use Rattle.telling.specs.Starts.{given_start}
use Rattle.telling.specs.Told.{yes}
use Rattle.taglib.specs.RewritingContracts.{WritesTagInC}

-- `aql_stored_drop_masked_modifications`: the packed SEQ before and after with their numbers of bases, whether the read is reverse, MM, ML and whether
-- there is an ML; the lent rows and lengths; the returned number; rows and lengths after the call
abbrev pub MasksStoredInC :
    List ℕ → ℕ → List ℕ → ℕ → ℕ → List ℕ → List ℕ → ℕ → List ℕ → List ℕ → ℕ → ℕ → ℕ → List ℕ → List ℕ → ℕ → ℕ → Type 0
MasksStoredInC before n after k reverse mm ml hasMl mmOut mlOut t v r mmOut' mlOut' t' v' =
    let o = mask_stored (yes reverse) (yes hasMl) n before k after mm ml (length mmOut) (length mlOut) in
    WritesTagInC (yes hasMl) o mmOut mlOut t v r mmOut' mlOut' t' v'

-- `aql_stored_drop_modifications_at`: the stored read, the places, MM, ML and whether there is an ML; the rest as above
abbrev pub DropsStoredInC :
    List ℕ → ℕ → ℕ → List ℕ → List ℕ → List ℕ → ℕ → List ℕ → List ℕ → ℕ → ℕ → ℕ → List ℕ → List ℕ → ℕ → ℕ → Type 0
DropsStoredInC packed bases reverse places mm ml hasMl mmOut mlOut t v r mmOut' mlOut' t' v' =
    let o = drop_stored (yes reverse) (yes hasMl) bases packed places mm ml (length mmOut) (length mlOut) in
    WritesTagInC (yes hasMl) o mmOut mlOut t v r mmOut' mlOut' t' v'

-- `aql_stored_trim_clipped_modifications`: the packed SEQ before and after with their numbers of bases, whether the read is reverse, whether the start is
-- known and where it is in the stored read, MM, ML and whether there is an ML; the rest as above
abbrev pub CutsStoredInC :
    List ℕ → ℕ → List ℕ → ℕ → ℕ → ℕ → ℕ → List ℕ → List ℕ → ℕ → List ℕ → List ℕ → ℕ → ℕ → ℕ → List ℕ → List ℕ → ℕ → ℕ → Type 0
CutsStoredInC before n after k reverse startKnown start mm ml hasMl mmOut mlOut t v r mmOut' mlOut' t' v' =
    let o = cut_stored (yes reverse) (yes hasMl) (given_start startKnown start) n before k after mm ml (length mmOut) (length mlOut) in
    WritesTagInC (yes hasMl) o mmOut mlOut t v r mmOut' mlOut' t' v'

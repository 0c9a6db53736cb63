-- Letters and their complements, by computation.
-- Assumes nothing.
use mathlib.Core.Path.{◌≡◌, refl}
use mathlib.Core.Bool.{true, false}
use mathlib.Core.List.{[], ◌∷◌, map}
use Rattle.samtags.specs.Bytes.{ascii}
use Rattle.record_rows.specs.Letters.{complement_of, complements, paired, turned_letters}

-- Every letter of the two lists has its complement. U pairs with A as T does, a letter keeps its case, and N pairs with itself.
pub complements_of :
    (map complement_of paired ≡ complements)
    × (map complement_of (ascii "UuTt") ≡ ascii "AaAa")
    × (map complement_of (ascii "acgt") ≡ ascii "tgca")
    × (map complement_of (ascii "Nn") ≡ ascii "Nn")
unfolding complement_of
complements_of = (refl, refl, refl, refl)

-- '=' and bytes that are no letters of SEQ stay as they are
pub kept_bytes : map complement_of (ascii "=.*-7EXZ@[`{") ≡ ascii "=.*-7EXZ@[`{"
unfolding complement_of
kept_bytes = refl

pub end_bytes : map complement_of (0 ∷ 127 ∷ 128 ∷ 255 ∷ []) ≡ 0 ∷ 127 ∷ 128 ∷ 255 ∷ []
unfolding complement_of
end_bytes = refl

-- a reverse read is turned, a forward read is not; turned twice, U has become T
pub turned :
    (turned_letters true (ascii "AACgU=n") ≡ ascii "n=AcGTT")
    × (turned_letters false (ascii "AACgU=n") ≡ ascii "AACgU=n")
    × (turned_letters true (turned_letters true (ascii "AACgU=n")) ≡ ascii "AACgT=n")
    × (turned_letters true [] ≡ [])
unfolding turned_letters
turned = (refl, refl, refl, refl)

-- Letters of a SEQ in upper or lower case, and their complements, as dna.rs of the Rust has them: U pairs with A as T does, a letter keeps its case, and
-- every byte that is no such letter stays as it is.
-- Assumes nothing.
use Rattle.std.specs.Prelude.{ℕ, Bool, cond, List, [], ◌∷◌, map, reverse, eqb}
use Rattle.samtags.specs.Bytes.{ascii}

-- the letters, and the complement of each one in the same order
abbrev pub paired : List ℕ
paired = ascii "ACGTURYSWKMBVDHNacgturyswkmbvdhn"

abbrev pub complements : List ℕ
complements = ascii "TGCAAYRSWMKVBHDNtgcaayrswmkvbhdn"

-- the entry of the second list at the place of x in the first, or x
abbrev pub matching : List ℕ → List ℕ → ℕ → ℕ
matching [] ys x = x
matching (a ∷ rest) [] x = x
matching (a ∷ rest) (y ∷ ys) x = cond (eqb x a) y (matching rest ys x)

unfoldable pub complement_of : ℕ → ℕ
complement_of x = matching paired complements x

-- letters as they are, or reverse-complemented
unfoldable pub turned_letters : Bool → List ℕ → List ℕ
unfolding complement_of
turned_letters reversed letters = cond reversed (reverse (map complement_of letters)) letters

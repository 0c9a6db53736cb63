-- Writing a tag: the text and the ML that the groups spell.
-- Assumes nothing.
use Rattle.std.specs.Prelude.{ℕ, suc, List, [], ◌∷◌, ◌++◌, length}
use Rattle.lent.specs.Lists.{concat_map}
use Rattle.samtags.specs.Bytes.{comma, semicolon}
use Rattle.samtags.specs.Decimal.{digits}
use Rattle.samtags.specs.Spots.{Spot, bare, call, values_of, Group}

-- an MM text and its ML
pub record Tag : Type 0 where
  pub text : List ℕ
  pub ml : List ℕ

-- the entries' numbers: for each call, how many bare spots are between it and the previous call. n were passed already.
abbrev pub skips_from : ℕ → List Spot → List ℕ
skips_from n [] = []
skips_from n (bare p ∷ ss) = skips_from (suc n) ss
skips_from n (call p vs ∷ ss) = n ∷ skips_from 0 ss

-- a comma and the number
abbrev pub entry_text : ℕ → List ℕ
entry_text n = comma ∷ digits n

abbrev pub entries_text : List ℕ → List ℕ
entries_text ns = concat_map entry_text ns

unfoldable pub group_text : Group → List ℕ
unfolding digits
group_text g = g.header ++ entries_text (skips_from 0 g.spots) ++ semicolon ∷ []

unfoldable pub text_of : List Group → List ℕ
unfolding group_text
text_of gs = concat_map group_text gs

unfoldable pub ml_of : List Group → List ℕ
ml_of gs = concat_map (λ (g : Group). concat_map values_of g.spots) gs

unfoldable pub written : List Group → Tag
unfolding text_of ml_of
written gs = record { text = text_of gs; ml = ml_of gs }

-- how many bytes of text and how many values of ML
abbrev pub sizes_of : Tag → ℕ × ℕ
sizes_of t = (length t.text, length t.ml)

-- The field at the front of a text.
-- Assumes nothing.
use Rattle.std.specs.Prelude.{ℕ, List}
use Rattle.samtags.specs.Bytes.{comma, semicolon}
use Rattle.samtags.specs.Text.{up_to}

-- the bytes up to the comma or semicolon that ends the field
abbrev pub field_of : List ℕ → List ℕ
field_of text = up_to comma (up_to semicolon text)

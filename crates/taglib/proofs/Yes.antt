-- A yes as a byte: the byte that a program makes of a Bool is the byte that the definitions write for it.
-- Assumes nothing.
use mathlib.Core.Bool.{Bool, true, false}
use mathlib.Core.Path.{◌≡◌, ◌∙◌, ap, refl}
use mir.Val.{bool_byte}
use Rattle.columns.specs.Columns.{yes_byte}

pub byte_of_yes : (b : Bool) → bool_byte b ≡ yes_byte b
byte_of_yes true = refl
byte_of_yes false = refl

-- of an answer that is known
pub yes_told : {a b : Bool} → a ≡ b → bool_byte a ≡ yes_byte b
yes_told {a} e = byte_of_yes a ∙ ap yes_byte e

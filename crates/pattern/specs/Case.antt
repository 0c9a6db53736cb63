-- Upper case of a byte, and equality that ignores case. A byte is a natural number; 'a' to 'z' are 97 to 122, and 32 less is the upper-case letter.
-- Assumes nothing.
use Rattle.std.specs.Prelude.{ℕ, ◌-◌, Bool, cond, ◌&&◌, leb, eqb}

-- an ASCII letter in upper case, any other byte unchanged
unfoldable pub upper : ℕ → ℕ
upper b = cond (leb 97 b && leb b 122) (b - 32) b

unfoldable pub same_in_any_case : ℕ → ℕ → Bool
unfolding upper
same_in_any_case a b = eqb (upper a) (upper b)

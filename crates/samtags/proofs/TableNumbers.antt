-- The numbers that reading and the steps answer with are those of the scope's table: none is above 21.
-- Assumes nothing.
use Rattle.std.specs.Prelude.{Ok, Err}
use mathlib.Core.Path.{◌≡◌, refl}
use Prim.Native.Nat.{ℕ, ◌≤◌}
use native.Mathlib.Omega.{arith}
use mathlib.Core.Bool.{Bool, true}
use mathlib.Core.List.{List, ◌∷◌}
use lib.Dec.{leb}
use borrow.Author.Tests.{leb-true}
use Rattle.lent.specs.Answers.{refuses_only}
use Rattle.lent.specs.Lists.{every}
use Rattle.lent.specs.Outcome.{Outcome, number, number_of}
use Rattle.samtags.specs.Reading.{read_tag}
use Rattle.samtags.specs.Session.{Held, Step, mask, drop_calls, cut, stepped}
use Rattle.samtags.proofs.Numbers.{read_tag_only, reader_numbers, step_numbers, stepped_only}
use Rattle.samtags.proofs.Text.{among_every}

module _ {A : Type 0} where
  -- the number is one of the table's
  abbrev pub InTable : Outcome A → Type 0
  InTable o = number_of o ≤ 21

  in_table : (ns : List ℕ) (o : Outcome A) → every (λ n. leb n 21) ns ≡ true → refuses_only ns o ≡ true → InTable o
  in_table ns (Err r) h k = leb-true (number r) 21 (among_every (λ n. leb n 21) ns (number r) h k)
  in_table ns (Ok a) h k = omega arith

pub read_tag_in_table : (ml? : Bool) (seq text ml : List ℕ) → InTable (read_tag ml? seq text ml)
read_tag_in_table ml? seq text ml =
    in_table (1 ∷ reader_numbers) (read_tag ml? seq text ml) refl (read_tag_only (1 ∷ reader_numbers) refl refl ml? seq text ml)

pub step_in_table : (ml? : Bool) (t : Step) (s : Held) → InTable (stepped ml? t s)
step_in_table ml? t s = in_table (step_numbers t) (stepped ml? t s) (small t) (stepped_only ml? t s)
  where
    small : (t : Step) → every (λ n. leb n 21) (step_numbers t) ≡ true
    small (mask ps) = refl
    small (drop_calls ps) = refl
    small (cut front back) = refl

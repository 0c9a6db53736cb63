-- `put_header` stores its four bytes one by one.
-- Assumes nothing.
use mathlib.Core.Path.{◌∙◌, ◌≡◌, ap}
use Prim.Native.Nat.{ℕ}
use mathlib.Core.List.{List}
use lib.ListN.{set}
use Rattle.pattern.specs.Patterns.{letter_of, sign_of}
use Rattle.strand.proofs.put_header.Goals as goal

pub returns : goal.returns
returns c =
    let a = c.args in
    let one : c.put.new.out ≡ set a.text.now 0 (letter_of a.pattern) =
    c.put.ensures ∙ ap (set a.text.now 0) c.letter.ensures in
    let two : c.put-2.new.out ≡ set c.put.new.out 1 (sign_of a.pattern) =
    c.put-2.ensures ∙ ap (set c.put.new.out 1) c.sign.ensures in
    c.put-4.ensures
    ∙ ap (λ (l : List ℕ). set l 3 63) (c.put-3.ensures ∙ ap (λ (l : List ℕ). set l 2 109) (two ∙ ap (λ (l : List ℕ). set l 1 (sign_of a.pattern)) one))

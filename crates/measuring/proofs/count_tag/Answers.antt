-- `count_tag` checks for 3 and 4, and then counts the groups.
-- Assumes nothing.
use mathlib.Core.Path.{◌∙◌, ◌≡◌, subst, sym}
use Prim.Native.Nat.{ℕ}
use mathlib.Core.Bool.{Bool, false}
use mathlib.Core.List.{List}
use Rattle.lent.specs.Outcome.{Outcome}
use Rattle.samtags.specs.Reading.{nowhere}
use Rattle.samtags.specs.Spots.{Group}
use Rattle.measuring.proofs.CountLaws.{read_four, read_on, read_three}
use Rattle.measuring.specs.Counting.{TagCounted}
use Rattle.measuring.proofs.count_tag.Goals as goal

pub returns-then-not-ascii : goal.returns-then-not-ascii
returns-then-not-ascii c =
    λ (named : ℕ → Bool) (none : c.args.marked ≡ false → named ≡ nowhere).
    read_three c.args.has_ml named c.args.seq.now c.args.text.now c.args.ml.now (sym c.all_ascii-ascii.ensures ∙ c.if-not-ascii.true)

pub returns-then-not-closed : goal.returns-then-not-closed
returns-then-not-closed c =
    λ (named : ℕ → Bool) (none : c.args.marked ≡ false → named ≡ nowhere).
    read_four c.args.has_ml named c.args.seq.now c.args.text.now c.args.ml.now (sym c.all_ascii-ascii.ensures ∙ c.if-not-ascii.false)
    (sym c.ends_in_semicolon-closed.ensures ∙ c.if-not-closed.true)

pub returns : goal.returns
returns c =
    λ (named : ℕ → Bool) (none : c.args.marked ≡ false → named ≡ nowhere).
    subst (λ (o : Outcome (List Group)). TagCounted c.args.marked o c.count_groups.result)
    (sym (read_on c.args.has_ml named c.args.seq.now c.args.text.now c.args.ml.now (sym c.all_ascii-ascii.ensures ∙ c.if-not-ascii.false)
    (sym c.ends_in_semicolon-closed.ensures ∙ c.if-not-closed.false) c.requires.3))
    (c.count_groups.ensures named none)

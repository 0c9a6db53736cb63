-- `counted` counts the base, in upper or lower case, as the unconverted one, as the converted one, or as neither.
-- Assumes nothing.
use mathlib.Core.Path.{◌≡◌, sym, ◌∙◌}
use mathlib.Core.Bool.{true, false}
use Rattle.pattern.specs.Case.{same_in_any_case}
use Rattle.pattern.specs.Patterns.{bases_of}
use Rattle.evidence.proofs.Shown.{counted_converted, counted_neither, counted_unconverted}
use Rattle.evidence.proofs.MethylationEvidence.counted.Goals as goal

pub returns-then-eq_ignore_ascii_case : goal.returns-then-eq_ignore_ascii_case
returns-then-eq_ignore_ascii_case c =
    let a = c.args in
    let shown : c.eq_ignore_ascii_case.result ≡ true = c.if-eq_ignore_ascii_case.true in
    let is : same_in_any_case a.base (bases_of a.pattern).unconverted ≡ true =
    rw c.bases-bases.ensures at (sym c.eq_ignore_ascii_case.ensures ∙ shown) in
    rw (counted_unconverted a.self a.base a.pattern is, c.one_more.ensures)

pub returns-then-eq_ignore_ascii_case-2 : goal.returns-then-eq_ignore_ascii_case-2
returns-then-eq_ignore_ascii_case-2 c =
    let not-unconverted : let a = c.args in same_in_any_case a.base (bases_of a.pattern).unconverted ≡ false = rw c.bases-bases.ensures at (sym c.eq_ignore_ascii_case.ensures ∙ c.if-eq_ignore_ascii_case.false) in
    let a = c.args in
    let is : same_in_any_case a.base (bases_of a.pattern).converted ≡ true =
    rw c.bases-bases.ensures at (sym c.eq_ignore_ascii_case-2.ensures ∙ c.if-eq_ignore_ascii_case-2.true) in
    rw (counted_converted a.self a.base a.pattern (not-unconverted) is, c.one_more-then-eq_ignore_ascii_case-2.ensures)

pub returns : goal.returns
returns c =
    let not-unconverted : let a = c.args in same_in_any_case a.base (bases_of a.pattern).unconverted ≡ false = rw c.bases-bases.ensures at (sym c.eq_ignore_ascii_case.ensures ∙ c.if-eq_ignore_ascii_case.false) in
    let a = c.args in
    let is : same_in_any_case a.base (bases_of a.pattern).converted ≡ false =
    rw c.bases-bases.ensures at (sym c.eq_ignore_ascii_case-2.ensures ∙ c.if-eq_ignore_ascii_case-2.false) in
    rw (counted_neither a.self a.base a.pattern (not-unconverted) is)

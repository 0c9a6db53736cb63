-- `holds_at`, by cases: the place is past the reference's end, or its base is compared with the letter in upper or lower case.
-- Assumes nothing.
use native.Mathlib.Omega.{arith}
use lib.ListN.{length}
use borrow.Author.Tests.{lt-ltb, le-ltb}
use Rattle.alignment.proofs.holds_at.Goals as goal

pub returns-then-reference-place : goal.returns-then-reference-place
returns-then-reference-place c =
    let a = c.args in
    rw (le-ltb a.place (length a.reference.now) (omega arith))

pub returns : goal.returns
returns c =
    let a = c.args in
    rw (lt-ltb a.place (length a.reference.now) (omega arith)) c.eq_ignore_ascii_case.ensures

-- `pass_place`: the place gives its spot, or nothing if it has none.
-- Assumes nothing.
use Rattle.std.specs.Prelude.{None, Some}
use mathlib.Core.Path.{◌∙◌, ◌≡◌, refl, sym}
use native.Mathlib.Numerals.{add-one}
use native.Mathlib.Omega.{arith}
use mathlib.Core.Bool.{false, true}
use lib.ListN.{get_or}
use Rattle.pattern.proofs.Cases.{same_sym}
use Rattle.pattern.specs.Case.{same_in_any_case}
use Rattle.pattern.specs.Patterns.{letter_of}
use Rattle.samtags.specs.Building.{Evidence, called_at, columns}
use Rattle.strand.proofs.Spots.{bare_there, call_there, found_there, untracked}
use Rattle.strand.proofs.pass_place.Goals as goal

pub returns-then-not-same : goal.returns-then-not-same
returns-then-not-same c =
    let told : c.eq_ignore_ascii_case-same.result ≡ same_in_any_case (letter_of c.args.pattern) (get_or c.args.seq.now c.args.place 0) = rw c.letter.ensures at c.eq_ignore_ascii_case-same.ensures ∙ same_sym (get_or c.args.seq.now c.args.place 0) (letter_of c.args.pattern) in
    let a = c.args in
    let ev : Evidence = columns a.informative.now a.unconverted.now a.converted.now in
    let other : same_in_any_case (letter_of a.pattern) (get_or a.seq.now a.place 0) ≡ false =
    sym (told) ∙ c.if-not-same.true in
    rw (untracked a.mode a.pattern ev a.seq.now a.place other) (refl, omega arith, omega arith, refl, refl)

pub returns-in_default : goal.returns-in_default
returns-in_default c =
    let told : c.eq_ignore_ascii_case-same.result ≡ same_in_any_case (letter_of c.args.pattern) (get_or c.args.seq.now c.args.place 0) = rw c.letter.ensures at c.eq_ignore_ascii_case-same.ensures ∙ same_sym (get_or c.args.seq.now c.args.place 0) (letter_of c.args.pattern) in
    let a = c.args in
    let ev : Evidence = columns a.informative.now a.unconverted.now a.converted.now in
    let tracked : same_in_any_case (letter_of a.pattern) (get_or a.seq.now a.place 0) ≡ true =
    sym (told) ∙ c.if-not-same.false in
    let no_call : called_at a.mode ev a.place ≡ None =
    found_there a.mode a.pattern ev a.seq.now a.place c.call_of.result None c.call_of.ensures (c.in_default.is) in
    rw (bare_there a.mode a.pattern ev a.seq.now a.place tracked no_call) (add-one _, omega arith, omega arith, refl, refl)

pub returns : goal.returns
returns c =
    let told : c.eq_ignore_ascii_case-same.result ≡ same_in_any_case (letter_of c.args.pattern) (get_or c.args.seq.now c.args.place 0) = rw c.letter.ensures at c.eq_ignore_ascii_case-same.ensures ∙ same_sym (get_or c.args.seq.now c.args.place 0) (letter_of c.args.pattern) in
    let a = c.args in
    let ev : Evidence = columns a.informative.now a.unconverted.now a.converted.now in
    let tracked : same_in_any_case (letter_of a.pattern) (get_or a.seq.now a.place 0) ≡ true =
    sym (told) ∙ c.if-not-same.false in
    let v = c.in-Some.value in
    let is_call : called_at a.mode ev a.place ≡ Some v =
    found_there a.mode a.pattern ev a.seq.now a.place c.call_of.result (Some v) c.call_of.ensures (c.in-Some.is) in
    let put = c.put_entry.ensures in
    rw (call_there a.mode a.pattern ev a.seq.now a.place v tracked is_call) put

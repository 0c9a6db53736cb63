-- `name_by`: each of the five names, and every other.
-- Assumes nothing.
use mathlib.Core.Path.{◌≡◌, refl}
use native.Mathlib.Omega.{arith}
use borrow.Author.Tests.{ne_eqb}
use Rattle.record_fields.proofs.name_by.Goals as goal

pub returns-then-second-eq77 : goal.returns-then-second-eq77
returns-then-second-eq77 c =
    let a = c.args in
    let f : a.first ≡ 77 = omega arith in
    let s : a.second ≡ 77 = omega arith in
    rw (f, s) (refl, omega arith)

pub returns-then-second-eq76 : goal.returns-then-second-eq76
returns-then-second-eq76 c =
    let a = c.args in
    let f : a.first ≡ 77 = omega arith in
    let s : a.second ≡ 76 = omega arith in
    rw (f, s) (refl, omega arith)

pub returns-then-second-eq78 : goal.returns-then-second-eq78
returns-then-second-eq78 c =
    let a = c.args in
    let f : a.first ≡ 77 = omega arith in
    let s : a.second ≡ 78 = omega arith in
    rw (f, s) (refl, omega arith)

pub returns-then-first-eq77 : goal.returns-then-first-eq77
returns-then-first-eq77 c =
    let a = c.args in
    let f : a.first ≡ 77 = omega arith in
    rw (f, ne_eqb a.second 77 (λ q. omega arith), ne_eqb a.second 76 (λ q. omega arith), ne_eqb a.second 78 (λ q. omega arith))
    (refl, omega arith)

pub returns-then-second-ne109 : goal.returns-then-second-ne109
returns-then-second-ne109 c =
    let a = c.args in
    rw (ne_eqb a.first 77 (λ q. omega arith), ne_eqb a.second 109 (λ q. omega arith)) (refl, omega arith)

pub returns-then-first-eq97 : goal.returns-then-first-eq97
returns-then-first-eq97 c =
    let a = c.args in
    let f : a.first ≡ 97 = omega arith in
    let s : a.second ≡ 109 = omega arith in
    rw (f, s) (refl, omega arith)

pub returns-then-first-eq98 : goal.returns-then-first-eq98
returns-then-first-eq98 c =
    let a = c.args in
    let f : a.first ≡ 98 = omega arith in
    let s : a.second ≡ 109 = omega arith in
    rw (f, s) (refl, omega arith)

pub returns : goal.returns
returns c =
    let a = c.args in
    let s : a.second ≡ 109 = omega arith in
    rw (s, ne_eqb a.first 77 (λ q. omega arith), ne_eqb a.first 97 (λ q. omega arith), ne_eqb a.first 98 (λ q. omega arith))
    (refl, omega arith)

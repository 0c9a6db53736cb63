-- `query_to_ref_positions` passes on the check's refusal, checks the room, and walks.
-- Assumes nothing.
use Rattle.std.specs.Prelude.{Ok, Err}
use mathlib.Core.Path.{◌≡◌, sym, ap, ◌∙◌}
use mathlib.Core.List.{List}
use Prim.Native.Nat.{ℕ}
use native.Mathlib.Omega.{arith}
use lib.IntN.{ℤ}
use lib.ListN.{length}
use borrow.Author.Tests.{le-leb, lt-leb}
use mir.Facts.{to_z-of_z}
use Rattle.lent.specs.Outcome.{refusal}
use Rattle.lent.proofs.Filled.{leaves_done, leaves_refused}
use Rattle.cigar.specs.Cigar.{start_of, checked, read_places}
use Rattle.walking.specs.Walk.{outset}
use Rattle.lent.proofs.Outcome.{passed_on}
use Rattle.alignment.proofs.Checked.{checked_start, checked_bases, checked_end, checked_reach}
use Rattle.alignment.proofs.Mirror.{length_read_places, read_is_walked}
use Rattle.alignment.proofs.query_to_ref_positions.Goals as goal

pub returns-in_err-bases : goal.returns-in_err-bases
returns-in_err-bases c =
    let answered : c.check.result ≡ checked c.args.cigar.now c.args.alignment_start = rw (to_z-of_z c.ranges.alignment_start) at c.check.ensures in
    let a = c.args in
    let e : checked a.cigar.now a.alignment_start ≡ Err c.in_err-bases.field-0.0 = sym (answered) ∙ c.in_err-bases.was in
    let said : c.check.result ≡ Err c.in_err-bases.field-0.0 = c.in_err-bases.was in
    let passed : c.from_residual.result ≡ Err c.in_err-bases.field-0.0 = passed_on _ _ c.from_residual.ensures.1 in
    (rw (e, passed), rw e (sym (leaves_refused (λ (l : List ℤ). l) c.in_err-bases.field-0.0 a.positions.now)))

pub returns-then-positions-bases : goal.returns-then-positions-bases
returns-then-positions-bases c =
    let answered : c.check.result ≡ checked c.args.cigar.now c.args.alignment_start = rw (to_z-of_z c.ranges.alignment_start) at c.check.ensures in
    let passed : checked c.args.cigar.now c.args.alignment_start ≡ Ok c.in_ok-bases.bases = sym (answered) ∙ c.in_ok-bases.was in
    let a = c.args in
    let short = lt-leb c.in_ok-bases.bases (length a.positions.now) (omega arith) in
    (rw (passed, short), rw (passed, short) (sym (leaves_refused (λ (l : List ℤ). l) (refusal 12) a.positions.now)))

pub start_of-requires : goal.start_of-requires
start_of-requires c =
    let answered : c.check.result ≡ checked c.args.cigar.now c.args.alignment_start = rw (to_z-of_z c.ranges.alignment_start) at c.check.ensures in
    let passed : checked c.args.cigar.now c.args.alignment_start ≡ Ok c.in_ok-bases.bases = sym (answered) ∙ c.in_ok-bases.was in
    rw (to_z-of_z c.ranges.alignment_start)
    (checked_start c.args.cigar.now c.args.alignment_start c.in_ok-bases.bases (passed))

pub outset-begin-requires : goal.outset-begin-requires
outset-begin-requires c =
    let answered : c.check.result ≡ checked c.args.cigar.now c.args.alignment_start = rw (to_z-of_z c.ranges.alignment_start) at c.check.ensures in
    let passed : checked c.args.cigar.now c.args.alignment_start ≡ Ok c.in_ok-bases.bases = sym (answered) ∙ c.in_ok-bases.was in
    let e : c.start_of.result ≡ start_of c.args.alignment_start = rw (to_z-of_z c.ranges.alignment_start) at c.start_of.ensures in
    omega (
      arith,
      e,
      checked_end c.args.cigar.now c.args.alignment_start c.in_ok-bases.bases (passed)
          (λ i. (c.type_inv.cigar i).fits),
    )

pub walk-requires : goal.walk-requires
walk-requires c =
    let answered : c.check.result ≡ checked c.args.cigar.now c.args.alignment_start = rw (to_z-of_z c.ranges.alignment_start) at c.check.ensures in
    let passed : checked c.args.cigar.now c.args.alignment_start ≡ Ok c.in_ok-bases.bases = sym (answered) ∙ c.in_ok-bases.was in
    let begins : c.outset-begin.result ≡ outset c.args.is_reverse c.args.cigar.now (start_of c.args.alignment_start) = c.outset-begin.ensures
    ∙ ap (λ (p : ℕ). outset c.args.is_reverse c.args.cigar.now p) (rw (to_z-of_z c.ranges.alignment_start) at c.start_of.ensures) in
    let a = c.args in
    let n = c.in_ok-bases.bases in (
      omega (arith, checked_bases a.cigar.now a.alignment_start n (passed)),
      rw (begins)
          (checked_reach a.cigar.now a.alignment_start n (passed) (λ i. (c.type_inv.cigar i).fits) a.is_reverse),
    )

pub returns : goal.returns
returns c =
    let answered : c.check.result ≡ checked c.args.cigar.now c.args.alignment_start = rw (to_z-of_z c.ranges.alignment_start) at c.check.ensures in
    let passed : checked c.args.cigar.now c.args.alignment_start ≡ Ok c.in_ok-bases.bases = sym (answered) ∙ c.in_ok-bases.was in
    let begins : c.outset-begin.result ≡ outset c.args.is_reverse c.args.cigar.now (start_of c.args.alignment_start) = c.outset-begin.ensures
    ∙ ap (λ (p : ℕ). outset c.args.is_reverse c.args.cigar.now p) (rw (to_z-of_z c.ranges.alignment_start) at c.start_of.ensures) in
    let a = c.args in
    let n = c.in_ok-bases.bases in
    let fits = le-leb n (length a.positions.now) (omega arith) in
    let start = start_of a.alignment_start in
    let l : List ℤ = read_places a.is_reverse a.cigar.now start in
    let many : n ≡ length l =
    checked_bases a.cigar.now a.alignment_start n (passed)
    ∙ sym (length_read_places a.is_reverse a.cigar.now start) in (
      rw (passed, fits) (ap Ok many),
      rw (passed, fits, leaves_done (λ (l : List ℤ). l) l a.positions.now, read_is_walked a.is_reverse a.cigar.now start)
          (rw (begins) at c.walk.ensures),
    )

-- `check` asks for the number of bases only where there are few operations, so the sum fits 64 bits. It is done where each check passed.
-- Assumes nothing.
use mathlib.Core.Path.{◌≡◌, sym, ◌∙◌}
use mathlib.Core.Bool.{true}
use native.Mathlib.Omega.{arith}
use lib.ListN.{length}
use borrow.Author.Tests.{le-leb}
use mir.Facts.{to_z-of_z}
use Rattle.lent.specs.Lists.{every}
use Rattle.cigar.specs.Cigar.{is_known, bases_taken, query_length, is_start}
use Rattle.cigar.proofs.Totals.{bases_at_most, total_at_most}
use Rattle.cigar.proofs.check.Goals as goal

pub query_length-bases-requires : goal.query_length-bases-requires
query_length-bases-requires c =
    omega (arith, total_at_most bases_taken bases_at_most c.args.cigar.now (λ i. (c.type_inv.cigar i).fits))

pub returns : goal.returns
returns c =
    let known : every is_known c.args.cigar.now ≡ true = sym c.all_known.ensures ∙ c.if-not-all_known.false in
    let asked : c.is_start.result ≡ is_start c.args.start = rw (to_z-of_z c.ranges.start) at c.is_start.ensures in
    let starts : is_start c.args.start ≡ true = sym (asked) ∙ c.if-not-is_start.false in
    let words = c.args.cigar.now in
    rw (
      known,
      starts,
      le-leb (length words) 65535 (omega arith),
      le-leb (query_length words) 16000 (omega (arith, c.query_length-bases.ensures)),
      c.query_length-bases.ensures,
    )

-- `is_cpg_context`: a C and a G at the place and the next one, and for the bottom strand at the previous place and the place itself.
-- Assumes nothing.
use mathlib.Core.Path.{◌≡◌, ap, ◌∙◌}
use mathlib.Core.Bool.{◌&&◌, and_comm}
use Prim.Native.Nat.{ℕ, ◌+◌, ◌-◌}
use native.Mathlib.Omega.{arith}
use borrow.Author.Tests.{le-leb, lt-leb}
use Rattle.alignment.specs.Reference.{holds_at}
use Rattle.alignment.proofs.is_cpg_context.Goals as goal

pub returns-then-is_top_strand : goal.returns-then-is_top_strand
returns-then-is_top_strand c = rw c.if-is_top_strand.true c.is_pair_at.ensures

pub returns-then-pos-eq0 : goal.returns-then-pos-eq0
returns-then-pos-eq0 c = rw (c.if-is_top_strand.false, lt-leb 1 c.args.pos (omega arith))

pub returns : goal.returns
returns c =
    let row = c.args.ref_seq.now in
    let p = c.args.pos in
    let next : p - 1 + 1 ≡ p = omega arith in
    let asked : c.is_pair_at-2.result ≡ holds_at row (p - 1) 67 && holds_at row (p - 1 + 1) 71 = c.is_pair_at-2.ensures in
    let pair : c.is_pair_at-2.result ≡ holds_at row (p - 1) 67 && holds_at row p 71 =
    asked ∙ ap (λ (q : ℕ). holds_at row (p - 1) 67 && holds_at row q 71) next in
    rw (c.if-is_top_strand.false, le-leb 1 p (omega arith)) (pair ∙ and_comm (holds_at row (p - 1) 67) (holds_at row p 71))

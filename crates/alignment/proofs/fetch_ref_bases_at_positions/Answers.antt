use Rattle.std.proofs.Common.{rules}
use mathlib.Core.Path.{◌≡◌, sym, ◌∙◌}
use mathlib.Core.List.{List, map}
use Prim.Native.Nat.{ℕ}
use native.Mathlib.Omega.{arith}
use lib.ListN.{length, get_or, take, length-map}
use lib.Seq.{take_all, length-take-le}
use lib.IntN.{pos}
use mir.Syntax.{w64}
use mir.Val.{SFits}
use mir.Facts.{to_z-of_z}
use borrow.Author.Tests.{le-leb, lt-leb}
use Rattle.lent.specs.Outcome.{refusal}
use Rattle.lent.proofs.Lists.{map_more}
use Rattle.lent.proofs.Filled.{over_none, over_one_more, leaves_done, leaves_refused}
use Rattle.alignment.specs.Reference.{base_at}
use Rattle.alignment.proofs.fetch_ref_bases_at_positions.Goals as goal

pub returns-then-bases-ref_positions : goal.returns-then-bases-ref_positions
returns-then-bases-ref_positions c =
    let a = c.args in
    let short = lt-leb (length a.ref_positions.now) (length a.bases.now) (omega arith) in
    (rw short, rw short (sym (leaves_refused (λ (l : List ℕ). l) (refusal 12) a.bases.now)))

pub loop-i-init : goal.loop-i-init
loop-i-init c = over_none c.args.bases.now

pub loop-i-preserved : goal.loop-i-preserved
loop-i-preserved c =
    let a = c.args in
    let l = a.ref_positions.now in
    let i = c.loop-i.i in
    let f : SFits w64 (get_or l i (pos 0)) = search rules in
    let e : c.base_at.result ≡ base_at a.reference.now (get_or l i (pos 0)) = rw (to_z-of_z f) at c.base_at.ensures in
    rw (c.loop-i.invariant, e, map_more (base_at a.reference.now) l i (pos 0) (omega arith))
    (over_one_more (map (base_at a.reference.now) (take i l)) a.bases.now i (base_at a.reference.now (get_or l i (pos 0)))
    (length-map (take i l) (base_at a.reference.now) ∙ length-take-le i l (omega arith)) (omega arith))

pub returns : goal.returns
returns c =
    let a = c.args in
    let fits = le-leb (length a.ref_positions.now) (length a.bases.now) (omega arith) in
    let all = take_all c.loop-i.i a.ref_positions.now (omega arith) in
    let l : List ℕ = map (base_at a.reference.now) a.ref_positions.now in
    let n : length a.ref_positions.now ≡ length l = omega (arith, length-map a.ref_positions.now (base_at a.reference.now)) in
    (rw (fits, n), rw (fits, leaves_done (λ (l : List ℕ). l) l a.bases.now) (rw all at c.loop-i.invariant))

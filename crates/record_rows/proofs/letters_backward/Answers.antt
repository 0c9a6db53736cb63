use mathlib.Core.Path.{◌∙◌, ◌≡◌, ap, refl, sym}
use Prim.Native.Nat.{ℕ}
use native.Mathlib.Omega.{arith}
use mathlib.Core.List.{List}
use lib.ListN.{length, length-set}
use Rattle.lent.proofs.Filled.{over_none}
use Rattle.lent.specs.Filled.{over}
use Rattle.lent.specs.Lists.{tabulate}
use Rattle.packed.proofs.Rows.{one_more}
use Rattle.record_rows.proofs.LetterLaws.{from_the_end, turned_list, turned_at}
use Rattle.record_rows.proofs.letters_backward.Goals as goal

pub loop-i-init : goal.loop-i-init
loop-i-init c = (over_none _, refl)

pub loop-i-preserved : goal.loop-i-preserved
loop-i-preserved c =
    let here : c.complement.result ≡ turned_at c.args.letters.now c.loop-i.i = from_the_end c.args.letters.now _ c.loop-i.i _ c.complement.ensures (omega arith) in (
      one_more (turned_at c.args.letters.now) c.args.row.now c.loop-i.row c.loop-i.i _ c.loop-i.invariant.0 (omega arith) here,
      length-set c.loop-i.row c.loop-i.i _ ∙ c.loop-i.invariant.1,
    )

pub returns : goal.returns
returns c =
    let all : c.loop-i.i ≡ length c.args.letters.now = omega arith in
    c.loop-i.invariant.0
    ∙ ap (λ (k : ℕ). over (tabulate k (turned_at c.args.letters.now)) c.args.row.now) all
    ∙ ap (λ (l : List ℕ). over l c.args.row.now) (sym (turned_list c.args.letters.now))

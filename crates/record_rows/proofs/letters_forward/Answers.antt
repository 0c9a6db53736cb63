use mathlib.Core.Path.{◌∙◌, ◌≡◌, ap, refl, sym}
use Prim.Native.Nat.{ℕ}
use native.Mathlib.Omega.{arith}
use mathlib.Core.List.{List}
use lib.ListN.{get_or, length, length-set}
use Rattle.lent.proofs.Filled.{over_none}
use Rattle.lent.specs.Filled.{over}
use Rattle.lent.specs.Lists.{tabulate}
use Rattle.packed.proofs.Rows.{one_more}
use Rattle.record_rows.proofs.LetterLaws.{kept_list}
use Rattle.record_rows.proofs.letters_forward.Goals as goal

pub loop-i-init : goal.loop-i-init
loop-i-init c = (over_none _, refl)

pub loop-i-preserved : goal.loop-i-preserved
loop-i-preserved c =
    let f : ℕ → ℕ = λ p. get_or c.args.letters.now p 0 in
    let here : get_or c.args.letters.now c.loop-i.i 0 ≡ f c.loop-i.i = refl in (
      one_more f c.args.row.now c.loop-i.row c.loop-i.i (get_or c.args.letters.now c.loop-i.i 0) c.loop-i.invariant.0 (omega arith) here,
      length-set c.loop-i.row c.loop-i.i _ ∙ c.loop-i.invariant.1,
    )

pub returns : goal.returns
returns c =
    let all : c.loop-i.i ≡ length c.args.letters.now = omega arith in
    c.loop-i.invariant.0
    ∙ ap (λ (k : ℕ). over (tabulate k (λ p. get_or c.args.letters.now p 0)) c.args.row.now) all
    ∙ ap (λ (l : List ℕ). over l c.args.row.now) (sym (kept_list c.args.letters.now))

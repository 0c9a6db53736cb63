use mathlib.Core.Path.{◌∙◌, ◌≡◌, ap, sym}
use Prim.Native.Nat.{◌+◌, ◌-◌, ◌≤◌}
use native.Mathlib.Omega.{arith}
use mathlib.Core.Logic.{⊎_elim}
use lib.ListN.{drop, drop_of_length-le, length}
use lib.Seq.{sets}
use Rattle.lent.proofs.Stores.{sets_out}
use Rattle.record_rows.proofs.RowLaws.{less_of}
use Rattle.record_rows.proofs.put_bytes.Goals as goal

pub returns : goal.returns
returns c =
    let n = c.fitting-fits.result in
    let done : sets c.args.out.now c.args.at c.args.bytes.now ≡ c.loop-i.out = c.loop-i.invariant.0 ∙ ⊎_elim
    (λ e. let all : length c.args.bytes.now ≤ c.loop-i.i = omega arith in ap (sets c.loop-i.out (c.args.at + c.loop-i.i)) (drop_of_length-le c.args.bytes.now all))
    (λ e. sets_out (drop c.loop-i.i c.args.bytes.now) c.loop-i.out (c.args.at + c.loop-i.i) (omega arith))
    (less_of (length c.args.bytes.now) (length c.args.out.now - c.args.at) n c.fitting-fits.ensures) in
    (omega arith, sym done)

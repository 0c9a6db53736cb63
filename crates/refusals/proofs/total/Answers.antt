-- `total` is std's sum, which folds from the left. Assumes nothing.
use Rattle.std.proofs.Common.{◌≡◌, ℕ, ◌+◌, List, [], ◌∷◌, rules, arith}
use Rattle.std.specs.List as std
use Rattle.lent.specs.Lists.{sum}
use Rattle.refusals.proofs.total.Goals as goal

folded : (a : ℕ) (ns : List ℕ) → std.fold ◌+◌ a ns ≡ a + sum ns
folded a [] = omega arith
folded a (n ∷ ns) = omega (arith, folded (a + n) ns)

pub returns : goal.returns
returns c =
    let h : c.sum.result ≡ std.sum c.args.lengths.now = search rules in
    omega (arith, h, folded 0 c.args.lengths.now)

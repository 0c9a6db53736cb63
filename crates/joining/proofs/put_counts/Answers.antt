-- `put_counts` writes each strand's own counts, and the counts of all strands together. With one strand these are its own counts.
-- Assumes nothing.
use mathlib.Core.Path.{◌≡◌}
use native.Mathlib.Omega.{arith}
use mathlib.Core.Bool.{false, true}
use Rattle.lent.proofs.Filled.{over_none}
use Rattle.joining.proofs.put_counts.Goals as goal

pub returns-then-not-two : goal.returns-then-not-two
returns-then-not-two c =
    let off : c.args.two ≡ false = c.if-not-two.true in
    rw off record { all_after = c.put_tag_counts-then-not-two.ensures; first_counts_after = c.put_tag_counts.ensures; second_counts_after = over_none c.args.second_counts.now }

pub put_tag_counts-requires-2 : goal.put_tag_counts-requires-2
put_tag_counts-requires-2 c =
    let on : c.args.two ≡ true = c.if-not-two.false in
    omega (arith, c.requires.0 on, c.requires.3 on)

pub put_sums-requires : goal.put_sums-requires
put_sums-requires c =
    let on : c.args.two ≡ true = c.if-not-two.false in
    (c.requires.0 on, c.requires.1)

pub returns : goal.returns
returns c =
    let on : c.args.two ≡ true = c.if-not-two.false in
    rw on record { all_after = c.put_sums.ensures; first_counts_after = c.put_tag_counts.ensures; second_counts_after = c.put_tag_counts-2.ensures }

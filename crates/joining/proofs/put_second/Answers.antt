-- `put_second`: nothing if there is no second strand.
-- Assumes nothing.
use mathlib.Core.Path.{◌≡◌, refl}
use mathlib.Core.Bool.{true}
use lib.ListN.{length}
use Rattle.joining.specs.Order.{second_tag}
use Rattle.samtags.specs.Building.{columns}
use Rattle.joining.proofs.put_second.Goals as goal

pub put_tag-requires : goal.put_tag-requires
put_tag-requires c =
    let on = c.if-two.true in
    let calls : c.args.calls ≡ length (second_tag true c.args.mode c.args.pattern
    (columns c.args.informative.now c.args.unconverted.now c.args.converted.now) c.args.seq.now).ml = rw on at c.requires.calls_value in
    record { seq_len_bound = c.requires.seq_len_bound on; calls_value = calls }

pub returns-then-two : goal.returns-then-two
returns-then-two c =
    rw c.if-two.true c.put_tag.ensures

pub returns-else-two : goal.returns-else-two
returns-else-two c = rw c.if-two.false (refl, refl)

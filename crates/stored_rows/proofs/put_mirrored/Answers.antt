-- `put_mirrored` stores at the mirror of a place, unless the place is past the end.
-- Assumes nothing.
use mathlib.Core.Path.{◌∙◌, ◌≡◌, sym}
use native.Mathlib.Omega.{arith}
use lib.ListN.{set}
use Rattle.packed.specs.Stored.{mirrored}
use Rattle.stored_rows.proofs.PlaceLaws.{put_inside, put_past}
use Rattle.stored_rows.proofs.put_mirrored.Goals as goal

pub returns-then-n-place : goal.returns-then-n-place
returns-then-n-place c =
    sym (put_past c.args.b c.args.n c.args.place c.args.row.now (omega arith))

pub returns : goal.returns
returns c =
    let stored : c.put.new.out ≡ set c.args.row.now (mirrored c.args.n c.args.place) c.args.b = c.put.ensures in
    stored ∙ sym (put_inside c.args.b c.args.n c.args.place c.args.row.now (omega arith))

-- `complement` reads the table at the byte.
-- Assumes nothing.
use Prim.Native.Nat.{◌<◌}
use borrow.Author.Rules.{rules}
use Rattle.packed.proofs.Codes.{entry_is}
use Rattle.record_rows.specs.Letters.{complement_of}
use Rattle.record_rows.proofs.complement.Goals as goal

pub returns : goal.returns
returns c =
    let small : c.args.letter < 256 = search rules in
    entry_is complement_of c.args.table.now c.requires c.args.letter small

-- `ends_in_semicolon`: an empty text has no last byte.
-- Assumes nothing.
use Prim.Native.Nat.{◌-◌}
use native.Mathlib.Omega.{arith}
use lib.ListN.{length}
use Rattle.fields.proofs.FieldLaws.{last_at}
use Rattle.fields.proofs.ends_in_semicolon.Goals as goal

pub returns-in-Some : goal.returns-in-Some
returns-in-Some c =
    let l = c.args.text.now in
    let item = c.in-Some.ensures.item in
    rw (item.3.1 0, last_at 0 l (length l - 1) (omega (arith, item.3.0)))

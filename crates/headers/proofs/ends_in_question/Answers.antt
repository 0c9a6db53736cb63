-- `ends_in_question`: the last byte is '?'.
-- Assumes nothing.
use Prim.Native.Nat.{◌-◌}
use native.Mathlib.Omega.{arith}
use lib.ListN.{length}
use Rattle.samtags.specs.Text.{ends_in_question}
use Rattle.fields.proofs.FieldLaws.{last_at}
use Rattle.headers.proofs.ends_in_question.Goals as goal

pub returns : goal.returns
unfolding ends_in_question
returns c =
    let l = c.args.header.now in
    rw (last_at 0 l (length l - 1) (omega arith))

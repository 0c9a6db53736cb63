-- The output fits its row, and it is the one for the whole input.
-- Assumes nothing.
use Rattle.std.proofs.Common.{◌≤◌, subst, sym}
use Rattle.tagedit.proofs.Program.{prints}
use Rattle.transcript.proofs.Room.{room}
use Rattle.tagedit.proofs.edit.Goals as goal

pub print_front-requires : goal.print_front-requires
print_front-requires g c = subst (λ k. k ≤ 81925) (sym c.transcript-said.ensures.0) (room _)

pub returns : goal.returns
returns g c =
    prints c.print_front.result (g.R.Read.remaining c.args.from.now) (g.W.Write.contents c.args.to.now) (g.W.Write.contents c.print_front.new.to) _ _ _
    c.transcript-said.new.out c.transcript-said.result c.input_row-input.ensures c.in_ok-n.ensures.bytes c.transcript-said.ensures.0
    c.transcript-said.ensures.1 c.print_front.ensures

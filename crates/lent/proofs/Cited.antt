-- A call's contract is the postcondition that the kit makes of its `ensures`, and that the code is proved to meet (`Reads.Post`). A theorem `NAME-cited`
-- in a crate's proofs/Cited says that the contract gives the proposition of specs/ from which promises start. So a contract that says less is refused in
-- the call's own crate.
-- Assumes nothing.
use Prim.Native.Nat.{ℕ}
use mathlib.Core.List.{List}
use borrow.Fn.Kinds.{Out, ParamKind, ResultKind}

-- wherever the one contract holds of arguments, answer and arguments at exit, so does the other
abbrev pub Gives : (n : ℕ) (ps : List (ParamKind n)) (r : ResultKind n) → Out n ps r → Out n ps r → Type 0
Gives n ps r p q = (κs : _) (a : _) (z : _) (e : _) → p κs a z e → q κs a z e

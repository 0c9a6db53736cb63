-- `bases_in`: n bases fit into the bytes exactly when they are at most as many as the bytes have.
-- Assumes nothing.
use Prim.Native.Nat.{ℕ, ◌≤◌}
use native.Mathlib.Omega.{arith}
use Rattle.packed.specs.Packed.{bytes_for}
use Rattle.stored_rows.proofs.OrderLaws.{same_leb}
use Rattle.stored_rows.proofs.order.bases_in.Goals as goal

pub returns-then-bytes-ge8000 : goal.returns-then-bytes-ge8000
returns-then-bytes-ge8000 c = λ (n : ℕ) (l : n ≤ 16000). same_leb n 16000 (bytes_for n) c.args.bytes (λ p. omega arith) (λ p. omega arith)

pub returns : goal.returns
returns c = λ (n : ℕ) (l : n ≤ 16000). same_leb n _ (bytes_for n) _ (λ p. omega arith) (λ p. omega arith)

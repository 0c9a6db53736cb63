-- Lengths in order: what the tests check, and the result of a step when they pass and when they fail.
-- Assumes nothing.
use Rattle.std.specs.Prelude.{Ok, Err}
use mathlib.Core.Path.{◌≡◌, refl, sym}
use Prim.Native.Nat.{ℕ, ◌≤◌}
use native.Mathlib.Omega.{arith}
use mathlib.Core.Bool.{Bool, true, false, cond, ◌&&◌}
use lib.Dec.{leb}
use lib.ListN.{length}
use borrow.Author.Tests.{le-leb, leb-true}
use Rattle.lent.proofs.Outcome.{need_rest, need_test}
use Rattle.lent.proofs.Tests.{and_true_l, and_true_r}
use Rattle.lent.specs.Outcome.{Outcome, need, refusal}
use Rattle.lent.specs.declared.Refusal.{Refusal}
use Rattle.samtags.specs.Session.{Memory, in_order_of, lengths_in_domain, lengths_in_buffers}
use Rattle.stepping.specs.Steps.{Ordered, lengths_in_rows}

-- without ML no value is taken
pub values_leb : (ml? : Bool) (n k : ℕ) → cond ml? (leb n k) true ≡ leb (cond ml? n 0) k
values_leb true n k = refl
values_leb false n k = sym (le-leb 0 k (omega arith))

-- the tests that pass
module _ (ml? : Bool) (m : Memory) (i : Ordered ml? m) where
  pub domain_passes : lengths_in_domain ml? m.lengths ≡ true
  domain_passes =
      rw (
        values_leb ml? m.lengths.ml 65536,
        le-leb m.lengths.seq 16000 i.0,
        le-leb m.lengths.text 65536 i.1,
        le-leb (cond ml? m.lengths.ml 0) 65536 i.2,
      )

  pub buffers_pass : lengths_in_buffers ml? m ≡ true
  buffers_pass =
      rw (
        values_leb ml? m.lengths.ml (length m.ml),
        le-leb m.lengths.seq (length m.seq) i.3,
        le-leb m.lengths.text (length m.text) i.4,
        le-leb (cond ml? m.lengths.ml 0) (length m.ml) i.5,
      )

  -- a step on lengths that are in order
  pub ordered_is : {A : Type 0} (o : Outcome A) → in_order_of ml? m o ≡ o
  ordered_is o = rw (domain_passes, buffers_pass)

three : (a b : Bool) (ml? : Bool) (n k : ℕ) → a && b && cond ml? (leb n k) true ≡ true → (a ≡ true) × (b ≡ true) × (cond ml? n 0 ≤ k)
three a b ml? n k e =
    let two = and_true_l (a && b) (cond ml? (leb n k) true) e in
    let third : leb (cond ml? n 0) k ≡ true = rw (values_leb ml? n k) at (and_true_r (a && b) (cond ml? (leb n k) true) e) in
    (and_true_l a b two, and_true_r a b two, leb-true (cond ml? n 0) k third)

-- the result of the tests of the lengths alone
abbrev pub tests : Bool → Memory → Outcome (Unit {0})
tests ml? m =
    need (lengths_in_domain ml? m.lengths) 1
    (need (lengths_in_rows ml? (length m.seq) (length m.text) (length m.ml) m.lengths) 2 (Ok tt))

module _ (ml? : Bool) (m : Memory) where
  -- they pass
  pub order_kept : tests ml? m ≡ Ok tt → Ordered ml? m
  order_kept e =
      let n = m.lengths in
      let d = three (leb n.seq 16000) (leb n.text 65536) ml? n.ml 65536 (need_test (lengths_in_domain ml? n) 1 _ tt e) in
      let b = three (leb n.seq (length m.seq)) (leb n.text (length m.text)) ml? n.ml (length m.ml)
      (need_test (lengths_in_buffers ml? m) 2 (Ok tt) tt (need_rest (lengths_in_domain ml? n) 1 _ tt e)) in (
        leb-true n.seq 16000 d.0,
        leb-true n.text 65536 d.1,
        d.2,
        leb-true n.seq (length m.seq) b.0,
        leb-true n.text (length m.text) b.1,
        b.2,
      )

  -- they fail, and whatever would follow is refused so
  pub order_refused : {A : Type 0} (o : Outcome A) (r : Refusal) → tests ml? m ≡ Err r → in_order_of ml? m o ≡ Err r
  order_refused {A} o r e = go (lengths_in_domain ml? m.lengths) (lengths_in_buffers ml? m) e
    where
      go : (d b : Bool) → need d 1 (need b 2 (Ok (tt {0}))) ≡ Err r → need d 1 (need b 2 o) ≡ Err r
      go true true e = let z : ◌≡◌ {A = ℕ} 0 1 = cc in absurd (omega arith)
      go true false e = let s : ◌≡◌ {A = Refusal} (refusal 2) r = cc in rw s
      go false b e = let s : ◌≡◌ {A = Refusal} (refusal 1) r = cc in rw s

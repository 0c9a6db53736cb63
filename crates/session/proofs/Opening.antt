-- Opening a session: if the lengths are in order, the answer is the reader's on the front of each row.
-- Assumes nothing.
use Rattle.std.specs.Prelude.{Err}
use mathlib.Core.Path.{◌≡◌, refl, sym, ap, ◌∙◌}
use Prim.Native.Nat.{ℕ, ◌≤◌}
use native.Mathlib.Omega.{arith}
use mathlib.Core.Bool.{Bool, true, false, cond}
use mathlib.Core.List.{List}
use lib.ListN.{length, length-take, take}
use borrow.Author.Tests.{le-leb}
use Rattle.lent.specs.declared.Refusal.{Refusal}
use Rattle.samtags.specs.Reading.{in_domain, lists, read, read_tag}
use Rattle.samtags.specs.Session.{Memory, open_session}
use Rattle.stepping.proofs.OrderLaws.{order_refused, ordered_is, tests, values_leb}
use Rattle.stepping.specs.Steps.{Ordered}

module _ (ml? : Bool) (m : Memory) where
  pub open_refused : (r : Refusal) → tests ml? m ≡ Err r → open_session ml? m ≡ Err r
  unfolding open_session
  open_refused r e = order_refused ml? m _ r e

  -- of the row lent for ML only as much is looked at as there is
  pub same_lists : (b : Bool) (seq text : List ℕ) (k : ℕ) → k ≡ cond b m.lengths.ml 0
      → lists b seq text (take k m.ml) ≡ lists b seq text (take m.lengths.ml m.ml)
  unfolding lists read
  same_lists true seq text k e = ap (λ (i : ℕ). lists true seq text (take i m.ml)) e
  same_lists false seq text k e = refl

  pub few : (b : Bool) (k : ℕ) → k ≡ cond b m.lengths.ml 0 → cond b m.lengths.ml 0 ≤ 65536 → cond b (length (take k m.ml)) 0 ≤ 65536
  few true k e h = omega (arith, e, h, length-take k m.ml)
  few false k e h = omega arith

  pub open_is_read : Ordered ml? m → (n t k : ℕ) → n ≡ m.lengths.seq → t ≡ m.lengths.text → k ≡ cond ml? m.lengths.ml 0
      → read_tag ml? (take n m.seq) (take t m.text) (take k m.ml) ≡ open_session ml? m
  unfolding open_session read_tag
  open_is_read i n t k p q r =
      let fits : in_domain ml? (take n m.seq) (take t m.text) (take k m.ml) ≡ true =
      rw (
        values_leb ml? (length (take k m.ml)) 65536,
        le-leb (length (take n m.seq)) 16000 (omega (arith, p, i.0, length-take n m.seq)),
        le-leb (length (take t m.text)) 65536 (omega (arith, q, i.1, length-take t m.text)),
        le-leb (cond ml? (length (take k m.ml)) 0) 65536 (few ml? k r i.2),
      ) in
      rw fits (same_lists ml? (take n m.seq) (take t m.text) k r
      ∙ (λ j. lists ml? (take (p j) m.seq) (take (q j) m.text) (take m.lengths.ml m.ml))
      ∙ sym (ordered_is ml? m i _))

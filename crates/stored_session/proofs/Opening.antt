-- Opening a stored session: if the lengths are in order, the answer is that of `check_tag` on the front of each row.
-- Assumes nothing.
use Rattle.std.specs.Prelude.{Ok, Err}
use mathlib.Core.Path.{◌≡◌, refl, sym, ap, ◌∙◌}
use Prim.Native.Nat.{ℕ}
use native.Mathlib.Omega.{arith}
use mathlib.Core.Bool.{Bool, true, false, cond, ◌&&◌}
use lib.Dec.{eqb, leb}
use lib.ListN.{length, length-take, take}
use borrow.Author.Tests.{eqb-true, le-leb}
use Rattle.lent.proofs.Outcome.{need_rest, need_test}
use Rattle.lent.proofs.Tests.{and_true_r, by-test}
use Rattle.lent.specs.Outcome.{need, refusal}
use Rattle.lent.specs.declared.Refusal.{Refusal}
use Rattle.packed.proofs.Turning.{length_in_read}
use Rattle.packed.specs.Packed.{bytes_for}
use Rattle.packed.specs.Stored.{in_read}
use Rattle.samtags.specs.Reading.{in_domain, lists, read_tag}
use Rattle.samtags.specs.Session.{Memory, lengths_in_domain}
use Rattle.session.proofs.Opening.{few, same_lists}
use Rattle.stepping.proofs.OrderLaws.{values_leb}
use Rattle.stored.specs.Reads.{is_exact, read_stored, stated_in_domain}
use Rattle.stored_rows.proofs.OrderLaws.{tested}
use Rattle.stored_steps.proofs.BackLaws.{passes, step_tests}
use Rattle.stored_steps.specs.Back.{OrderedStored}
use Rattle.stored_steps.specs.Steps.{held_in_read, open_stored, tag_in_buffers}

-- fewer packed bytes than the bases take are not as many
exact_enough : (bytes need : ℕ) → leb need bytes ≡ false → eqb bytes need ≡ false
exact_enough bytes need e =
    by-test (eqb bytes need)
    (λ t. let same = eqb-true bytes need t in let z : leb need bytes ≡ true = le-leb need bytes (omega (arith, same)) in
    let w : ◌≡◌ {A = Bool} true false = sym z ∙ e in cc)
    (λ t. t)

module _ (reverse ml? : Bool) (m : Memory) where
  -- lengths that refuse every step refuse the opening alike
  pub open_refused : (r : Refusal) → step_tests ml? m ≡ Err r → open_stored reverse ml? m ≡ Err r
  unfolding open_stored
  open_refused r e =
      go (lengths_in_domain ml? m.lengths) (leb (bytes_for m.lengths.seq) (length m.seq)) (eqb (length m.seq) (bytes_for m.lengths.seq))
      (tag_in_buffers ml? m) (exact_enough (length m.seq) (bytes_for m.lengths.seq)) e
    where
      go : (d l x t : Bool) → (l ≡ false → x ≡ false) → tested d (l && t) ≡ Err r
          → need d 1 (need (x && t) 2 (lists ml? (held_in_read reverse m).seq (held_in_read reverse m).text (held_in_read reverse m).ml)) ≡ Err r
      go true true x true f e = let z : ◌≡◌ {A = ℕ} 0 1 = cc in absurd (omega arith)
      go true true true false f e = let s : ◌≡◌ {A = Refusal} (refusal 2) r = cc in rw s
      go true true false false f e = let s : ◌≡◌ {A = Refusal} (refusal 2) r = cc in rw s
      go true false x t f e = let s : ◌≡◌ {A = Refusal} (refusal 2) r = cc in rw (f refl, s)
      go false l x t f e = let s : ◌≡◌ {A = Refusal} (refusal 1) r = cc in rw s

  pub open_is_check : OrderedStored ml? m → (t k : ℕ) → t ≡ m.lengths.text → k ≡ cond ml? m.lengths.ml 0
      → read_stored reverse ml? m.lengths.seq m.seq (take t m.text) (take k m.ml) ≡ open_stored reverse ml? m
  unfolding open_stored read_stored read_tag held_in_read
  open_is_check i t k q r =
      let n = m.lengths.seq in
      let seq = in_read reverse n m.seq in
      let small : leb (length (take t m.text)) 65536 ≡ true = le-leb (length (take t m.text)) 65536 (omega (arith, q, i.1, length-take t m.text)) in
      let values : leb (cond ml? (length (take k m.ml)) 0) 65536 ≡ true = le-leb (cond ml? (length (take k m.ml)) 0) 65536 (few ml? m ml? k r i.2) in
      let stated : stated_in_domain ml? n (take t m.text) (take k m.ml) ≡ true =
      rw (values_leb ml? (length (take k m.ml)) 65536, le-leb n 16000 i.0, small, values) in
      let fits : in_domain ml? seq (take t m.text) (take k m.ml) ≡ true =
      rw (values_leb ml? (length (take k m.ml)) 65536, length_in_read reverse n m.seq, le-leb n 16000 i.0, small, values) in
      let domain = need_test (lengths_in_domain ml? m.lengths) 1 _ tt (passes ml? m i) in
      let buffers = need_test (leb (bytes_for n) (length m.seq) && tag_in_buffers ml? m) 2 (Ok tt) tt (need_rest (lengths_in_domain ml? m.lengths) 1 _ tt (passes ml? m i)) in
      let tag = and_true_r (leb (bytes_for n) (length m.seq)) (tag_in_buffers ml? m) buffers in
      rw (stated, fits, domain, tag, and_true_right (is_exact n m.seq))
      (ap (need (is_exact n m.seq) 2) (same_lists ml? m ml? seq (take t m.text) k r
      ∙ ap (λ (i : ℕ). lists ml? seq (take i m.text) (take m.lengths.ml m.ml)) q))
    where
      and_true_right : (b : Bool) → b && true ≡ b
      and_true_right true = refl
      and_true_right false = refl

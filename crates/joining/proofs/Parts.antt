-- Laws of rows whose part or front is lent and comes back, and of both strands' texts and values in the order of the joined tag.
-- Assumes nothing.
use mathlib.Core.Path.{◌∙◌, ◌≡◌, ap, refl, sym}
use Prim.Native.Nat.{◌+◌, ◌-◌, ◌≤◌, ℕ}
use native.Mathlib.Omega.{arith}
use mathlib.Core.Bool.{Bool, cond, false, not, true}
use mathlib.Core.List.{List, ◌++◌}
use lib.ListN.{drop, length, length-append, take}
use lib.Seq.{drop_at, sets, take_at}
use borrow.Rule.Slice.PartMut.{put_mid}
use Rattle.columns.specs.Columns.{restored}
use Rattle.joining.specs.Order.{first_of, in_order_of, restored_by_both, second_first, second_of}
use Rattle.lent.proofs.Filled.{over_part, over_stored}
use Rattle.lent.proofs.Stores.{sets_append, sets_before}
use Rattle.lent.proofs.Tabulate.{length_zip}
use Rattle.lent.proofs.Tests.{by-test}
use Rattle.lent.specs.Filled.{over}
use Rattle.pattern.specs.declared.ConversionPattern.{ConversionPattern}

-- the list l stood at the front, and the part behind it came back with g at its front
pub part_joined : (l g out x y : List ℕ) (k : ℕ) → x ≡ over l out → k ≡ length out - length l → y ≡ over g (take k (drop (length l) x))
    → length l + length g ≤ length out → put_mid (length l) k x y ≡ over (l ++ g) out
part_joined l g out x y k e n f h = rw (f, e) (over_part l g out (length l) k refl n h)

-- in either order there are as many bytes
pub order_lengths : (p q : ConversionPattern) (xs ys : List ℕ)
    → length (first_of p q xs ys) + length (second_of p q xs ys) ≡ length xs + length ys
order_lengths p q xs ys = by-test (second_first p q) (λ e. rw e (omega arith)) (λ e. rw e)

-- the front, which held l, was lent and came back as m
pub front_changed : (l m out x : List ℕ) (k : ℕ) → x ≡ over l out → length l ≡ k → length m ≡ k → put_mid 0 (k - 0) x m ≡ over m out
unfolding over
front_changed l m out x k e a b =
    let z : k - 0 ≡ k = omega arith in
    rw (z, e) (ap (λ (r : List ℕ). m ++ r) (drop_at l (drop (length l) out) k a ∙ ap (λ (n : ℕ). drop n out) (a ∙ sym b)))

pub front_held : (l out x : List ℕ) (k : ℕ) → x ≡ over l out → length l ≡ k → take (k - 0) (drop 0 x) ≡ l
unfolding over
front_held l out x k e a = let z : k - 0 ≡ k = omega arith in rw (z, e) (take_at l (drop (length l) out) k a)

-- ---- SEQ that both strands restore is as long as it was

pub both_length : (two? : Bool) (p : ConversionPattern) (informative : List ℕ) (q : ConversionPattern) (other seq : List ℕ)
    → length informative ≡ length seq → (two? ≡ true → length other ≡ length seq)
    → length (restored_by_both two? p informative q other seq) ≡ length seq
both_length two? p informative q other seq e f =
    let one : length (restored p informative seq) ≡ length seq = length_zip _ informative seq e in
    by-test two?
    (λ t. rw t (length_zip _ other (restored p informative seq) (f t ∙ sym one) ∙ one))
    (λ t. rw t one)

-- ---- the values of both strands, each stored where it belongs

-- where a strand's values begin there is room for them and for the other's
pub starts_fit : (swapped : Bool) (a b n : ℕ) → a + b ≤ n → (cond swapped b 0 + a ≤ n) × (cond (not swapped) a 0 + b ≤ n)
starts_fit true a b n h = (omega arith, omega arith)
starts_fit false a b n h = (omega arith, omega arith)

pub values_placed : (p q : ConversionPattern) (a b out : List ℕ) → length a + length b ≤ length out
    → sets (sets out (cond (second_first p q) (length b) 0) a) (cond (not (second_first p q)) (length a) 0) b ≡ over (in_order_of p q a b) out
values_placed p q a b out h =
    by-test (second_first p q)
    (λ e. rw e (sets_before out b a (omega arith)))
    (λ e.
    let z : length a ≡ 0 + length a = omega arith in
    rw e (ap (λ (n : ℕ). sets (sets out 0 a) n b) z ∙ sym (sets_append out 0 a b) ∙ over_stored (a ++ b) out (omega (arith, length-append a b))))

-- What a read gives stands behind what was there.
-- Assumes nothing.
use Rattle.std.proofs.Common.{ℕ, ◌≡◌, ◌+◌, ◌-◌, ◌≤◌, List, ◌++◌, ◌∙◌, ap, length, length-take-le, rules, subst, sym, take}
use Rattle.std.proofs.KnownBytes.{Consumes-trans}
use Rattle.std.proofs.Math.Seq.{take-append-add}
use Rattle.std.proofs.lemmas.List.{take-append-le}
use Rattle.std.specs.Io.KnownBytes.{Consumes}
use borrow.Rule.Slice.PartMut.{post_of, put_mid}
use Rattle.tagedit.proofs.read_full.Goals as goal

front_put : (a n k : ℕ) (xs ys : List ℕ) → a ≤ length xs → n ≤ length ys → take a xs ++ take n ys ≡ take (a + n) (put_mid a k xs ys)
front_put a n k xs ys p q =
    let e : length (take a xs) ≡ a = length-take-le a xs p in
    ap (λ l. take a xs ++ l) (sym (take-append-le n ys (post_of a k xs) q))
    ∙ sym (take-append-add (take a xs) (ys ++ post_of a k xs) n)
    ∙ ap (λ m. take (m + n) (put_mid a k xs ys)) e

pub loop-done-preserved : goal.loop-done-preserved
loop-done-preserved g c =
    let room = length c.loop-done.row - c.loop-done.done in
    record {
      in_row = search rules;
      same = search rules;
      read =
          subst (Consumes _ _)
          (front_put c.loop-done.done c.in_ok-n.n room c.loop-done.row c.read.new.buf c.loop-done.invariant.in_row c.in_ok-n.ensures.bound.0)
          (Consumes-trans _ _ _ _ _ c.loop-done.invariant.read c.in_ok-n.ensures.bytes.0);
    }

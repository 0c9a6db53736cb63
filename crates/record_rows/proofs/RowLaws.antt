-- From the contracts of the two walks over a tag to what a call on a record is told: whether the tag can be edited, and the rows after it is written.
-- Assumes nothing.
use Rattle.std.specs.Prelude.{Ok, Err, Option, None, Some}
use Rattle.std.specs.Option.{is_some}
use mathlib.Core.Path.{◌≡◌, refl, sym, ap, ◌∙◌}
use Prim.Native.Nat.{ℕ, ◌+◌, ◌-◌, ◌≤◌, min}
use native.Mathlib.Omega.{arith}
use mathlib.Core.Bool.{Bool, true, false, cond}
use mathlib.Core.List.{List, [], ◌++◌, append_assoc}
use mathlib.Core.Logic.{◌⊎◌, inl, inr, ⊎_elim}
use lib.ListN.{length, take, drop, take-append-drop}
use lib.Seq.{drop-drop, length-sets, length-take-le, sets, sets-eq, take_all}
use borrow.Rule.Slice.PartMut.{mid_of, put_mid}
use Rattle.lent.proofs.Numbers.{le_or_lt}
use Rattle.lent.proofs.Outcome.{on_done_inv}
use Rattle.lent.proofs.Stores.{part_back, part_lent, sets_append, sets_out, sets_part}
use Rattle.lent.specs.Answers.{is_done}
use Rattle.lent.specs.Lists.{last_or}
use Rattle.lent.specs.Outcome.{Outcome, on_done}
use Rattle.lent.specs.declared.Refusal.{Refusal}
use Rattle.samtags.proofs.Length.{never_longer}
use Rattle.samtags.specs.Edits.{Edit, edited}
use Rattle.samtags.specs.Reading.{read, read_groups}
use Rattle.samtags.specs.Text.{closed_by}
use Rattle.samtags.specs.Writing.{Tag, sizes_of}
use Rattle.measuring.specs.Counting.{TagCounted, groups_counted}
use Rattle.measuring.specs.declared.Count.{Count}
use Rattle.drafting.specs.Walks.{TagEdited}
use Rattle.drafting.specs.declared.Cursor.{Cursor}
use Rattle.editing.proofs.TagLaws.{edited_passed, edited_read, edited_refused, never_refused, stored_whole}

-- the smaller of two is one of them
pub less_of : (a b m : ℕ) → m ≡ min a b → (m ≡ a) ⊎ (m ≡ b)
less_of a b m e = ⊎_elim (λ h. inl (omega arith)) (λ h. inr (omega arith)) (le_or_lt a b)

-- of a run that is stored from `at` on, only what fits the row counts
pub sets_fitting : (out xs : List ℕ) (at n : ℕ) → n ≡ min (length xs) (length out - at) → sets out at xs ≡ sets out at (take n xs)
sets_fitting out xs at n e =
    ⊎_elim
    (λ h. sym (ap (sets out at) (take_all n xs (omega arith))))
    (λ h.
    let few : length (take n xs) ≡ n = length-take-le n xs (omega arith) in
    ap (sets out at) (sym (take-append-drop n xs))
    ∙ sets_append out at (take n xs) (drop n xs)
    ∙ sets_out (drop n xs) (sets out at (take n xs)) (at + length (take n xs)) (omega (arith, few, length-sets out at (take n xs))))
    (less_of (length xs) (length out - at) n e)

-- a run that replaces as many elements of a row is stored there
pub put_run : (out xs ys : List ℕ) (at n : ℕ) → ys ≡ xs → length xs ≡ n → at + n ≤ length out → put_mid at n out ys ≡ sets out at xs
put_run out xs ys at n e f h =
    let k : at + n ≡ at + length xs = omega arith in
    ap (put_mid at n out) e
    ∙ sym (sets-eq xs out at (omega arith) ∙ append_assoc (take at out) xs (drop (at + length xs) out)
    ∙ ap (λ (l : List ℕ). take at out ++ (xs ++ l)) (ap (λ (i : ℕ). drop i out) (sym k) ∙ sym (drop-drop n at out)))

-- the result of an outcome that is done
pub result_of : {A : Type 0} (o : Outcome A) → is_done o ≡ true → (a : A) × (o ≡ Ok a)
result_of (Err r) h = let z : ◌≡◌ {A = ℕ} 0 1 = cc in absurd (omega arith)
result_of (Ok a) h = (a, refl)

-- a run stored at the front of the part that was lent from `room` on, with the part back in its row
pub part_put : (out xs new : List ℕ) (at room : ℕ) → room ≡ min at (length out) → new ≡ sets (mid_of room (length out - room) out) 0 xs
    → put_mid room (length out - room) out new ≡ sets out at xs
part_put out xs new at room low e =
    part_back out room new
    ∙ ap (λ (y : List ℕ). take room out ++ y) (e ∙ ap (λ (d : List ℕ). sets d 0 xs) (part_lent out room))
    ∙ sets_part out at room xs low

-- ---- whether a tag can be edited

module _ (e : Edit) (ml? : Bool) (seq text ml : List ℕ) where
  -- by the walk that needs no places
  pub counted_done : (n : ℕ × ℕ) → on_done (groups_counted 0 0) (read ml? e.dropped seq text ml) ≡ Ok n → is_done (edited e ml? seq text ml) ≡ true
  counted_done n h = ap is_done (edited_read e ml? seq text ml n h).1

  pub counted_some : (marked : Bool) (o : Option Count) → TagCounted marked (read ml? e.dropped seq text ml) (Ok o) → is_some o ≡ true
      → is_done (edited e ml? seq text ml) ≡ true
  counted_some marked None t h = cc
  counted_some marked (Some c) t h = counted_done (c.group, c.calls) t

  pub counted_refused : (r : Refusal) → read ml? e.dropped seq text ml ≡ Err r → is_done (edited e ml? seq text ml) ≡ false
  counted_refused r h = ap is_done (edited_refused e ml? seq text ml r h)

-- by the walk that writes, over empty rows
pub measured_done : (o : Outcome Tag) (n : ℕ × ℕ) → on_done sizes_of o ≡ Ok n → is_done o ≡ true
measured_done o n h = ap is_done (on_done_inv sizes_of o n h).1

pub measured_refused : (o : Outcome Tag) (r : Refusal) → o ≡ Err r → is_done o ≡ false
measured_refused o r h = ap is_done h

-- ---- a tag that can be edited

module _ (e : Edit) (ml? : Bool) (seq text ml : List ℕ) (fine : is_done (edited e ml? seq text ml) ≡ true) where
  abbrev tag : (t : Tag) × (edited e ml? seq text ml ≡ Ok t)
  tag = result_of (edited e ml? seq text ml) fine

  pub fine_closed : last_or 0 text ≡ 59
  fine_closed = (edited_passed e ml? seq text ml tag.0 tag.1).0

  -- the walk over any two rows
  module _ (whole : cond ml? ml [] ≡ ml) (t v t' v' : List ℕ) where
    pub fine_never_refused : (r : Refusal) → TagEdited e (read_groups ml? e.dropped seq (closed_by 59 text) ml) t v (Err r) t' v' → ⊥
    fine_never_refused = never_refused e ml? seq text ml whole tag.0 tag.1 t v t' v'

    module _ (d : Cursor) (h : TagEdited e (read_groups ml? e.dropped seq (closed_by 59 text) ml) t v (Ok d) t' v') where
      pub fine_stored : (u : Tag) → edited e ml? seq text ml ≡ Ok u
          → (d.end ≡ length u.text) × (d.kept ≡ length u.ml) × (t' ≡ sets t 0 u.text) × (v' ≡ sets v 0 u.ml)
      fine_stored u k = let s = stored_whole e ml? seq text ml whole u k t v t' v' d h in (sym s.2, sym s.3, s.0, s.1)

      -- an edited tag is never longer
      pub fine_short : (d.end ≤ length text) × (d.kept ≤ length ml)
      fine_short =
          let s = fine_stored tag.0 tag.1 in
          let short = never_longer e ml? seq text ml tag.0 tag.1 in
          (omega (arith, s.0, short.0), omega (arith, s.1, short.1, ap length whole))

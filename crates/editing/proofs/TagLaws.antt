-- From the contract of the walk over a tag to the answer of an edit, and the rows after it.
-- Assumes nothing.
use Rattle.std.specs.Prelude.{Ok, Err}
use mathlib.Core.Path.{◌≡◌, refl, sym, ap, ◌∙◌}
use Prim.Native.Nat.{ℕ, ◌≤◌, ◌<◌}
use native.Mathlib.Omega.{arith}
use mathlib.Core.Bool.{Bool, true, false, cond, not, ◌&&◌}
use mathlib.Core.List.{List, [], map}
use lib.Dec.{eqb, leb}
use lib.ListN.{get_or, length}
use lib.Seq.{sets}
use borrow.Author.Tests.{eqb-true, le-leb, lt-leb, not-false}
use Rattle.lent.proofs.Filled.{over_stored}
use Rattle.lent.proofs.Lists.{empty_of_length}
use Rattle.lent.proofs.Outcome.{and_then_inv, done_inj, need_rest, need_test, on_done_inv}
use Rattle.lent.specs.Filled.{leaves, over}
use Rattle.lent.specs.Lists.{every, last_or}
use Rattle.lent.specs.Outcome.{Outcome, and_then, on_done, refuse}
use Rattle.lent.specs.declared.Refusal.{Refusal}
use Rattle.samtags.proofs.Length.{never_longer}
use Rattle.samtags.proofs.Taken.{taken_again}
use Rattle.samtags.specs.Bytes.{is_ascii}
use Rattle.samtags.specs.Edits.{Edit, changed, edited, in_room}
use Rattle.samtags.specs.Reading.{nowhere, read, read_groups}
use Rattle.samtags.specs.Spots.{Group}
use Rattle.samtags.specs.Text.{closed_by}
use Rattle.samtags.specs.Writing.{Tag, sizes_of, written}
use Rattle.changing.specs.Drafts.{Draft, draft}
use Rattle.changing.specs.Windows.{is_marked}
use Rattle.measuring.specs.Counting.{groups_counted}
use Rattle.editing.specs.Rewrote.{leaves_tag, rewrote, values_with}
use Rattle.editing.specs.Tags.{TagMeasured}
use Rattle.drafting.specs.Walks.{TagEdited, edited_groups, tag_put}
use Rattle.drafting.specs.declared.Cursor.{Cursor}

-- ---- what is asked of a text before its groups

module _ (e : Edit) (ml? : Bool) (seq text ml : List ℕ) where
  pub edited_three : every is_ascii text ≡ false → edited e ml? seq text ml ≡ refuse 3
  unfolding edited read
  edited_three h = rw h

  pub edited_four : every is_ascii text ≡ true → eqb (last_or 0 text) 59 ≡ false → edited e ml? seq text ml ≡ refuse 4
  unfolding edited read
  edited_four h k = rw (h, k)

  pub edited_on : every is_ascii text ≡ true → eqb (last_or 0 text) 59 ≡ true
      → edited e ml? seq text ml ≡ edited_groups e (read_groups ml? e.dropped seq (closed_by 59 text) (cond ml? ml []))
  unfolding edited read
  edited_on h k = rw (h, k)

  -- a tag that is edited passes both
  pub edited_passed : (t : Tag) → edited e ml? seq text ml ≡ Ok t
      → (last_or 0 text ≡ 59) × (edited_groups e (read_groups ml? e.dropped seq (closed_by 59 text) (cond ml? ml [])) ≡ Ok t)
  unfolding edited read
  edited_passed t h =
      let i = and_then_inv (read ml? e.dropped seq text ml) _ t h in
      let low = need_test (every is_ascii text) 3 _ i.0 i.1 in
      let closed = need_test (eqb (last_or 0 text) 59) 4 _ i.0 (need_rest (every is_ascii text) 3 _ i.0 i.1) in
      (eqb-true (last_or 0 text) 59 closed, sym (edited_on low closed) ∙ h)

  -- without an ML there are no values
  pub values_with_lem : (t : Tag) → edited e ml? seq text ml ≡ Ok t → values_with ml? t ≡ t.ml
  values_with_lem t h = go ml? (never_longer e ml? seq text ml t h).1
    where
      go : (b : Bool) → length t.ml ≤ length (cond b ml []) → values_with b t ≡ t.ml
      go true l = refl
      go false l = sym (empty_of_length t.ml (omega arith))

-- only as much of the row lent for ML is looked at as is taken
pub edited_taken : (e : Edit) (ml? : Bool) (seq text ml m : List ℕ) → m ≡ cond ml? ml [] → edited e ml? seq text m ≡ edited e ml? seq text ml
unfolding edited read
edited_taken e ml? seq text ml m h = rw (h, taken_again ml? ml)

-- ---- the two walks

-- the first, over no rows
pub measured : (e : Edit) (o : Outcome (List Group)) (t v : List ℕ) (r : Outcome Cursor) (t' v' : List ℕ)
    → TagEdited e o t v r t' v' → TagMeasured (edited_groups e o) r
measured e o t v (Err r) t' v' h = ap (edited_groups e) h
measured e o t v (Ok d) t' v' h = go (edited_groups e o) h
  where
    go : (x : Outcome Tag) → on_done (tag_put (draft t 0 v 0)) x ≡ Ok (draft t' d.end v' d.kept)
        → on_done sizes_of x ≡ Ok (d.end, d.kept)
    go (Err r) k = let z : ◌≡◌ {A = ℕ} 0 1 = cc in absurd (omega arith)
    go (Ok u) k =
        let w : tag_put (draft t 0 v 0) u ≡ draft t' d.end v' d.kept = done_inj k in
        let end : length u.text ≡ d.end = omega (arith, ap (λ (y : Draft). y.end) w) in
        let kept : length u.ml ≡ d.kept = omega (arith, ap (λ (y : Draft). y.kept) w) in
        λ j. Ok (end j, kept j)

-- the second, over the rows that were lent, of a tag that is known to be edited
pub rows_stored : (e : Edit) (o : Outcome (List Group)) (u : Tag) → edited_groups e o ≡ Ok u
    → (t v : List ℕ) (r : Outcome Cursor) (t' v' : List ℕ) → TagEdited e o t v r t' v'
    → (t' ≡ sets t 0 u.text) × (v' ≡ sets v 0 u.ml)
rows_stored e o u k t v (Err r) t' v' h =
    let x : ◌≡◌ {A = Outcome Tag} (Err r) (Ok u) = ap (edited_groups e) (sym h) ∙ k in
    let z : ◌≡◌ {A = ℕ} 0 1 = cc in absurd (omega arith)
rows_stored e o u k t v (Ok d) t' v' h =
    let w : tag_put (draft t 0 v 0) u ≡ draft t' d.end v' d.kept = done_inj (ap (on_done (tag_put (draft t 0 v 0))) (sym k) ∙ h) in
    (ap (λ (y : Draft). y.text) (sym w), ap (λ (y : Draft). y.ml) (sym w))

-- ---- what the call leaves

pub refused_leaves : (ml? : Bool) (t v : List ℕ) (r : Refusal) (o : Outcome Tag) → o ≡ Err r
    → rewrote (Err r) t v ≡ leaves_tag ml? (in_room ml? (length t) (length v) o) t v
unfolding leaves_tag leaves
refused_leaves ml? t v r o e = rw e

module _ (ml? : Bool) (t v : List ℕ) (o : Outcome Tag) (u : Tag) (e : o ≡ Ok u) (same : values_with ml? u ≡ u.ml) where
  room : Bool
  room = leb (length u.text) (length t) && cond ml? (leb (length u.ml) (length v)) true

  no_room : room ≡ false → rewrote (refuse 12) t v ≡ leaves_tag ml? (in_room ml? (length t) (length v) o) t v
  unfolding leaves_tag leaves room
  no_room f = rw (e, f)

  pub short_text : length t < length u.text → rewrote (refuse 12) t v ≡ leaves_tag ml? (in_room ml? (length t) (length v) o) t v
  unfolding room
  short_text h = no_room (rw (lt-leb (length u.text) (length t) h))

  pub short_ml : length u.text ≤ length t → length v < length u.ml
      → rewrote (refuse 12) t v ≡ leaves_tag ml? (in_room ml? (length t) (length v) o) t v
  unfolding room
  short_ml a h = no_room (rw (le-leb (length u.text) (length t) a) (go ml? same))
    where
      go : (b : Bool) → values_with b u ≡ u.ml → cond b (leb (length u.ml) (length v)) true ≡ false
      go true q = lt-leb (length u.ml) (length v) h
      go false q = let z : 0 ≡ length u.ml = ap length q in absurd (omega arith)

  pub done_leaves : length u.text ≤ length t → length u.ml ≤ length v → (n m : ℕ) → length u.text ≡ n → length u.ml ≡ m
      → (t' v' : List ℕ) → t' ≡ sets t 0 u.text → v' ≡ sets v 0 u.ml
      → rewrote (Ok (n, m)) t' v' ≡ leaves_tag ml? (in_room ml? (length t) (length v) o) t v
  unfolding leaves_tag leaves
  done_leaves a b n m p q t' v' x y =
      let fits : leb (length u.text) (length t) && cond ml? (leb (length u.ml) (length v)) true ≡ true =
      rw (le-leb (length u.text) (length t) a, le-leb (length u.ml) (length v) b) (go ml?) in
      let text : t' ≡ over u.text t = x ∙ over_stored u.text t a in
      let ml : v' ≡ over u.ml v = y ∙ over_stored u.ml v b in
      rw (e, fits, same) (λ j. rewrote (Ok (sym p j, sym q j)) (text j) (ml j))
    where
      go : (b : Bool) → cond b true true ≡ true
      go true = refl
      go false = refl

-- ---- a tag that was only counted

module _ (e : Edit) (ml? : Bool) (seq text ml : List ℕ) where
  -- what is refused as it is read
  pub edited_refused : (r : Refusal) → read ml? e.dropped seq text ml ≡ Err r → edited e ml? seq text ml ≡ Err r
  unfolding edited
  edited_refused r h = rw h

  -- what is read is edited
  pub edited_read : (n : ℕ × ℕ) → on_done (groups_counted 0 0) (read ml? e.dropped seq text ml) ≡ Ok n → (u : Tag) × (edited e ml? seq text ml ≡ Ok u)
  unfolding edited
  edited_read n h =
      let w = on_done_inv (groups_counted 0 0) (read ml? e.dropped seq text ml) n h in
      (written (map (changed e) w.0), ap (λ (o : Outcome (List Group)). and_then o (λ gs. Ok (written (map (changed e) gs)))) w.1)

-- no call is marked in an empty row
pub unmarked : (marks : List ℕ) → not (eqb (length marks) 0) ≡ false → is_marked marks ≡ nowhere
unfolding is_marked
unmarked marks h = λ j p. ap (λ (l : List ℕ). not (eqb (get_or l p 0) 0)) (empty_of_length marks (eqb-true (length marks) 0 (not-false (eqb (length marks) 0) h))) j

-- the walk over rows that are as long as the tag was, of a tag that is known to be edited
module _ (e : Edit) (ml? : Bool) (seq text ml : List ℕ) (whole : cond ml? ml [] ≡ ml) (u : Tag) (k : edited e ml? seq text ml ≡ Ok u)
    (t v t' v' : List ℕ) where
  abbrev groups_read : Outcome (List Group)
  groups_read = read_groups ml? e.dropped seq (closed_by 59 text) ml

  known_groups : edited_groups e groups_read ≡ Ok u
  known_groups =
      ap (λ (m : List ℕ). edited_groups e (read_groups ml? e.dropped seq (closed_by 59 text) m)) (sym whole) ∙ (edited_passed e ml? seq text ml u k).1

  pub never_refused : (r : Refusal) → TagEdited e groups_read t v (Err r) t' v' → ⊥
  never_refused r h =
      let x : ◌≡◌ {A = Outcome Tag} (Err r) (Ok u) = ap (edited_groups e) (sym h) ∙ known_groups in
      let z : ◌≡◌ {A = ℕ} 0 1 = cc in omega arith

  module _ (d : Cursor) (h : TagEdited e groups_read t v (Ok d) t' v') where
    pub stored_whole : (t' ≡ sets t 0 u.text) × (v' ≡ sets v 0 u.ml) × (length u.text ≡ d.end) × (length u.ml ≡ d.kept)
    stored_whole =
        let rows = rows_stored e groups_read u known_groups t v (Ok d) t' v' h in
        let sizes : sizes_of u ≡ (d.end, d.kept) = done_inj (ap (on_done sizes_of) (sym known_groups) ∙ measured e groups_read t v (Ok d) t' v' h) in
        (rows.0, rows.1, ap (λ (n : ℕ × ℕ). n.0) sizes, ap (λ (n : ℕ × ℕ). n.1) sizes)

    pub written_leaves : length text ≤ length t → length ml ≤ length v
        → rewrote (Ok (d.end, d.kept)) t' v' ≡ leaves_tag ml? (in_room ml? (length t) (length v) (edited e ml? seq text ml)) t v
    written_leaves a b =
        let short = never_longer e ml? seq text ml u k in
        let s = stored_whole in
        done_leaves ml? t v (edited e ml? seq text ml) u k (values_with_lem e ml? seq text ml u k) (omega (arith, short.0))
        (omega (arith, short.1, ap length whole)) d.end d.kept s.2 s.3 t' v' s.0 s.1

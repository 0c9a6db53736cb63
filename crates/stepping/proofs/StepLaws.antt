-- From an edited tag at the front of its rows to the answer of a step and the rows after it; and the edit that each of the three steps makes.
-- Assumes nothing.
use Rattle.std.specs.Prelude.{Ok, Err}
use mathlib.Core.Path.{◌≡◌, refl, sym, ap, ◌∙◌}
use Prim.Native.Nat.{ℕ, ◌+◌, ◌-◌, ◌≤◌, ◌<◌}
use native.Mathlib.Omega.{arith}
use mathlib.Core.Bool.{Bool, true, false, cond}
use mathlib.Core.List.{List, [], ◌++◌, append_assoc}
use lib.ListN.{length, length-drop, length-take, take, drop, take-append-drop}
use lib.Seq.{drop-drop, length-take-le, take-take}
use borrow.Author.Tests.{eq-eqb, le-leb, lt-leb, ne_eqb}
use Rattle.lent.proofs.Filled.{over_none, over_part_front}
use Rattle.lent.proofs.Lists.{drop_take}
use Rattle.lent.proofs.Outcome.{done_inj}
use Rattle.lent.specs.Filled.{leaves, over}
use Rattle.lent.specs.Lists.{among}
use Rattle.lent.specs.Outcome.{Outcome, number_of, refuse}
use Rattle.lent.specs.declared.Refusal.{Refusal}
use Rattle.samtags.proofs.Length.{never_longer}
use Rattle.samtags.specs.Edits.{Edit, cut_to, edited, masked_to}
use Rattle.samtags.specs.Session.{Lengths, Memory, Step, after_step, cut, drop_calls, held_in, mask, masked, step_in_memory, stepped as steppedTo, window}
use Rattle.samtags.specs.Writing.{Tag}
use Rattle.changing.proofs.WindowLaws.{drop_by_marks}
use Rattle.changing.specs.Windows.{is_marked, window_edit}
use Rattle.editing.proofs.TagLaws.{edited_taken}
use Rattle.editing.specs.Rewrote.{Rewrote, leaves_tag, rewrote, sizes_with, values_with}
use Rattle.stepping.proofs.OrderLaws.{order_refused, ordered_is, tests}
use Rattle.stepping.specs.Steps.{Came, Ordered, came, leaves_memory, lengths_after, lengths_of, memory, step_says, stored_with}
use Rattle.stepping.specs.declared.Lengths.{Lengths as Declared}

-- ---- the front of a row

module _ (ml? : Bool) (row vals : List ℕ) (n k : ℕ) (x : Outcome (ℕ × ℕ)) (t v : List ℕ) where
  -- a tag that was edited in the first n bytes of its row and the first k values of its own, which came back
  came_back : (o : Outcome Tag) → ((u : Tag) → o ≡ Ok u → (length u.text ≤ n) × (length (values_with ml? u) ≤ k))
      → rewrote x t v ≡ leaves_tag ml? o (take n row) (take k vals) → rewrote x (t ++ drop n row) (v ++ drop k vals) ≡ leaves_tag ml? o row vals
  unfolding leaves_tag leaves
  came_back (Err r) f e =
      let text : t ++ drop n row ≡ row = ap (λ (y : Rewrote). y.text ++ drop n row) e ∙ take-append-drop n row in
      let ml : v ++ drop k vals ≡ vals = ap (λ (y : Rewrote). y.ml ++ drop k vals) e ∙ take-append-drop k vals in
      λ j. rewrote (e j).answer (text j) (ml j)
  came_back (Ok u) f e =
      let fits = f u refl in
      let text : t ++ drop n row ≡ over u.text row = ap (λ (y : Rewrote). y.text ++ drop n row) e ∙ over_part_front u.text row n fits.0 in
      let ml : v ++ drop k vals ≡ over (values_with ml? u) vals =
      ap (λ (y : Rewrote). y.ml ++ drop k vals) e ∙ over_part_front (values_with ml? u) vals k fits.1 in
      λ j. rewrote (e j).answer (text j) (ml j)

-- of the row lent for ML only as much was looked at as there is
pub front_edited : (ml? : Bool) (e : Edit) (seq row vals : List ℕ) (text values n k : ℕ) (x : Outcome (ℕ × ℕ)) (t v : List ℕ)
    → n ≡ text → k ≡ cond ml? values 0
    → rewrote x t v ≡ leaves_tag ml? (edited e ml? seq (take n row) (take k vals)) (take n row) (take k vals)
    → rewrote x (t ++ drop n row) (v ++ drop k vals) ≡ leaves_tag ml? (edited e ml? seq (take text row) (take values vals)) row vals
front_edited ml? e seq row vals text values n k x t v p q h =
    let o = edited e ml? seq (take n row) (take k vals) in
    let same : o ≡ edited e ml? seq (take text row) (take values vals) =
    ap (λ (i : ℕ). edited e ml? seq (take i row) (take k vals)) p
    ∙ edited_taken e ml? seq (take text row) (take values vals) (take k vals) (taken ml? k q) in
    came_back ml? row vals n k x t v o fits h ∙ ap (λ (y : Outcome Tag). leaves_tag ml? y row vals) same
  where
    taken : (b : Bool) (i : ℕ) → i ≡ cond b values 0 → take i vals ≡ cond b (take values vals) []
    taken true i r = rw r
    taken false i r = rw r

    few : (b : Bool) (u : Tag) → length u.ml ≤ length (cond b (take k vals) []) → length (values_with b u) ≤ k
    few true u l = omega (arith, l, length-take k vals)
    few false u l = omega arith

    fits : (u : Tag) → edited e ml? seq (take n row) (take k vals) ≡ Ok u → (length u.text ≤ n) × (length (values_with ml? u) ≤ k)
    fits u d =
        let l = never_longer e ml? seq (take n row) (take k vals) u d in
        (omega (arith, l.0, length-take n row), few ml? u l.1)

-- a row's own front over it
pub over_own_front : (row : List ℕ) (n : ℕ) → n ≤ length row → over (take n row) row ≡ row
unfolding over
over_own_front row n h = rw (length-take-le n row h) (take-append-drop n row)

-- n bases from place a on are there
pub length_window : (a n : ℕ) (row : List ℕ) → a + n ≤ length row → length (window a n row) ≡ n
length_window a n row h = length-take-le n (drop a row) (omega (arith, length-drop a row))

-- a window of a row's front is one of the row
pub window_of_front : (a n m : ℕ) (row : List ℕ) → a + n ≤ m → window a n (take m row) ≡ window a n row
window_of_front a n m row h = ap (take n) (drop_take a m row) ∙ take-take n (m - a) (drop a row) (omega arith)

-- ---- a step from its edited tag

-- a refused step leaves every row
pub left_as_was : (m : Memory) (o : Outcome Memory) (r : Refusal) → o ≡ Err r → came (Err r) m.seq m.text m.ml ≡ leaves_memory m o
unfolding leaves_memory
left_as_was m o r e = rw e

refused_inj : {A : Type 0} {q r : Refusal} → ◌≡◌ {A = Outcome A} (Err q) (Err r) → q ≡ r
refused_inj {A} {q} {r} e = cc

module _ (ml? : Bool) (m : Memory) (after : List ℕ) where
  -- a refused edit leaves every row
  pub step_refused : (o : Outcome Tag) (r : Refusal) (t v : List ℕ) → rewrote (Err r) t v ≡ leaves_tag ml? o m.text m.ml
      → came (Err r) m.seq t v ≡ leaves_memory m (stored_with ml? m after o)
  unfolding leaves_tag leaves leaves_memory
  step_refused (Err q) r t v e =
      let same : r ≡ q = refused_inj (ap (λ (x : Rewrote). x.answer) e) in
      λ j. came (Err (same j)) m.seq (e j).text (e j).ml
  step_refused (Ok u) r t v e =
      let x : ◌≡◌ {A = Outcome (ℕ × ℕ)} (Err r) (Ok (sizes_with ml? u)) = ap (λ (x : Rewrote). x.answer) e in
      let z : ◌≡◌ {A = ℕ} 0 1 = cc in absurd (omega arith)

  -- an edit that is done, SEQ put over its row, and the lengths as they then are
  pub step_done : (o : Outcome Tag) (end kept : ℕ) (n : Declared) (s t v : List ℕ) → rewrote (Ok (end, kept)) t v ≡ leaves_tag ml? o m.text m.ml
      → n.seq ≡ length after → n.mm ≡ end → n.ml ≡ cond ml? kept m.lengths.ml → s ≡ over after m.seq
      → came (Ok (lengths_of n)) s t v ≡ leaves_memory m (stored_with ml? m after o)
  unfolding leaves_tag leaves leaves_memory
  step_done (Err q) end kept n s t v e a b c d =
      let x : ◌≡◌ {A = Outcome (ℕ × ℕ)} (Ok (end, kept)) (Err q) = ap (λ (x : Rewrote). x.answer) e in
      let z : ◌≡◌ {A = ℕ} 0 1 = cc in absurd (omega arith)
  step_done (Ok u) end kept n s t v e a b c d =
      let sizes : ◌≡◌ {A = ℕ × ℕ} (end, kept) (sizes_with ml? u) = done_inj (ap (λ (x : Rewrote). x.answer) e) in
      let text : n.mm ≡ length u.text = b ∙ ap (λ (p : ℕ × ℕ). p.0) sizes in
      let ml_is = ml_then ml? u kept n.ml v (ap (λ (p : ℕ × ℕ). p.1) sizes) c (ap (λ (x : Rewrote). x.ml) e) in
      λ j. came (Ok (record { seq = a j; text = text j; ml = ml_is.0 j })) (d j) (e j).text (ml_is.1 j)
    where
      ml_then : (b : Bool) (u : Tag) (kept k : ℕ) (v : List ℕ) → kept ≡ length (values_with b u) → k ≡ cond b kept m.lengths.ml
          → v ≡ over (values_with b u) m.ml
          → (k ≡ cond b (length (cond b u.ml (held_in m).ml)) m.lengths.ml) × (v ≡ cond b (over (cond b u.ml (held_in m).ml) m.ml) m.ml)
      ml_then true u kept k v p q r = (q ∙ p, r)
      ml_then false u kept k v p q r = (q, r ∙ sym (over_none m.ml))

-- ---- the three steps

module _ (ml? : Bool) (m : Memory) (i : Ordered ml? m) where
  pub mask_is_step : (places after : List ℕ) → after ≡ masked (among places) (held_in m).seq
      → stored_with ml? m after (edited (masked_to after) ml? (held_in m).seq (held_in m).text (held_in m).ml) ≡ step_in_memory ml? (mask places) m
  unfolding step_in_memory steppedTo
  mask_is_step places after e = rw e (sym (ordered_is ml? m i _))

  pub drop_is_step : (places marks : List ℕ) → ((p : ℕ) → p < length (held_in m).seq → is_marked marks p ≡ among places p)
      → stored_with ml? m (held_in m).seq (edited (window_edit 0 (held_in m).seq marks) ml? (held_in m).seq (held_in m).text (held_in m).ml)
      ≡ step_in_memory ml? (drop_calls places) m
  unfolding step_in_memory steppedTo
  drop_is_step places marks e =
      rw (← drop_by_marks ml? (held_in m).seq (held_in m).text (held_in m).ml places marks e) (sym (ordered_is ml? m i _))

  module _ (front back : ℕ) where
    pub cut_nothing : front + back ≡ 0 → step_in_memory ml? (cut front back) m ≡ refuse 21
    unfolding step_in_memory steppedTo
    cut_nothing z = ordered_is ml? m i _ ∙ rw (eq-eqb (front + back) 0 z)

    module _ (some : front + back ≡ 0 → ⊥) where
      pub cut_too_much : length (held_in m).seq < front + back → step_in_memory ml? (cut front back) m ≡ refuse 11
      unfolding step_in_memory steppedTo
      cut_too_much l = ordered_is ml? m i _ ∙ rw (ne_eqb (front + back) 0 some, lt-leb (front + back) (length (held_in m).seq) l)

      pub cut_is_step : (n : ℕ) → front + back ≤ length (held_in m).seq → n ≡ length (held_in m).seq - (front + back)
          → stored_with ml? m (window front n (held_in m).seq)
          (edited (cut_to front (window front n (held_in m).seq)) ml? (held_in m).seq (held_in m).text (held_in m).ml)
          ≡ step_in_memory ml? (cut front back) m
      unfolding step_in_memory steppedTo
      cut_is_step n l e =
          sym (ordered_is ml? m i _ ∙ rw (ne_eqb (front + back) 0 some, le-leb (front + back) (length (held_in m).seq) l, ← e))

-- lengths that are out of order refuse every step
pub refused_by_order : (ml? : Bool) (m : Memory) (t : Step) (r : Refusal) → tests ml? m ≡ Err r → step_in_memory ml? t m ≡ Err r
unfolding step_in_memory
refused_by_order ml? m t r e = order_refused ml? m _ r e

-- ---- from the answer to what was done

-- A step's answer tells what the step came to: the rows and lengths that the next one finds, and the number.
pub by_answer : (m : Memory) (old : Declared) → m.lengths ≡ lengths_of old → (r : Outcome Declared) (o : Outcome Memory) (s t v : List ℕ)
    → came (step_says r) s t v ≡ leaves_memory m o → (memory s t v (lengths_after r old) ≡ after_step m o) × (number_of (step_says r) ≡ number_of o)
unfolding leaves_memory
by_answer m old l (Ok n) (Ok k) s t v e =
    let is : lengths_of n ≡ k.lengths = done_inj (ap (λ (x : Came). x.answer) e) in
    (λ j. record { seq = (e j).seq; text = (e j).text; ml = (e j).ml; lengths = is j }, refl)
by_answer m old l (Ok n) (Err q) s t v e =
    let x : ◌≡◌ {A = Outcome Lengths} (Ok (lengths_of n)) (Err q) = ap (λ (x : Came). x.answer) e in
    let z : ◌≡◌ {A = ℕ} 0 1 = cc in absurd (omega arith)
by_answer m old l (Err r) (Ok k) s t v e =
    let x : ◌≡◌ {A = Outcome Lengths} (Err r) (Ok k.lengths) = ap (λ (x : Came). x.answer) e in
    let z : ◌≡◌ {A = ℕ} 0 1 = cc in absurd (omega arith)
by_answer m old l (Err r) (Err q) s t v e =
    (λ j. record { seq = (e j).seq; text = (e j).text; ml = (e j).ml; lengths = sym l j }, ap (λ (x : Came). number_of x.answer) e)

use Rattle.drafting.specs.declared.Cursor.{Cursor}
use mathlib.Core.Path.{◌∙◌, ◌≡◌, ap, refl, subst, sym}
use Prim.Native.Nat.{◌+◌, ◌-◌, ◌<◌, ◌≤◌, min, ℕ}
use native.Mathlib.Omega.{arith}
use mathlib.Core.List.{List}
use lib.ListN.{drop, length, length-drop}
use borrow.Rule.Slice.PartMut.{mid_of, put_mid, same_len_mid}
use Rattle.changing.specs.Drafts.{draft}
use Rattle.changing.specs.Windows.{is_marked, window_edit}
use Rattle.drafting.proofs.DraftLaws.{groups_refused, groups_turn, put_none, put_refused}
use Rattle.drafting.specs.Walks.{GroupEdited, TagEdited, edited_groups, tag_put}
use Rattle.overwriting.proofs.AheadLaws.{GroupThere, group_ahead, group_there}
use Rattle.moving.proofs.RowLaws.{ahead_of, part_ahead, same_later}
use Rattle.lent.proofs.Stores.{part_back, part_lent}
use Rattle.lent.specs.Outcome.{Outcome, on_done}
use Rattle.samtags.specs.Edits.{Edit}
use Rattle.samtags.specs.Reading.{read_group, read_groups}
use Rattle.samtags.specs.Spots.{Group}
use Rattle.samtags.specs.Text.{closed_by, up_to}
use Rattle.places.proofs.TextLaws.{ahead, groups_done, groups_over}
use Rattle.lent.proofs.Outcome.{passed_on}
use Rattle.overwriting.proofs.edit_groups.Goals as goal

pub loop-c-init : goal.loop-c-init
loop-c-init c = (omega arith, omega arith, omega arith, omega arith, refl, refl, refl, refl, refl)

pub edit_group-requires : goal.edit_group-requires
edit_group-requires c =
    let inside : c.loop-c.c.at < length c.args.text.now = omega arith in
    let t = c.args.text.now in
    let part = mid_of c.loop-c.c.end (length c.loop-c.text - c.loop-c.c.end) c.loop-c.text in
    let ml_part = mid_of c.loop-c.c.kept (length c.loop-c.ml - c.loop-c.c.kept) c.loop-c.ml in
    let long : length part ≡ length c.loop-c.text - c.loop-c.c.end = ap length (part_lent c.loop-c.text c.loop-c.c.end) ∙ length-drop c.loop-c.c.end c.loop-c.text in
    let ml_long : length ml_part ≡ length c.loop-c.ml - c.loop-c.c.kept = ap length (part_lent c.loop-c.ml c.loop-c.c.kept) ∙ length-drop c.loop-c.c.kept c.loop-c.ml in
    let there : drop (c.loop-c.c.at - c.loop-c.c.end) part ≡ drop c.loop-c.c.at t =
    ap (drop (c.loop-c.c.at - c.loop-c.c.end)) (part_lent c.loop-c.text c.loop-c.c.end) ∙ ahead_of c.loop-c.text t c.loop-c.c.end c.loop-c.c.at c.loop-c.invariant.2 c.loop-c.invariant.5 in
    let size : length (up_to 59 (drop (c.loop-c.c.at - c.loop-c.c.end) part)) ≡ length (up_to 59 (drop c.loop-c.c.at t)) =
    ap (λ (l : List ℕ). length (up_to 59 l)) there in
    let far = ahead t c.loop-c.c.at (inside) c.requires.3 in record {
      seq_len_bound = (
        c.requires.0,
        omega (
          arith,
          long,
          c.loop-c.invariant.7,
          c.requires.1,
        ),
        omega (
          arith,
          ml_long,
          c.loop-c.invariant.8,
          c.requires.2,
        ),
        c.window_of-window.ensures.1,
      );
      text_in_bounds = omega (arith, long, size, far, c.loop-c.invariant.2, c.loop-c.invariant.7);
      used_in_bounds = omega (arith, ml_long, c.loop-c.invariant.1, c.loop-c.invariant.3, c.loop-c.invariant.8);
    }

pub shape_of-text-in_err-group : goal.shape_of-text-in_err-group
shape_of-text-in_err-group c =
    let text_after : List ℕ = put_mid c.loop-c.c.end (length c.loop-c.text - c.loop-c.c.end) c.loop-c.text c.edit_group.new.text in
    let text_length : length (text_after) ≡ length c.args.text.now = same_len_mid c.loop-c.c.end (length c.loop-c.text - c.loop-c.c.end) c.loop-c.text c.edit_group.new.text
    c.edit_group.auto.text ∙ c.loop-c.invariant.7 in
    text_length

pub shape_of-ml-in_err-group : goal.shape_of-ml-in_err-group
shape_of-ml-in_err-group c =
    let ml_after : List ℕ = put_mid c.loop-c.c.kept (length c.loop-c.ml - c.loop-c.c.kept) c.loop-c.ml c.edit_group.new.ml in
    let ml_length : length (ml_after) ≡ length c.args.ml.now = same_len_mid c.loop-c.c.kept (length c.loop-c.ml - c.loop-c.c.kept) c.loop-c.ml c.edit_group.new.ml
    c.edit_group.auto.ml ∙ c.loop-c.invariant.8 in
    ml_length

pub returns-in_err-group : goal.returns-in_err-group
returns-in_err-group c =
    let inside : c.loop-c.c.at < length c.args.text.now = omega arith in
    let group : (r : Outcome Cursor) → c.edit_group.result ≡ r → GroupThere (window_edit c.args.lo c.args.after.now c.args.marks.now) c.args.text.now c.args.ml.now c.loop-c.c (read_group c.args.has_ml (is_marked c.args.marks.now) c.args.seq.now (up_to 59 (drop c.loop-c.c.at c.args.text.now)) (drop c.loop-c.c.used c.args.ml.now)) c.loop-c.text c.loop-c.ml r c.edit_group.new.text c.edit_group.new.ml = λ r e. (let edit : ℕ → Edit = λ n. window_edit n c.args.after.now c.args.marks.now in
    let read : List ℕ → List ℕ → Outcome (Group × List ℕ) = λ text ml.
    read_group c.args.has_ml (is_marked c.args.marks.now) c.args.seq.now (up_to 59 text) ml in
    let says : ℕ → List ℕ → List ℕ → Outcome Cursor → Type 0 = λ n t v x.
    GroupEdited (edit n) t v (c.loop-c.c.at - c.loop-c.c.end) (c.loop-c.c.used - c.loop-c.c.kept) (read (drop (c.loop-c.c.at - c.loop-c.c.end) t) (drop (c.loop-c.c.used - c.loop-c.c.kept) v))
    t v x c.edit_group.new.text c.edit_group.new.ml in
    group_there (edit c.args.lo) c.args.text.now c.args.ml.now c.loop-c.text c.loop-c.ml c.loop-c.c c.loop-c.invariant.2 c.loop-c.invariant.3 (omega (arith, c.loop-c.invariant)) c.loop-c.invariant.5 c.loop-c.invariant.6
    c.loop-c.invariant.8 read r c.edit_group.new.text c.edit_group.new.ml
    (subst (says c.args.lo (drop c.loop-c.c.end c.loop-c.text) (drop c.loop-c.c.kept c.loop-c.ml)) e
    (subst (λ (v : List ℕ). says c.args.lo (drop c.loop-c.c.end c.loop-c.text) v c.edit_group.result) (part_lent c.loop-c.ml c.loop-c.c.kept)
    (subst (λ (t : List ℕ). says c.args.lo t (mid_of c.loop-c.c.kept (length c.loop-c.ml - c.loop-c.c.kept) c.loop-c.ml) c.edit_group.result) (part_lent c.loop-c.text
    c.loop-c.c.end)
    (subst (λ (n : ℕ). says n (mid_of c.loop-c.c.end (length c.loop-c.text - c.loop-c.c.end) c.loop-c.text) (mid_of c.loop-c.c.kept (length c.loop-c.ml - c.loop-c.c.kept) c.loop-c.ml)
    c.edit_group.result) c.window_of-window.ensures.0 c.edit_group.ensures))))) in
    let text_after : List ℕ = put_mid c.loop-c.c.end (length c.loop-c.text - c.loop-c.c.end) c.loop-c.text c.edit_group.new.text in
    let ml_after : List ℕ = put_mid c.loop-c.c.kept (length c.loop-c.ml - c.loop-c.c.kept) c.loop-c.ml c.edit_group.new.ml in
    let e = window_edit c.args.lo c.args.after.now c.args.marks.now in
    subst (λ (x : Outcome Cursor). TagEdited e (read_groups c.args.has_ml (is_marked c.args.marks.now) c.args.seq.now (closed_by 59 c.args.text.now) c.args.ml.now)
    c.args.text.now c.args.ml.now x (text_after) (ml_after)) (sym (passed_on _ _ c.from_residual.ensures.1))
    (put_refused e (draft c.args.text.now 0 c.args.ml.now 0) _ c.in_err-group.field-0.0 (c.loop-c.invariant.4
    ∙ ap (λ (o : Outcome (List Group)). on_done (tag_put (draft c.loop-c.text c.loop-c.c.end c.loop-c.ml c.loop-c.c.kept)) (edited_groups e o))
    (groups_refused e c.args.has_ml c.args.seq.now c.args.text.now c.loop-c.c.at (inside)
    c.requires.3 (drop c.loop-c.c.used
    c.args.ml.now) c.in_err-group.field-0.0
    (group _ c.in_err-group.was))))

pub overflow_add-c : goal.overflow_add-c
overflow_add-c c =
    let inside : c.loop-c.c.at < length c.args.text.now = omega arith in
    let group : (r : Outcome Cursor) → c.edit_group.result ≡ r → GroupThere (window_edit c.args.lo c.args.after.now c.args.marks.now) c.args.text.now c.args.ml.now c.loop-c.c (read_group c.args.has_ml (is_marked c.args.marks.now) c.args.seq.now (up_to 59 (drop c.loop-c.c.at c.args.text.now)) (drop c.loop-c.c.used c.args.ml.now)) c.loop-c.text c.loop-c.ml r c.edit_group.new.text c.edit_group.new.ml = λ r e. (let edit : ℕ → Edit = λ n. window_edit n c.args.after.now c.args.marks.now in
    let read : List ℕ → List ℕ → Outcome (Group × List ℕ) = λ text ml.
    read_group c.args.has_ml (is_marked c.args.marks.now) c.args.seq.now (up_to 59 text) ml in
    let says : ℕ → List ℕ → List ℕ → Outcome Cursor → Type 0 = λ n t v x.
    GroupEdited (edit n) t v (c.loop-c.c.at - c.loop-c.c.end) (c.loop-c.c.used - c.loop-c.c.kept) (read (drop (c.loop-c.c.at - c.loop-c.c.end) t) (drop (c.loop-c.c.used - c.loop-c.c.kept) v))
    t v x c.edit_group.new.text c.edit_group.new.ml in
    group_there (edit c.args.lo) c.args.text.now c.args.ml.now c.loop-c.text c.loop-c.ml c.loop-c.c c.loop-c.invariant.2 c.loop-c.invariant.3 (omega (arith, c.loop-c.invariant)) c.loop-c.invariant.5 c.loop-c.invariant.6
    c.loop-c.invariant.8 read r c.edit_group.new.text c.edit_group.new.ml
    (subst (says c.args.lo (drop c.loop-c.c.end c.loop-c.text) (drop c.loop-c.c.kept c.loop-c.ml)) e
    (subst (λ (v : List ℕ). says c.args.lo (drop c.loop-c.c.end c.loop-c.text) v c.edit_group.result) (part_lent c.loop-c.ml c.loop-c.c.kept)
    (subst (λ (t : List ℕ). says c.args.lo t (mid_of c.loop-c.c.kept (length c.loop-c.ml - c.loop-c.c.kept) c.loop-c.ml) c.edit_group.result) (part_lent c.loop-c.text
    c.loop-c.c.end)
    (subst (λ (n : ℕ). says n (mid_of c.loop-c.c.end (length c.loop-c.text - c.loop-c.c.end) c.loop-c.text) (mid_of c.loop-c.c.kept (length c.loop-c.ml - c.loop-c.c.kept) c.loop-c.ml)
    c.edit_group.result) c.window_of-window.ensures.0 c.edit_group.ensures))))) in
    let bounds : (c.loop-c.c.end + c.in_ok-group.group.at ≤ length c.args.text.now) × (c.loop-c.c.kept + c.in_ok-group.group.used ≤ length c.args.ml.now) × (c.in_ok-group.group.end ≤ c.in_ok-group.group.at) × (c.in_ok-group.group.kept ≤ c.in_ok-group.group.used) × (length c.args.text.now ≤ 65536) × (length c.args.ml.now ≤ 65536) = (let x = group _ c.in_ok-group.was in (
      omega (
        arith,
        x.0,
        ahead c.args.text.now c.loop-c.c.at (inside)
            c.requires.3,
      ),
      x.1,
      omega (arith, x.2, c.loop-c.invariant.2),
      omega (arith, x.3, c.loop-c.invariant.3),
      c.requires.1,
      c.requires.2,
    )) in
    omega (arith, bounds)

pub overflow_add-c-in-loop-c : goal.overflow_add-c-in-loop-c
overflow_add-c-in-loop-c c =
    let inside : c.loop-c.c.at < length c.args.text.now = omega arith in
    let group : (r : Outcome Cursor) → c.edit_group.result ≡ r → GroupThere (window_edit c.args.lo c.args.after.now c.args.marks.now) c.args.text.now c.args.ml.now c.loop-c.c (read_group c.args.has_ml (is_marked c.args.marks.now) c.args.seq.now (up_to 59 (drop c.loop-c.c.at c.args.text.now)) (drop c.loop-c.c.used c.args.ml.now)) c.loop-c.text c.loop-c.ml r c.edit_group.new.text c.edit_group.new.ml = λ r e. (let edit : ℕ → Edit = λ n. window_edit n c.args.after.now c.args.marks.now in
    let read : List ℕ → List ℕ → Outcome (Group × List ℕ) = λ text ml.
    read_group c.args.has_ml (is_marked c.args.marks.now) c.args.seq.now (up_to 59 text) ml in
    let says : ℕ → List ℕ → List ℕ → Outcome Cursor → Type 0 = λ n t v x.
    GroupEdited (edit n) t v (c.loop-c.c.at - c.loop-c.c.end) (c.loop-c.c.used - c.loop-c.c.kept) (read (drop (c.loop-c.c.at - c.loop-c.c.end) t) (drop (c.loop-c.c.used - c.loop-c.c.kept) v))
    t v x c.edit_group.new.text c.edit_group.new.ml in
    group_there (edit c.args.lo) c.args.text.now c.args.ml.now c.loop-c.text c.loop-c.ml c.loop-c.c c.loop-c.invariant.2 c.loop-c.invariant.3 (omega (arith, c.loop-c.invariant)) c.loop-c.invariant.5 c.loop-c.invariant.6
    c.loop-c.invariant.8 read r c.edit_group.new.text c.edit_group.new.ml
    (subst (says c.args.lo (drop c.loop-c.c.end c.loop-c.text) (drop c.loop-c.c.kept c.loop-c.ml)) e
    (subst (λ (v : List ℕ). says c.args.lo (drop c.loop-c.c.end c.loop-c.text) v c.edit_group.result) (part_lent c.loop-c.ml c.loop-c.c.kept)
    (subst (λ (t : List ℕ). says c.args.lo t (mid_of c.loop-c.c.kept (length c.loop-c.ml - c.loop-c.c.kept) c.loop-c.ml) c.edit_group.result) (part_lent c.loop-c.text
    c.loop-c.c.end)
    (subst (λ (n : ℕ). says n (mid_of c.loop-c.c.end (length c.loop-c.text - c.loop-c.c.end) c.loop-c.text) (mid_of c.loop-c.c.kept (length c.loop-c.ml - c.loop-c.c.kept) c.loop-c.ml)
    c.edit_group.result) c.window_of-window.ensures.0 c.edit_group.ensures))))) in
    let bounds : (c.loop-c.c.end + c.in_ok-group.group.at ≤ length c.args.text.now) × (c.loop-c.c.kept + c.in_ok-group.group.used ≤ length c.args.ml.now) × (c.in_ok-group.group.end ≤ c.in_ok-group.group.at) × (c.in_ok-group.group.kept ≤ c.in_ok-group.group.used) × (length c.args.text.now ≤ 65536) × (length c.args.ml.now ≤ 65536) = (let x = group _ c.in_ok-group.was in (
      omega (
        arith,
        x.0,
        ahead c.args.text.now c.loop-c.c.at (inside)
            c.requires.3,
      ),
      x.1,
      omega (arith, x.2, c.loop-c.invariant.2),
      omega (arith, x.3, c.loop-c.invariant.3),
      c.requires.1,
      c.requires.2,
    )) in
    omega (arith, bounds)

pub overflow_add-c-in-loop-c-2 : goal.overflow_add-c-in-loop-c-2
overflow_add-c-in-loop-c-2 c =
    let inside : c.loop-c.c.at < length c.args.text.now = omega arith in
    let group : (r : Outcome Cursor) → c.edit_group.result ≡ r → GroupThere (window_edit c.args.lo c.args.after.now c.args.marks.now) c.args.text.now c.args.ml.now c.loop-c.c (read_group c.args.has_ml (is_marked c.args.marks.now) c.args.seq.now (up_to 59 (drop c.loop-c.c.at c.args.text.now)) (drop c.loop-c.c.used c.args.ml.now)) c.loop-c.text c.loop-c.ml r c.edit_group.new.text c.edit_group.new.ml = λ r e. (let edit : ℕ → Edit = λ n. window_edit n c.args.after.now c.args.marks.now in
    let read : List ℕ → List ℕ → Outcome (Group × List ℕ) = λ text ml.
    read_group c.args.has_ml (is_marked c.args.marks.now) c.args.seq.now (up_to 59 text) ml in
    let says : ℕ → List ℕ → List ℕ → Outcome Cursor → Type 0 = λ n t v x.
    GroupEdited (edit n) t v (c.loop-c.c.at - c.loop-c.c.end) (c.loop-c.c.used - c.loop-c.c.kept) (read (drop (c.loop-c.c.at - c.loop-c.c.end) t) (drop (c.loop-c.c.used - c.loop-c.c.kept) v))
    t v x c.edit_group.new.text c.edit_group.new.ml in
    group_there (edit c.args.lo) c.args.text.now c.args.ml.now c.loop-c.text c.loop-c.ml c.loop-c.c c.loop-c.invariant.2 c.loop-c.invariant.3 (omega (arith, c.loop-c.invariant)) c.loop-c.invariant.5 c.loop-c.invariant.6
    c.loop-c.invariant.8 read r c.edit_group.new.text c.edit_group.new.ml
    (subst (says c.args.lo (drop c.loop-c.c.end c.loop-c.text) (drop c.loop-c.c.kept c.loop-c.ml)) e
    (subst (λ (v : List ℕ). says c.args.lo (drop c.loop-c.c.end c.loop-c.text) v c.edit_group.result) (part_lent c.loop-c.ml c.loop-c.c.kept)
    (subst (λ (t : List ℕ). says c.args.lo t (mid_of c.loop-c.c.kept (length c.loop-c.ml - c.loop-c.c.kept) c.loop-c.ml) c.edit_group.result) (part_lent c.loop-c.text
    c.loop-c.c.end)
    (subst (λ (n : ℕ). says n (mid_of c.loop-c.c.end (length c.loop-c.text - c.loop-c.c.end) c.loop-c.text) (mid_of c.loop-c.c.kept (length c.loop-c.ml - c.loop-c.c.kept) c.loop-c.ml)
    c.edit_group.result) c.window_of-window.ensures.0 c.edit_group.ensures))))) in
    let bounds : (c.loop-c.c.end + c.in_ok-group.group.at ≤ length c.args.text.now) × (c.loop-c.c.kept + c.in_ok-group.group.used ≤ length c.args.ml.now) × (c.in_ok-group.group.end ≤ c.in_ok-group.group.at) × (c.in_ok-group.group.kept ≤ c.in_ok-group.group.used) × (length c.args.text.now ≤ 65536) × (length c.args.ml.now ≤ 65536) = (let x = group _ c.in_ok-group.was in (
      omega (
        arith,
        x.0,
        ahead c.args.text.now c.loop-c.c.at (inside)
            c.requires.3,
      ),
      x.1,
      omega (arith, x.2, c.loop-c.invariant.2),
      omega (arith, x.3, c.loop-c.invariant.3),
      c.requires.1,
      c.requires.2,
    )) in
    omega (arith, bounds)

pub overflow_add-c-in-loop-c-3 : goal.overflow_add-c-in-loop-c-3
overflow_add-c-in-loop-c-3 c =
    let inside : c.loop-c.c.at < length c.args.text.now = omega arith in
    let group : (r : Outcome Cursor) → c.edit_group.result ≡ r → GroupThere (window_edit c.args.lo c.args.after.now c.args.marks.now) c.args.text.now c.args.ml.now c.loop-c.c (read_group c.args.has_ml (is_marked c.args.marks.now) c.args.seq.now (up_to 59 (drop c.loop-c.c.at c.args.text.now)) (drop c.loop-c.c.used c.args.ml.now)) c.loop-c.text c.loop-c.ml r c.edit_group.new.text c.edit_group.new.ml = λ r e. (let edit : ℕ → Edit = λ n. window_edit n c.args.after.now c.args.marks.now in
    let read : List ℕ → List ℕ → Outcome (Group × List ℕ) = λ text ml.
    read_group c.args.has_ml (is_marked c.args.marks.now) c.args.seq.now (up_to 59 text) ml in
    let says : ℕ → List ℕ → List ℕ → Outcome Cursor → Type 0 = λ n t v x.
    GroupEdited (edit n) t v (c.loop-c.c.at - c.loop-c.c.end) (c.loop-c.c.used - c.loop-c.c.kept) (read (drop (c.loop-c.c.at - c.loop-c.c.end) t) (drop (c.loop-c.c.used - c.loop-c.c.kept) v))
    t v x c.edit_group.new.text c.edit_group.new.ml in
    group_there (edit c.args.lo) c.args.text.now c.args.ml.now c.loop-c.text c.loop-c.ml c.loop-c.c c.loop-c.invariant.2 c.loop-c.invariant.3 (omega (arith, c.loop-c.invariant)) c.loop-c.invariant.5 c.loop-c.invariant.6
    c.loop-c.invariant.8 read r c.edit_group.new.text c.edit_group.new.ml
    (subst (says c.args.lo (drop c.loop-c.c.end c.loop-c.text) (drop c.loop-c.c.kept c.loop-c.ml)) e
    (subst (λ (v : List ℕ). says c.args.lo (drop c.loop-c.c.end c.loop-c.text) v c.edit_group.result) (part_lent c.loop-c.ml c.loop-c.c.kept)
    (subst (λ (t : List ℕ). says c.args.lo t (mid_of c.loop-c.c.kept (length c.loop-c.ml - c.loop-c.c.kept) c.loop-c.ml) c.edit_group.result) (part_lent c.loop-c.text
    c.loop-c.c.end)
    (subst (λ (n : ℕ). says n (mid_of c.loop-c.c.end (length c.loop-c.text - c.loop-c.c.end) c.loop-c.text) (mid_of c.loop-c.c.kept (length c.loop-c.ml - c.loop-c.c.kept) c.loop-c.ml)
    c.edit_group.result) c.window_of-window.ensures.0 c.edit_group.ensures))))) in
    let bounds : (c.loop-c.c.end + c.in_ok-group.group.at ≤ length c.args.text.now) × (c.loop-c.c.kept + c.in_ok-group.group.used ≤ length c.args.ml.now) × (c.in_ok-group.group.end ≤ c.in_ok-group.group.at) × (c.in_ok-group.group.kept ≤ c.in_ok-group.group.used) × (length c.args.text.now ≤ 65536) × (length c.args.ml.now ≤ 65536) = (let x = group _ c.in_ok-group.was in (
      omega (
        arith,
        x.0,
        ahead c.args.text.now c.loop-c.c.at (inside)
            c.requires.3,
      ),
      x.1,
      omega (arith, x.2, c.loop-c.invariant.2),
      omega (arith, x.3, c.loop-c.invariant.3),
      c.requires.1,
      c.requires.2,
    )) in
    omega (arith, bounds)

pub loop-c-smaller : goal.loop-c-smaller
loop-c-smaller c =
    let inside : c.loop-c.c.at < length c.args.text.now = omega arith in
    let group : (r : Outcome Cursor) → c.edit_group.result ≡ r → GroupThere (window_edit c.args.lo c.args.after.now c.args.marks.now) c.args.text.now c.args.ml.now c.loop-c.c (read_group c.args.has_ml (is_marked c.args.marks.now) c.args.seq.now (up_to 59 (drop c.loop-c.c.at c.args.text.now)) (drop c.loop-c.c.used c.args.ml.now)) c.loop-c.text c.loop-c.ml r c.edit_group.new.text c.edit_group.new.ml = λ r e. (let edit : ℕ → Edit = λ n. window_edit n c.args.after.now c.args.marks.now in
    let read : List ℕ → List ℕ → Outcome (Group × List ℕ) = λ text ml.
    read_group c.args.has_ml (is_marked c.args.marks.now) c.args.seq.now (up_to 59 text) ml in
    let says : ℕ → List ℕ → List ℕ → Outcome Cursor → Type 0 = λ n t v x.
    GroupEdited (edit n) t v (c.loop-c.c.at - c.loop-c.c.end) (c.loop-c.c.used - c.loop-c.c.kept) (read (drop (c.loop-c.c.at - c.loop-c.c.end) t) (drop (c.loop-c.c.used - c.loop-c.c.kept) v))
    t v x c.edit_group.new.text c.edit_group.new.ml in
    group_there (edit c.args.lo) c.args.text.now c.args.ml.now c.loop-c.text c.loop-c.ml c.loop-c.c c.loop-c.invariant.2 c.loop-c.invariant.3 (omega (arith, c.loop-c.invariant)) c.loop-c.invariant.5 c.loop-c.invariant.6
    c.loop-c.invariant.8 read r c.edit_group.new.text c.edit_group.new.ml
    (subst (says c.args.lo (drop c.loop-c.c.end c.loop-c.text) (drop c.loop-c.c.kept c.loop-c.ml)) e
    (subst (λ (v : List ℕ). says c.args.lo (drop c.loop-c.c.end c.loop-c.text) v c.edit_group.result) (part_lent c.loop-c.ml c.loop-c.c.kept)
    (subst (λ (t : List ℕ). says c.args.lo t (mid_of c.loop-c.c.kept (length c.loop-c.ml - c.loop-c.c.kept) c.loop-c.ml) c.edit_group.result) (part_lent c.loop-c.text
    c.loop-c.c.end)
    (subst (λ (n : ℕ). says n (mid_of c.loop-c.c.end (length c.loop-c.text - c.loop-c.c.end) c.loop-c.text) (mid_of c.loop-c.c.kept (length c.loop-c.ml - c.loop-c.c.kept) c.loop-c.ml)
    c.edit_group.result) c.window_of-window.ensures.0 c.edit_group.ensures))))) in
    let x = group _ c.in_ok-group.was in
    omega (arith, x.0, inside)

pub loop-c-preserved : goal.loop-c-preserved
loop-c-preserved c =
    let inside : c.loop-c.c.at < length c.args.text.now = omega arith in
    let group : (r : Outcome Cursor) → c.edit_group.result ≡ r → GroupThere (window_edit c.args.lo c.args.after.now c.args.marks.now) c.args.text.now c.args.ml.now c.loop-c.c (read_group c.args.has_ml (is_marked c.args.marks.now) c.args.seq.now (up_to 59 (drop c.loop-c.c.at c.args.text.now)) (drop c.loop-c.c.used c.args.ml.now)) c.loop-c.text c.loop-c.ml r c.edit_group.new.text c.edit_group.new.ml = λ r e. (let edit : ℕ → Edit = λ n. window_edit n c.args.after.now c.args.marks.now in
    let read : List ℕ → List ℕ → Outcome (Group × List ℕ) = λ text ml.
    read_group c.args.has_ml (is_marked c.args.marks.now) c.args.seq.now (up_to 59 text) ml in
    let says : ℕ → List ℕ → List ℕ → Outcome Cursor → Type 0 = λ n t v x.
    GroupEdited (edit n) t v (c.loop-c.c.at - c.loop-c.c.end) (c.loop-c.c.used - c.loop-c.c.kept) (read (drop (c.loop-c.c.at - c.loop-c.c.end) t) (drop (c.loop-c.c.used - c.loop-c.c.kept) v))
    t v x c.edit_group.new.text c.edit_group.new.ml in
    group_there (edit c.args.lo) c.args.text.now c.args.ml.now c.loop-c.text c.loop-c.ml c.loop-c.c c.loop-c.invariant.2 c.loop-c.invariant.3 (omega (arith, c.loop-c.invariant)) c.loop-c.invariant.5 c.loop-c.invariant.6
    c.loop-c.invariant.8 read r c.edit_group.new.text c.edit_group.new.ml
    (subst (says c.args.lo (drop c.loop-c.c.end c.loop-c.text) (drop c.loop-c.c.kept c.loop-c.ml)) e
    (subst (λ (v : List ℕ). says c.args.lo (drop c.loop-c.c.end c.loop-c.text) v c.edit_group.result) (part_lent c.loop-c.ml c.loop-c.c.kept)
    (subst (λ (t : List ℕ). says c.args.lo t (mid_of c.loop-c.c.kept (length c.loop-c.ml - c.loop-c.c.kept) c.loop-c.ml) c.edit_group.result) (part_lent c.loop-c.text
    c.loop-c.c.end)
    (subst (λ (n : ℕ). says n (mid_of c.loop-c.c.end (length c.loop-c.text - c.loop-c.c.end) c.loop-c.text) (mid_of c.loop-c.c.kept (length c.loop-c.ml - c.loop-c.c.kept) c.loop-c.ml)
    c.edit_group.result) c.window_of-window.ensures.0 c.edit_group.ensures))))) in
    let text_after : List ℕ = put_mid c.loop-c.c.end (length c.loop-c.text - c.loop-c.c.end) c.loop-c.text c.edit_group.new.text in
    let ml_after : List ℕ = put_mid c.loop-c.c.kept (length c.loop-c.ml - c.loop-c.c.kept) c.loop-c.ml c.edit_group.new.ml in
    let text_length : length (text_after) ≡ length c.args.text.now = same_len_mid c.loop-c.c.end (length c.loop-c.text - c.loop-c.c.end) c.loop-c.text c.edit_group.new.text
    c.edit_group.auto.text ∙ c.loop-c.invariant.7 in
    let ml_length : length (ml_after) ≡ length c.args.ml.now = same_len_mid c.loop-c.c.kept (length c.loop-c.ml - c.loop-c.c.kept) c.loop-c.ml c.edit_group.new.ml
    c.edit_group.auto.ml ∙ c.loop-c.invariant.8 in
    let bounds : (c.loop-c.c.end + c.in_ok-group.group.at ≤ length c.args.text.now) × (c.loop-c.c.kept + c.in_ok-group.group.used ≤ length c.args.ml.now) × (c.in_ok-group.group.end ≤ c.in_ok-group.group.at) × (c.in_ok-group.group.kept ≤ c.in_ok-group.group.used) × (length c.args.text.now ≤ 65536) × (length c.args.ml.now ≤ 65536) = (let x = group _ c.in_ok-group.was in (
      omega (
        arith,
        x.0,
        ahead c.args.text.now c.loop-c.c.at (inside)
            c.requires.3,
      ),
      x.1,
      omega (arith, x.2, c.loop-c.invariant.2),
      omega (arith, x.3, c.loop-c.invariant.3),
      c.requires.1,
      c.requires.2,
    )) in
    let x = group _ c.in_ok-group.was in
    let b = bounds in
    let e = window_edit c.args.lo c.args.after.now c.args.marks.now in
    let room : c.loop-c.c.end ≤ length c.loop-c.text = omega (arith, c.loop-c.invariant) in
    let ml_room : c.loop-c.c.kept ≤ length c.loop-c.ml = omega (arith, c.loop-c.invariant) in
    let low : c.loop-c.c.end ≡ min c.loop-c.c.end (length c.loop-c.text) = omega arith in
    let ml-low : c.loop-c.c.kept ≡ min c.loop-c.c.kept (length c.loop-c.ml) = omega arith in
    let left = drop (c.loop-c.c.kept + c.in_ok-group.group.used) c.args.ml.now in
    let o = read_group c.args.has_ml (is_marked c.args.marks.now) c.args.seq.now (up_to 59 (drop c.loop-c.c.at c.args.text.now)) (drop c.loop-c.c.used
    c.args.ml.now) in
    let past = group_ahead e (draft (drop c.loop-c.c.end c.loop-c.text) 0 (drop c.loop-c.c.kept c.loop-c.ml) 0) o (draft c.edit_group.new.text c.in_ok-group.group.end c.edit_group.new.ml c.in_ok-group.group.kept) left
    x.4 in (
      b.0,
      b.1,
      omega (arith, b.2),
      omega (arith, b.3),
      c.loop-c.invariant.4
          ∙ groups_turn e c.args.has_ml c.args.seq.now c.args.text.now c.loop-c.c.at (inside)
          c.requires.3 (drop
          c.loop-c.c.used c.args.ml.now)
          c.loop-c.text c.loop-c.c.end c.loop-c.ml c.loop-c.c.kept c.loop-c.c.end c.loop-c.c.kept low ml-low (c.loop-c.c.end + c.in_ok-group.group.at) x.0
          c.edit_group.new.text c.in_ok-group.group.end c.edit_group.new.ml c.in_ok-group.group.kept left x.4
          ∙ (λ j. on_done (tag_put (draft (sym (part_back c.loop-c.text c.loop-c.c.end c.edit_group.new.text) j) (c.loop-c.c.end + c.in_ok-group.group.end)
          (sym (part_back c.loop-c.ml c.loop-c.c.kept c.edit_group.new.ml) j) (c.loop-c.c.kept + c.in_ok-group.group.kept))) (edited_groups e
          (read_groups c.args.has_ml (is_marked c.args.marks.now) c.args.seq.now (closed_by 59 (drop (c.loop-c.c.end + c.in_ok-group.group.at) c.args.text.now)) left))),
      part_ahead c.loop-c.text c.args.text.now c.loop-c.c.end c.in_ok-group.group.at c.edit_group.new.text room (past.0 c.in_ok-group.group.at b.2)
          (same_later c.loop-c.text c.args.text.now c.loop-c.c.at (c.loop-c.c.end + c.in_ok-group.group.at) (omega (arith, x.2)) c.loop-c.invariant.5),
      part_ahead c.loop-c.ml c.args.ml.now c.loop-c.c.kept c.in_ok-group.group.used c.edit_group.new.ml ml_room (past.1 c.in_ok-group.group.used b.3)
          (same_later c.loop-c.ml c.args.ml.now c.loop-c.c.used (c.loop-c.c.kept + c.in_ok-group.group.used) (omega (arith, x.3)) c.loop-c.invariant.6),
      text_length,
      ml_length,
    )

pub returns-then-c-ml : goal.returns-then-c-ml
returns-then-c-ml c =
    put_refused _ (draft c.args.text.now 0 c.args.ml.now 0) _ _ (c.loop-c.invariant.4
    ∙ ap (λ (o : Outcome (List Group)). on_done (tag_put (draft c.loop-c.text c.loop-c.c.end c.loop-c.ml c.loop-c.c.kept))
    (edited_groups (window_edit c.args.lo c.args.after.now c.args.marks.now) o))
    (groups_over c.args.has_ml (is_marked c.args.marks.now) c.args.seq.now c.args.text.now c.loop-c.c.at (omega arith) c.args.ml.now c.loop-c.c.used (omega
    arith)))

pub returns : goal.returns
returns c =
    let e = window_edit c.args.lo c.args.after.now c.args.marks.now in
    let w = draft c.loop-c.text c.loop-c.c.end c.loop-c.ml c.loop-c.c.kept in
    c.loop-c.invariant.4
    ∙ ap (λ (o : Outcome (List Group)). on_done (tag_put w) (edited_groups e o))
    (groups_done c.args.has_ml (is_marked c.args.marks.now) c.args.seq.now c.args.text.now c.loop-c.c.at (omega arith) c.args.ml.now c.loop-c.c.used (omega arith))
    ∙ put_none e w

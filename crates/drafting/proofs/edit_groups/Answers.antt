use Rattle.drafting.specs.declared.Cursor.{Cursor}
use mathlib.Core.Path.{◌∙◌, ◌≡◌, ap, refl, subst, sym}
use Prim.Native.Nat.{◌+◌, ◌-◌, ◌<◌, ℕ}
use native.Mathlib.Omega.{arith}
use mathlib.Core.List.{List}
use lib.ListN.{drop, length}
use borrow.Rule.Slice.PartMut.{mid_of, put_mid, same_len_mid}
use Rattle.drafting.proofs.DraftLaws.{groups_refused, groups_turn, put_none, put_refused}
use Rattle.changing.specs.Drafts.{draft}
use Rattle.drafting.specs.Walks.{GroupEdited, TagEdited, edited_groups, tag_put}
use Rattle.changing.specs.Windows.{is_marked, window_edit}
use Rattle.lent.proofs.Stores.{part_back, part_lent}
use Rattle.lent.specs.Outcome.{Outcome, on_done}
use Rattle.samtags.specs.Reading.{read_group, read_groups}
use Rattle.samtags.specs.Spots.{Group}
use Rattle.samtags.specs.Text.{closed_by, up_to}
use Rattle.places.proofs.TextLaws.{ahead, groups_done, groups_over}
use Rattle.lent.proofs.Outcome.{passed_on}
use Rattle.drafting.proofs.edit_groups.Goals as goal

pub loop-c-init : goal.loop-c-init
loop-c-init c = (omega arith, omega arith, omega arith, omega arith, refl, refl, refl)

pub edit_group-requires : goal.edit_group-requires
edit_group-requires c =
    let inside : c.loop-c.c.at < length c.args.text.now = omega arith in
    record {
      seq_len_bound = (omega arith, omega arith, omega arith, c.window_of-window.ensures.1);
      text_in_bounds = ahead
          c.args.text.now c.loop-c.c.at (inside)
          c.requires.3;
      used_in_bounds = omega arith;
    }

pub shape_of-out-in_err-group : goal.shape_of-out-in_err-group
shape_of-out-in_err-group c =
    let text_after : List ℕ = put_mid c.min-room.result (length c.loop-c.out - c.min-room.result) c.loop-c.out c.edit_group.new.out in
    let text_length : length (text_after) ≡ length c.args.out.now = same_len_mid c.min-room.result (length c.loop-c.out - c.min-room.result) c.loop-c.out c.edit_group.new.out
    c.edit_group.auto.out ∙ c.loop-c.invariant.5 in
    text_length

pub shape_of-ml_out-in_err-group : goal.shape_of-ml_out-in_err-group
shape_of-ml_out-in_err-group c =
    let ml_after : List ℕ = put_mid c.min-ml_room.result (length c.loop-c.ml_out - c.min-ml_room.result) c.loop-c.ml_out c.edit_group.new.ml_out in
    let ml_length : length (ml_after) ≡ length c.args.ml_out.now = same_len_mid c.min-ml_room.result (length c.loop-c.ml_out - c.min-ml_room.result) c.loop-c.ml_out c.edit_group.new.ml_out
    c.edit_group.auto.ml_out ∙ c.loop-c.invariant.6 in
    ml_length

pub returns-in_err-group : goal.returns-in_err-group
returns-in_err-group c =
    let group : (r : Outcome Cursor) → c.edit_group.result ≡ r → GroupEdited (window_edit c.args.lo c.args.after.now c.args.marks.now) c.args.text.now c.args.ml.now c.loop-c.c.at c.loop-c.c.used (read_group c.args.has_ml (is_marked c.args.marks.now) c.args.seq.now (up_to 59 (drop c.loop-c.c.at c.args.text.now)) (drop c.loop-c.c.used c.args.ml.now)) (drop c.min-room.result c.loop-c.out) (drop c.min-ml_room.result c.loop-c.ml_out) r c.edit_group.new.out c.edit_group.new.ml_out = λ r e. (let says : ℕ → List ℕ → List ℕ → Outcome Cursor → Type 0 = λ n t v x.
    GroupEdited (window_edit n c.args.after.now c.args.marks.now) c.args.text.now c.args.ml.now c.loop-c.c.at c.loop-c.c.used
    (read_group c.args.has_ml (is_marked c.args.marks.now) c.args.seq.now (up_to 59 (drop c.loop-c.c.at c.args.text.now)) (drop c.loop-c.c.used c.args.ml.now))
    t v x c.edit_group.new.out c.edit_group.new.ml_out in
    let room = c.min-room.result in
    let ml_room = c.min-ml_room.result in
    subst (λ (x : Outcome Cursor). says c.args.lo (drop room c.loop-c.out) (drop ml_room c.loop-c.ml_out) x) e
    (subst (λ (v : List ℕ). says c.args.lo (drop room c.loop-c.out) v c.edit_group.result) (part_lent c.loop-c.ml_out ml_room)
    (subst (λ (t : List ℕ). says c.args.lo t (mid_of ml_room (length c.loop-c.ml_out - ml_room) c.loop-c.ml_out) c.edit_group.result) (part_lent c.loop-c.out room)
    (subst (λ (n : ℕ). says n (mid_of room (length c.loop-c.out - room) c.loop-c.out) (mid_of ml_room (length c.loop-c.ml_out - ml_room) c.loop-c.ml_out) c.edit_group.result)
    c.window_of-window.ensures.0 c.edit_group.ensures)))) in
    let text_after : List ℕ = put_mid c.min-room.result (length c.loop-c.out - c.min-room.result) c.loop-c.out c.edit_group.new.out in
    let ml_after : List ℕ = put_mid c.min-ml_room.result (length c.loop-c.ml_out - c.min-ml_room.result) c.loop-c.ml_out c.edit_group.new.ml_out in
    let inside : c.loop-c.c.at < length c.args.text.now = omega arith in
    let e = window_edit c.args.lo c.args.after.now c.args.marks.now in
    subst (λ (x : Outcome Cursor). TagEdited e (read_groups c.args.has_ml (is_marked c.args.marks.now) c.args.seq.now (closed_by 59 c.args.text.now) c.args.ml.now)
    c.args.out.now c.args.ml_out.now x (text_after) (ml_after)) (sym (passed_on _ _ c.from_residual.ensures.1))
    (put_refused e (draft c.args.out.now 0 c.args.ml_out.now 0) _ c.in_err-group.field-0.0 (c.loop-c.invariant.4
    ∙ ap (λ (o : Outcome (List Group)). on_done (tag_put (draft c.loop-c.out c.loop-c.c.end c.loop-c.ml_out c.loop-c.c.kept)) (edited_groups e o))
    (groups_refused e c.args.has_ml c.args.seq.now c.args.text.now c.loop-c.c.at (inside)
    c.requires.3 (drop
    c.loop-c.c.used c.args.ml.now) c.in_err-group.field-0.0
    (group _ c.in_err-group.was))))

pub overflow_add-c : goal.overflow_add-c
overflow_add-c c =
    let group : (r : Outcome Cursor) → c.edit_group.result ≡ r → GroupEdited (window_edit c.args.lo c.args.after.now c.args.marks.now) c.args.text.now c.args.ml.now c.loop-c.c.at c.loop-c.c.used (read_group c.args.has_ml (is_marked c.args.marks.now) c.args.seq.now (up_to 59 (drop c.loop-c.c.at c.args.text.now)) (drop c.loop-c.c.used c.args.ml.now)) (drop c.min-room.result c.loop-c.out) (drop c.min-ml_room.result c.loop-c.ml_out) r c.edit_group.new.out c.edit_group.new.ml_out = λ r e. (let says : ℕ → List ℕ → List ℕ → Outcome Cursor → Type 0 = λ n t v x.
    GroupEdited (window_edit n c.args.after.now c.args.marks.now) c.args.text.now c.args.ml.now c.loop-c.c.at c.loop-c.c.used
    (read_group c.args.has_ml (is_marked c.args.marks.now) c.args.seq.now (up_to 59 (drop c.loop-c.c.at c.args.text.now)) (drop c.loop-c.c.used c.args.ml.now))
    t v x c.edit_group.new.out c.edit_group.new.ml_out in
    let room = c.min-room.result in
    let ml_room = c.min-ml_room.result in
    subst (λ (x : Outcome Cursor). says c.args.lo (drop room c.loop-c.out) (drop ml_room c.loop-c.ml_out) x) e
    (subst (λ (v : List ℕ). says c.args.lo (drop room c.loop-c.out) v c.edit_group.result) (part_lent c.loop-c.ml_out ml_room)
    (subst (λ (t : List ℕ). says c.args.lo t (mid_of ml_room (length c.loop-c.ml_out - ml_room) c.loop-c.ml_out) c.edit_group.result) (part_lent c.loop-c.out room)
    (subst (λ (n : ℕ). says n (mid_of room (length c.loop-c.out - room) c.loop-c.out) (mid_of ml_room (length c.loop-c.ml_out - ml_room) c.loop-c.ml_out) c.edit_group.result)
    c.window_of-window.ensures.0 c.edit_group.ensures)))) in
    let inside : c.loop-c.c.at < length c.args.text.now = omega arith in
    let x = group _ c.in_ok-group.was in
    omega (
      arith,
      x.0,
      x.2,
      c.loop-c.invariant,
      ahead
          c.args.text.now
          c.loop-c.c.at (inside)
          c.requires.3,
      c.requires,
    )

pub overflow_add-c-in-loop-c : goal.overflow_add-c-in-loop-c
overflow_add-c-in-loop-c c =
    let group : (r : Outcome Cursor) → c.edit_group.result ≡ r → GroupEdited (window_edit c.args.lo c.args.after.now c.args.marks.now) c.args.text.now c.args.ml.now c.loop-c.c.at c.loop-c.c.used (read_group c.args.has_ml (is_marked c.args.marks.now) c.args.seq.now (up_to 59 (drop c.loop-c.c.at c.args.text.now)) (drop c.loop-c.c.used c.args.ml.now)) (drop c.min-room.result c.loop-c.out) (drop c.min-ml_room.result c.loop-c.ml_out) r c.edit_group.new.out c.edit_group.new.ml_out = λ r e. (let says : ℕ → List ℕ → List ℕ → Outcome Cursor → Type 0 = λ n t v x.
    GroupEdited (window_edit n c.args.after.now c.args.marks.now) c.args.text.now c.args.ml.now c.loop-c.c.at c.loop-c.c.used
    (read_group c.args.has_ml (is_marked c.args.marks.now) c.args.seq.now (up_to 59 (drop c.loop-c.c.at c.args.text.now)) (drop c.loop-c.c.used c.args.ml.now))
    t v x c.edit_group.new.out c.edit_group.new.ml_out in
    let room = c.min-room.result in
    let ml_room = c.min-ml_room.result in
    subst (λ (x : Outcome Cursor). says c.args.lo (drop room c.loop-c.out) (drop ml_room c.loop-c.ml_out) x) e
    (subst (λ (v : List ℕ). says c.args.lo (drop room c.loop-c.out) v c.edit_group.result) (part_lent c.loop-c.ml_out ml_room)
    (subst (λ (t : List ℕ). says c.args.lo t (mid_of ml_room (length c.loop-c.ml_out - ml_room) c.loop-c.ml_out) c.edit_group.result) (part_lent c.loop-c.out room)
    (subst (λ (n : ℕ). says n (mid_of room (length c.loop-c.out - room) c.loop-c.out) (mid_of ml_room (length c.loop-c.ml_out - ml_room) c.loop-c.ml_out) c.edit_group.result)
    c.window_of-window.ensures.0 c.edit_group.ensures)))) in
    let x = group _ c.in_ok-group.was in
    omega (
      arith,
      x.1,
      x.3,
      c.loop-c.invariant,
      c.requires,
    )

pub loop-c-smaller : goal.loop-c-smaller
loop-c-smaller c =
    let group : (r : Outcome Cursor) → c.edit_group.result ≡ r → GroupEdited (window_edit c.args.lo c.args.after.now c.args.marks.now) c.args.text.now c.args.ml.now c.loop-c.c.at c.loop-c.c.used (read_group c.args.has_ml (is_marked c.args.marks.now) c.args.seq.now (up_to 59 (drop c.loop-c.c.at c.args.text.now)) (drop c.loop-c.c.used c.args.ml.now)) (drop c.min-room.result c.loop-c.out) (drop c.min-ml_room.result c.loop-c.ml_out) r c.edit_group.new.out c.edit_group.new.ml_out = λ r e. (let says : ℕ → List ℕ → List ℕ → Outcome Cursor → Type 0 = λ n t v x.
    GroupEdited (window_edit n c.args.after.now c.args.marks.now) c.args.text.now c.args.ml.now c.loop-c.c.at c.loop-c.c.used
    (read_group c.args.has_ml (is_marked c.args.marks.now) c.args.seq.now (up_to 59 (drop c.loop-c.c.at c.args.text.now)) (drop c.loop-c.c.used c.args.ml.now))
    t v x c.edit_group.new.out c.edit_group.new.ml_out in
    let room = c.min-room.result in
    let ml_room = c.min-ml_room.result in
    subst (λ (x : Outcome Cursor). says c.args.lo (drop room c.loop-c.out) (drop ml_room c.loop-c.ml_out) x) e
    (subst (λ (v : List ℕ). says c.args.lo (drop room c.loop-c.out) v c.edit_group.result) (part_lent c.loop-c.ml_out ml_room)
    (subst (λ (t : List ℕ). says c.args.lo t (mid_of ml_room (length c.loop-c.ml_out - ml_room) c.loop-c.ml_out) c.edit_group.result) (part_lent c.loop-c.out room)
    (subst (λ (n : ℕ). says n (mid_of room (length c.loop-c.out - room) c.loop-c.out) (mid_of ml_room (length c.loop-c.ml_out - ml_room) c.loop-c.ml_out) c.edit_group.result)
    c.window_of-window.ensures.0 c.edit_group.ensures)))) in
    let inside : c.loop-c.c.at < length c.args.text.now = omega arith in
    let x = group _ c.in_ok-group.was in
    omega (arith, x.0, inside)

pub loop-c-preserved : goal.loop-c-preserved
loop-c-preserved c =
    let group : (r : Outcome Cursor) → c.edit_group.result ≡ r → GroupEdited (window_edit c.args.lo c.args.after.now c.args.marks.now) c.args.text.now c.args.ml.now c.loop-c.c.at c.loop-c.c.used (read_group c.args.has_ml (is_marked c.args.marks.now) c.args.seq.now (up_to 59 (drop c.loop-c.c.at c.args.text.now)) (drop c.loop-c.c.used c.args.ml.now)) (drop c.min-room.result c.loop-c.out) (drop c.min-ml_room.result c.loop-c.ml_out) r c.edit_group.new.out c.edit_group.new.ml_out = λ r e. (let says : ℕ → List ℕ → List ℕ → Outcome Cursor → Type 0 = λ n t v x.
    GroupEdited (window_edit n c.args.after.now c.args.marks.now) c.args.text.now c.args.ml.now c.loop-c.c.at c.loop-c.c.used
    (read_group c.args.has_ml (is_marked c.args.marks.now) c.args.seq.now (up_to 59 (drop c.loop-c.c.at c.args.text.now)) (drop c.loop-c.c.used c.args.ml.now))
    t v x c.edit_group.new.out c.edit_group.new.ml_out in
    let room = c.min-room.result in
    let ml_room = c.min-ml_room.result in
    subst (λ (x : Outcome Cursor). says c.args.lo (drop room c.loop-c.out) (drop ml_room c.loop-c.ml_out) x) e
    (subst (λ (v : List ℕ). says c.args.lo (drop room c.loop-c.out) v c.edit_group.result) (part_lent c.loop-c.ml_out ml_room)
    (subst (λ (t : List ℕ). says c.args.lo t (mid_of ml_room (length c.loop-c.ml_out - ml_room) c.loop-c.ml_out) c.edit_group.result) (part_lent c.loop-c.out room)
    (subst (λ (n : ℕ). says n (mid_of room (length c.loop-c.out - room) c.loop-c.out) (mid_of ml_room (length c.loop-c.ml_out - ml_room) c.loop-c.ml_out) c.edit_group.result)
    c.window_of-window.ensures.0 c.edit_group.ensures)))) in
    let text_after : List ℕ = put_mid c.min-room.result (length c.loop-c.out - c.min-room.result) c.loop-c.out c.edit_group.new.out in
    let ml_after : List ℕ = put_mid c.min-ml_room.result (length c.loop-c.ml_out - c.min-ml_room.result) c.loop-c.ml_out c.edit_group.new.ml_out in
    let text_length : length (text_after) ≡ length c.args.out.now = same_len_mid c.min-room.result (length c.loop-c.out - c.min-room.result) c.loop-c.out c.edit_group.new.out
    c.edit_group.auto.out ∙ c.loop-c.invariant.5 in
    let ml_length : length (ml_after) ≡ length c.args.ml_out.now = same_len_mid c.min-ml_room.result (length c.loop-c.ml_out - c.min-ml_room.result) c.loop-c.ml_out c.edit_group.new.ml_out
    c.edit_group.auto.ml_out ∙ c.loop-c.invariant.6 in
    let inside : c.loop-c.c.at < length c.args.text.now = omega arith in
    let x = group _ c.in_ok-group.was in
    let e = window_edit c.args.lo c.args.after.now c.args.marks.now in
    let far = ahead c.args.text.now c.loop-c.c.at (inside)
    c.requires.3 in (
      omega (arith, x.0, far),
      x.1,
      omega (arith, x.2, c.loop-c.invariant.2),
      omega (arith, x.3, c.loop-c.invariant.3),
      c.loop-c.invariant.4
          ∙ groups_turn e c.args.has_ml c.args.seq.now c.args.text.now c.loop-c.c.at (inside)
          c.requires.3
          (drop c.loop-c.c.used c.args.ml.now)
          c.loop-c.out c.loop-c.c.end c.loop-c.ml_out c.loop-c.c.kept c.min-room.result c.min-ml_room.result c.min-room.ensures c.min-ml_room.ensures c.in_ok-group.group.at x.0
          c.edit_group.new.out c.in_ok-group.group.end c.edit_group.new.ml_out c.in_ok-group.group.kept (drop c.in_ok-group.group.used c.args.ml.now) x.4
          ∙ (λ j. on_done (tag_put (draft (sym (part_back c.loop-c.out c.min-room.result c.edit_group.new.out) j) (c.loop-c.c.end + c.in_ok-group.group.end)
          (sym (part_back c.loop-c.ml_out c.min-ml_room.result c.edit_group.new.ml_out) j) (c.loop-c.c.kept + c.in_ok-group.group.kept))) (edited_groups e
          (read_groups c.args.has_ml (is_marked c.args.marks.now) c.args.seq.now (closed_by 59 (drop c.in_ok-group.group.at c.args.text.now)) (drop c.in_ok-group.group.used
          c.args.ml.now)))),
      text_length,
      ml_length,
    )

pub returns-then-c-ml : goal.returns-then-c-ml
returns-then-c-ml c =
    put_refused _ (draft c.args.out.now 0 c.args.ml_out.now 0) _ _ (c.loop-c.invariant.4
    ∙ ap (λ (o : Outcome (List Group)). on_done (tag_put (draft c.loop-c.out c.loop-c.c.end c.loop-c.ml_out c.loop-c.c.kept))
    (edited_groups (window_edit c.args.lo c.args.after.now c.args.marks.now) o))
    (groups_over c.args.has_ml (is_marked c.args.marks.now) c.args.seq.now c.args.text.now c.loop-c.c.at (omega arith) c.args.ml.now c.loop-c.c.used (omega
    arith)))

pub returns : goal.returns
returns c =
    let e = window_edit c.args.lo c.args.after.now c.args.marks.now in
    let w = draft c.loop-c.out c.loop-c.c.end c.loop-c.ml_out c.loop-c.c.kept in
    c.loop-c.invariant.4
    ∙ ap (λ (o : Outcome (List Group)). on_done (tag_put w) (edited_groups e o))
    (groups_done c.args.has_ml (is_marked c.args.marks.now) c.args.seq.now c.args.text.now c.loop-c.c.at (omega arith) c.args.ml.now c.loop-c.c.used (omega arith))
    ∙ put_none e w

-- `edit_group` moves the header to the row's start, and the entries behind it are unchanged. The contract of `edit_entries` covers the entries, and the
-- ';' follows.
-- Assumes nothing.
use mathlib.Core.Path.{◌∙◌, ◌≡◌, ap, refl, subst, sym}
use Prim.Native.Nat.{◌+◌, ◌<◌, ◌≤◌, ℕ}
use native.Mathlib.Omega.{arith}
use mathlib.Core.List.{List}
use lib.ListN.{drop, length, length-set}
use lib.Seq.{sets}
use Rattle.changing.specs.Windows.{denied_in, held_in, is_marked, window_edit}
use Rattle.drafting.proofs.DraftLaws.{group_put_lem, group_refused}
use Rattle.drafting.specs.Walks.{EntriesEdited, GroupEdited}
use Rattle.drafting.specs.declared.Cursor.{Cursor}
use Rattle.overwriting.proofs.AheadLaws.{entries_there}
use Rattle.moving.proofs.RowLaws.{drop_stored}
use Rattle.lent.specs.Outcome.{Outcome}
use Rattle.samtags.specs.Reading.{read_group, read_spots}
use Rattle.samtags.specs.Spots.{Spot, tracked}
use Rattle.samtags.specs.Text.{led_by, up_to}
use Rattle.fields.proofs.FieldLaws.{field_part}
use Rattle.places.proofs.TextLaws.{field_from, group_short, rest_from}
use Rattle.fields.specs.Fields.{field_of}
use Rattle.lent.proofs.Outcome.{passed_on}
use Rattle.overwriting.proofs.edit_group.Goals as goal

pub returns-then-width-lt2 : goal.returns-then-width-lt2
returns-then-width-lt2 c =
    group_short c.args.has_ml (is_marked c.args.marks.now) c.args.seq.now c.args.text.now c.args.at c.next_field-header.result.now c.next_field-header.ensures
    (drop c.args.used c.args.ml.now) (omega arith)

pub move_left-requires : goal.move_left-requires
move_left-requires c =
    let ends_together : let n = length c.next_field-header.result.now in c.args.at + n + length (up_to 59 (drop (c.args.at + n) c.args.text.now)) ≡ c.args.at + length (up_to 59 (drop c.args.at c.args.text.now)) = omega (arith, rest_from c.args.text.now c.args.at (length c.next_field-header.result.now) (ap length (sym c.next_field-header.ensures))) in (
      omega arith,
      omega (
        arith,
        ends_together,
        c.requires,
      ),
    )

pub edit_entries-requires : goal.edit_entries-requires
edit_entries-requires c =
    let ends_together : let n = length c.next_field-header.result.now in c.args.at + n + length (up_to 59 (drop (c.args.at + n) c.args.text.now)) ≡ c.args.at + length (up_to 59 (drop c.args.at c.args.text.now)) = omega (arith, rest_from c.args.text.now c.args.at (length c.next_field-header.result.now) (ap length (sym c.next_field-header.ensures))) in
    let header_moved : c.move_left.new.row ≡ sets c.args.text.now 0 c.next_field-header.result.now = subst (λ (h : List ℕ). c.move_left.new.row ≡ sets c.args.text.now 0 h)
    (field_part (drop c.args.at c.args.text.now) (length c.next_field-header.result.now) (ap length (sym c.next_field-header.ensures)) ∙ sym c.next_field-header.ensures) c.move_left.ensures in
    let entries_stand : let e = c.args.at + length c.next_field-header.result.now in drop e c.move_left.new.row ≡ drop e c.args.text.now = ap (drop (c.args.at + length c.next_field-header.result.now)) (header_moved) ∙ drop_stored c.args.text.now 0 c.next_field-header.result.now (c.args.at + length c.next_field-header.result.now) (omega arith) in
    let n = length c.next_field-header.result.now in
    let same = c.move_left.auto.row in
    let stand = entries_stand in
    let close : c.args.at + n + length (up_to 59 (drop (c.args.at + n) c.move_left.new.row)) < length c.move_left.new.row =
    rw stand (omega (arith, ends_together, same, c.requires)) in
    let field : length (field_of (drop (c.args.at + n) c.move_left.new.row)) ≡ 0 =
    ap (λ (d : List ℕ). length (field_of d)) stand
    ∙ field_from c.args.text.now c.args.at n (ap length (sym c.next_field-header.ensures)) in record { seq_len_bound = (c.requires.seq_len_bound.0, omega (arith, same, c.requires), c.requires.seq_len_bound.2, c.requires.seq_len_bound.3); text_in_bounds = close; text_len = field; used_in_bounds = (c.requires.used_in_bounds, omega arith, omega arith) }

pub returns-in_err-stop : goal.returns-in_err-stop
returns-in_err-stop c =
    let header_moved : c.move_left.new.row ≡ sets c.args.text.now 0 c.next_field-header.result.now = subst (λ (h : List ℕ). c.move_left.new.row ≡ sets c.args.text.now 0 h)
    (field_part (drop c.args.at c.args.text.now) (length c.next_field-header.result.now) (ap length (sym c.next_field-header.ensures)) ∙ sym c.next_field-header.ensures) c.move_left.ensures in
    let entries_stand : let e = c.args.at + length c.next_field-header.result.now in drop e c.move_left.new.row ≡ drop e c.args.text.now = ap (drop (c.args.at + length c.next_field-header.result.now)) (header_moved) ∙ drop_stored c.args.text.now 0 c.next_field-header.result.now (c.args.at + length c.next_field-header.result.now) (omega arith) in
    let entries_at : Cursor = (let n = length c.next_field-header.result.now in
    record { at = c.args.at + n; used = c.args.used; end = n; kept = 0 }) in
    let spots_at : List ℕ → Outcome (List Spot × List ℕ) = λ text. read_spots c.kind_of-kind.result.values (denied_in c.args.marks.now
    c.kind_of-kind.result.may_drop) (led_by 44 (up_to 59 text))
    (tracked c.kind_of-kind.result.base c.args.seq.now) (drop c.args.used c.args.ml.now) in
    let entries : (r : Outcome Cursor) → c.edit_entries.result ≡ r → EntriesEdited (held_in c.args.window.lo c.args.after.now c.kind_of-kind.result.base) (is_marked c.args.marks.now) c.args.text.now c.args.ml.now (entries_at) (spots_at (drop (entries_at).at c.args.text.now)) c.move_left.new.row c.args.ml.now r c.edit_entries.new.text c.edit_entries.new.ml = λ r e. (let held = held_in c.args.window.lo c.args.after.now c.kind_of-kind.result.base in
    let named = is_marked c.args.marks.now in
    let t = c.args.text.now in
    let row = c.move_left.new.row in
    let says : List ℕ → Outcome Cursor → Type 0 = λ d x.
    EntriesEdited held named row c.args.ml.now (entries_at) (spots_at d) row c.args.ml.now x c.edit_entries.new.text c.edit_entries.new.ml in
    entries_there held named row t c.args.ml.now (entries_at) (entries_stand) (spots_at (drop (entries_at).at t))
    row c.args.ml.now r c.edit_entries.new.text c.edit_entries.new.ml
    (subst (says (drop (entries_at).at t)) e
    (subst (λ (d : List ℕ). says d c.edit_entries.result) (entries_stand) c.edit_entries.ensures))) in
    subst (λ (x : Outcome Cursor). GroupEdited (window_edit c.args.window.lo c.args.after.now c.args.marks.now) c.args.text.now c.args.ml.now c.args.at c.args.used
    (read_group c.args.has_ml (is_marked c.args.marks.now) c.args.seq.now (up_to 59 (drop c.args.at c.args.text.now)) (drop c.args.used c.args.ml.now))
    c.args.text.now c.args.ml.now x c.edit_entries.new.text c.edit_entries.new.ml) (sym (passed_on _ _ c.from_residual.ensures.1))
    (group_refused c.args.window.lo c.args.after.now c.args.marks.now c.args.has_ml c.args.seq.now c.args.text.now c.args.at c.next_field-header.result.now c.next_field-header.ensures
    (drop c.args.used c.args.ml.now) c.if-width-lt2.false _ _ _
    c.kind_of-kind.ensures.1
    c.kind_of-kind.ensures.0
    c.kind_of-kind.ensures.2
    c.in_err-stop.field-0.0 (entries _ c.in_err-stop.was))

pub bounds-text-last : goal.bounds-text-last
bounds-text-last c =
    let ends_together : let n = length c.next_field-header.result.now in c.args.at + n + length (up_to 59 (drop (c.args.at + n) c.args.text.now)) ≡ c.args.at + length (up_to 59 (drop c.args.at c.args.text.now)) = omega (arith, rest_from c.args.text.now c.args.at (length c.next_field-header.result.now) (ap length (sym c.next_field-header.ensures))) in
    let header_moved : c.move_left.new.row ≡ sets c.args.text.now 0 c.next_field-header.result.now = subst (λ (h : List ℕ). c.move_left.new.row ≡ sets c.args.text.now 0 h)
    (field_part (drop c.args.at c.args.text.now) (length c.next_field-header.result.now) (ap length (sym c.next_field-header.ensures)) ∙ sym c.next_field-header.ensures) c.move_left.ensures in
    let entries_stand : let e = c.args.at + length c.next_field-header.result.now in drop e c.move_left.new.row ≡ drop e c.args.text.now = ap (drop (c.args.at + length c.next_field-header.result.now)) (header_moved) ∙ drop_stored c.args.text.now 0 c.next_field-header.result.now (c.args.at + length c.next_field-header.result.now) (omega arith) in
    let entries_at : Cursor = (let n = length c.next_field-header.result.now in
    record { at = c.args.at + n; used = c.args.used; end = n; kept = 0 }) in
    let spots_at : List ℕ → Outcome (List Spot × List ℕ) = λ text. read_spots c.kind_of-kind.result.values (denied_in c.args.marks.now
    c.kind_of-kind.result.may_drop) (led_by 44 (up_to 59 text))
    (tracked c.kind_of-kind.result.base c.args.seq.now) (drop c.args.used c.args.ml.now) in
    let entries : (r : Outcome Cursor) → c.edit_entries.result ≡ r → EntriesEdited (held_in c.args.window.lo c.args.after.now c.kind_of-kind.result.base) (is_marked c.args.marks.now) c.args.text.now c.args.ml.now (entries_at) (spots_at (drop (entries_at).at c.args.text.now)) c.move_left.new.row c.args.ml.now r c.edit_entries.new.text c.edit_entries.new.ml = λ r e. (let held = held_in c.args.window.lo c.args.after.now c.kind_of-kind.result.base in
    let named = is_marked c.args.marks.now in
    let t = c.args.text.now in
    let row = c.move_left.new.row in
    let says : List ℕ → Outcome Cursor → Type 0 = λ d x.
    EntriesEdited held named row c.args.ml.now (entries_at) (spots_at d) row c.args.ml.now x c.edit_entries.new.text c.edit_entries.new.ml in
    entries_there held named row t c.args.ml.now (entries_at) (entries_stand) (spots_at (drop (entries_at).at t))
    row c.args.ml.now r c.edit_entries.new.text c.edit_entries.new.ml
    (subst (says (drop (entries_at).at t)) e
    (subst (λ (d : List ℕ). says d c.edit_entries.result) (entries_stand) c.edit_entries.ensures))) in
    let stop_inside : (c.in_ok-stop.stop.at < length c.args.text.now) × (c.in_ok-stop.stop.end ≤ c.in_ok-stop.stop.at) = (let x = entries _ c.in_ok-stop.was in
    (omega (arith, x.0, ends_together, c.requires), omega (arith, x.2))) in
    let row_length : length c.edit_entries.new.text ≡ length c.args.text.now = c.edit_entries.auto.text ∙ c.move_left.auto.row in
    omega (arith, stop_inside, row_length)

pub overflow_add-result : goal.overflow_add-result
overflow_add-result c =
    let ends_together : let n = length c.next_field-header.result.now in c.args.at + n + length (up_to 59 (drop (c.args.at + n) c.args.text.now)) ≡ c.args.at + length (up_to 59 (drop c.args.at c.args.text.now)) = omega (arith, rest_from c.args.text.now c.args.at (length c.next_field-header.result.now) (ap length (sym c.next_field-header.ensures))) in
    let header_moved : c.move_left.new.row ≡ sets c.args.text.now 0 c.next_field-header.result.now = subst (λ (h : List ℕ). c.move_left.new.row ≡ sets c.args.text.now 0 h)
    (field_part (drop c.args.at c.args.text.now) (length c.next_field-header.result.now) (ap length (sym c.next_field-header.ensures)) ∙ sym c.next_field-header.ensures) c.move_left.ensures in
    let entries_stand : let e = c.args.at + length c.next_field-header.result.now in drop e c.move_left.new.row ≡ drop e c.args.text.now = ap (drop (c.args.at + length c.next_field-header.result.now)) (header_moved) ∙ drop_stored c.args.text.now 0 c.next_field-header.result.now (c.args.at + length c.next_field-header.result.now) (omega arith) in
    let entries_at : Cursor = (let n = length c.next_field-header.result.now in
    record { at = c.args.at + n; used = c.args.used; end = n; kept = 0 }) in
    let spots_at : List ℕ → Outcome (List Spot × List ℕ) = λ text. read_spots c.kind_of-kind.result.values (denied_in c.args.marks.now
    c.kind_of-kind.result.may_drop) (led_by 44 (up_to 59 text))
    (tracked c.kind_of-kind.result.base c.args.seq.now) (drop c.args.used c.args.ml.now) in
    let entries : (r : Outcome Cursor) → c.edit_entries.result ≡ r → EntriesEdited (held_in c.args.window.lo c.args.after.now c.kind_of-kind.result.base) (is_marked c.args.marks.now) c.args.text.now c.args.ml.now (entries_at) (spots_at (drop (entries_at).at c.args.text.now)) c.move_left.new.row c.args.ml.now r c.edit_entries.new.text c.edit_entries.new.ml = λ r e. (let held = held_in c.args.window.lo c.args.after.now c.kind_of-kind.result.base in
    let named = is_marked c.args.marks.now in
    let t = c.args.text.now in
    let row = c.move_left.new.row in
    let says : List ℕ → Outcome Cursor → Type 0 = λ d x.
    EntriesEdited held named row c.args.ml.now (entries_at) (spots_at d) row c.args.ml.now x c.edit_entries.new.text c.edit_entries.new.ml in
    entries_there held named row t c.args.ml.now (entries_at) (entries_stand) (spots_at (drop (entries_at).at t))
    row c.args.ml.now r c.edit_entries.new.text c.edit_entries.new.ml
    (subst (says (drop (entries_at).at t)) e
    (subst (λ (d : List ℕ). says d c.edit_entries.result) (entries_stand) c.edit_entries.ensures))) in
    let stop_inside : (c.in_ok-stop.stop.at < length c.args.text.now) × (c.in_ok-stop.stop.end ≤ c.in_ok-stop.stop.at) = (let x = entries _ c.in_ok-stop.was in
    (omega (arith, x.0, ends_together, c.requires), omega (arith, x.2))) in
    omega (
      arith,
      stop_inside,
      c.requires,
    )

pub overflow_add-result-2 : goal.overflow_add-result-2
overflow_add-result-2 c =
    let ends_together : let n = length c.next_field-header.result.now in c.args.at + n + length (up_to 59 (drop (c.args.at + n) c.args.text.now)) ≡ c.args.at + length (up_to 59 (drop c.args.at c.args.text.now)) = omega (arith, rest_from c.args.text.now c.args.at (length c.next_field-header.result.now) (ap length (sym c.next_field-header.ensures))) in
    let header_moved : c.move_left.new.row ≡ sets c.args.text.now 0 c.next_field-header.result.now = subst (λ (h : List ℕ). c.move_left.new.row ≡ sets c.args.text.now 0 h)
    (field_part (drop c.args.at c.args.text.now) (length c.next_field-header.result.now) (ap length (sym c.next_field-header.ensures)) ∙ sym c.next_field-header.ensures) c.move_left.ensures in
    let entries_stand : let e = c.args.at + length c.next_field-header.result.now in drop e c.move_left.new.row ≡ drop e c.args.text.now = ap (drop (c.args.at + length c.next_field-header.result.now)) (header_moved) ∙ drop_stored c.args.text.now 0 c.next_field-header.result.now (c.args.at + length c.next_field-header.result.now) (omega arith) in
    let entries_at : Cursor = (let n = length c.next_field-header.result.now in
    record { at = c.args.at + n; used = c.args.used; end = n; kept = 0 }) in
    let spots_at : List ℕ → Outcome (List Spot × List ℕ) = λ text. read_spots c.kind_of-kind.result.values (denied_in c.args.marks.now
    c.kind_of-kind.result.may_drop) (led_by 44 (up_to 59 text))
    (tracked c.kind_of-kind.result.base c.args.seq.now) (drop c.args.used c.args.ml.now) in
    let entries : (r : Outcome Cursor) → c.edit_entries.result ≡ r → EntriesEdited (held_in c.args.window.lo c.args.after.now c.kind_of-kind.result.base) (is_marked c.args.marks.now) c.args.text.now c.args.ml.now (entries_at) (spots_at (drop (entries_at).at c.args.text.now)) c.move_left.new.row c.args.ml.now r c.edit_entries.new.text c.edit_entries.new.ml = λ r e. (let held = held_in c.args.window.lo c.args.after.now c.kind_of-kind.result.base in
    let named = is_marked c.args.marks.now in
    let t = c.args.text.now in
    let row = c.move_left.new.row in
    let says : List ℕ → Outcome Cursor → Type 0 = λ d x.
    EntriesEdited held named row c.args.ml.now (entries_at) (spots_at d) row c.args.ml.now x c.edit_entries.new.text c.edit_entries.new.ml in
    entries_there held named row t c.args.ml.now (entries_at) (entries_stand) (spots_at (drop (entries_at).at t))
    row c.args.ml.now r c.edit_entries.new.text c.edit_entries.new.ml
    (subst (says (drop (entries_at).at t)) e
    (subst (λ (d : List ℕ). says d c.edit_entries.result) (entries_stand) c.edit_entries.ensures))) in
    let stop_inside : (c.in_ok-stop.stop.at < length c.args.text.now) × (c.in_ok-stop.stop.end ≤ c.in_ok-stop.stop.at) = (let x = entries _ c.in_ok-stop.was in
    (omega (arith, x.0, ends_together, c.requires), omega (arith, x.2))) in
    omega (
      arith,
      stop_inside,
      c.requires,
    )

pub shape_of-text : goal.shape_of-text
shape_of-text c =
    let row_length : length c.edit_entries.new.text ≡ length c.args.text.now = c.edit_entries.auto.text ∙ c.move_left.auto.row in
    length-set c.edit_entries.new.text c.in_ok-stop.stop.end 59 ∙ row_length

pub returns : goal.returns
returns c =
    let ends_together : let n = length c.next_field-header.result.now in c.args.at + n + length (up_to 59 (drop (c.args.at + n) c.args.text.now)) ≡ c.args.at + length (up_to 59 (drop c.args.at c.args.text.now)) = omega (arith, rest_from c.args.text.now c.args.at (length c.next_field-header.result.now) (ap length (sym c.next_field-header.ensures))) in
    let header_moved : c.move_left.new.row ≡ sets c.args.text.now 0 c.next_field-header.result.now = subst (λ (h : List ℕ). c.move_left.new.row ≡ sets c.args.text.now 0 h)
    (field_part (drop c.args.at c.args.text.now) (length c.next_field-header.result.now) (ap length (sym c.next_field-header.ensures)) ∙ sym c.next_field-header.ensures) c.move_left.ensures in
    let entries_stand : let e = c.args.at + length c.next_field-header.result.now in drop e c.move_left.new.row ≡ drop e c.args.text.now = ap (drop (c.args.at + length c.next_field-header.result.now)) (header_moved) ∙ drop_stored c.args.text.now 0 c.next_field-header.result.now (c.args.at + length c.next_field-header.result.now) (omega arith) in
    let entries_at : Cursor = (let n = length c.next_field-header.result.now in
    record { at = c.args.at + n; used = c.args.used; end = n; kept = 0 }) in
    let spots_at : List ℕ → Outcome (List Spot × List ℕ) = λ text. read_spots c.kind_of-kind.result.values (denied_in c.args.marks.now
    c.kind_of-kind.result.may_drop) (led_by 44 (up_to 59 text))
    (tracked c.kind_of-kind.result.base c.args.seq.now) (drop c.args.used c.args.ml.now) in
    let entries : (r : Outcome Cursor) → c.edit_entries.result ≡ r → EntriesEdited (held_in c.args.window.lo c.args.after.now c.kind_of-kind.result.base) (is_marked c.args.marks.now) c.args.text.now c.args.ml.now (entries_at) (spots_at (drop (entries_at).at c.args.text.now)) c.move_left.new.row c.args.ml.now r c.edit_entries.new.text c.edit_entries.new.ml = λ r e. (let held = held_in c.args.window.lo c.args.after.now c.kind_of-kind.result.base in
    let named = is_marked c.args.marks.now in
    let t = c.args.text.now in
    let row = c.move_left.new.row in
    let says : List ℕ → Outcome Cursor → Type 0 = λ d x.
    EntriesEdited held named row c.args.ml.now (entries_at) (spots_at d) row c.args.ml.now x c.edit_entries.new.text c.edit_entries.new.ml in
    entries_there held named row t c.args.ml.now (entries_at) (entries_stand) (spots_at (drop (entries_at).at t))
    row c.args.ml.now r c.edit_entries.new.text c.edit_entries.new.ml
    (subst (says (drop (entries_at).at t)) e
    (subst (λ (d : List ℕ). says d c.edit_entries.result) (entries_stand) c.edit_entries.ensures))) in
    let x = entries _ c.in_ok-stop.was in (
      omega (arith, x.0, ends_together),
      x.1,
      omega (arith, x.2),
      omega (arith, x.3),
      group_put_lem c.args.window.lo c.args.after.now c.args.marks.now c.args.has_ml c.args.seq.now c.args.text.now c.args.at c.next_field-header.result.now c.next_field-header.ensures
          (drop c.args.used c.args.ml.now) c.if-width-lt2.false _ _ _
          c.kind_of-kind.ensures.1
          c.kind_of-kind.ensures.0
          c.kind_of-kind.ensures.2 c.args.text.now c.args.ml.now
          c.move_left.new.row (length c.next_field-header.result.now) (omega arith)
          (header_moved) c.edit_entries.new.text c.in_ok-stop.stop.end c.edit_entries.new.ml c.in_ok-stop.stop.kept (drop c.in_ok-stop.stop.used
          c.args.ml.now) _ x.4 refl,
    )

use Rattle.std.specs.Prelude.{Ok, Err}
use mathlib.Core.Path.{◌∙◌, ◌≡◌, ap, refl, subst, sym}
use Prim.Native.Nat.{◌+◌, ◌-◌, ◌<◌, ◌≤◌, ℕ}
use native.Mathlib.Omega.{arith}
use mathlib.Core.List.{List, []}
use lib.ListN.{drop, get_or, length, length-take, take}
use Rattle.entries.proofs.PutLaws.{put_behind, put_few}
use Rattle.changing.proofs.EntryLaws.{Went, reached_refused, reached_went}
use Rattle.entries.specs.Answers.{reached_says}
use Rattle.entries.specs.declared.Pen.{Pen}
use Rattle.changing.specs.Drafts.{draft, entry_put, with_passed}
use Rattle.changing.specs.Windows.{denied_in, held_in, is_marked}
use Rattle.drafting.proofs.DraftLaws.{put_end, put_one}
use Rattle.drafting.specs.Walks.{EntriesEdited, pen_of, spots_put}
use Rattle.drafting.specs.declared.Cursor.{Cursor}
use Rattle.overwriting.proofs.AheadLaws.{put_ahead}
use Rattle.moving.proofs.RowLaws.{same_at, same_later}
use Rattle.lent.proofs.Outcome.{on_done_refused}
use Rattle.lent.specs.Outcome.{on_done}
use Rattle.samtags.proofs.Behind.{behind_start}
use Rattle.samtags.specs.Decimal.{value}
use Rattle.samtags.specs.Reading.{read_entry, read_spots}
use Rattle.samtags.specs.Spots.{tracked}
use Rattle.samtags.specs.Text.{led_by, up_to}
use Rattle.places.proofs.TextLaws.{ends_semicolon, rest_semicolon, turn_end, turn_field, turn_on, turn_refused, turn_rest}
use Rattle.places.proofs.WalkLaws.{tracked_few}
use Rattle.fields.specs.Fields.{field_of}
use Rattle.places.specs.Walk.{tracked_from}
use Rattle.overwriting.proofs.edit_entries.Goals as goal
use Rattle.lent.proofs.Outcome.{passed_on}
use Rattle.overwriting.proofs.edit_entries.Invariants.{Walked, put_from}

pub loop-text-init : goal.loop-text-init
loop-text-init c =
    let none : c.pen-pen.result.gap ≡ 0 = ap (λ (q : Pen). q.gap) c.pen-pen.ensures in (
      refl,
      omega arith,
      omega arith,
      omega arith,
      rw none (behind_start (c.args.start.at + c.pen-pen.result.end) (c.pen-pen.result.end + c.args.start.at) (omega arith)),
      omega arith,
      omega (arith, none, tracked_few c.args.kind.base 0 c.args.seq.now),
      ap (λ (n : ℕ). put_from c.args.seq.now c.args.after.now c.args.marks.now c.args.text.now c.args.ml.now c.args.window c.args.kind
          (draft c.args.text.now c.pen-pen.result.end c.args.ml.now c.pen-pen.result.kept) n c.args.start.used c.args.start.at 0) (sym none),
      refl,
      refl,
      refl,
      refl,
    )

pub read_entry-requires : goal.read_entry-requires
read_entry-requires c = (omega arith, omega arith, c.requires.seq_len_bound.3)

pub returns-in_err-place : goal.returns-in_err-place
unfolding tracked tracked_from
returns-in_err-place c =
    let field_there : c.next_field-field.result.now ≡ field_of (drop (c.loop-text.at + 1) c.args.text.now) = c.next_field-field.ensures ∙ ap field_of (same_later c.loop-text.text
    c.args.text.now c.loop-text.at (c.loop-text.at + 1) (omega arith)
    c.loop-text.invariant.8) in
    let comma_there : get_or c.args.text.now c.loop-text.at 0 ≡ 44 = sym (same_at c.loop-text.text c.args.text.now c.loop-text.at c.loop-text.at 0 (omega arith)
    c.loop-text.invariant.8) ∙ c.loop-text-test.true in
    let read_there : reached_says c.read_entry.result ≡ with_passed (held_in c.args.window.lo c.args.after.now c.args.kind.base) (value c.next_field-field.result.now) (tracked_from c.args.kind.base c.loop-text.from.0 c.args.seq.now) (read_entry c.args.kind.values (denied_in c.args.marks.now c.args.kind.may_drop) c.next_field-field.result.now (tracked_from c.args.kind.base c.loop-text.from.0 c.args.seq.now) (length c.args.ml.now - c.loop-text.used)) = (let places = tracked_from c.args.kind.base c.loop-text.from.0 c.args.seq.now in
    subst (λ (n : ℕ). reached_says c.read_entry.result ≡ with_passed (held_in c.args.window.lo c.args.after.now c.args.kind.base) (value c.next_field-field.result.now) places
    (read_entry c.args.kind.values (denied_in c.args.marks.now c.args.kind.may_drop) c.next_field-field.result.now places (n - c.loop-text.used))) c.loop-text.invariant.11 c.read_entry.ensures) in
    let held = held_in c.args.window.lo c.args.after.now c.args.kind.base in
    let denied = denied_in c.args.marks.now c.args.kind.may_drop in
    let places = tracked_from c.args.kind.base c.loop-text.from.0 c.args.seq.now in
    let low : c.loop-text.at < length c.args.text.now = omega (
      arith,
      c.loop-text.invariant.0,
      c.requires,
    ) in
    rw (passed_on _ _ c.from_residual.ensures.1) (on_done_refused _ _ _ (c.loop-text.invariant.7
    ∙ ap (on_done (spots_put held (is_marked c.args.marks.now) (draft c.loop-text.text c.loop-text.pen.end c.loop-text.ml c.loop-text.pen.kept) c.loop-text.pen.gap))
    (turn_refused c.args.kind.values denied c.args.text.now c.loop-text.at low (comma_there) c.next_field-field.result.now
    (field_there) places c.args.ml.now c.loop-text.used
    c.in_err-place.field-0.0
    (reached_refused held denied c.args.kind.values c.next_field-field.result.now places (length c.args.ml.now - c.loop-text.used) c.in_err-place.field-0.0
    (sym (ap reached_says c.in_err-place.was) ∙ read_there)))))

pub past-waiting-requires : goal.past-waiting-requires
past-waiting-requires c =
    let known : Walked c.args.seq.now c.args.after.now c.args.marks.now c.args.window c.args.kind c.args.text.now c.args.ml.now c.args.start.at c.args.start.used (pen_of c.args.start) c.loop-text.from c.loop-text.text c.loop-text.ml c.loop-text.at c.loop-text.used c.loop-text.pen c.loop-text.from = subst (λ (p : Pen). Walked c.args.seq.now c.args.after.now c.args.marks.now c.args.window c.args.kind c.args.text.now c.args.ml.now c.args.start.at c.args.start.used p
    c.loop-text.from c.loop-text.text c.loop-text.ml c.loop-text.at c.loop-text.used c.loop-text.pen c.loop-text.from) c.pen-pen.ensures c.loop-text.invariant in
    let field_there : c.next_field-field.result.now ≡ field_of (drop (c.loop-text.at + 1) c.args.text.now) = c.next_field-field.ensures ∙ ap field_of (same_later c.loop-text.text
    c.args.text.now c.loop-text.at (c.loop-text.at + 1) (omega arith)
    c.loop-text.invariant.8) in
    let comma_there : get_or c.args.text.now c.loop-text.at 0 ≡ 44 = sym (same_at c.loop-text.text c.args.text.now c.loop-text.at c.loop-text.at 0 (omega arith)
    c.loop-text.invariant.8) ∙ c.loop-text-test.true in
    let read_there : reached_says c.read_entry.result ≡ with_passed (held_in c.args.window.lo c.args.after.now c.args.kind.base) (value c.next_field-field.result.now) (tracked_from c.args.kind.base c.loop-text.from.0 c.args.seq.now) (read_entry c.args.kind.values (denied_in c.args.marks.now c.args.kind.may_drop) c.next_field-field.result.now (tracked_from c.args.kind.base c.loop-text.from.0 c.args.seq.now) (length c.args.ml.now - c.loop-text.used)) = (let places = tracked_from c.args.kind.base c.loop-text.from.0 c.args.seq.now in
    subst (λ (n : ℕ). reached_says c.read_entry.result ≡ with_passed (held_in c.args.window.lo c.args.after.now c.args.kind.base) (value c.next_field-field.result.now) places
    (read_entry c.args.kind.values (denied_in c.args.marks.now c.args.kind.may_drop) c.next_field-field.result.now places (n - c.loop-text.used))) c.loop-text.invariant.11 c.read_entry.ensures) in
    let went : Went (held_in c.args.window.lo c.args.after.now c.args.kind.base) (denied_in c.args.marks.now c.args.kind.may_drop) c.args.kind.values c.next_field-field.result.now c.args.kind.base c.loop-text.from.0 c.args.seq.now (length c.args.ml.now - c.loop-text.used) c.in_ok-place.place.0 c.in_ok-place.passed.0 = reached_went (held_in c.args.window.lo c.args.after.now c.args.kind.base) (denied_in c.args.marks.now c.args.kind.may_drop) c.args.kind.values
    c.next_field-field.result.now
    c.args.kind.base c.loop-text.from.0 c.args.seq.now (length c.args.ml.now - c.loop-text.used) c.in_ok-place.place.0 c.in_ok-place.passed.0
    (sym (ap reached_says c.in_ok-place.was) ∙ read_there) in
    let bounds : (c.loop-text.used + c.args.kind.values ≤ length c.args.ml.now) × (length c.args.ml.now ≤ 65536) × (c.loop-text.at < length c.args.text.now) × (c.loop-text.at + 1 + length c.next_field-field.result.now < length c.args.text.now) × (length c.args.text.now ≤ 65536) × (c.loop-text.pen.end ≤ c.loop-text.at) × (c.loop-text.pen.kept ≤ c.loop-text.used) × (c.loop-text.pen.gap + c.in_ok-place.passed.0 ≤ 16000) = (let w = went in
    let i = known in
    let low : c.loop-text.at < length c.args.text.now = omega (arith, i.0, c.requires) in
    let rest = turn_rest c.args.kind.values (denied_in c.args.marks.now c.args.kind.may_drop) c.args.text.now c.loop-text.at low (comma_there) c.next_field-field.result.now
    (field_there) [] c.args.ml.now c.loop-text.used in (
      omega (arith, w.enough, i.3),
      c.requires.seq_len_bound.2,
      low,
      omega (arith, rest, i.0, c.requires),
      c.requires.seq_len_bound.1,
      omega (arith, i.4, c.requires),
      omega (arith, i.5, c.requires),
      omega (arith, i.6, w.fewer),
    )) in
    omega (arith, bounds)

pub put_entry-pen-requires : goal.put_entry-pen-requires
put_entry-pen-requires c =
    let known : Walked c.args.seq.now c.args.after.now c.args.marks.now c.args.window c.args.kind c.args.text.now c.args.ml.now c.args.start.at c.args.start.used (pen_of c.args.start) c.loop-text.from c.loop-text.text c.loop-text.ml c.loop-text.at c.loop-text.used c.loop-text.pen c.loop-text.from = subst (λ (p : Pen). Walked c.args.seq.now c.args.after.now c.args.marks.now c.args.window c.args.kind c.args.text.now c.args.ml.now c.args.start.at c.args.start.used p
    c.loop-text.from c.loop-text.text c.loop-text.ml c.loop-text.at c.loop-text.used c.loop-text.pen c.loop-text.from) c.pen-pen.ensures c.loop-text.invariant in
    let field_there : c.next_field-field.result.now ≡ field_of (drop (c.loop-text.at + 1) c.args.text.now) = c.next_field-field.ensures ∙ ap field_of (same_later c.loop-text.text
    c.args.text.now c.loop-text.at (c.loop-text.at + 1) (omega arith)
    c.loop-text.invariant.8) in
    let comma_there : get_or c.args.text.now c.loop-text.at 0 ≡ 44 = sym (same_at c.loop-text.text c.args.text.now c.loop-text.at c.loop-text.at 0 (omega arith)
    c.loop-text.invariant.8) ∙ c.loop-text-test.true in
    let read_there : reached_says c.read_entry.result ≡ with_passed (held_in c.args.window.lo c.args.after.now c.args.kind.base) (value c.next_field-field.result.now) (tracked_from c.args.kind.base c.loop-text.from.0 c.args.seq.now) (read_entry c.args.kind.values (denied_in c.args.marks.now c.args.kind.may_drop) c.next_field-field.result.now (tracked_from c.args.kind.base c.loop-text.from.0 c.args.seq.now) (length c.args.ml.now - c.loop-text.used)) = (let places = tracked_from c.args.kind.base c.loop-text.from.0 c.args.seq.now in
    subst (λ (n : ℕ). reached_says c.read_entry.result ≡ with_passed (held_in c.args.window.lo c.args.after.now c.args.kind.base) (value c.next_field-field.result.now) places
    (read_entry c.args.kind.values (denied_in c.args.marks.now c.args.kind.may_drop) c.next_field-field.result.now places (n - c.loop-text.used))) c.loop-text.invariant.11 c.read_entry.ensures) in
    let went : Went (held_in c.args.window.lo c.args.after.now c.args.kind.base) (denied_in c.args.marks.now c.args.kind.may_drop) c.args.kind.values c.next_field-field.result.now c.args.kind.base c.loop-text.from.0 c.args.seq.now (length c.args.ml.now - c.loop-text.used) c.in_ok-place.place.0 c.in_ok-place.passed.0 = reached_went (held_in c.args.window.lo c.args.after.now c.args.kind.base) (denied_in c.args.marks.now c.args.kind.may_drop) c.args.kind.values
    c.next_field-field.result.now
    c.args.kind.base c.loop-text.from.0 c.args.seq.now (length c.args.ml.now - c.loop-text.used) c.in_ok-place.place.0 c.in_ok-place.passed.0
    (sym (ap reached_says c.in_ok-place.was) ∙ read_there) in
    let bounds : (c.loop-text.used + c.args.kind.values ≤ length c.args.ml.now) × (length c.args.ml.now ≤ 65536) × (c.loop-text.at < length c.args.text.now) × (c.loop-text.at + 1 + length c.next_field-field.result.now < length c.args.text.now) × (length c.args.text.now ≤ 65536) × (c.loop-text.pen.end ≤ c.loop-text.at) × (c.loop-text.pen.kept ≤ c.loop-text.used) × (c.loop-text.pen.gap + c.in_ok-place.passed.0 ≤ 16000) = (let w = went in
    let i = known in
    let low : c.loop-text.at < length c.args.text.now = omega (arith, i.0, c.requires) in
    let rest = turn_rest c.args.kind.values (denied_in c.args.marks.now c.args.kind.may_drop) c.args.text.now c.loop-text.at low (comma_there) c.next_field-field.result.now
    (field_there) [] c.args.ml.now c.loop-text.used in (
      omega (arith, w.enough, i.3),
      c.requires.seq_len_bound.2,
      low,
      omega (arith, rest, i.0, c.requires),
      c.requires.seq_len_bound.1,
      omega (arith, i.4, c.requires),
      omega (arith, i.5, c.requires),
      omega (arith, i.6, w.fewer),
    )) in
    let e = c.past-waiting.ensures in
    let b = bounds in (
      omega (arith, b.5, b.2, b.4, ap (λ (q : Pen). q.end) e),
      omega (arith, b.6, ap (λ (q : Pen). q.kept) e),
      omega (arith, b.7, ap (λ (q : Pen). q.gap) e),
      omega (arith, b.0, c.loop-text.invariant.11),
    )

pub overflow_add-from : goal.overflow_add-from
overflow_add-from c =
    let read_there : reached_says c.read_entry.result ≡ with_passed (held_in c.args.window.lo c.args.after.now c.args.kind.base) (value c.next_field-field.result.now) (tracked_from c.args.kind.base c.loop-text.from.0 c.args.seq.now) (read_entry c.args.kind.values (denied_in c.args.marks.now c.args.kind.may_drop) c.next_field-field.result.now (tracked_from c.args.kind.base c.loop-text.from.0 c.args.seq.now) (length c.args.ml.now - c.loop-text.used)) = (let places = tracked_from c.args.kind.base c.loop-text.from.0 c.args.seq.now in
    subst (λ (n : ℕ). reached_says c.read_entry.result ≡ with_passed (held_in c.args.window.lo c.args.after.now c.args.kind.base) (value c.next_field-field.result.now) places
    (read_entry c.args.kind.values (denied_in c.args.marks.now c.args.kind.may_drop) c.next_field-field.result.now places (n - c.loop-text.used))) c.loop-text.invariant.11 c.read_entry.ensures) in
    let went : Went (held_in c.args.window.lo c.args.after.now c.args.kind.base) (denied_in c.args.marks.now c.args.kind.may_drop) c.args.kind.values c.next_field-field.result.now c.args.kind.base c.loop-text.from.0 c.args.seq.now (length c.args.ml.now - c.loop-text.used) c.in_ok-place.place.0 c.in_ok-place.passed.0 = reached_went (held_in c.args.window.lo c.args.after.now c.args.kind.base) (denied_in c.args.marks.now c.args.kind.may_drop) c.args.kind.values
    c.next_field-field.result.now
    c.args.kind.base c.loop-text.from.0 c.args.seq.now (length c.args.ml.now - c.loop-text.used) c.in_ok-place.place.0 c.in_ok-place.passed.0
    (sym (ap reached_says c.in_ok-place.was) ∙ read_there) in
    omega (arith, (went).inside, c.requires.seq_len_bound.0)

pub overflow_add-used : goal.overflow_add-used
overflow_add-used c =
    let known : Walked c.args.seq.now c.args.after.now c.args.marks.now c.args.window c.args.kind c.args.text.now c.args.ml.now c.args.start.at c.args.start.used (pen_of c.args.start) c.loop-text.from c.loop-text.text c.loop-text.ml c.loop-text.at c.loop-text.used c.loop-text.pen c.loop-text.from = subst (λ (p : Pen). Walked c.args.seq.now c.args.after.now c.args.marks.now c.args.window c.args.kind c.args.text.now c.args.ml.now c.args.start.at c.args.start.used p
    c.loop-text.from c.loop-text.text c.loop-text.ml c.loop-text.at c.loop-text.used c.loop-text.pen c.loop-text.from) c.pen-pen.ensures c.loop-text.invariant in
    let field_there : c.next_field-field.result.now ≡ field_of (drop (c.loop-text.at + 1) c.args.text.now) = c.next_field-field.ensures ∙ ap field_of (same_later c.loop-text.text
    c.args.text.now c.loop-text.at (c.loop-text.at + 1) (omega arith)
    c.loop-text.invariant.8) in
    let comma_there : get_or c.args.text.now c.loop-text.at 0 ≡ 44 = sym (same_at c.loop-text.text c.args.text.now c.loop-text.at c.loop-text.at 0 (omega arith)
    c.loop-text.invariant.8) ∙ c.loop-text-test.true in
    let read_there : reached_says c.read_entry.result ≡ with_passed (held_in c.args.window.lo c.args.after.now c.args.kind.base) (value c.next_field-field.result.now) (tracked_from c.args.kind.base c.loop-text.from.0 c.args.seq.now) (read_entry c.args.kind.values (denied_in c.args.marks.now c.args.kind.may_drop) c.next_field-field.result.now (tracked_from c.args.kind.base c.loop-text.from.0 c.args.seq.now) (length c.args.ml.now - c.loop-text.used)) = (let places = tracked_from c.args.kind.base c.loop-text.from.0 c.args.seq.now in
    subst (λ (n : ℕ). reached_says c.read_entry.result ≡ with_passed (held_in c.args.window.lo c.args.after.now c.args.kind.base) (value c.next_field-field.result.now) places
    (read_entry c.args.kind.values (denied_in c.args.marks.now c.args.kind.may_drop) c.next_field-field.result.now places (n - c.loop-text.used))) c.loop-text.invariant.11 c.read_entry.ensures) in
    let went : Went (held_in c.args.window.lo c.args.after.now c.args.kind.base) (denied_in c.args.marks.now c.args.kind.may_drop) c.args.kind.values c.next_field-field.result.now c.args.kind.base c.loop-text.from.0 c.args.seq.now (length c.args.ml.now - c.loop-text.used) c.in_ok-place.place.0 c.in_ok-place.passed.0 = reached_went (held_in c.args.window.lo c.args.after.now c.args.kind.base) (denied_in c.args.marks.now c.args.kind.may_drop) c.args.kind.values
    c.next_field-field.result.now
    c.args.kind.base c.loop-text.from.0 c.args.seq.now (length c.args.ml.now - c.loop-text.used) c.in_ok-place.place.0 c.in_ok-place.passed.0
    (sym (ap reached_says c.in_ok-place.was) ∙ read_there) in
    let bounds : (c.loop-text.used + c.args.kind.values ≤ length c.args.ml.now) × (length c.args.ml.now ≤ 65536) × (c.loop-text.at < length c.args.text.now) × (c.loop-text.at + 1 + length c.next_field-field.result.now < length c.args.text.now) × (length c.args.text.now ≤ 65536) × (c.loop-text.pen.end ≤ c.loop-text.at) × (c.loop-text.pen.kept ≤ c.loop-text.used) × (c.loop-text.pen.gap + c.in_ok-place.passed.0 ≤ 16000) = (let w = went in
    let i = known in
    let low : c.loop-text.at < length c.args.text.now = omega (arith, i.0, c.requires) in
    let rest = turn_rest c.args.kind.values (denied_in c.args.marks.now c.args.kind.may_drop) c.args.text.now c.loop-text.at low (comma_there) c.next_field-field.result.now
    (field_there) [] c.args.ml.now c.loop-text.used in (
      omega (arith, w.enough, i.3),
      c.requires.seq_len_bound.2,
      low,
      omega (arith, rest, i.0, c.requires),
      c.requires.seq_len_bound.1,
      omega (arith, i.4, c.requires),
      omega (arith, i.5, c.requires),
      omega (arith, i.6, w.fewer),
    )) in
    omega (arith, bounds)

pub overflow_add-at-in-loop-text : goal.overflow_add-at-in-loop-text
overflow_add-at-in-loop-text c =
    let known : Walked c.args.seq.now c.args.after.now c.args.marks.now c.args.window c.args.kind c.args.text.now c.args.ml.now c.args.start.at c.args.start.used (pen_of c.args.start) c.loop-text.from c.loop-text.text c.loop-text.ml c.loop-text.at c.loop-text.used c.loop-text.pen c.loop-text.from = subst (λ (p : Pen). Walked c.args.seq.now c.args.after.now c.args.marks.now c.args.window c.args.kind c.args.text.now c.args.ml.now c.args.start.at c.args.start.used p
    c.loop-text.from c.loop-text.text c.loop-text.ml c.loop-text.at c.loop-text.used c.loop-text.pen c.loop-text.from) c.pen-pen.ensures c.loop-text.invariant in
    let field_there : c.next_field-field.result.now ≡ field_of (drop (c.loop-text.at + 1) c.args.text.now) = c.next_field-field.ensures ∙ ap field_of (same_later c.loop-text.text
    c.args.text.now c.loop-text.at (c.loop-text.at + 1) (omega arith)
    c.loop-text.invariant.8) in
    let comma_there : get_or c.args.text.now c.loop-text.at 0 ≡ 44 = sym (same_at c.loop-text.text c.args.text.now c.loop-text.at c.loop-text.at 0 (omega arith)
    c.loop-text.invariant.8) ∙ c.loop-text-test.true in
    let read_there : reached_says c.read_entry.result ≡ with_passed (held_in c.args.window.lo c.args.after.now c.args.kind.base) (value c.next_field-field.result.now) (tracked_from c.args.kind.base c.loop-text.from.0 c.args.seq.now) (read_entry c.args.kind.values (denied_in c.args.marks.now c.args.kind.may_drop) c.next_field-field.result.now (tracked_from c.args.kind.base c.loop-text.from.0 c.args.seq.now) (length c.args.ml.now - c.loop-text.used)) = (let places = tracked_from c.args.kind.base c.loop-text.from.0 c.args.seq.now in
    subst (λ (n : ℕ). reached_says c.read_entry.result ≡ with_passed (held_in c.args.window.lo c.args.after.now c.args.kind.base) (value c.next_field-field.result.now) places
    (read_entry c.args.kind.values (denied_in c.args.marks.now c.args.kind.may_drop) c.next_field-field.result.now places (n - c.loop-text.used))) c.loop-text.invariant.11 c.read_entry.ensures) in
    let went : Went (held_in c.args.window.lo c.args.after.now c.args.kind.base) (denied_in c.args.marks.now c.args.kind.may_drop) c.args.kind.values c.next_field-field.result.now c.args.kind.base c.loop-text.from.0 c.args.seq.now (length c.args.ml.now - c.loop-text.used) c.in_ok-place.place.0 c.in_ok-place.passed.0 = reached_went (held_in c.args.window.lo c.args.after.now c.args.kind.base) (denied_in c.args.marks.now c.args.kind.may_drop) c.args.kind.values
    c.next_field-field.result.now
    c.args.kind.base c.loop-text.from.0 c.args.seq.now (length c.args.ml.now - c.loop-text.used) c.in_ok-place.place.0 c.in_ok-place.passed.0
    (sym (ap reached_says c.in_ok-place.was) ∙ read_there) in
    let bounds : (c.loop-text.used + c.args.kind.values ≤ length c.args.ml.now) × (length c.args.ml.now ≤ 65536) × (c.loop-text.at < length c.args.text.now) × (c.loop-text.at + 1 + length c.next_field-field.result.now < length c.args.text.now) × (length c.args.text.now ≤ 65536) × (c.loop-text.pen.end ≤ c.loop-text.at) × (c.loop-text.pen.kept ≤ c.loop-text.used) × (c.loop-text.pen.gap + c.in_ok-place.passed.0 ≤ 16000) = (let w = went in
    let i = known in
    let low : c.loop-text.at < length c.args.text.now = omega (arith, i.0, c.requires) in
    let rest = turn_rest c.args.kind.values (denied_in c.args.marks.now c.args.kind.may_drop) c.args.text.now c.loop-text.at low (comma_there) c.next_field-field.result.now
    (field_there) [] c.args.ml.now c.loop-text.used in (
      omega (arith, w.enough, i.3),
      c.requires.seq_len_bound.2,
      low,
      omega (arith, rest, i.0, c.requires),
      c.requires.seq_len_bound.1,
      omega (arith, i.4, c.requires),
      omega (arith, i.5, c.requires),
      omega (arith, i.6, w.fewer),
    )) in
    omega (arith, bounds)

pub overflow_add-at-in-loop-text-2 : goal.overflow_add-at-in-loop-text-2
overflow_add-at-in-loop-text-2 c =
    let known : Walked c.args.seq.now c.args.after.now c.args.marks.now c.args.window c.args.kind c.args.text.now c.args.ml.now c.args.start.at c.args.start.used (pen_of c.args.start) c.loop-text.from c.loop-text.text c.loop-text.ml c.loop-text.at c.loop-text.used c.loop-text.pen c.loop-text.from = subst (λ (p : Pen). Walked c.args.seq.now c.args.after.now c.args.marks.now c.args.window c.args.kind c.args.text.now c.args.ml.now c.args.start.at c.args.start.used p
    c.loop-text.from c.loop-text.text c.loop-text.ml c.loop-text.at c.loop-text.used c.loop-text.pen c.loop-text.from) c.pen-pen.ensures c.loop-text.invariant in
    let field_there : c.next_field-field.result.now ≡ field_of (drop (c.loop-text.at + 1) c.args.text.now) = c.next_field-field.ensures ∙ ap field_of (same_later c.loop-text.text
    c.args.text.now c.loop-text.at (c.loop-text.at + 1) (omega arith)
    c.loop-text.invariant.8) in
    let comma_there : get_or c.args.text.now c.loop-text.at 0 ≡ 44 = sym (same_at c.loop-text.text c.args.text.now c.loop-text.at c.loop-text.at 0 (omega arith)
    c.loop-text.invariant.8) ∙ c.loop-text-test.true in
    let read_there : reached_says c.read_entry.result ≡ with_passed (held_in c.args.window.lo c.args.after.now c.args.kind.base) (value c.next_field-field.result.now) (tracked_from c.args.kind.base c.loop-text.from.0 c.args.seq.now) (read_entry c.args.kind.values (denied_in c.args.marks.now c.args.kind.may_drop) c.next_field-field.result.now (tracked_from c.args.kind.base c.loop-text.from.0 c.args.seq.now) (length c.args.ml.now - c.loop-text.used)) = (let places = tracked_from c.args.kind.base c.loop-text.from.0 c.args.seq.now in
    subst (λ (n : ℕ). reached_says c.read_entry.result ≡ with_passed (held_in c.args.window.lo c.args.after.now c.args.kind.base) (value c.next_field-field.result.now) places
    (read_entry c.args.kind.values (denied_in c.args.marks.now c.args.kind.may_drop) c.next_field-field.result.now places (n - c.loop-text.used))) c.loop-text.invariant.11 c.read_entry.ensures) in
    let went : Went (held_in c.args.window.lo c.args.after.now c.args.kind.base) (denied_in c.args.marks.now c.args.kind.may_drop) c.args.kind.values c.next_field-field.result.now c.args.kind.base c.loop-text.from.0 c.args.seq.now (length c.args.ml.now - c.loop-text.used) c.in_ok-place.place.0 c.in_ok-place.passed.0 = reached_went (held_in c.args.window.lo c.args.after.now c.args.kind.base) (denied_in c.args.marks.now c.args.kind.may_drop) c.args.kind.values
    c.next_field-field.result.now
    c.args.kind.base c.loop-text.from.0 c.args.seq.now (length c.args.ml.now - c.loop-text.used) c.in_ok-place.place.0 c.in_ok-place.passed.0
    (sym (ap reached_says c.in_ok-place.was) ∙ read_there) in
    let bounds : (c.loop-text.used + c.args.kind.values ≤ length c.args.ml.now) × (length c.args.ml.now ≤ 65536) × (c.loop-text.at < length c.args.text.now) × (c.loop-text.at + 1 + length c.next_field-field.result.now < length c.args.text.now) × (length c.args.text.now ≤ 65536) × (c.loop-text.pen.end ≤ c.loop-text.at) × (c.loop-text.pen.kept ≤ c.loop-text.used) × (c.loop-text.pen.gap + c.in_ok-place.passed.0 ≤ 16000) = (let w = went in
    let i = known in
    let low : c.loop-text.at < length c.args.text.now = omega (arith, i.0, c.requires) in
    let rest = turn_rest c.args.kind.values (denied_in c.args.marks.now c.args.kind.may_drop) c.args.text.now c.loop-text.at low (comma_there) c.next_field-field.result.now
    (field_there) [] c.args.ml.now c.loop-text.used in (
      omega (arith, w.enough, i.3),
      c.requires.seq_len_bound.2,
      low,
      omega (arith, rest, i.0, c.requires),
      c.requires.seq_len_bound.1,
      omega (arith, i.4, c.requires),
      omega (arith, i.5, c.requires),
      omega (arith, i.6, w.fewer),
    )) in
    omega (arith, bounds)

pub loop-text-smaller : goal.loop-text-smaller
loop-text-smaller c =
    let known : Walked c.args.seq.now c.args.after.now c.args.marks.now c.args.window c.args.kind c.args.text.now c.args.ml.now c.args.start.at c.args.start.used (pen_of c.args.start) c.loop-text.from c.loop-text.text c.loop-text.ml c.loop-text.at c.loop-text.used c.loop-text.pen c.loop-text.from = subst (λ (p : Pen). Walked c.args.seq.now c.args.after.now c.args.marks.now c.args.window c.args.kind c.args.text.now c.args.ml.now c.args.start.at c.args.start.used p
    c.loop-text.from c.loop-text.text c.loop-text.ml c.loop-text.at c.loop-text.used c.loop-text.pen c.loop-text.from) c.pen-pen.ensures c.loop-text.invariant in
    let field_there : c.next_field-field.result.now ≡ field_of (drop (c.loop-text.at + 1) c.args.text.now) = c.next_field-field.ensures ∙ ap field_of (same_later c.loop-text.text
    c.args.text.now c.loop-text.at (c.loop-text.at + 1) (omega arith)
    c.loop-text.invariant.8) in
    let comma_there : get_or c.args.text.now c.loop-text.at 0 ≡ 44 = sym (same_at c.loop-text.text c.args.text.now c.loop-text.at c.loop-text.at 0 (omega arith)
    c.loop-text.invariant.8) ∙ c.loop-text-test.true in
    let read_there : reached_says c.read_entry.result ≡ with_passed (held_in c.args.window.lo c.args.after.now c.args.kind.base) (value c.next_field-field.result.now) (tracked_from c.args.kind.base c.loop-text.from.0 c.args.seq.now) (read_entry c.args.kind.values (denied_in c.args.marks.now c.args.kind.may_drop) c.next_field-field.result.now (tracked_from c.args.kind.base c.loop-text.from.0 c.args.seq.now) (length c.args.ml.now - c.loop-text.used)) = (let places = tracked_from c.args.kind.base c.loop-text.from.0 c.args.seq.now in
    subst (λ (n : ℕ). reached_says c.read_entry.result ≡ with_passed (held_in c.args.window.lo c.args.after.now c.args.kind.base) (value c.next_field-field.result.now) places
    (read_entry c.args.kind.values (denied_in c.args.marks.now c.args.kind.may_drop) c.next_field-field.result.now places (n - c.loop-text.used))) c.loop-text.invariant.11 c.read_entry.ensures) in
    let went : Went (held_in c.args.window.lo c.args.after.now c.args.kind.base) (denied_in c.args.marks.now c.args.kind.may_drop) c.args.kind.values c.next_field-field.result.now c.args.kind.base c.loop-text.from.0 c.args.seq.now (length c.args.ml.now - c.loop-text.used) c.in_ok-place.place.0 c.in_ok-place.passed.0 = reached_went (held_in c.args.window.lo c.args.after.now c.args.kind.base) (denied_in c.args.marks.now c.args.kind.may_drop) c.args.kind.values
    c.next_field-field.result.now
    c.args.kind.base c.loop-text.from.0 c.args.seq.now (length c.args.ml.now - c.loop-text.used) c.in_ok-place.place.0 c.in_ok-place.passed.0
    (sym (ap reached_says c.in_ok-place.was) ∙ read_there) in
    let bounds : (c.loop-text.used + c.args.kind.values ≤ length c.args.ml.now) × (length c.args.ml.now ≤ 65536) × (c.loop-text.at < length c.args.text.now) × (c.loop-text.at + 1 + length c.next_field-field.result.now < length c.args.text.now) × (length c.args.text.now ≤ 65536) × (c.loop-text.pen.end ≤ c.loop-text.at) × (c.loop-text.pen.kept ≤ c.loop-text.used) × (c.loop-text.pen.gap + c.in_ok-place.passed.0 ≤ 16000) = (let w = went in
    let i = known in
    let low : c.loop-text.at < length c.args.text.now = omega (arith, i.0, c.requires) in
    let rest = turn_rest c.args.kind.values (denied_in c.args.marks.now c.args.kind.may_drop) c.args.text.now c.loop-text.at low (comma_there) c.next_field-field.result.now
    (field_there) [] c.args.ml.now c.loop-text.used in (
      omega (arith, w.enough, i.3),
      c.requires.seq_len_bound.2,
      low,
      omega (arith, rest, i.0, c.requires),
      c.requires.seq_len_bound.1,
      omega (arith, i.4, c.requires),
      omega (arith, i.5, c.requires),
      omega (arith, i.6, w.fewer),
    )) in
    omega (arith, bounds)

pub loop-text-preserved : goal.loop-text-preserved
loop-text-preserved c =
    let known : Walked c.args.seq.now c.args.after.now c.args.marks.now c.args.window c.args.kind c.args.text.now c.args.ml.now c.args.start.at c.args.start.used (pen_of c.args.start) c.loop-text.from c.loop-text.text c.loop-text.ml c.loop-text.at c.loop-text.used c.loop-text.pen c.loop-text.from = subst (λ (p : Pen). Walked c.args.seq.now c.args.after.now c.args.marks.now c.args.window c.args.kind c.args.text.now c.args.ml.now c.args.start.at c.args.start.used p
    c.loop-text.from c.loop-text.text c.loop-text.ml c.loop-text.at c.loop-text.used c.loop-text.pen c.loop-text.from) c.pen-pen.ensures c.loop-text.invariant in
    let field_there : c.next_field-field.result.now ≡ field_of (drop (c.loop-text.at + 1) c.args.text.now) = c.next_field-field.ensures ∙ ap field_of (same_later c.loop-text.text
    c.args.text.now c.loop-text.at (c.loop-text.at + 1) (omega arith)
    c.loop-text.invariant.8) in
    let comma_there : get_or c.args.text.now c.loop-text.at 0 ≡ 44 = sym (same_at c.loop-text.text c.args.text.now c.loop-text.at c.loop-text.at 0 (omega arith)
    c.loop-text.invariant.8) ∙ c.loop-text-test.true in
    let read_there : reached_says c.read_entry.result ≡ with_passed (held_in c.args.window.lo c.args.after.now c.args.kind.base) (value c.next_field-field.result.now) (tracked_from c.args.kind.base c.loop-text.from.0 c.args.seq.now) (read_entry c.args.kind.values (denied_in c.args.marks.now c.args.kind.may_drop) c.next_field-field.result.now (tracked_from c.args.kind.base c.loop-text.from.0 c.args.seq.now) (length c.args.ml.now - c.loop-text.used)) = (let places = tracked_from c.args.kind.base c.loop-text.from.0 c.args.seq.now in
    subst (λ (n : ℕ). reached_says c.read_entry.result ≡ with_passed (held_in c.args.window.lo c.args.after.now c.args.kind.base) (value c.next_field-field.result.now) places
    (read_entry c.args.kind.values (denied_in c.args.marks.now c.args.kind.may_drop) c.next_field-field.result.now places (n - c.loop-text.used))) c.loop-text.invariant.11 c.read_entry.ensures) in
    let went : Went (held_in c.args.window.lo c.args.after.now c.args.kind.base) (denied_in c.args.marks.now c.args.kind.may_drop) c.args.kind.values c.next_field-field.result.now c.args.kind.base c.loop-text.from.0 c.args.seq.now (length c.args.ml.now - c.loop-text.used) c.in_ok-place.place.0 c.in_ok-place.passed.0 = reached_went (held_in c.args.window.lo c.args.after.now c.args.kind.base) (denied_in c.args.marks.now c.args.kind.may_drop) c.args.kind.values
    c.next_field-field.result.now
    c.args.kind.base c.loop-text.from.0 c.args.seq.now (length c.args.ml.now - c.loop-text.used) c.in_ok-place.place.0 c.in_ok-place.passed.0
    (sym (ap reached_says c.in_ok-place.was) ∙ read_there) in
    let bounds : (c.loop-text.used + c.args.kind.values ≤ length c.args.ml.now) × (length c.args.ml.now ≤ 65536) × (c.loop-text.at < length c.args.text.now) × (c.loop-text.at + 1 + length c.next_field-field.result.now < length c.args.text.now) × (length c.args.text.now ≤ 65536) × (c.loop-text.pen.end ≤ c.loop-text.at) × (c.loop-text.pen.kept ≤ c.loop-text.used) × (c.loop-text.pen.gap + c.in_ok-place.passed.0 ≤ 16000) = (let w = went in
    let i = known in
    let low : c.loop-text.at < length c.args.text.now = omega (arith, i.0, c.requires) in
    let rest = turn_rest c.args.kind.values (denied_in c.args.marks.now c.args.kind.may_drop) c.args.text.now c.loop-text.at low (comma_there) c.next_field-field.result.now
    (field_there) [] c.args.ml.now c.loop-text.used in (
      omega (arith, w.enough, i.3),
      c.requires.seq_len_bound.2,
      low,
      omega (arith, rest, i.0, c.requires),
      c.requires.seq_len_bound.1,
      omega (arith, i.4, c.requires),
      omega (arith, i.5, c.requires),
      omega (arith, i.6, w.fewer),
    )) in
    let starts = c.pen-pen.ensures in
    let w = went in
    let b = bounds in
    let p = c.in_ok-place.place.0 in
    let n = c.in_ok-place.passed.0 in
    let t = c.args.text.now in
    let held = held_in c.args.window.lo c.args.after.now c.args.kind.base in
    let named = is_marked c.args.marks.now in
    let denied = denied_in c.args.marks.now c.args.kind.may_drop in
    let places = tracked_from c.args.kind.base c.loop-text.from.0 c.args.seq.now in
    let comma = comma_there in
    let field = field_there in
    let vs = take c.args.kind.values (drop c.loop-text.used c.args.ml.now) in
    let here = draft c.loop-text.text c.loop-text.pen.end c.loop-text.ml c.loop-text.pen.kept in
    let there = draft c.put_entry-pen.new.text c.put_entry-pen.result.end c.put_entry-pen.new.ml c.put_entry-pen.result.kept in
    let stored : entry_put (held p) (named p) here (c.loop-text.pen.gap + n) vs ≡ (there, c.put_entry-pen.result.gap) =
    subst (λ (d : List ℕ). entry_put (held p) (named p) here (c.loop-text.pen.gap + n) (take c.args.kind.values d) ≡ (there, c.put_entry-pen.result.gap)) c.loop-text.invariant.9
    (subst (λ (q : Pen). entry_put (held p) (named p) (draft c.loop-text.text q.end c.loop-text.ml q.kept) q.gap (take c.args.kind.values (drop c.loop-text.used c.loop-text.ml))
    ≡ (there, c.put_entry-pen.result.gap)) c.past-waiting.ensures c.put_entry-pen.ensures) in
    let few = put_few (held p) (named p) here (c.loop-text.pen.gap + n) vs there c.put_entry-pen.result.gap stored in
    let next = c.loop-text.at + 1 + length c.next_field-field.result.now in
    let behind = put_behind c.args.start.at c.pen-pen.result.end c.loop-text.at c.next_field-field.result.now w.number n w.few here c.loop-text.pen.gap vs c.loop-text.invariant.4 (held p)
    (named p) there c.put_entry-pen.result.gap stored in
    let fewer : c.args.start.used + c.put_entry-pen.result.kept ≤ c.pen-pen.result.kept + (c.loop-text.used + c.args.kind.values) = omega (
      arith,
      c.loop-text.invariant.5,
      few.0,
      length-take c.args.kind.values (drop c.loop-text.used c.args.ml.now),
    ) in
    let ahead = put_ahead (held p) (named p) here (c.loop-text.pen.gap + n) vs there c.put_entry-pen.result.gap stored in
    let rest = read_spots c.args.kind.values denied (led_by 44 (up_to 59 (drop next t))) (tracked_from c.args.kind.base (p + 1) c.args.seq.now)
    (drop (c.loop-text.used + c.args.kind.values) c.args.ml.now) in (
      omega (arith, c.loop-text.invariant.0, turn_rest c.args.kind.values denied t c.loop-text.at b.2 comma c.next_field-field.result.now field places c.args.ml.now c.loop-text.used),
      turn_field c.args.kind.values denied t c.loop-text.at b.2 comma c.next_field-field.result.now field places c.args.ml.now c.loop-text.used,
      omega (arith, w.inside),
      b.0,
      behind,
      fewer,
      omega (arith, c.loop-text.invariant.6, few.1, w.fewer),
      c.loop-text.invariant.7
          ∙ ap (on_done (spots_put held named here c.loop-text.pen.gap))
          (turn_on c.args.kind.values denied t c.loop-text.at b.2 comma c.next_field-field.result.now field places c.args.ml.now c.loop-text.used p
          (tracked_from c.args.kind.base (p + 1) c.args.seq.now) w.goes)
          ∙ put_one held named here c.loop-text.pen.gap (take (value c.next_field-field.result.now) places) p vs n there c.put_entry-pen.result.gap w.passed stored rest,
      ahead.0 next (omega (
        arith,
        behind.0,
        ap (λ (q : Pen). q.end) starts,
        c.requires,
      )) ∙ same_later
          c.loop-text.text t c.loop-text.at next (omega arith) c.loop-text.invariant.8,
      ahead.1 (c.loop-text.used + c.args.kind.values) (omega (
        arith,
        fewer,
        ap (λ (q : Pen). q.kept) starts,
        c.requires,
      ))
          ∙ same_later c.loop-text.ml c.args.ml.now c.loop-text.used (c.loop-text.used + c.args.kind.values) (omega arith) c.loop-text.invariant.9,
      c.put_entry-pen.auto.text ∙ c.loop-text.invariant.10,
      c.put_entry-pen.auto.ml ∙ c.loop-text.invariant.11,
    )

pub returns : goal.returns
unfolding tracked tracked_from
returns c =
    let known : Walked c.args.seq.now c.args.after.now c.args.marks.now c.args.window c.args.kind c.args.text.now c.args.ml.now c.args.start.at c.args.start.used (pen_of c.args.start) c.loop-text.from c.loop-text.text c.loop-text.ml c.loop-text.at c.loop-text.used c.loop-text.pen c.loop-text.from = subst (λ (p : Pen). Walked c.args.seq.now c.args.after.now c.args.marks.now c.args.window c.args.kind c.args.text.now c.args.ml.now c.args.start.at c.args.start.used p
    c.loop-text.from c.loop-text.text c.loop-text.ml c.loop-text.at c.loop-text.used c.loop-text.pen c.loop-text.from) c.pen-pen.ensures c.loop-text.invariant in
    let i = known in
    let t = c.args.text.now in
    let held = held_in c.args.window.lo c.args.after.now c.args.kind.base in
    let denied = denied_in c.args.marks.now c.args.kind.may_drop in
    let places = tracked_from c.args.kind.base c.loop-text.from.0 c.args.seq.now in
    let low : c.loop-text.at < length t = omega (arith, c.loop-text.invariant.0, c.requires) in
    let there : get_or t c.loop-text.at 0 ≡ get_or c.loop-text.text c.loop-text.at 0 = sym (same_at c.loop-text.text t c.loop-text.at c.loop-text.at 0 (omega arith) c.loop-text.invariant.8) in
    let semi = ends_semicolon t c.loop-text.at low c.loop-text.invariant.1 (λ e. c.loop-text-test.false (sym there ∙ e)) in
    let w = draft c.loop-text.text c.loop-text.pen.end c.loop-text.ml c.loop-text.pen.kept in
    subst (λ (d : Cursor). EntriesEdited held (is_marked c.args.marks.now) t c.args.ml.now c.args.start
    (read_spots c.args.kind.values denied (led_by 44 (up_to 59 (drop c.args.start.at t))) (tracked c.args.kind.base c.args.seq.now) (drop c.args.start.used c.args.ml.now))
    t c.args.ml.now (Ok d) c.loop-text.text c.loop-text.ml) (sym c.behind.ensures) (
      omega (arith, i.0, rest_semicolon t c.loop-text.at low semi),
      i.3,
      i.4.0,
      i.5,
      i.7
          ∙ ap (on_done (spots_put held (is_marked c.args.marks.now) w c.loop-text.pen.gap))
          (turn_end c.args.kind.values denied t c.loop-text.at low semi places (drop c.loop-text.used c.args.ml.now))
          ∙ put_end held (is_marked c.args.marks.now) w c.loop-text.pen.gap places (drop c.loop-text.used c.args.ml.now),
    )

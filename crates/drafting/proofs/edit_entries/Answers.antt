use Rattle.std.specs.Prelude.{Ok, Err}
use mathlib.Core.Path.{◌∙◌, ◌≡◌, ap, refl, subst, sym}
use Prim.Native.Nat.{◌+◌, ◌-◌, ◌<◌, ◌≤◌, ℕ}
use native.Mathlib.Omega.{arith}
use mathlib.Core.List.{[]}
use lib.ListN.{drop, length, length-take, take}
use Rattle.entries.proofs.PutLaws.{put_behind, put_few}
use Rattle.drafting.specs.Walks.{EntriesEdited, pen_of, spots_put}
use Rattle.drafting.specs.declared.Cursor.{Cursor}
use Rattle.drafting.proofs.DraftLaws.{put_end, put_one}
use Rattle.changing.proofs.EntryLaws.{Went, reached_refused, reached_went}
use Rattle.entries.specs.Answers.{reached_says}
use Rattle.entries.specs.declared.Pen.{Pen}
use Rattle.changing.specs.Drafts.{draft, entry_put}
use Rattle.changing.specs.Windows.{denied_in, held_in, is_marked}
use Rattle.lent.proofs.Outcome.{on_done_refused}
use Rattle.lent.specs.Outcome.{on_done}
use Rattle.samtags.proofs.Behind.{behind_start}
use Rattle.samtags.specs.Decimal.{value}
use Rattle.samtags.specs.Reading.{read_spots}
use Rattle.samtags.specs.Spots.{tracked}
use Rattle.samtags.specs.Text.{led_by, up_to}
use Rattle.places.proofs.TextLaws.{ends_semicolon, rest_semicolon, turn_end, turn_field, turn_on, turn_refused, turn_rest}
use Rattle.places.proofs.WalkLaws.{tracked_few}
use Rattle.places.specs.Walk.{tracked_from}
use Rattle.drafting.proofs.edit_entries.Goals as goal
use Rattle.lent.proofs.Outcome.{passed_on}
use Rattle.drafting.proofs.edit_entries.Invariants.{Walked, put_from}

pub loop-at-init : goal.loop-at-init
loop-at-init c =
    let none : c.pen-pen.result.gap ≡ 0 = ap (λ (q : Pen). q.gap) c.pen-pen.ensures in (
      refl,
      omega arith,
      omega arith,
      omega arith,
      rw none (behind_start (c.args.start.at + c.pen-pen.result.end) (c.pen-pen.result.end + c.args.start.at) (omega arith)),
      omega arith,
      omega (arith, none, tracked_few c.args.kind.base 0 c.args.seq.now),
      ap (λ (n : ℕ). put_from c.args.seq.now c.args.after.now c.args.marks.now c.args.text.now c.args.ml.now c.args.window c.args.kind
          (draft c.args.out.now c.pen-pen.result.end c.args.ml_out.now c.pen-pen.result.kept) n c.args.start.used c.args.start.at 0) (sym none),
      refl,
      refl,
    )

pub read_entry-requires : goal.read_entry-requires
read_entry-requires c = (omega arith, omega arith, c.requires.seq_len_bound.3)

pub returns-in_err-place : goal.returns-in_err-place
unfolding tracked tracked_from
returns-in_err-place c =
    let held = held_in c.args.window.lo c.args.after.now c.args.kind.base in
    let denied = denied_in c.args.marks.now c.args.kind.may_drop in
    let places = tracked_from c.args.kind.base c.loop-at.from.0 c.args.seq.now in
    let low : c.loop-at.at < length c.args.text.now = omega (
      arith,
      c.loop-at.invariant.0,
      c.requires,
    ) in
    rw (passed_on _ _ c.from_residual.ensures.1) (on_done_refused _ _ _ (c.loop-at.invariant.7
    ∙ ap (on_done (spots_put held (is_marked c.args.marks.now) (draft c.loop-at.out c.loop-at.pen.end c.loop-at.ml_out c.loop-at.pen.kept) c.loop-at.pen.gap))
    (turn_refused c.args.kind.values denied c.args.text.now c.loop-at.at low c.loop-at-test.true c.next_field-field.result.now c.next_field-field.ensures
    places c.args.ml.now c.loop-at.used c.in_err-place.field-0.0
    (reached_refused held denied c.args.kind.values c.next_field-field.result.now places (length c.args.ml.now - c.loop-at.used) c.in_err-place.field-0.0
    (sym (ap reached_says c.in_err-place.was) ∙ c.read_entry.ensures)))))

pub past-waiting-requires : goal.past-waiting-requires
past-waiting-requires c =
    let known : Walked c.args.seq.now c.args.after.now c.args.marks.now c.args.text.now c.args.ml.now c.args.window c.args.kind c.args.out.now c.args.ml_out.now c.args.kind.values c.args.start.at c.args.start.used (pen_of c.args.start) c.loop-at.from c.loop-at.out c.loop-at.ml_out c.loop-at.at c.loop-at.used c.loop-at.pen c.loop-at.from = subst (λ (p : Pen). Walked c.args.seq.now c.args.after.now c.args.marks.now c.args.text.now c.args.ml.now c.args.window c.args.kind c.args.out.now c.args.ml_out.now
    c.args.kind.values c.args.start.at c.args.start.used p c.loop-at.from c.loop-at.out c.loop-at.ml_out c.loop-at.at c.loop-at.used c.loop-at.pen c.loop-at.from)
    c.pen-pen.ensures c.loop-at.invariant in
    let went : Went (held_in c.args.window.lo c.args.after.now c.args.kind.base) (denied_in c.args.marks.now c.args.kind.may_drop) c.args.kind.values c.next_field-field.result.now c.args.kind.base c.loop-at.from.0 c.args.seq.now (length c.args.ml.now - c.loop-at.used) c.in_ok-place.place.0 c.in_ok-place.passed.0 = reached_went (held_in c.args.window.lo c.args.after.now c.args.kind.base) (denied_in c.args.marks.now c.args.kind.may_drop) c.args.kind.values
    c.next_field-field.result.now c.args.kind.base
    c.loop-at.from.0 c.args.seq.now (length c.args.ml.now - c.loop-at.used) c.in_ok-place.place.0 c.in_ok-place.passed.0
    (sym (ap reached_says c.in_ok-place.was) ∙ c.read_entry.ensures) in
    let bounds : (c.loop-at.used + c.args.kind.values ≤ length c.args.ml.now) × (length c.args.ml.now ≤ 65536) × (c.loop-at.at < length c.args.text.now) × (c.loop-at.at + 1 + length c.next_field-field.result.now < length c.args.text.now) × (length c.args.text.now ≤ 65536) × (c.loop-at.pen.end ≤ 131072) × (c.loop-at.pen.kept ≤ 131072) × (c.loop-at.pen.gap + c.in_ok-place.passed.0 ≤ 16000) = (let i = known in
    let w = went in
    let low : c.loop-at.at < length c.args.text.now = omega (
      arith,
      c.loop-at.invariant.0,
      c.requires,
    ) in
    let rest = turn_rest c.args.kind.values (denied_in c.args.marks.now c.args.kind.may_drop) c.args.text.now c.loop-at.at low
    c.loop-at-test.true
    c.next_field-field.result.now c.next_field-field.ensures [] c.args.ml.now c.loop-at.used in (
      omega (arith, w.enough, i.3),
      c.requires.seq_len_bound.2,
      low,
      omega (arith, rest, i.0, c.requires),
      c.requires.seq_len_bound.1,
      omega (arith, i.4, c.requires, low),
      omega (arith, i.5, i.3, c.requires),
      omega (arith, i.6, w.fewer),
    )) in
    omega (arith, bounds)

pub overflow_add-own : goal.overflow_add-own
overflow_add-own c =
    let known : Walked c.args.seq.now c.args.after.now c.args.marks.now c.args.text.now c.args.ml.now c.args.window c.args.kind c.args.out.now c.args.ml_out.now c.args.kind.values c.args.start.at c.args.start.used (pen_of c.args.start) c.loop-at.from c.loop-at.out c.loop-at.ml_out c.loop-at.at c.loop-at.used c.loop-at.pen c.loop-at.from = subst (λ (p : Pen). Walked c.args.seq.now c.args.after.now c.args.marks.now c.args.text.now c.args.ml.now c.args.window c.args.kind c.args.out.now c.args.ml_out.now
    c.args.kind.values c.args.start.at c.args.start.used p c.loop-at.from c.loop-at.out c.loop-at.ml_out c.loop-at.at c.loop-at.used c.loop-at.pen c.loop-at.from)
    c.pen-pen.ensures c.loop-at.invariant in
    let went : Went (held_in c.args.window.lo c.args.after.now c.args.kind.base) (denied_in c.args.marks.now c.args.kind.may_drop) c.args.kind.values c.next_field-field.result.now c.args.kind.base c.loop-at.from.0 c.args.seq.now (length c.args.ml.now - c.loop-at.used) c.in_ok-place.place.0 c.in_ok-place.passed.0 = reached_went (held_in c.args.window.lo c.args.after.now c.args.kind.base) (denied_in c.args.marks.now c.args.kind.may_drop) c.args.kind.values
    c.next_field-field.result.now c.args.kind.base
    c.loop-at.from.0 c.args.seq.now (length c.args.ml.now - c.loop-at.used) c.in_ok-place.place.0 c.in_ok-place.passed.0
    (sym (ap reached_says c.in_ok-place.was) ∙ c.read_entry.ensures) in
    let bounds : (c.loop-at.used + c.args.kind.values ≤ length c.args.ml.now) × (length c.args.ml.now ≤ 65536) × (c.loop-at.at < length c.args.text.now) × (c.loop-at.at + 1 + length c.next_field-field.result.now < length c.args.text.now) × (length c.args.text.now ≤ 65536) × (c.loop-at.pen.end ≤ 131072) × (c.loop-at.pen.kept ≤ 131072) × (c.loop-at.pen.gap + c.in_ok-place.passed.0 ≤ 16000) = (let i = known in
    let w = went in
    let low : c.loop-at.at < length c.args.text.now = omega (
      arith,
      c.loop-at.invariant.0,
      c.requires,
    ) in
    let rest = turn_rest c.args.kind.values (denied_in c.args.marks.now c.args.kind.may_drop) c.args.text.now c.loop-at.at low
    c.loop-at-test.true
    c.next_field-field.result.now c.next_field-field.ensures [] c.args.ml.now c.loop-at.used in (
      omega (arith, w.enough, i.3),
      c.requires.seq_len_bound.2,
      low,
      omega (arith, rest, i.0, c.requires),
      c.requires.seq_len_bound.1,
      omega (arith, i.4, c.requires, low),
      omega (arith, i.5, i.3, c.requires),
      omega (arith, i.6, w.fewer),
    )) in
    omega (arith, bounds)

pub slice_bounds-own-end : goal.slice_bounds-own-end
slice_bounds-own-end c =
    let known : Walked c.args.seq.now c.args.after.now c.args.marks.now c.args.text.now c.args.ml.now c.args.window c.args.kind c.args.out.now c.args.ml_out.now c.args.kind.values c.args.start.at c.args.start.used (pen_of c.args.start) c.loop-at.from c.loop-at.out c.loop-at.ml_out c.loop-at.at c.loop-at.used c.loop-at.pen c.loop-at.from = subst (λ (p : Pen). Walked c.args.seq.now c.args.after.now c.args.marks.now c.args.text.now c.args.ml.now c.args.window c.args.kind c.args.out.now c.args.ml_out.now
    c.args.kind.values c.args.start.at c.args.start.used p c.loop-at.from c.loop-at.out c.loop-at.ml_out c.loop-at.at c.loop-at.used c.loop-at.pen c.loop-at.from)
    c.pen-pen.ensures c.loop-at.invariant in
    let went : Went (held_in c.args.window.lo c.args.after.now c.args.kind.base) (denied_in c.args.marks.now c.args.kind.may_drop) c.args.kind.values c.next_field-field.result.now c.args.kind.base c.loop-at.from.0 c.args.seq.now (length c.args.ml.now - c.loop-at.used) c.in_ok-place.place.0 c.in_ok-place.passed.0 = reached_went (held_in c.args.window.lo c.args.after.now c.args.kind.base) (denied_in c.args.marks.now c.args.kind.may_drop) c.args.kind.values
    c.next_field-field.result.now c.args.kind.base
    c.loop-at.from.0 c.args.seq.now (length c.args.ml.now - c.loop-at.used) c.in_ok-place.place.0 c.in_ok-place.passed.0
    (sym (ap reached_says c.in_ok-place.was) ∙ c.read_entry.ensures) in
    let bounds : (c.loop-at.used + c.args.kind.values ≤ length c.args.ml.now) × (length c.args.ml.now ≤ 65536) × (c.loop-at.at < length c.args.text.now) × (c.loop-at.at + 1 + length c.next_field-field.result.now < length c.args.text.now) × (length c.args.text.now ≤ 65536) × (c.loop-at.pen.end ≤ 131072) × (c.loop-at.pen.kept ≤ 131072) × (c.loop-at.pen.gap + c.in_ok-place.passed.0 ≤ 16000) = (let i = known in
    let w = went in
    let low : c.loop-at.at < length c.args.text.now = omega (
      arith,
      c.loop-at.invariant.0,
      c.requires,
    ) in
    let rest = turn_rest c.args.kind.values (denied_in c.args.marks.now c.args.kind.may_drop) c.args.text.now c.loop-at.at low
    c.loop-at-test.true
    c.next_field-field.result.now c.next_field-field.ensures [] c.args.ml.now c.loop-at.used in (
      omega (arith, w.enough, i.3),
      c.requires.seq_len_bound.2,
      low,
      omega (arith, rest, i.0, c.requires),
      c.requires.seq_len_bound.1,
      omega (arith, i.4, c.requires, low),
      omega (arith, i.5, i.3, c.requires),
      omega (arith, i.6, w.fewer),
    )) in
    omega (arith, bounds)

pub put_entry-pen-requires : goal.put_entry-pen-requires
put_entry-pen-requires c =
    let known : Walked c.args.seq.now c.args.after.now c.args.marks.now c.args.text.now c.args.ml.now c.args.window c.args.kind c.args.out.now c.args.ml_out.now c.args.kind.values c.args.start.at c.args.start.used (pen_of c.args.start) c.loop-at.from c.loop-at.out c.loop-at.ml_out c.loop-at.at c.loop-at.used c.loop-at.pen c.loop-at.from = subst (λ (p : Pen). Walked c.args.seq.now c.args.after.now c.args.marks.now c.args.text.now c.args.ml.now c.args.window c.args.kind c.args.out.now c.args.ml_out.now
    c.args.kind.values c.args.start.at c.args.start.used p c.loop-at.from c.loop-at.out c.loop-at.ml_out c.loop-at.at c.loop-at.used c.loop-at.pen c.loop-at.from)
    c.pen-pen.ensures c.loop-at.invariant in
    let went : Went (held_in c.args.window.lo c.args.after.now c.args.kind.base) (denied_in c.args.marks.now c.args.kind.may_drop) c.args.kind.values c.next_field-field.result.now c.args.kind.base c.loop-at.from.0 c.args.seq.now (length c.args.ml.now - c.loop-at.used) c.in_ok-place.place.0 c.in_ok-place.passed.0 = reached_went (held_in c.args.window.lo c.args.after.now c.args.kind.base) (denied_in c.args.marks.now c.args.kind.may_drop) c.args.kind.values
    c.next_field-field.result.now c.args.kind.base
    c.loop-at.from.0 c.args.seq.now (length c.args.ml.now - c.loop-at.used) c.in_ok-place.place.0 c.in_ok-place.passed.0
    (sym (ap reached_says c.in_ok-place.was) ∙ c.read_entry.ensures) in
    let bounds : (c.loop-at.used + c.args.kind.values ≤ length c.args.ml.now) × (length c.args.ml.now ≤ 65536) × (c.loop-at.at < length c.args.text.now) × (c.loop-at.at + 1 + length c.next_field-field.result.now < length c.args.text.now) × (length c.args.text.now ≤ 65536) × (c.loop-at.pen.end ≤ 131072) × (c.loop-at.pen.kept ≤ 131072) × (c.loop-at.pen.gap + c.in_ok-place.passed.0 ≤ 16000) = (let i = known in
    let w = went in
    let low : c.loop-at.at < length c.args.text.now = omega (
      arith,
      c.loop-at.invariant.0,
      c.requires,
    ) in
    let rest = turn_rest c.args.kind.values (denied_in c.args.marks.now c.args.kind.may_drop) c.args.text.now c.loop-at.at low
    c.loop-at-test.true
    c.next_field-field.result.now c.next_field-field.ensures [] c.args.ml.now c.loop-at.used in (
      omega (arith, w.enough, i.3),
      c.requires.seq_len_bound.2,
      low,
      omega (arith, rest, i.0, c.requires),
      c.requires.seq_len_bound.1,
      omega (arith, i.4, c.requires, low),
      omega (arith, i.5, i.3, c.requires),
      omega (arith, i.6, w.fewer),
    )) in
    let e = c.past-waiting.ensures in
    let b = bounds in (
      omega (arith, b.5, ap (λ (q : Pen). q.end) e),
      omega (arith, b.6, ap (λ (q : Pen). q.kept) e),
      omega (arith, b.7, ap (λ (q : Pen). q.gap) e),
      omega (arith, b.0, b.1, length-take (c.loop-at.used + c.args.kind.values - c.loop-at.used) (drop c.loop-at.used c.args.ml.now)),
    )

pub overflow_add-from : goal.overflow_add-from
overflow_add-from c =
    let went : Went (held_in c.args.window.lo c.args.after.now c.args.kind.base) (denied_in c.args.marks.now c.args.kind.may_drop) c.args.kind.values c.next_field-field.result.now c.args.kind.base c.loop-at.from.0 c.args.seq.now (length c.args.ml.now - c.loop-at.used) c.in_ok-place.place.0 c.in_ok-place.passed.0 = reached_went (held_in c.args.window.lo c.args.after.now c.args.kind.base) (denied_in c.args.marks.now c.args.kind.may_drop) c.args.kind.values
    c.next_field-field.result.now c.args.kind.base
    c.loop-at.from.0 c.args.seq.now (length c.args.ml.now - c.loop-at.used) c.in_ok-place.place.0 c.in_ok-place.passed.0
    (sym (ap reached_says c.in_ok-place.was) ∙ c.read_entry.ensures) in
    omega (arith, (went).inside, c.requires.seq_len_bound.0)

pub overflow_add-used : goal.overflow_add-used
overflow_add-used c =
    let known : Walked c.args.seq.now c.args.after.now c.args.marks.now c.args.text.now c.args.ml.now c.args.window c.args.kind c.args.out.now c.args.ml_out.now c.args.kind.values c.args.start.at c.args.start.used (pen_of c.args.start) c.loop-at.from c.loop-at.out c.loop-at.ml_out c.loop-at.at c.loop-at.used c.loop-at.pen c.loop-at.from = subst (λ (p : Pen). Walked c.args.seq.now c.args.after.now c.args.marks.now c.args.text.now c.args.ml.now c.args.window c.args.kind c.args.out.now c.args.ml_out.now
    c.args.kind.values c.args.start.at c.args.start.used p c.loop-at.from c.loop-at.out c.loop-at.ml_out c.loop-at.at c.loop-at.used c.loop-at.pen c.loop-at.from)
    c.pen-pen.ensures c.loop-at.invariant in
    let went : Went (held_in c.args.window.lo c.args.after.now c.args.kind.base) (denied_in c.args.marks.now c.args.kind.may_drop) c.args.kind.values c.next_field-field.result.now c.args.kind.base c.loop-at.from.0 c.args.seq.now (length c.args.ml.now - c.loop-at.used) c.in_ok-place.place.0 c.in_ok-place.passed.0 = reached_went (held_in c.args.window.lo c.args.after.now c.args.kind.base) (denied_in c.args.marks.now c.args.kind.may_drop) c.args.kind.values
    c.next_field-field.result.now c.args.kind.base
    c.loop-at.from.0 c.args.seq.now (length c.args.ml.now - c.loop-at.used) c.in_ok-place.place.0 c.in_ok-place.passed.0
    (sym (ap reached_says c.in_ok-place.was) ∙ c.read_entry.ensures) in
    let bounds : (c.loop-at.used + c.args.kind.values ≤ length c.args.ml.now) × (length c.args.ml.now ≤ 65536) × (c.loop-at.at < length c.args.text.now) × (c.loop-at.at + 1 + length c.next_field-field.result.now < length c.args.text.now) × (length c.args.text.now ≤ 65536) × (c.loop-at.pen.end ≤ 131072) × (c.loop-at.pen.kept ≤ 131072) × (c.loop-at.pen.gap + c.in_ok-place.passed.0 ≤ 16000) = (let i = known in
    let w = went in
    let low : c.loop-at.at < length c.args.text.now = omega (
      arith,
      c.loop-at.invariant.0,
      c.requires,
    ) in
    let rest = turn_rest c.args.kind.values (denied_in c.args.marks.now c.args.kind.may_drop) c.args.text.now c.loop-at.at low
    c.loop-at-test.true
    c.next_field-field.result.now c.next_field-field.ensures [] c.args.ml.now c.loop-at.used in (
      omega (arith, w.enough, i.3),
      c.requires.seq_len_bound.2,
      low,
      omega (arith, rest, i.0, c.requires),
      c.requires.seq_len_bound.1,
      omega (arith, i.4, c.requires, low),
      omega (arith, i.5, i.3, c.requires),
      omega (arith, i.6, w.fewer),
    )) in
    omega (arith, bounds)

pub overflow_add-at-in-loop-at : goal.overflow_add-at-in-loop-at
overflow_add-at-in-loop-at c =
    let known : Walked c.args.seq.now c.args.after.now c.args.marks.now c.args.text.now c.args.ml.now c.args.window c.args.kind c.args.out.now c.args.ml_out.now c.args.kind.values c.args.start.at c.args.start.used (pen_of c.args.start) c.loop-at.from c.loop-at.out c.loop-at.ml_out c.loop-at.at c.loop-at.used c.loop-at.pen c.loop-at.from = subst (λ (p : Pen). Walked c.args.seq.now c.args.after.now c.args.marks.now c.args.text.now c.args.ml.now c.args.window c.args.kind c.args.out.now c.args.ml_out.now
    c.args.kind.values c.args.start.at c.args.start.used p c.loop-at.from c.loop-at.out c.loop-at.ml_out c.loop-at.at c.loop-at.used c.loop-at.pen c.loop-at.from)
    c.pen-pen.ensures c.loop-at.invariant in
    let went : Went (held_in c.args.window.lo c.args.after.now c.args.kind.base) (denied_in c.args.marks.now c.args.kind.may_drop) c.args.kind.values c.next_field-field.result.now c.args.kind.base c.loop-at.from.0 c.args.seq.now (length c.args.ml.now - c.loop-at.used) c.in_ok-place.place.0 c.in_ok-place.passed.0 = reached_went (held_in c.args.window.lo c.args.after.now c.args.kind.base) (denied_in c.args.marks.now c.args.kind.may_drop) c.args.kind.values
    c.next_field-field.result.now c.args.kind.base
    c.loop-at.from.0 c.args.seq.now (length c.args.ml.now - c.loop-at.used) c.in_ok-place.place.0 c.in_ok-place.passed.0
    (sym (ap reached_says c.in_ok-place.was) ∙ c.read_entry.ensures) in
    let bounds : (c.loop-at.used + c.args.kind.values ≤ length c.args.ml.now) × (length c.args.ml.now ≤ 65536) × (c.loop-at.at < length c.args.text.now) × (c.loop-at.at + 1 + length c.next_field-field.result.now < length c.args.text.now) × (length c.args.text.now ≤ 65536) × (c.loop-at.pen.end ≤ 131072) × (c.loop-at.pen.kept ≤ 131072) × (c.loop-at.pen.gap + c.in_ok-place.passed.0 ≤ 16000) = (let i = known in
    let w = went in
    let low : c.loop-at.at < length c.args.text.now = omega (
      arith,
      c.loop-at.invariant.0,
      c.requires,
    ) in
    let rest = turn_rest c.args.kind.values (denied_in c.args.marks.now c.args.kind.may_drop) c.args.text.now c.loop-at.at low
    c.loop-at-test.true
    c.next_field-field.result.now c.next_field-field.ensures [] c.args.ml.now c.loop-at.used in (
      omega (arith, w.enough, i.3),
      c.requires.seq_len_bound.2,
      low,
      omega (arith, rest, i.0, c.requires),
      c.requires.seq_len_bound.1,
      omega (arith, i.4, c.requires, low),
      omega (arith, i.5, i.3, c.requires),
      omega (arith, i.6, w.fewer),
    )) in
    omega (arith, bounds)

pub overflow_add-at-in-loop-at-2 : goal.overflow_add-at-in-loop-at-2
overflow_add-at-in-loop-at-2 c =
    let known : Walked c.args.seq.now c.args.after.now c.args.marks.now c.args.text.now c.args.ml.now c.args.window c.args.kind c.args.out.now c.args.ml_out.now c.args.kind.values c.args.start.at c.args.start.used (pen_of c.args.start) c.loop-at.from c.loop-at.out c.loop-at.ml_out c.loop-at.at c.loop-at.used c.loop-at.pen c.loop-at.from = subst (λ (p : Pen). Walked c.args.seq.now c.args.after.now c.args.marks.now c.args.text.now c.args.ml.now c.args.window c.args.kind c.args.out.now c.args.ml_out.now
    c.args.kind.values c.args.start.at c.args.start.used p c.loop-at.from c.loop-at.out c.loop-at.ml_out c.loop-at.at c.loop-at.used c.loop-at.pen c.loop-at.from)
    c.pen-pen.ensures c.loop-at.invariant in
    let went : Went (held_in c.args.window.lo c.args.after.now c.args.kind.base) (denied_in c.args.marks.now c.args.kind.may_drop) c.args.kind.values c.next_field-field.result.now c.args.kind.base c.loop-at.from.0 c.args.seq.now (length c.args.ml.now - c.loop-at.used) c.in_ok-place.place.0 c.in_ok-place.passed.0 = reached_went (held_in c.args.window.lo c.args.after.now c.args.kind.base) (denied_in c.args.marks.now c.args.kind.may_drop) c.args.kind.values
    c.next_field-field.result.now c.args.kind.base
    c.loop-at.from.0 c.args.seq.now (length c.args.ml.now - c.loop-at.used) c.in_ok-place.place.0 c.in_ok-place.passed.0
    (sym (ap reached_says c.in_ok-place.was) ∙ c.read_entry.ensures) in
    let bounds : (c.loop-at.used + c.args.kind.values ≤ length c.args.ml.now) × (length c.args.ml.now ≤ 65536) × (c.loop-at.at < length c.args.text.now) × (c.loop-at.at + 1 + length c.next_field-field.result.now < length c.args.text.now) × (length c.args.text.now ≤ 65536) × (c.loop-at.pen.end ≤ 131072) × (c.loop-at.pen.kept ≤ 131072) × (c.loop-at.pen.gap + c.in_ok-place.passed.0 ≤ 16000) = (let i = known in
    let w = went in
    let low : c.loop-at.at < length c.args.text.now = omega (
      arith,
      c.loop-at.invariant.0,
      c.requires,
    ) in
    let rest = turn_rest c.args.kind.values (denied_in c.args.marks.now c.args.kind.may_drop) c.args.text.now c.loop-at.at low
    c.loop-at-test.true
    c.next_field-field.result.now c.next_field-field.ensures [] c.args.ml.now c.loop-at.used in (
      omega (arith, w.enough, i.3),
      c.requires.seq_len_bound.2,
      low,
      omega (arith, rest, i.0, c.requires),
      c.requires.seq_len_bound.1,
      omega (arith, i.4, c.requires, low),
      omega (arith, i.5, i.3, c.requires),
      omega (arith, i.6, w.fewer),
    )) in
    omega (arith, bounds)

pub loop-at-smaller : goal.loop-at-smaller
loop-at-smaller c =
    let known : Walked c.args.seq.now c.args.after.now c.args.marks.now c.args.text.now c.args.ml.now c.args.window c.args.kind c.args.out.now c.args.ml_out.now c.args.kind.values c.args.start.at c.args.start.used (pen_of c.args.start) c.loop-at.from c.loop-at.out c.loop-at.ml_out c.loop-at.at c.loop-at.used c.loop-at.pen c.loop-at.from = subst (λ (p : Pen). Walked c.args.seq.now c.args.after.now c.args.marks.now c.args.text.now c.args.ml.now c.args.window c.args.kind c.args.out.now c.args.ml_out.now
    c.args.kind.values c.args.start.at c.args.start.used p c.loop-at.from c.loop-at.out c.loop-at.ml_out c.loop-at.at c.loop-at.used c.loop-at.pen c.loop-at.from)
    c.pen-pen.ensures c.loop-at.invariant in
    let went : Went (held_in c.args.window.lo c.args.after.now c.args.kind.base) (denied_in c.args.marks.now c.args.kind.may_drop) c.args.kind.values c.next_field-field.result.now c.args.kind.base c.loop-at.from.0 c.args.seq.now (length c.args.ml.now - c.loop-at.used) c.in_ok-place.place.0 c.in_ok-place.passed.0 = reached_went (held_in c.args.window.lo c.args.after.now c.args.kind.base) (denied_in c.args.marks.now c.args.kind.may_drop) c.args.kind.values
    c.next_field-field.result.now c.args.kind.base
    c.loop-at.from.0 c.args.seq.now (length c.args.ml.now - c.loop-at.used) c.in_ok-place.place.0 c.in_ok-place.passed.0
    (sym (ap reached_says c.in_ok-place.was) ∙ c.read_entry.ensures) in
    let bounds : (c.loop-at.used + c.args.kind.values ≤ length c.args.ml.now) × (length c.args.ml.now ≤ 65536) × (c.loop-at.at < length c.args.text.now) × (c.loop-at.at + 1 + length c.next_field-field.result.now < length c.args.text.now) × (length c.args.text.now ≤ 65536) × (c.loop-at.pen.end ≤ 131072) × (c.loop-at.pen.kept ≤ 131072) × (c.loop-at.pen.gap + c.in_ok-place.passed.0 ≤ 16000) = (let i = known in
    let w = went in
    let low : c.loop-at.at < length c.args.text.now = omega (
      arith,
      c.loop-at.invariant.0,
      c.requires,
    ) in
    let rest = turn_rest c.args.kind.values (denied_in c.args.marks.now c.args.kind.may_drop) c.args.text.now c.loop-at.at low
    c.loop-at-test.true
    c.next_field-field.result.now c.next_field-field.ensures [] c.args.ml.now c.loop-at.used in (
      omega (arith, w.enough, i.3),
      c.requires.seq_len_bound.2,
      low,
      omega (arith, rest, i.0, c.requires),
      c.requires.seq_len_bound.1,
      omega (arith, i.4, c.requires, low),
      omega (arith, i.5, i.3, c.requires),
      omega (arith, i.6, w.fewer),
    )) in
    omega (arith, bounds)

pub loop-at-preserved : goal.loop-at-preserved
loop-at-preserved c =
    let known : Walked c.args.seq.now c.args.after.now c.args.marks.now c.args.text.now c.args.ml.now c.args.window c.args.kind c.args.out.now c.args.ml_out.now c.args.kind.values c.args.start.at c.args.start.used (pen_of c.args.start) c.loop-at.from c.loop-at.out c.loop-at.ml_out c.loop-at.at c.loop-at.used c.loop-at.pen c.loop-at.from = subst (λ (p : Pen). Walked c.args.seq.now c.args.after.now c.args.marks.now c.args.text.now c.args.ml.now c.args.window c.args.kind c.args.out.now c.args.ml_out.now
    c.args.kind.values c.args.start.at c.args.start.used p c.loop-at.from c.loop-at.out c.loop-at.ml_out c.loop-at.at c.loop-at.used c.loop-at.pen c.loop-at.from)
    c.pen-pen.ensures c.loop-at.invariant in
    let went : Went (held_in c.args.window.lo c.args.after.now c.args.kind.base) (denied_in c.args.marks.now c.args.kind.may_drop) c.args.kind.values c.next_field-field.result.now c.args.kind.base c.loop-at.from.0 c.args.seq.now (length c.args.ml.now - c.loop-at.used) c.in_ok-place.place.0 c.in_ok-place.passed.0 = reached_went (held_in c.args.window.lo c.args.after.now c.args.kind.base) (denied_in c.args.marks.now c.args.kind.may_drop) c.args.kind.values
    c.next_field-field.result.now c.args.kind.base
    c.loop-at.from.0 c.args.seq.now (length c.args.ml.now - c.loop-at.used) c.in_ok-place.place.0 c.in_ok-place.passed.0
    (sym (ap reached_says c.in_ok-place.was) ∙ c.read_entry.ensures) in
    let bounds : (c.loop-at.used + c.args.kind.values ≤ length c.args.ml.now) × (length c.args.ml.now ≤ 65536) × (c.loop-at.at < length c.args.text.now) × (c.loop-at.at + 1 + length c.next_field-field.result.now < length c.args.text.now) × (length c.args.text.now ≤ 65536) × (c.loop-at.pen.end ≤ 131072) × (c.loop-at.pen.kept ≤ 131072) × (c.loop-at.pen.gap + c.in_ok-place.passed.0 ≤ 16000) = (let i = known in
    let w = went in
    let low : c.loop-at.at < length c.args.text.now = omega (
      arith,
      c.loop-at.invariant.0,
      c.requires,
    ) in
    let rest = turn_rest c.args.kind.values (denied_in c.args.marks.now c.args.kind.may_drop) c.args.text.now c.loop-at.at low
    c.loop-at-test.true
    c.next_field-field.result.now c.next_field-field.ensures [] c.args.ml.now c.loop-at.used in (
      omega (arith, w.enough, i.3),
      c.requires.seq_len_bound.2,
      low,
      omega (arith, rest, i.0, c.requires),
      c.requires.seq_len_bound.1,
      omega (arith, i.4, c.requires, low),
      omega (arith, i.5, i.3, c.requires),
      omega (arith, i.6, w.fewer),
    )) in
    let w = went in
    let b = bounds in
    let p = c.in_ok-place.place.0 in
    let n = c.in_ok-place.passed.0 in
    let t = c.args.text.now in
    let held = held_in c.args.window.lo c.args.after.now c.args.kind.base in
    let named = is_marked c.args.marks.now in
    let denied = denied_in c.args.marks.now c.args.kind.may_drop in
    let places = tracked_from c.args.kind.base c.loop-at.from.0 c.args.seq.now in
    let comma = c.loop-at-test.true in
    let vs = take c.args.kind.values (drop c.loop-at.used c.args.ml.now) in
    let size : c.loop-at.used + c.args.kind.values - c.loop-at.used ≡ c.args.kind.values = omega arith in
    let here = draft c.loop-at.out c.loop-at.pen.end c.loop-at.ml_out c.loop-at.pen.kept in
    let there = draft c.put_entry-pen.new.out c.put_entry-pen.result.end c.put_entry-pen.new.ml_out c.put_entry-pen.result.kept in
    let stored : entry_put (held p) (named p) here (c.loop-at.pen.gap + n) vs ≡ (there, c.put_entry-pen.result.gap) = rw size at
    (subst (λ (q : Pen). entry_put (held p) (named p) (draft c.loop-at.out q.end c.loop-at.ml_out q.kept) q.gap
    (take (c.loop-at.used + c.args.kind.values - c.loop-at.used) (drop c.loop-at.used c.args.ml.now)) ≡ (there, c.put_entry-pen.result.gap)) c.past-waiting.ensures c.put_entry-pen.ensures) in
    let few = put_few (held p) (named p) here (c.loop-at.pen.gap + n) vs there c.put_entry-pen.result.gap stored in
    let rest = read_spots c.args.kind.values denied (led_by 44 (up_to 59 (drop (c.loop-at.at + 1 + length c.next_field-field.result.now) t))) (tracked_from c.args.kind.base (p + 1)
    c.args.seq.now)
    (drop (c.loop-at.used + c.args.kind.values) c.args.ml.now) in (
      omega (arith, c.loop-at.invariant.0, turn_rest c.args.kind.values denied t c.loop-at.at b.2 comma c.next_field-field.result.now c.next_field-field.ensures places c.args.ml.now c.loop-at.used),
      turn_field c.args.kind.values denied t c.loop-at.at b.2 comma c.next_field-field.result.now c.next_field-field.ensures places c.args.ml.now c.loop-at.used,
      omega (arith, w.inside),
      b.0,
      put_behind c.args.start.at c.pen-pen.result.end c.loop-at.at c.next_field-field.result.now w.number n w.few here c.loop-at.pen.gap vs c.loop-at.invariant.4 (held p) (named p)
          there c.put_entry-pen.result.gap stored,
      omega (arith, c.loop-at.invariant.5, few.0, length-take c.args.kind.values (drop c.loop-at.used c.args.ml.now)),
      omega (arith, c.loop-at.invariant.6, few.1, w.fewer),
      c.loop-at.invariant.7
          ∙ ap (on_done (spots_put held named here c.loop-at.pen.gap))
          (turn_on c.args.kind.values denied t c.loop-at.at b.2 comma c.next_field-field.result.now c.next_field-field.ensures places c.args.ml.now c.loop-at.used p
          (tracked_from c.args.kind.base (p + 1) c.args.seq.now) w.goes)
          ∙ put_one held named here c.loop-at.pen.gap (take (value c.next_field-field.result.now) places) p vs n there c.put_entry-pen.result.gap w.passed stored rest,
      c.put_entry-pen.auto.out ∙ c.loop-at.invariant.8,
      c.put_entry-pen.auto.ml_out ∙ c.loop-at.invariant.9,
    )

pub returns : goal.returns
unfolding tracked tracked_from
returns c =
    let known : Walked c.args.seq.now c.args.after.now c.args.marks.now c.args.text.now c.args.ml.now c.args.window c.args.kind c.args.out.now c.args.ml_out.now c.args.kind.values c.args.start.at c.args.start.used (pen_of c.args.start) c.loop-at.from c.loop-at.out c.loop-at.ml_out c.loop-at.at c.loop-at.used c.loop-at.pen c.loop-at.from = subst (λ (p : Pen). Walked c.args.seq.now c.args.after.now c.args.marks.now c.args.text.now c.args.ml.now c.args.window c.args.kind c.args.out.now c.args.ml_out.now
    c.args.kind.values c.args.start.at c.args.start.used p c.loop-at.from c.loop-at.out c.loop-at.ml_out c.loop-at.at c.loop-at.used c.loop-at.pen c.loop-at.from)
    c.pen-pen.ensures c.loop-at.invariant in
    let i = known in
    let t = c.args.text.now in
    let held = held_in c.args.window.lo c.args.after.now c.args.kind.base in
    let denied = denied_in c.args.marks.now c.args.kind.may_drop in
    let places = tracked_from c.args.kind.base c.loop-at.from.0 c.args.seq.now in
    let low : c.loop-at.at < length t = omega (arith, c.loop-at.invariant.0, c.requires) in
    let semi = ends_semicolon t c.loop-at.at low c.loop-at.invariant.1 c.loop-at-test.false in
    let w = draft c.loop-at.out c.loop-at.pen.end c.loop-at.ml_out c.loop-at.pen.kept in
    subst (λ (d : Cursor). EntriesEdited held (is_marked c.args.marks.now) t c.args.ml.now c.args.start
    (read_spots c.args.kind.values denied (led_by 44 (up_to 59 (drop c.args.start.at t))) (tracked c.args.kind.base c.args.seq.now) (drop c.args.start.used c.args.ml.now))
    c.args.out.now c.args.ml_out.now (Ok d) c.loop-at.out c.loop-at.ml_out) (sym c.behind.ensures) (
      omega (arith, i.0, rest_semicolon t c.loop-at.at low semi),
      i.3,
      i.4.0,
      i.5,
      i.7
          ∙ ap (on_done (spots_put held (is_marked c.args.marks.now) w c.loop-at.pen.gap))
          (turn_end c.args.kind.values denied t c.loop-at.at low semi places (drop c.loop-at.used c.args.ml.now))
          ∙ put_end held (is_marked c.args.marks.now) w c.loop-at.pen.gap places (drop c.loop-at.used c.args.ml.now),
    )

-- `edit_group` writes the header, then the entries, for which the contract of `edit_entries` is used, and the ';'.
-- Assumes nothing.
use mathlib.Core.Path.{◌≡◌, ap, subst, sym}
use Prim.Native.Nat.{◌+◌, ℕ}
use native.Mathlib.Omega.{arith}
use mathlib.Core.List.{List}
use lib.ListN.{drop, length}
use Rattle.drafting.proofs.DraftLaws.{group_put_lem, group_refused}
use Rattle.drafting.specs.Walks.{EntriesEdited, GroupEdited}
use Rattle.changing.specs.Windows.{denied_in, held_in, is_marked, window_edit}
use Rattle.drafting.specs.declared.Cursor.{Cursor}
use Rattle.lent.specs.Outcome.{Outcome}
use Rattle.samtags.specs.Reading.{read_group, read_spots}
use Rattle.samtags.specs.Spots.{Spot, tracked}
use Rattle.samtags.specs.Text.{led_by, up_to}
use Rattle.places.proofs.TextLaws.{field_from, group_short, rest_from}
use Rattle.lent.proofs.Outcome.{passed_on}
use Rattle.drafting.proofs.edit_group.Goals as goal

pub returns-then-header-lt2 : goal.returns-then-header-lt2
returns-then-header-lt2 c =
    group_short c.args.has_ml (is_marked c.args.marks.now) c.args.seq.now c.args.text.now c.args.at c.next_field-header.result.now
    c.next_field-header.ensures
    (drop c.args.used c.args.ml.now) (omega arith)

pub put_all-end-requires : goal.put_all-end-requires
put_all-end-requires c =
    let ends_together : let n = length c.next_field-header.result.now in c.args.at + n + length (up_to 59 (drop (c.args.at + n) c.args.text.now)) ≡ c.args.at + length (up_to 59 (drop c.args.at c.args.text.now)) = omega (arith, rest_from c.args.text.now c.args.at (length c.next_field-header.result.now) (ap length (sym c.next_field-header.ensures))) in
    omega (
      arith,
      ends_together,
      c.requires,
    )

pub edit_entries-requires : goal.edit_entries-requires
edit_entries-requires c =
    let ends_together : let n = length c.next_field-header.result.now in c.args.at + n + length (up_to 59 (drop (c.args.at + n) c.args.text.now)) ≡ c.args.at + length (up_to 59 (drop c.args.at c.args.text.now)) = omega (arith, rest_from c.args.text.now c.args.at (length c.next_field-header.result.now) (ap length (sym c.next_field-header.ensures))) in
    let n = length c.next_field-header.result.now in
    let e = ends_together in
    record { seq_len_bound = (omega arith, omega arith, omega arith, c.requires.seq_len_bound.3); text_in_bounds = omega (arith, e, c.requires); text_len = field_from c.args.text.now c.args.at n (ap length (sym c.next_field-header.ensures)); used_in_bounds = (omega (arith, c.requires), omega (arith, e, c.requires, c.put_all-end.ensures.0), omega arith) }

pub returns-in_err-stop : goal.returns-in_err-stop
returns-in_err-stop c =
    let entries_at : Cursor = (let a =
    c.args in
    record {
      at = a.at + length c.next_field-header.result.now;
      used = a.used;
      end = c.put_all-end.result;
      kept = 0;
    }) in
    let spots_at : Outcome (List Spot × List ℕ) = (let a =
    c.args in
    read_spots c.kind_of-kind.result.values (denied_in a.marks.now
    c.kind_of-kind.result.may_drop)
    (led_by 44 (up_to 59 (drop (a.at + length
    c.next_field-header.result.now) a.text.now))) (tracked
    c.kind_of-kind.result.base a.seq.now)
    (drop a.used a.ml.now)) in
    let entries : (r : Outcome Cursor) → c.edit_entries.result ≡ r → let a = c.args in EntriesEdited (held_in a.window.lo a.after.now c.kind_of-kind.result.base) (is_marked a.marks.now) a.text.now a.ml.now (entries_at) (spots_at) c.put_all-end.new.out a.ml_out.now r c.edit_entries.new.out c.edit_entries.new.ml_out = λ r e. (let a =
    c.args in
    subst (λ (x : Outcome Cursor). EntriesEdited (held_in a.window.lo a.after.now
    c.kind_of-kind.result.base) (is_marked a.marks.now) a.text.now a.ml.now
    (entries_at) (spots_at) c.put_all-end.new.out a.ml_out.now x c.edit_entries.new.out c.edit_entries.new.ml_out) e
    c.edit_entries.ensures) in
    let a =
    c.args in
    subst (λ (x : Outcome Cursor). GroupEdited (window_edit a.window.lo a.after.now a.marks.now) a.text.now a.ml.now a.at a.used
    (read_group a.has_ml (is_marked a.marks.now) a.seq.now (up_to 59 (drop a.at a.text.now)) (drop a.used a.ml.now))
    a.out.now a.ml_out.now x c.edit_entries.new.out c.edit_entries.new.ml_out) (sym (passed_on _ _ c.from_residual.ensures.1))
    (group_refused a.window.lo a.after.now a.marks.now a.has_ml a.seq.now a.text.now a.at c.next_field-header.result.now c.next_field-header.ensures
    (drop a.used a.ml.now) c.if-header-lt2.false _ _ _
    c.kind_of-kind.ensures.1
    c.kind_of-kind.ensures.0
    c.kind_of-kind.ensures.2 c.in_err-stop.field-0.0 (entries _ c.in_err-stop.was))

pub overflow_add-result : goal.overflow_add-result
overflow_add-result c =
    let entries_at : Cursor = (let a =
    c.args in
    record {
      at = a.at + length c.next_field-header.result.now;
      used = a.used;
      end = c.put_all-end.result;
      kept = 0;
    }) in
    let spots_at : Outcome (List Spot × List ℕ) = (let a =
    c.args in
    read_spots c.kind_of-kind.result.values (denied_in a.marks.now
    c.kind_of-kind.result.may_drop)
    (led_by 44 (up_to 59 (drop (a.at + length
    c.next_field-header.result.now) a.text.now))) (tracked
    c.kind_of-kind.result.base a.seq.now)
    (drop a.used a.ml.now)) in
    let entries : (r : Outcome Cursor) → c.edit_entries.result ≡ r → let a = c.args in EntriesEdited (held_in a.window.lo a.after.now c.kind_of-kind.result.base) (is_marked a.marks.now) a.text.now a.ml.now (entries_at) (spots_at) c.put_all-end.new.out a.ml_out.now r c.edit_entries.new.out c.edit_entries.new.ml_out = λ r e. (let a =
    c.args in
    subst (λ (x : Outcome Cursor). EntriesEdited (held_in a.window.lo a.after.now
    c.kind_of-kind.result.base) (is_marked a.marks.now) a.text.now a.ml.now
    (entries_at) (spots_at) c.put_all-end.new.out a.ml_out.now x c.edit_entries.new.out c.edit_entries.new.ml_out) e
    c.edit_entries.ensures) in
    let ends_together : let n = length c.next_field-header.result.now in c.args.at + n + length (up_to 59 (drop (c.args.at + n) c.args.text.now)) ≡ c.args.at + length (up_to 59 (drop c.args.at c.args.text.now)) = omega (arith, rest_from c.args.text.now c.args.at (length c.next_field-header.result.now) (ap length (sym c.next_field-header.ensures))) in
    omega (
      arith,
      (entries _
          c.in_ok-stop.was).0,
      ends_together,
      c.requires,
    )

pub overflow_add-result-2 : goal.overflow_add-result-2
overflow_add-result-2 c =
    let entries_at : Cursor = (let a =
    c.args in
    record {
      at = a.at + length c.next_field-header.result.now;
      used = a.used;
      end = c.put_all-end.result;
      kept = 0;
    }) in
    let spots_at : Outcome (List Spot × List ℕ) = (let a =
    c.args in
    read_spots c.kind_of-kind.result.values (denied_in a.marks.now
    c.kind_of-kind.result.may_drop)
    (led_by 44 (up_to 59 (drop (a.at + length
    c.next_field-header.result.now) a.text.now))) (tracked
    c.kind_of-kind.result.base a.seq.now)
    (drop a.used a.ml.now)) in
    let entries : (r : Outcome Cursor) → c.edit_entries.result ≡ r → let a = c.args in EntriesEdited (held_in a.window.lo a.after.now c.kind_of-kind.result.base) (is_marked a.marks.now) a.text.now a.ml.now (entries_at) (spots_at) c.put_all-end.new.out a.ml_out.now r c.edit_entries.new.out c.edit_entries.new.ml_out = λ r e. (let a =
    c.args in
    subst (λ (x : Outcome Cursor). EntriesEdited (held_in a.window.lo a.after.now
    c.kind_of-kind.result.base) (is_marked a.marks.now) a.text.now a.ml.now
    (entries_at) (spots_at) c.put_all-end.new.out a.ml_out.now x c.edit_entries.new.out c.edit_entries.new.ml_out) e
    c.edit_entries.ensures) in
    let ends_together : let n = length c.next_field-header.result.now in c.args.at + n + length (up_to 59 (drop (c.args.at + n) c.args.text.now)) ≡ c.args.at + length (up_to 59 (drop c.args.at c.args.text.now)) = omega (arith, rest_from c.args.text.now c.args.at (length c.next_field-header.result.now) (ap length (sym c.next_field-header.ensures))) in
    let x = entries _
    c.in_ok-stop.was in
    omega (
      arith,
      x.0,
      x.2,
      ends_together,
      c.put_all-end.ensures.0,
      c.requires,
    )

pub returns : goal.returns
returns c =
    let entries_at : Cursor = (let a =
    c.args in
    record {
      at = a.at + length c.next_field-header.result.now;
      used = a.used;
      end = c.put_all-end.result;
      kept = 0;
    }) in
    let spots_at : Outcome (List Spot × List ℕ) = (let a =
    c.args in
    read_spots c.kind_of-kind.result.values (denied_in a.marks.now
    c.kind_of-kind.result.may_drop)
    (led_by 44 (up_to 59 (drop (a.at + length
    c.next_field-header.result.now) a.text.now))) (tracked
    c.kind_of-kind.result.base a.seq.now)
    (drop a.used a.ml.now)) in
    let entries : (r : Outcome Cursor) → c.edit_entries.result ≡ r → let a = c.args in EntriesEdited (held_in a.window.lo a.after.now c.kind_of-kind.result.base) (is_marked a.marks.now) a.text.now a.ml.now (entries_at) (spots_at) c.put_all-end.new.out a.ml_out.now r c.edit_entries.new.out c.edit_entries.new.ml_out = λ r e. (let a =
    c.args in
    subst (λ (x : Outcome Cursor). EntriesEdited (held_in a.window.lo a.after.now
    c.kind_of-kind.result.base) (is_marked a.marks.now) a.text.now a.ml.now
    (entries_at) (spots_at) c.put_all-end.new.out a.ml_out.now x c.edit_entries.new.out c.edit_entries.new.ml_out) e
    c.edit_entries.ensures) in
    let ends_together : let n = length c.next_field-header.result.now in c.args.at + n + length (up_to 59 (drop (c.args.at + n) c.args.text.now)) ≡ c.args.at + length (up_to 59 (drop c.args.at c.args.text.now)) = omega (arith, rest_from c.args.text.now c.args.at (length c.next_field-header.result.now) (ap length (sym c.next_field-header.ensures))) in
    let a =
    c.args in
    let x = entries _ c.in_ok-stop.was in (
      omega (arith, x.0, ends_together),
      x.1,
      omega (arith, x.2, c.put_all-end.ensures.0),
      omega (arith, x.3),
      group_put_lem a.window.lo a.after.now a.marks.now a.has_ml a.seq.now a.text.now a.at c.next_field-header.result.now c.next_field-header.ensures
          (drop a.used a.ml.now) c.if-header-lt2.false _ _ _
          c.kind_of-kind.ensures.1
          c.kind_of-kind.ensures.0
          c.kind_of-kind.ensures.2
          a.out.now a.ml_out.now c.put_all-end.new.out c.put_all-end.result c.put_all-end.ensures.0 c.put_all-end.ensures.1 c.edit_entries.new.out c.in_ok-stop.stop.end c.edit_entries.new.ml_out c.in_ok-stop.stop.kept
          (drop c.in_ok-stop.stop.used a.ml.now) c.put.new.out x.4 c.put.ensures,
    )

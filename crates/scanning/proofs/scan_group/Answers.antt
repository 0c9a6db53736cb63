-- `scan_group` reads the header, and then the entries, for which the contract of `scan_entries` is used.
-- Assumes nothing.
use mathlib.Core.Path.{◌∙◌, ◌≡◌, ap, subst, sym}
use Prim.Native.Nat.{◌+◌, ℕ}
use native.Mathlib.Omega.{arith}
use mathlib.Core.List.{List}
use lib.ListN.{drop, length}
use Rattle.lent.proofs.Outcome.{passed_on}
use Rattle.lent.specs.Outcome.{Outcome}
use Rattle.samtags.specs.Reading.{nowhere, read_spots}
use Rattle.samtags.specs.Spots.{Spot, tracked}
use Rattle.samtags.specs.Text.{led_by, up_to}
use Rattle.places.proofs.TextLaws.{field_from, group_short, rest_from}
use Rattle.scanning.proofs.ScanLaws.{group_listed, group_refused}
use Rattle.scanning.specs.Scanning.{EntriesScanned, columns}
use Rattle.scanning.specs.declared.Cursor.{Cursor}
use Rattle.scanning.proofs.scan_group.Goals as goal

pub returns-then-header-lt2 : goal.returns-then-header-lt2
returns-then-header-lt2 c =
    group_short c.args.has_ml nowhere c.args.seq.now c.args.text.now c.args.start.at c.next_field-header.result.now c.next_field-header.ensures
    (drop c.args.start.used c.args.ml.now) c.if-header-lt2.true

pub scan_entries-requires : goal.scan_entries-requires
scan_entries-requires c =
    let ends_together : let n = length c.next_field-header.result.now in c.args.start.at + n + length (up_to 59 (drop (c.args.start.at + n) c.args.text.now)) ≡ c.args.start.at + length (up_to 59 (drop c.args.start.at c.args.text.now)) = omega (arith, rest_from c.args.text.now c.args.start.at (length c.next_field-header.result.now) (ap length (sym c.next_field-header.ensures))) in
    let n = length c.next_field-header.result.now in
    let e = ends_together in record { seq_len_bound = (omega arith, omega arith, omega arith); text_in_bounds = omega (arith, e); text_len = field_from c.args.text.now c.args.start.at n (ap length (sym c.next_field-header.ensures)); used_in_bounds = omega arith }

pub returns-in_err-end : goal.returns-in_err-end
returns-in_err-end c =
    let entries_at : Cursor = record {
      at = c.args.start.at + length
          c.next_field-header.result.now;
      used = c.args.start.used;
      group = c.args.start.group + 1;
      calls = c.args.start.calls;
    } in
    let spots_at : Outcome (List Spot × List ℕ) = read_spots c.values_if-values.result nowhere
    (led_by 44 (up_to 59 (drop (c.args.start.at + length c.next_field-header.result.now)
    c.args.text.now)))
    (tracked c.base_of-base.result c.args.seq.now) (drop c.args.start.used c.args.ml.now) in
    let entries : (r : Outcome Cursor) → c.scan_entries.result ≡ r → EntriesScanned c.args.text.now c.args.ml.now (entries_at) (spots_at) (columns c.args.groups.now c.args.places.now c.args.starts.now) r (columns c.scan_entries.new.groups c.scan_entries.new.places c.scan_entries.new.starts) = λ r e. subst (λ (x : Outcome Cursor). EntriesScanned c.args.text.now c.args.ml.now (entries_at) (spots_at)
    (columns c.args.groups.now c.args.places.now c.args.starts.now) x
    (columns c.scan_entries.new.groups c.scan_entries.new.places c.scan_entries.new.starts)) e c.scan_entries.ensures in
    rw (passed_on _ _ c.from_residual.ensures.1)
    (group_refused c.args.has_ml c.args.seq.now c.args.text.now c.args.start.at c.next_field-header.result.now c.next_field-header.ensures (drop c.args.start.used c.args.ml.now)
    c.if-header-lt2.false
    c.values_if-values.result c.base_of-base.result
    c.values_if-values.ensures c.base_of-base.ensures c.in_err-end.field-0.0
    (entries _ c.in_err-end.was))

pub overflow_add-result : goal.overflow_add-result
overflow_add-result c =
    let entries_at : Cursor = record {
      at = c.args.start.at + length
          c.next_field-header.result.now;
      used = c.args.start.used;
      group = c.args.start.group + 1;
      calls = c.args.start.calls;
    } in
    let spots_at : Outcome (List Spot × List ℕ) = read_spots c.values_if-values.result nowhere
    (led_by 44 (up_to 59 (drop (c.args.start.at + length c.next_field-header.result.now)
    c.args.text.now)))
    (tracked c.base_of-base.result c.args.seq.now) (drop c.args.start.used c.args.ml.now) in
    let entries : (r : Outcome Cursor) → c.scan_entries.result ≡ r → EntriesScanned c.args.text.now c.args.ml.now (entries_at) (spots_at) (columns c.args.groups.now c.args.places.now c.args.starts.now) r (columns c.scan_entries.new.groups c.scan_entries.new.places c.scan_entries.new.starts) = λ r e. subst (λ (x : Outcome Cursor). EntriesScanned c.args.text.now c.args.ml.now (entries_at) (spots_at)
    (columns c.args.groups.now c.args.places.now c.args.starts.now) x
    (columns c.scan_entries.new.groups c.scan_entries.new.places c.scan_entries.new.starts)) e c.scan_entries.ensures in
    let ends_together : let n = length c.next_field-header.result.now in c.args.start.at + n + length (up_to 59 (drop (c.args.start.at + n) c.args.text.now)) ≡ c.args.start.at + length (up_to 59 (drop c.args.start.at c.args.text.now)) = omega (arith, rest_from c.args.text.now c.args.start.at (length c.next_field-header.result.now) (ap length (sym c.next_field-header.ensures))) in
    let x = entries _ c.in_ok-end.was in
    omega (
      arith,
      x.0,
      ends_together,
      c.requires,
    )

pub returns : goal.returns
returns c =
    let entries_at : Cursor = record {
      at = c.args.start.at + length
          c.next_field-header.result.now;
      used = c.args.start.used;
      group = c.args.start.group + 1;
      calls = c.args.start.calls;
    } in
    let spots_at : Outcome (List Spot × List ℕ) = read_spots c.values_if-values.result nowhere
    (led_by 44 (up_to 59 (drop (c.args.start.at + length c.next_field-header.result.now)
    c.args.text.now)))
    (tracked c.base_of-base.result c.args.seq.now) (drop c.args.start.used c.args.ml.now) in
    let entries : (r : Outcome Cursor) → c.scan_entries.result ≡ r → EntriesScanned c.args.text.now c.args.ml.now (entries_at) (spots_at) (columns c.args.groups.now c.args.places.now c.args.starts.now) r (columns c.scan_entries.new.groups c.scan_entries.new.places c.scan_entries.new.starts) = λ r e. subst (λ (x : Outcome Cursor). EntriesScanned c.args.text.now c.args.ml.now (entries_at) (spots_at)
    (columns c.args.groups.now c.args.places.now c.args.starts.now) x
    (columns c.scan_entries.new.groups c.scan_entries.new.places c.scan_entries.new.starts)) e c.scan_entries.ensures in
    let ends_together : let n = length c.next_field-header.result.now in c.args.start.at + n + length (up_to 59 (drop (c.args.start.at + n) c.args.text.now)) ≡ c.args.start.at + length (up_to 59 (drop c.args.start.at c.args.text.now)) = omega (arith, rest_from c.args.text.now c.args.start.at (length c.next_field-header.result.now) (ap length (sym c.next_field-header.ensures))) in
    let x = entries _ c.in_ok-end.was in (
      omega (arith, x.0, ends_together),
      x.1,
      x.2,
      omega (arith, x.3),
      group_listed c.args.has_ml c.args.seq.now c.args.text.now c.args.start.at c.next_field-header.result.now c.next_field-header.ensures (drop c.args.start.used c.args.ml.now)
          c.if-header-lt2.false
          c.values_if-values.result c.base_of-base.result
          c.values_if-values.ensures c.base_of-base.ensures
          (c.args.start.group + 1)
          (columns c.args.groups.now c.args.places.now c.args.starts.now) c.args.start.calls c.args.start.used ∙ x.4,
    )

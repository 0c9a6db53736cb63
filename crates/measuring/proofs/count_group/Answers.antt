-- `count_group` reads the header, and then the entries over the places of the group's base, for which the contract of `count_entries` is used.
-- Assumes nothing.
use mathlib.Core.Path.{◌∙◌, ◌≡◌, ap, subst, sym}
use Prim.Native.Nat.{◌+◌, ◌≤◌, ℕ}
use native.Mathlib.Omega.{arith}
use mathlib.Core.Bool.{Bool, false}
use mathlib.Core.List.{List}
use lib.ListN.{drop, length}
use Rattle.lent.proofs.Outcome.{passed_on}
use Rattle.lent.specs.Outcome.{Outcome}
use Rattle.samtags.specs.Reading.{denied_to, nowhere, read_spots}
use Rattle.samtags.specs.Spots.{Spot, tracked}
use Rattle.samtags.specs.Text.{led_by, up_to}
use Rattle.places.proofs.TextLaws.{field_from, group_short, rest_from}
use Rattle.measuring.proofs.CountLaws.{group_counted_lem, group_refused, quiet_question, quiet_unnamed, tracked_short}
use Rattle.measuring.specs.Counting.{EntriesCounted}
use Rattle.measuring.specs.declared.Count.{Count}
use Rattle.measuring.proofs.count_group.Goals as goal
use Rattle.measuring.proofs.count_group.Goals.{else-marked-via-then-marked+else-not-may_drop, else-marked-via-else-marked}

pub returns-then-header-lt2 : goal.returns-then-header-lt2
returns-then-header-lt2 c =
    λ (named : ℕ → Bool) (none : c.args.marked ≡ false → named ≡ nowhere).
    group_short c.args.has_ml named c.args.seq.now c.args.text.now c.args.start.at c.next_field-header.result.now c.next_field-header.ensures
    (drop c.args.start.used c.args.ml.now) c.if-header-lt2.true

pub count_entries-requires : goal.count_entries-requires
count_entries-requires c =
    let ends_together : let n = length c.next_field-header.result.now in c.args.start.at + n + length (up_to 59 (drop (c.args.start.at + n) c.args.text.now)) ≡ c.args.start.at + length (up_to 59 (drop c.args.start.at c.args.text.now)) = omega (arith, rest_from c.args.text.now c.args.start.at (length c.next_field-header.result.now) (ap length (sym c.next_field-header.ensures))) in
    let n = length c.next_field-header.result.now in
    let e = ends_together in
    let few : c.how_many-all.result ≤ 16000 = omega (arith, c.how_many-all.ensures, tracked_short c.base_of-base.result c.args.seq.now, c.requires.seq_len_bound) in record { text_len_bound = (omega arith, omega arith, few); text_in_bounds = omega (arith, e); text_len = field_from c.args.text.now c.args.start.at n (ap length (sym c.next_field-header.ensures)); used_in_bounds = omega arith }

pub returns-in_err-end : goal.returns-in_err-end
returns-in_err-end c =
    let entries_at : Count = record { at = c.args.start.at + length c.next_field-header.result.now; used = c.args.start.used; group = c.args.start.group + 1; calls = c.args.start.calls } in
    let spots_at : Outcome (List Spot × List ℕ) = read_spots c.values_if-values.result nowhere
    (led_by 44 (up_to 59 (drop (c.args.start.at + length c.next_field-header.result.now) c.args.text.now)))
    (tracked c.base_of-base.result c.args.seq.now) (drop c.args.start.used c.args.ml.now) in
    let entries : (r : Outcome Count) → c.count_entries.result ≡ r → EntriesCounted c.args.text.now c.args.ml.now (entries_at) (spots_at) r = λ r e. subst (EntriesCounted c.args.text.now c.args.ml.now (entries_at) (spots_at)) e
    (c.count_entries.ensures (tracked c.base_of-base.result c.args.seq.now) c.how_many-all.ensures) in
    let quiet : (named : ℕ → Bool) → (c.args.marked ≡ false → named ≡ nowhere) → denied_to c.next_field-header.result.now named ≡ nowhere = λ named none. elim c.else-marked.branch [ else-marked-via-then-marked+else-not-may_drop w ↦ quiet_question c.next_field-header.result.now named (sym c.ends_in_question-may_drop.ensures ∙ w.if-not-may_drop.false) | else-marked-via-else-marked w ↦ quiet_unnamed c.next_field-header.result.now named (none w.if-marked.false) ] in
    λ (named : ℕ → Bool) (none : c.args.marked ≡ false → named ≡ nowhere).
    rw (passed_on _ _ c.from_residual.ensures.1) (group_refused c.args.has_ml named c.args.seq.now c.args.text.now c.args.start.at c.next_field-header.result.now c.next_field-header.ensures (drop c.args.start.used c.args.ml.now)
    c.if-header-lt2.false c.values_if-values.result c.base_of-base.result c.values_if-values.ensures c.base_of-base.ensures
    (quiet named none) _ (entries _ c.in_err-end.was))

pub overflow_add-result : goal.overflow_add-result
overflow_add-result c =
    let entries_at : Count = record { at = c.args.start.at + length c.next_field-header.result.now; used = c.args.start.used; group = c.args.start.group + 1; calls = c.args.start.calls } in
    let spots_at : Outcome (List Spot × List ℕ) = read_spots c.values_if-values.result nowhere
    (led_by 44 (up_to 59 (drop (c.args.start.at + length c.next_field-header.result.now) c.args.text.now)))
    (tracked c.base_of-base.result c.args.seq.now) (drop c.args.start.used c.args.ml.now) in
    let entries : (r : Outcome Count) → c.count_entries.result ≡ r → EntriesCounted c.args.text.now c.args.ml.now (entries_at) (spots_at) r = λ r e. subst (EntriesCounted c.args.text.now c.args.ml.now (entries_at) (spots_at)) e
    (c.count_entries.ensures (tracked c.base_of-base.result c.args.seq.now) c.how_many-all.ensures) in
    let ends_together : let n = length c.next_field-header.result.now in c.args.start.at + n + length (up_to 59 (drop (c.args.start.at + n) c.args.text.now)) ≡ c.args.start.at + length (up_to 59 (drop c.args.start.at c.args.text.now)) = omega (arith, rest_from c.args.text.now c.args.start.at (length c.next_field-header.result.now) (ap length (sym c.next_field-header.ensures))) in
    let x = entries _ c.in_ok-end.was in
    omega (arith, x.0, ends_together, c.requires)

pub returns : goal.returns
returns c =
    let entries_at : Count = record { at = c.args.start.at + length c.next_field-header.result.now; used = c.args.start.used; group = c.args.start.group + 1; calls = c.args.start.calls } in
    let spots_at : Outcome (List Spot × List ℕ) = read_spots c.values_if-values.result nowhere
    (led_by 44 (up_to 59 (drop (c.args.start.at + length c.next_field-header.result.now) c.args.text.now)))
    (tracked c.base_of-base.result c.args.seq.now) (drop c.args.start.used c.args.ml.now) in
    let entries : (r : Outcome Count) → c.count_entries.result ≡ r → EntriesCounted c.args.text.now c.args.ml.now (entries_at) (spots_at) r = λ r e. subst (EntriesCounted c.args.text.now c.args.ml.now (entries_at) (spots_at)) e
    (c.count_entries.ensures (tracked c.base_of-base.result c.args.seq.now) c.how_many-all.ensures) in
    let ends_together : let n = length c.next_field-header.result.now in c.args.start.at + n + length (up_to 59 (drop (c.args.start.at + n) c.args.text.now)) ≡ c.args.start.at + length (up_to 59 (drop c.args.start.at c.args.text.now)) = omega (arith, rest_from c.args.text.now c.args.start.at (length c.next_field-header.result.now) (ap length (sym c.next_field-header.ensures))) in
    let quiet : (named : ℕ → Bool) → (c.args.marked ≡ false → named ≡ nowhere) → denied_to c.next_field-header.result.now named ≡ nowhere = λ named none. elim c.else-marked.branch [ else-marked-via-then-marked+else-not-may_drop w ↦ quiet_question c.next_field-header.result.now named (sym c.ends_in_question-may_drop.ensures ∙ w.if-not-may_drop.false) | else-marked-via-else-marked w ↦ quiet_unnamed c.next_field-header.result.now named (none w.if-marked.false) ] in
    let x = entries _ c.in_ok-end.was in
    λ (named : ℕ → Bool) (none : c.args.marked ≡ false → named ≡ nowhere). (
      omega (arith, x.0, ends_together),
      x.1,
      x.2,
      omega (arith, x.3),
      group_counted_lem c.args.has_ml named c.args.seq.now c.args.text.now c.args.start.at c.next_field-header.result.now c.next_field-header.ensures (drop c.args.start.used c.args.ml.now)
          c.if-header-lt2.false c.values_if-values.result c.base_of-base.result c.values_if-values.ensures c.base_of-base.ensures
          (quiet named none) c.args.start.calls ∙ x.4,
    )

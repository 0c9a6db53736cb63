use Rattle.std.specs.Prelude.{Ok, Err}
use mathlib.Core.Path.{◌∙◌, ◌≡◌, ap, refl, sym}
use Prim.Native.Nat.{◌+◌, ◌-◌, ◌<◌, ◌≤◌}
use native.Mathlib.Omega.{arith}
use mathlib.Core.List.{[]}
use lib.ListN.{drop, length, length-drop, take, set}
use lib.Seq.{length-take-le}
use Rattle.lent.proofs.Outcome.{on_done_refused, passed_on}
use Rattle.lent.specs.Outcome.{on_done}
use Rattle.samtags.specs.Decimal.{value}
use Rattle.samtags.specs.Reading.{nowhere, read_entry, read_spots}
use Rattle.samtags.specs.Spots.{tracked}
use Rattle.samtags.specs.Text.{led_by, up_to}
use Rattle.places.proofs.TextLaws.{ends_semicolon, entry_eight, entry_refused, entry_went, rest_semicolon, turn_end, turn_field, turn_on, turn_refused, turn_rest}
use Rattle.places.specs.Answers.{entry_says}
use Rattle.places.specs.Walk.{tracked_from}
use Rattle.scanning.proofs.ScanLaws.{list_end, list_one}
use Rattle.scanning.specs.Scanning.{columns, listed_spots}
use Rattle.scanning.proofs.scan_entries.Goals as goal

pub returns-in_err-place : goal.returns-in_err-place
unfolding tracked tracked_from
returns-in_err-place c =
    let places = tracked_from c.args.base c.loop-at.from.0 c.args.seq.now in
    let left = length c.args.ml.now - c.loop-at.used in
    let low : c.loop-at.at < length c.args.text.now = omega arith in
    let six-or-seven : read_entry c.args.values nowhere c.next_field-field.result.now places left ≡ Err c.in_err-place.field-0.0 =
    entry_refused c.args.values nowhere c.next_field-field.result.now places left c.in_err-place.field-0.0
    (sym (ap entry_says c.in_err-place.was) ∙ c.find_entry.ensures) in
    rw (passed_on _ _ c.from_residual.ensures.1) (on_done_refused _ _ _ (c.loop-at.invariant.6
    ∙ ap (on_done (listed_spots c.args.start.group (columns c.loop-at.groups c.loop-at.places c.loop-at.starts) c.loop-at.calls c.loop-at.used))
    (turn_refused c.args.values nowhere c.args.text.now c.loop-at.at low c.loop-at-test.true c.next_field-field.result.now
    c.next_field-field.ensures places c.args.ml.now c.loop-at.used c.in_err-place.field-0.0 six-or-seven)))

pub returns-then-ml-used : goal.returns-then-ml-used
unfolding tracked tracked_from
returns-then-ml-used c =
    let places = tracked_from c.args.base c.loop-at.from.0 c.args.seq.now in
    let left = length c.args.ml.now - c.loop-at.used in
    let low : c.loop-at.at < length c.args.text.now = omega arith in
    on_done_refused _ _ _ (c.loop-at.invariant.6
    ∙ ap (on_done (listed_spots c.args.start.group (columns c.loop-at.groups c.loop-at.places c.loop-at.starts) c.loop-at.calls c.loop-at.used))
    (turn_refused c.args.values nowhere c.args.text.now c.loop-at.at low c.loop-at-test.true c.next_field-field.result.now
    c.next_field-field.ensures places c.args.ml.now c.loop-at.used _
    (entry_eight c.args.values nowhere c.next_field-field.result.now places left c.in_ok-place.place.0
    (sym (ap entry_says c.in_ok-place.was) ∙ c.find_entry.ensures) (omega arith))))

pub list_call-requires : goal.list_call-requires
list_call-requires c =
    let went : (read_entry c.args.values nowhere c.next_field-field.result.now (tracked_from c.args.base c.loop-at.from.0 c.args.seq.now) (length c.args.ml.now - c.loop-at.used) ≡ Ok (c.in_ok-place.place.0, tracked_from c.args.base (c.in_ok-place.place.0 + 1) c.args.seq.now)) × (c.in_ok-place.place.0 < length c.args.seq.now) = entry_went c.args.values nowhere c.next_field-field.result.now c.loop-at.from.0 c.args.base c.args.seq.now
    (length c.args.ml.now - c.loop-at.used) c.in_ok-place.place.0
    (sym (ap entry_says c.in_ok-place.was) ∙ c.find_entry.ensures) (omega arith) refl in
    omega (arith, (went).1)

pub overflow_add-from : goal.overflow_add-from
overflow_add-from c =
    let went : (read_entry c.args.values nowhere c.next_field-field.result.now (tracked_from c.args.base c.loop-at.from.0 c.args.seq.now) (length c.args.ml.now - c.loop-at.used) ≡ Ok (c.in_ok-place.place.0, tracked_from c.args.base (c.in_ok-place.place.0 + 1) c.args.seq.now)) × (c.in_ok-place.place.0 < length c.args.seq.now) = entry_went c.args.values nowhere c.next_field-field.result.now c.loop-at.from.0 c.args.base c.args.seq.now
    (length c.args.ml.now - c.loop-at.used) c.in_ok-place.place.0
    (sym (ap entry_says c.in_ok-place.was) ∙ c.find_entry.ensures) (omega arith) refl in
    omega (arith, (went).1)

pub loop-at-preserved : goal.loop-at-preserved
loop-at-preserved c =
    let went : (read_entry c.args.values nowhere c.next_field-field.result.now (tracked_from c.args.base c.loop-at.from.0 c.args.seq.now) (length c.args.ml.now - c.loop-at.used) ≡ Ok (c.in_ok-place.place.0, tracked_from c.args.base (c.in_ok-place.place.0 + 1) c.args.seq.now)) × (c.in_ok-place.place.0 < length c.args.seq.now) = entry_went c.args.values nowhere c.next_field-field.result.now c.loop-at.from.0 c.args.base c.args.seq.now
    (length c.args.ml.now - c.loop-at.used) c.in_ok-place.place.0
    (sym (ap entry_says c.in_ok-place.was) ∙ c.find_entry.ensures) (omega arith) refl in
    let bounds : (c.loop-at.used + c.args.values ≤ length c.args.ml.now) × (length c.args.ml.now ≤ 65536) × (c.loop-at.calls ≤ c.loop-at.at) × (c.args.start.at ≤ c.loop-at.at) × (c.loop-at.at + 1 + length c.next_field-field.result.now < length c.args.text.now) × (length c.args.text.now ≤ 65536) = (let low : c.loop-at.at < length c.args.text.now = omega arith in
    let rest = turn_rest c.args.values nowhere c.args.text.now c.loop-at.at low c.loop-at-test.true
    c.next_field-field.result.now c.next_field-field.ensures [] c.args.ml.now c.loop-at.used in
    omega (arith, rest)) in
    let w = went in
    let p = c.in_ok-place.place.0 in
    let t = c.args.text.now in
    let places = tracked_from c.args.base c.loop-at.from.0 c.args.seq.now in
    let b = bounds in
    let low : c.loop-at.at < length t = omega (arith, b) in
    let comma = c.loop-at-test.true in
    let in-groups : c.list_call.new.groups ≡ set c.loop-at.groups c.loop-at.calls c.args.start.group = c.list_call.ensures.groups_after in
    let in-places : c.list_call.new.places ≡ set c.loop-at.places c.loop-at.calls p = c.list_call.ensures.places_after in
    let in-starts : c.list_call.new.starts ≡ set c.loop-at.starts c.loop-at.calls c.loop-at.used = c.list_call.ensures.starts_after in
    let rest = read_spots c.args.values nowhere (led_by 44 (up_to 59 (drop (c.loop-at.at + 1 + length c.next_field-field.result.now) t)))
    (tracked_from c.args.base (p + 1) c.args.seq.now) (drop (c.loop-at.used + c.args.values) c.args.ml.now) in (
      omega (arith, c.loop-at.invariant.0, turn_rest c.args.values nowhere t c.loop-at.at low comma c.next_field-field.result.now c.next_field-field.ensures places c.args.ml.now c.loop-at.used),
      turn_field c.args.values nowhere t c.loop-at.at low comma c.next_field-field.result.now c.next_field-field.ensures places c.args.ml.now c.loop-at.used,
      omega (arith, w.1),
      b.0,
      omega (arith, b),
      omega (arith, b),
      c.loop-at.invariant.6
          ∙ ap (on_done (listed_spots c.args.start.group (columns c.loop-at.groups c.loop-at.places c.loop-at.starts) c.loop-at.calls c.loop-at.used))
          (turn_on c.args.values nowhere t c.loop-at.at low comma c.next_field-field.result.now c.next_field-field.ensures places c.args.ml.now c.loop-at.used p
          (tracked_from c.args.base (p + 1) c.args.seq.now) w.0)
          ∙ list_one c.args.start.group (columns c.loop-at.groups c.loop-at.places c.loop-at.starts) c.loop-at.calls c.loop-at.used (take (value c.next_field-field.result.now) places) p
          (take c.args.values (drop c.loop-at.used c.args.ml.now)) c.args.values
          (length-take-le c.args.values (drop c.loop-at.used c.args.ml.now) (omega (arith, length-drop c.loop-at.used c.args.ml.now))) rest
          ∙ (λ j. on_done (listed_spots c.args.start.group (columns (sym in-groups j) (sym in-places j) (sym in-starts j))
          (c.loop-at.calls + 1) (c.loop-at.used + c.args.values)) rest),
      c.list_call.auto.groups ∙ c.loop-at.invariant.7,
      c.list_call.auto.places ∙ c.loop-at.invariant.8,
      c.list_call.auto.starts ∙ c.loop-at.invariant.9,
    )

pub returns : goal.returns
unfolding tracked tracked_from
returns c =
    let t = c.args.text.now in
    let places = tracked_from c.args.base c.loop-at.from.0 c.args.seq.now in
    let low : c.loop-at.at < length t = omega arith in
    let semi = ends_semicolon t c.loop-at.at low c.loop-at.invariant.1 c.loop-at-test.false in (
      omega (arith, rest_semicolon t c.loop-at.at low semi),
      c.loop-at.invariant.3,
      refl,
      c.loop-at.invariant.4,
      c.loop-at.invariant.6
          ∙ ap (on_done (listed_spots c.args.start.group (columns c.loop-at.groups c.loop-at.places c.loop-at.starts) c.loop-at.calls c.loop-at.used))
          (turn_end c.args.values nowhere t c.loop-at.at low semi places (drop c.loop-at.used c.args.ml.now))
          ∙ list_end c.args.start.group (columns c.loop-at.groups c.loop-at.places c.loop-at.starts) c.loop-at.calls c.loop-at.used places (drop c.loop-at.used c.args.ml.now),
    )

use mathlib.Core.Path.{◌∙◌, ◌≡◌, ap, refl, sym}
use Prim.Native.Nat.{◌+◌, ◌<◌, ◌≤◌, ℕ}
use native.Mathlib.Omega.{arith}
use mathlib.Core.List.{[], List}
use lib.ListN.{drop, length}
use Rattle.lent.proofs.Outcome.{on_done_refused, passed_on}
use Rattle.lent.specs.Outcome.{on_done}
use Rattle.samtags.specs.Reading.{nowhere}
use Rattle.places.proofs.TextLaws.{ends_semicolon, rest_semicolon, turn_end, turn_field, turn_rest}
use Rattle.measuring.proofs.CountLaws.{count_last, turn_eight, turn_passed, turn_seven, turn_six}
use Rattle.measuring.specs.Counting.{spots_counted}
use Rattle.measuring.proofs.count_entries.Goals as goal
use Rattle.measuring.proofs.count_entries.Goals.{Else-ml-used}

-- what the turn's sums stay below
bounds : (k : Else-ml-used) →
    let a = k.args in
    let h = k.loop-at in
    (h.used + a.values ≤ length a.ml.now) × (length a.ml.now ≤ 65536) × (h.calls ≤ h.at) × (a.start.at ≤ h.at)
    × (h.at + 1 + length k.next_field-field.result.now < length a.text.now) × (length a.text.now ≤ 65536)
bounds k =
    let a = k.args in
    let h = k.loop-at in
    let f = k.next_field-field in
    let low : h.at < length a.text.now = omega arith in
    let rest = turn_rest a.values nowhere a.text.now h.at low k.loop-at-test.true f.result.now f.ensures [] a.ml.now h.used in
    omega (arith, rest)

pub returns-in_err-skip : goal.returns-in_err-skip
returns-in_err-skip c =
    let low : c.loop-at.at < length c.args.text.now = omega arith in
    λ (places : List ℕ) (e : c.args.all ≡ length places).
    let x = c.loop-at.invariant.6 places e in
    rw (passed_on _ _ c.from_residual.ensures.1) (on_done_refused _ _ _ (x.2
    ∙ turn_six c.args.values c.args.text.now c.loop-at.at low c.loop-at-test.true c.next_field-field.result.now c.next_field-field.ensures c.args.ml.now c.loop-at.used c.loop-at.calls x.0 _ c.in_err-skip.field-0.0
    (sym c.in_err-skip.was ∙ c.read_skip.ensures)))

pub returns-then-left-skip : goal.returns-then-left-skip
returns-then-left-skip c =
    let low : c.loop-at.at < length c.args.text.now = omega arith in
    λ (places : List ℕ) (e : c.args.all ≡ length places).
    let x = c.loop-at.invariant.6 places e in
    on_done_refused _ _ _ (x.2
    ∙ turn_seven c.args.values c.args.text.now c.loop-at.at low c.loop-at-test.true c.next_field-field.result.now c.next_field-field.ensures c.args.ml.now c.loop-at.used c.loop-at.calls x.0 c.in_ok-skip.skip
    (sym c.in_ok-skip.was ∙ c.read_skip.ensures) (omega (arith, x.1)))

pub returns-then-ml-used : goal.returns-then-ml-used
returns-then-ml-used c =
    let low : c.loop-at.at < length c.args.text.now = omega arith in
    λ (places : List ℕ) (e : c.args.all ≡ length places).
    let x = c.loop-at.invariant.6 places e in
    on_done_refused _ _ _ (x.2
    ∙ turn_eight c.args.values c.args.text.now c.loop-at.at low c.loop-at-test.true c.next_field-field.result.now c.next_field-field.ensures c.args.ml.now c.loop-at.used c.loop-at.calls x.0 c.in_ok-skip.skip
    (sym c.in_ok-skip.was ∙ c.read_skip.ensures) (omega (arith, x.1)) (omega (arith, x.1)) (omega arith))

pub loop-at-preserved : goal.loop-at-preserved
loop-at-preserved c =
    let t = c.args.text.now in
    let b = bounds c in
    let low : c.loop-at.at < length t = omega (arith, b) in
    let comma = c.loop-at-test.true in (
      omega (arith, c.loop-at.invariant.0, turn_rest c.args.values nowhere t c.loop-at.at low comma c.next_field-field.result.now c.next_field-field.ensures [] c.args.ml.now c.loop-at.used),
      turn_field c.args.values nowhere t c.loop-at.at low comma c.next_field-field.result.now c.next_field-field.ensures [] c.args.ml.now c.loop-at.used,
      b.0,
      omega (arith, b),
      omega (arith, b),
      omega arith,
      λ (places : List ℕ) (e : c.args.all ≡ length places).
          let x = c.loop-at.invariant.6 places e in
          let y = turn_passed c.args.values t c.loop-at.at low comma c.next_field-field.result.now c.next_field-field.ensures c.args.ml.now c.loop-at.used c.loop-at.calls x.0 c.in_ok-skip.skip
          (sym c.in_ok-skip.was ∙ c.read_skip.ensures) (omega (arith, x.1)) (omega (arith, x.1)) (omega arith) in
          (y.0, omega (arith, x.1, y.1), x.2 ∙ y.2),
    )

pub returns : goal.returns
returns c =
    let t = c.args.text.now in
    let low : c.loop-at.at < length t = omega arith in
    let semi = ends_semicolon t c.loop-at.at low c.loop-at.invariant.1 c.loop-at-test.false in
    λ (places : List ℕ) (e : c.args.all ≡ length places).
    let x = c.loop-at.invariant.6 places e in (
      omega (arith, c.loop-at.invariant.0, rest_semicolon t c.loop-at.at low semi),
      c.loop-at.invariant.2,
      refl,
      c.loop-at.invariant.3,
      x.2 ∙ ap (on_done (spots_counted c.loop-at.calls)) (turn_end c.args.values nowhere t c.loop-at.at low semi x.0 (drop c.loop-at.used c.args.ml.now))
          ∙ count_last c.loop-at.calls x.0 (drop c.loop-at.used c.args.ml.now),
    )

use Rattle.scanning.specs.declared.Cursor.{Cursor}
use mathlib.Core.Path.{◌∙◌, ◌≡◌, ap, subst}
use Prim.Native.Nat.{◌<◌, ◌≤◌}
use native.Mathlib.Omega.{arith}
use lib.ListN.{drop, length}
use Rattle.lent.proofs.Outcome.{on_done_refused, passed_on}
use Rattle.lent.specs.Outcome.{Outcome, on_done}
use Rattle.samtags.specs.Reading.{nowhere, read_group}
use Rattle.samtags.specs.Text.{up_to}
use Rattle.places.proofs.TextLaws.{ahead, groups_done, groups_over}
use Rattle.scanning.proofs.ScanLaws.{finish_none, groups_refused, groups_turn}
use Rattle.scanning.specs.Scanning.{GroupScanned, columns, finished}
use Rattle.scanning.proofs.scan_groups.Goals as goal

pub scan_group-requires : goal.scan_group-requires
scan_group-requires c =
    let inside : c.loop-c.c.at < length c.args.text.now = omega arith in
    let far = ahead c.args.text.now c.loop-c.c.at
    inside c.requires.3 in
    record { seq_len_bound = (omega arith, omega arith, omega arith); text_in_bounds = far; used_in_bounds = omega arith }

pub returns-in_err-c : goal.returns-in_err-c
returns-in_err-c c =
    let group : (r : Outcome Cursor) → c.scan_group.result ≡ r → GroupScanned c.args.text.now c.args.ml.now c.loop-c.c (read_group c.args.has_ml nowhere c.args.seq.now (up_to 59 (drop c.loop-c.c.at c.args.text.now)) (drop c.loop-c.c.used c.args.ml.now)) (columns c.loop-c.groups c.loop-c.places c.loop-c.starts) r (columns c.scan_group.new.groups c.scan_group.new.places c.scan_group.new.starts) = λ r e. subst (λ (x : Outcome Cursor). GroupScanned c.args.text.now c.args.ml.now c.loop-c.c
    (read_group c.args.has_ml nowhere c.args.seq.now (up_to 59 (drop c.loop-c.c.at c.args.text.now)) (drop c.loop-c.c.used c.args.ml.now))
    (columns c.loop-c.groups c.loop-c.places c.loop-c.starts) x (columns c.scan_group.new.groups c.scan_group.new.places c.scan_group.new.starts)) e c.scan_group.ensures in
    let inside : c.loop-c.c.at < length c.args.text.now = omega arith in
    rw (passed_on _ _ c.from_residual.ensures.1)
    (on_done_refused _ _ _ (c.loop-c.invariant.4
    ∙ ap (on_done (finished c.loop-c.c.group (columns c.loop-c.groups c.loop-c.places c.loop-c.starts) c.loop-c.c.calls c.loop-c.c.used))
    (groups_refused c.args.has_ml c.args.seq.now c.args.text.now c.loop-c.c.at inside
    c.requires.3
    (drop c.loop-c.c.used c.args.ml.now) c.in_err-c.field-0.0 (group _ c.in_err-c.was))))

pub loop-c-preserved : goal.loop-c-preserved
loop-c-preserved c =
    let group : (r : Outcome Cursor) → c.scan_group.result ≡ r → GroupScanned c.args.text.now c.args.ml.now c.loop-c.c (read_group c.args.has_ml nowhere c.args.seq.now (up_to 59 (drop c.loop-c.c.at c.args.text.now)) (drop c.loop-c.c.used c.args.ml.now)) (columns c.loop-c.groups c.loop-c.places c.loop-c.starts) r (columns c.scan_group.new.groups c.scan_group.new.places c.scan_group.new.starts) = λ r e. subst (λ (x : Outcome Cursor). GroupScanned c.args.text.now c.args.ml.now c.loop-c.c
    (read_group c.args.has_ml nowhere c.args.seq.now (up_to 59 (drop c.loop-c.c.at c.args.text.now)) (drop c.loop-c.c.used c.args.ml.now))
    (columns c.loop-c.groups c.loop-c.places c.loop-c.starts) x (columns c.scan_group.new.groups c.scan_group.new.places c.scan_group.new.starts)) e c.scan_group.ensures in
    let inside : c.loop-c.c.at < length c.args.text.now = omega arith in
    let x = group _ c.in_ok-c.was in
    let far = ahead c.args.text.now c.loop-c.c.at inside
    c.requires.3 in (
      omega (arith, x.0, far),
      x.1,
      omega (arith, x.0, x.2, c.loop-c.invariant.2),
      x.3,
      c.loop-c.invariant.4 ∙ groups_turn c.args.has_ml c.args.seq.now c.args.text.now c.loop-c.c.at inside
          c.requires.3
          (drop c.loop-c.c.used c.args.ml.now)
          c.loop-c.c.group (columns c.loop-c.groups c.loop-c.places c.loop-c.starts) c.loop-c.c.calls c.loop-c.c.used _ _ _ _ x.0 x.2 x.4,
      c.scan_group.auto.groups ∙ c.loop-c.invariant.5,
      c.scan_group.auto.places ∙ c.loop-c.invariant.6,
      c.scan_group.auto.starts ∙ c.loop-c.invariant.7,
    )

pub returns-then-c-ml : goal.returns-then-c-ml
returns-then-c-ml c =
    on_done_refused _ _ _ (c.loop-c.invariant.4
    ∙ ap (on_done (finished c.loop-c.c.group (columns c.loop-c.groups c.loop-c.places c.loop-c.starts) c.loop-c.c.calls c.loop-c.c.used))
    (groups_over c.args.has_ml nowhere c.args.seq.now c.args.text.now c.loop-c.c.at (omega arith) c.args.ml.now c.loop-c.c.used (omega arith)))

pub returns : goal.returns
returns c =
    let all : length c.args.ml.now ≤ c.loop-c.c.used = omega arith in
    c.loop-c.invariant.4
    ∙ ap (on_done (finished c.loop-c.c.group (columns c.loop-c.groups c.loop-c.places c.loop-c.starts) c.loop-c.c.calls c.loop-c.c.used))
    (groups_done c.args.has_ml nowhere c.args.seq.now c.args.text.now c.loop-c.c.at (omega arith) c.args.ml.now c.loop-c.c.used all)
    ∙ finish_none c.loop-c.c.group (columns c.loop-c.groups c.loop-c.places c.loop-c.starts) c.loop-c.c.calls c.loop-c.c.used

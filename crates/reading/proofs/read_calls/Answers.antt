-- `read_calls`: the first walk refuses or measures, and a list that does not fit is refused with 12. The second walk, over the caller's columns, lists the
-- same groups.
-- Assumes nothing.
use Rattle.std.specs.Prelude.{Ok}
use Rattle.lent.proofs.Outcome.{passed_on}
use Rattle.lent.specs.Outcome.{Outcome}
use Rattle.measuring.specs.declared.Count.{Count}
use mathlib.Core.Path.{◌∙◌, ◌≡◌, ap, subst, sym}
use Prim.Native.Nat.{◌-◌, ℕ}
use native.Mathlib.Omega.{arith}
use mathlib.Core.Bool.{Bool, cond}
use mathlib.Core.List.{List, map}
use lib.ListN.{length, length-take}
use Rattle.samtags.specs.Reading.{call_list, nowhere, read_groups, read_tag}
use Rattle.samtags.specs.Spots.{Group, listing}
use Rattle.samtags.specs.Text.{closed_by}
use Rattle.reading.proofs.AnswerLaws.{calls_done, calls_refused, refused_with, scanned_rows, short_groups, short_places, short_starts, tag_known, tag_refused}
use Rattle.samtags.proofs.Taken.{taken_is}
use Rattle.reading.proofs.CheckLaws.{passed, tested}
use Rattle.reading.specs.Calls.{calls_read, counts_of}
use Rattle.reading.specs.Measured.{TagMeasured}
use Rattle.scanning.specs.Scanning.{TagScanned, columns}
use Rattle.reading.proofs.read_calls.Goals as goal

-- the groups of a tag that the first walk accepts
walked : (ml? : Bool) (seq mm ml : List ℕ) (d : Count) {r : Outcome Count} → r ≡ Ok d → TagMeasured (tested ml? seq mm ml) r
    → (gs : List Group) × (tested ml? seq mm ml ≡ Ok gs) × (read_tag ml? seq mm ml ≡ Ok (map listing gs)) × (counts_of (map listing gs) ≡ (d.group, d.calls))
walked ml? seq mm ml d e m = tag_known ml? seq mm ml d.group d.calls (subst (TagMeasured (tested ml? seq mm ml)) e m)

pub returns-in_err-end : goal.returns-in_err-end
returns-in_err-end c =
    ap (λ (r : Outcome (ℕ × ℕ)). calls_read r c.args.groups.now c.args.places.now c.args.starts.now) (passed_on _ _ c.from_residual.ensures.1)
    ∙ sym (calls_refused c.args.has_ml c.args.seq.now c.args.mm.now c.args.ml.now c.args.groups.now c.args.places.now c.args.starts.now _
    (tag_refused c.args.has_ml c.args.seq.now c.args.mm.now c.args.ml.now _
    (refused_with _ c.measure.result _ c.in_err-end.was c.measure.ensures)))

pub returns-then-groups-calls : goal.returns-then-groups-calls
returns-then-groups-calls c =
    let w = walked c.args.has_ml c.args.seq.now c.args.mm.now c.args.ml.now c.in_ok-end.end c.in_ok-end.was c.measure.ensures in
    let count : length (call_list (map listing w.0)) ≡ c.in_ok-end.end.calls = ap (λ (p : ℕ × ℕ). p.1) w.3 in
    sym (short_groups c.args.has_ml c.args.seq.now c.args.mm.now c.args.ml.now c.args.groups.now c.args.places.now c.args.starts.now (map listing w.0)
    w.2 _ count (omega arith))

pub returns-then-places-calls : goal.returns-then-places-calls
returns-then-places-calls c =
    let w = walked c.args.has_ml c.args.seq.now c.args.mm.now c.args.ml.now c.in_ok-end.end c.in_ok-end.was c.measure.ensures in
    let count : length (call_list (map listing w.0)) ≡ c.in_ok-end.end.calls = ap (λ (p : ℕ × ℕ). p.1) w.3 in
    sym (short_places c.args.has_ml c.args.seq.now c.args.mm.now c.args.ml.now c.args.groups.now c.args.places.now c.args.starts.now (map listing w.0)
    w.2 _ count (omega arith) (omega arith))

pub returns-then-starts-calls : goal.returns-then-starts-calls
returns-then-starts-calls c =
    let w = walked c.args.has_ml c.args.seq.now c.args.mm.now c.args.ml.now c.in_ok-end.end c.in_ok-end.was c.measure.ensures in
    let count : length (call_list (map listing w.0)) ≡ c.in_ok-end.end.calls = ap (λ (p : ℕ × ℕ). p.1) w.3 in
    sym (short_starts c.args.has_ml c.args.seq.now c.args.mm.now c.args.ml.now c.args.groups.now c.args.places.now c.args.starts.now (map listing w.0)
    w.2 _ count (omega arith) (omega arith) (omega arith))

pub scan_groups-requires : goal.scan_groups-requires
scan_groups-requires c =
    let w = walked c.args.has_ml c.args.seq.now c.args.mm.now c.args.ml.now c.in_ok-end.end c.in_ok-end.was c.measure.ensures in
    let p = passed c.args.has_ml c.args.seq.now c.args.mm.now c.args.ml.now w.0 w.1 in (
      p.seq_fits,
      p.text_fits,
      omega
          (arith, c.values_taken-taken.ensures, p.ml_fits, length-take (c.values_taken-taken.result - 0) c.args.ml.now),
      p.closed,
    )

pub returns : goal.returns
returns c =
    let w = walked c.args.has_ml c.args.seq.now c.args.mm.now c.args.ml.now c.in_ok-end.end c.in_ok-end.was c.measure.ensures in
    let count : length (call_list (map listing w.0)) ≡ c.in_ok-end.end.calls = ap (λ (p : ℕ × ℕ). p.1) w.3 in
    let p = passed c.args.has_ml c.args.seq.now c.args.mm.now c.args.ml.now w.0 w.1 in
    let r = c.scan_groups.result in
    let before = columns c.args.groups.now c.args.places.now c.args.starts.now in
    let all : c.values_taken-taken.result - 0 ≡ cond c.args.has_ml (length c.args.ml.now) 0 = omega (arith, c.values_taken-taken.ensures) in
    let second = subst (λ (m : List ℕ). TagScanned (read_groups c.args.has_ml nowhere c.args.seq.now (closed_by 59 c.args.mm.now) m) before r
    (columns c.scan_groups.new.groups c.scan_groups.new.places c.scan_groups.new.starts))
    (taken_is c.args.has_ml c.args.ml.now (c.values_taken-taken.result - 0) all) c.scan_groups.ensures in
    ap (λ (n : ℕ × ℕ). calls_read (Ok n) c.scan_groups.new.groups c.scan_groups.new.places c.scan_groups.new.starts) (sym w.3)
    ∙ sym (calls_done c.args.has_ml c.args.seq.now c.args.mm.now c.args.ml.now c.args.groups.now c.args.places.now c.args.starts.now (map listing w.0)
    w.2 _ count
    (omega arith) (omega arith) (omega arith) c.scan_groups.new.groups c.scan_groups.new.places c.scan_groups.new.starts
    (scanned_rows _ before r (columns c.scan_groups.new.groups c.scan_groups.new.places c.scan_groups.new.starts) w.0 p.groups second))

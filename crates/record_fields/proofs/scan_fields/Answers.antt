use mathlib.Core.Path.{◌∙◌, ◌≡◌, ap, sym}
use mathlib.Core.Bool.{false, true}
use Prim.Native.Nat.{◌+◌, ◌≤◌, ℕ}
use native.Mathlib.Omega.{arith}
use lib.Dec.{eqb}
use lib.ListN.{drop, get_or, length}
use Rattle.lent.specs.Answers.{is_done}
use Rattle.record_fields.proofs.FieldsLaws.{done_step, fields_end, fields_stop, step_fits}
use Rattle.record_fields.proofs.SpotLaws.{length_noted, noted_all, noted_turn}
use Rattle.record_fields.specs.Fields.{fields}
use Rattle.record_fields.proofs.scan_fields.Goals as goal

pub returns-then-size-eq0 : goal.returns-then-size-eq0
returns-then-size-eq0 c =
    let h = c.loop-at in
    let bam = c.args.bam.now in
    let f = c.field_size-size in
    let stop = fields_stop bam h.at f.result (omega arith) f.ensures (omega arith) in
    (sym (h.invariant.1 ∙ ap is_done stop), λ (t : false ≡ true). let z : ◌≡◌ {A = ℕ} 0 1 = cc in absurd (omega arith))

pub bounds-bam-at-in-loop-at : goal.bounds-bam-at-in-loop-at
bounds-bam-at-in-loop-at c =
    let ahead : (4 ≤ c.field_size-size.result) × (c.loop-at.at + c.field_size-size.result ≤ length c.args.bam.now) = step_fits c.args.bam.now c.loop-at.at c.field_size-size.result (omega arith) c.field_size-size.ensures (λ q. omega arith) in
    omega (arith, ahead)

pub overflow_add-at-in-loop-at : goal.overflow_add-at-in-loop-at
overflow_add-at-in-loop-at c =
    let ahead : (4 ≤ c.field_size-size.result) × (c.loop-at.at + c.field_size-size.result ≤ length c.args.bam.now) = step_fits c.args.bam.now c.loop-at.at c.field_size-size.result (omega arith) c.field_size-size.ensures (λ q. omega arith) in
    omega (arith, ahead)

pub loop-at-preserved : goal.loop-at-preserved
loop-at-preserved c =
    let ahead : (4 ≤ c.field_size-size.result) × (c.loop-at.at + c.field_size-size.result ≤ length c.args.bam.now) = step_fits c.args.bam.now c.loop-at.at c.field_size-size.result (omega arith) c.field_size-size.ensures (λ q. omega arith) in
    let h = c.loop-at in
    let a = c.args in
    let bam = a.bam.now in
    let f = c.field_size-size in
    let m = c.name_by-name in
    let some : f.result ≡ 0 → ⊥ = λ q. omega arith in
    let seen = eqb (get_or h.sizes m.result 0) 0 in (
      (ahead).1,
      h.invariant.1 ∙ done_step bam h.at f.result (omega arith) f.ensures some,
      noted_turn bam a.from h.at f.result h.invariant.1 (omega arith) f.ensures some h.ats h.sizes c.note.new.ats c.note.new.sizes
          m.result m.ensures.0 (omega arith) (omega arith) h.invariant.2 c.note.ensures.0 c.note.ensures.1,
      length_noted seen h.ats c.note.new.ats m.result h.at c.note.ensures.0 ∙ h.invariant.3,
      length_noted seen h.sizes c.note.new.sizes m.result f.result c.note.ensures.1 ∙ h.invariant.4,
    )

pub returns : goal.returns
returns c =
    let h = c.loop-at in
    let a = c.args in
    let bam = a.bam.now in
    let all : is_done (fields (drop a.from bam)) ≡ true = h.invariant.1 ∙ ap is_done (fields_end bam h.at (omega arith)) in
    (sym all, λ t. noted_all bam a.from h.at h.ats h.sizes (omega arith) all h.invariant.2)

use mathlib.Core.Path.{◌∙◌, ◌≡◌, ap, refl, sym}
use Prim.Native.Nat.{◌+◌, ◌-◌}
use native.Mathlib.Omega.{arith}
use mathlib.Core.Bool.{Bool, ◌&&◌}
use lib.ListN.{drop, length, length-drop, take}
use lib.Seq.{take_all}
use Rattle.samtags.specs.Edits.{same_bytes_of}
use Rattle.windows.proofs.SameLaws.{same_lengths, same_parts}
use Rattle.windows.proofs.same_bytes.Goals as goal

pub returns-then-a-b : goal.returns-then-a-b
returns-then-a-b c = sym (same_lengths c.args.a.now c.args.b.now (omega arith))

pub loop-i-init : goal.loop-i-init
loop-i-init c = (omega arith, omega arith, refl)

pub same_block-same-requires : goal.same_block-same-requires
same_block-same-requires c = (omega arith, omega arith)

pub returns-then-not-same : goal.returns-then-not-same
returns-then-not-same c =
    let onward : same_bytes_of c.args.a.now c.args.b.now ≡ c.same_block-same.result && same_bytes_of (drop (c.loop-i.i + 128) c.args.a.now) (drop (c.loop-i.i + 128) c.args.b.now) = c.loop-i.invariant.2 ∙ same_parts c.args.a.now c.args.b.now c.loop-i.i 128 (omega arith) (omega arith)
    ∙ ap (λ (t : Bool). t && same_bytes_of (drop (c.loop-i.i + 128) c.args.a.now) (drop (c.loop-i.i + 128) c.args.b.now)) (sym c.same_block-same.ensures) in
    sym (onward ∙ rw (c.if-not-same.true))

pub loop-i-preserved : goal.loop-i-preserved
loop-i-preserved c =
    let onward : same_bytes_of c.args.a.now c.args.b.now ≡ c.same_block-same.result && same_bytes_of (drop (c.loop-i.i + 128) c.args.a.now) (drop (c.loop-i.i + 128) c.args.b.now) = c.loop-i.invariant.2 ∙ same_parts c.args.a.now c.args.b.now c.loop-i.i 128 (omega arith) (omega arith)
    ∙ ap (λ (t : Bool). t && same_bytes_of (drop (c.loop-i.i + 128) c.args.a.now) (drop (c.loop-i.i + 128) c.args.b.now)) (sym c.same_block-same.ensures) in
    (omega arith, omega arith, onward ∙ rw (c.if-not-same.false))

pub same_block-requires : goal.same_block-requires
same_block-requires c = (omega arith, omega arith)

pub returns : goal.returns
returns c =
    let h = c.loop-i in
    let a = c.args in
    let n = length a.a.now - h.i in
    let first : take n (drop h.i a.a.now) ≡ drop h.i a.a.now =
    take_all n (drop h.i a.a.now) (omega (arith, length-drop h.i a.a.now)) in
    let second : take n (drop h.i a.b.now) ≡ drop h.i a.b.now =
    take_all n (drop h.i a.b.now) (omega (arith, length-drop h.i a.b.now)) in
    c.same_block.ensures ∙ (λ j. same_bytes_of (first j) (second j)) ∙ sym h.invariant.2

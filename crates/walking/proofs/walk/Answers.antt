use mathlib.Core.Path.{refl, ap, ◌∙◌}
use Prim.Native.Nat.{ℕ, ◌-◌, ◌<◌}
use lib.ListN.{length}
use Rattle.cigar.specs.Cigar.{bases_taken, places_taken}
use Rattle.walking.specs.Walk.{in_order_of, moved}
use Rattle.walking.proofs.Walks.{come_start, come_on, length_in_order, total_in_order}
use Rattle.walking.proofs.walk.Goals as goal

pub loop-i-init : goal.loop-i-init
loop-i-init c =
    let a = c.args in
    come_start a.is_reverse a.outset (in_order_of a.is_reverse a.cigar.now) a.positions.now
    (rw (total_in_order bases_taken a.is_reverse a.cigar.now) c.requires.0)
    (rw (total_in_order places_taken a.is_reverse a.cigar.now) c.requires.1)

pub loop-i-preserved : goal.loop-i-preserved
loop-i-preserved c =
    let among : c.loop-i.i < length (in_order_of c.args.is_reverse c.args.cigar.now) = (let a = c.args in
    rw (length_in_order a.is_reverse a.cigar.now) c.loop-i-test.true) in
    let a = c.args in
    come_on c.loop-i.invariant c.word_at-word.result (among) c.word_at-word.ensures (length c.loop-i.positions - c.loop-i.at) c.bases_taken.result
    c.moved-place.result c.put_operation.new.out refl c.bases_taken.ensures
    (c.moved-place.ensures ∙ ap (λ (n : ℕ). moved a.is_reverse c.loop-i.place n) c.places_taken.ensures)
    c.put_operation.ensures

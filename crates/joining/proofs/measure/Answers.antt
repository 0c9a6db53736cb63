-- `measure` measures both strands' own tags over a copy of the bases that both strands have restored.
-- Assumes nothing.
use mathlib.Core.Path.{◌∙◌, ◌≡◌, ap, sym}
use Prim.Native.Nat.{◌-◌, ℕ}
use native.Mathlib.Omega.{arith}
use mathlib.Core.Bool.{true}
use mathlib.Core.List.{List}
use lib.ListN.{drop, length, take}
use Rattle.joining.proofs.Parts.{both_length, front_held}
use Rattle.joining.specs.Order.{restored_by_both}
use Rattle.joining.proofs.measure.Goals as goal

pub restore-requires : goal.restore-requires
restore-requires c =
    (c.requires.bases_len_bound.1, (λ (t : c.args.two ≡ true). (c.requires.second_informative_len t).0), omega (arith, c.scratch-seq.ensures))

pub measure_second-other-requires : goal.measure_second-other-requires
measure_second-other-requires c =
    let restored_front : let seq = restored_by_both c.args.two c.args.first c.args.first_informative.now c.args.second c.args.second_informative.now c.args.bases.now in (take (length c.args.bases.now - 0) (drop 0 c.restore.new.seq) ≡ seq) × (length seq ≡ length c.args.bases.now) = (let seq = restored_by_both c.args.two c.args.first c.args.first_informative.now c.args.second c.args.second_informative.now c.args.bases.now in
    let long : length seq ≡ length c.args.bases.now =
    both_length c.args.two c.args.first c.args.first_informative.now c.args.second c.args.second_informative.now c.args.bases.now c.requires.bases_len_bound.1
    (λ (t : c.args.two ≡ true). (c.requires.second_informative_len t).0) in
    (front_held seq c.scratch-seq.result c.restore.new.seq (length c.args.bases.now) c.restore.ensures long, long)) in
    let f = restored_front in
    let long = ap (λ (l : List ℕ). length l) f.0 ∙ f.1 in
    λ (t : c.args.two ≡ true). (omega (arith, long), (c.requires.second_informative_len t).0 ∙ sym long, (c.requires.second_informative_len t).1 ∙ sym long, (c.requires.second_informative_len t).2 ∙ sym long)

pub returns : goal.returns
returns c =
    let restored_front : let seq = restored_by_both c.args.two c.args.first c.args.first_informative.now c.args.second c.args.second_informative.now c.args.bases.now in (take (length c.args.bases.now - 0) (drop 0 c.restore.new.seq) ≡ seq) × (length seq ≡ length c.args.bases.now) = (let seq = restored_by_both c.args.two c.args.first c.args.first_informative.now c.args.second c.args.second_informative.now c.args.bases.now in
    let long : length seq ≡ length c.args.bases.now =
    both_length c.args.two c.args.first c.args.first_informative.now c.args.second c.args.second_informative.now c.args.bases.now c.requires.bases_len_bound.1
    (λ (t : c.args.two ≡ true). (c.requires.second_informative_len t).0) in
    (front_held seq c.scratch-seq.result c.restore.new.seq (length c.args.bases.now) c.restore.ensures long, long)) in
    let f = restored_front in
    rw (← f.0) (c.measure-own.ensures.0, c.measure-own.ensures.1, c.measure_second-other.ensures.0, c.measure_second-other.ensures.1)

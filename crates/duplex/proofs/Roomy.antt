-- Room for every part of an answer, part by part.
-- Assumes nothing.
use mathlib.Core.Path.{◌≡◌}
use Prim.Native.Nat.{◌≤◌}
use mathlib.Core.Bool.{true, ◌&&◌}
use lib.Dec.{leb}
use borrow.Author.Tests.{leb-true}
use Rattle.lent.proofs.Tests.{and_true_l, and_true_r}
use Rattle.duplex.specs.Duplex.{within}
use Rattle.duplex.specs.declared.Lengths.{Lengths}

pub record Roomy (parts lent : Lengths) : Type 0 where
  pub seq : parts.seq ≤ lent.seq
  pub mm : parts.mm ≤ lent.mm
  pub ml : parts.ml ≤ lent.ml
  pub unc : parts.unconverted ≤ lent.unconverted
  pub con : parts.converted ≤ lent.converted
  pub mm₁ : parts.first_mm ≤ lent.first_mm
  pub unc₁ : parts.first_unconverted ≤ lent.first_unconverted
  pub con₁ : parts.first_converted ≤ lent.first_converted
  pub mm₂ : parts.second_mm ≤ lent.second_mm
  pub unc₂ : parts.second_unconverted ≤ lent.second_unconverted
  pub con₂ : parts.second_converted ≤ lent.second_converted

pub roomy : (parts lent : Lengths) → within parts lent ≡ true → Roomy parts lent
roomy parts lent e =
    let f0 = leb parts.seq lent.seq in
    let f1 = leb parts.mm lent.mm in
    let f2 = leb parts.ml lent.ml in
    let f3 = leb parts.unconverted lent.unconverted in
    let f4 = leb parts.converted lent.converted in
    let f5 = leb parts.first_mm lent.first_mm in
    let f6 = leb parts.first_unconverted lent.first_unconverted in
    let f7 = leb parts.first_converted lent.first_converted in
    let f8 = leb parts.second_mm lent.second_mm in
    let f9 = leb parts.second_unconverted lent.second_unconverted in
    let f10 = leb parts.second_converted lent.second_converted in
    let t0 = f0 in
    let t1 = t0 && f1 in
    let t2 = t1 && f2 in
    let t3 = t2 && f3 in
    let t4 = t3 && f4 in
    let t5 = t4 && f5 in
    let t6 = t5 && f6 in
    let t7 = t6 && f7 in
    let t8 = t7 && f8 in
    let t9 = t8 && f9 in
    let t10 = t9 && f10 in
    let e10 : t10 ≡ true = e in
    let e9 = and_true_l t9 f10 e10 in
    let e8 = and_true_l t8 f9 e9 in
    let e7 = and_true_l t7 f8 e8 in
    let e6 = and_true_l t6 f7 e7 in
    let e5 = and_true_l t5 f6 e6 in
    let e4 = and_true_l t4 f5 e5 in
    let e3 = and_true_l t3 f4 e4 in
    let e2 = and_true_l t2 f3 e3 in
    let e1 = and_true_l t1 f2 e2 in
    let e0 = and_true_l t0 f1 e1 in
    record {
      seq = leb-true parts.seq lent.seq e0;
      mm = leb-true parts.mm lent.mm (and_true_r t0 f1 e1);
      ml = leb-true parts.ml lent.ml (and_true_r t1 f2 e2);
      unc = leb-true parts.unconverted lent.unconverted (and_true_r t2 f3 e3);
      con = leb-true parts.converted lent.converted (and_true_r t3 f4 e4);
      mm₁ = leb-true parts.first_mm lent.first_mm (and_true_r t4 f5 e5);
      unc₁ = leb-true parts.first_unconverted lent.first_unconverted (and_true_r t5 f6 e6);
      con₁ = leb-true parts.first_converted lent.first_converted (and_true_r t6 f7 e7);
      mm₂ = leb-true parts.second_mm lent.second_mm (and_true_r t7 f8 e8);
      unc₂ = leb-true parts.second_unconverted lent.second_unconverted (and_true_r t8 f9 e9);
      con₂ = leb-true parts.second_converted lent.second_converted (and_true_r t9 f10 e10);
    }

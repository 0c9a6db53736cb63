-- The lengths of SEQ and the columns when they pass the checks.
-- Assumes nothing.
use mathlib.Core.Path.{◌≡◌}
use Prim.Native.Nat.{◌≤◌, ℕ}
use mathlib.Core.Bool.{◌&&◌, true}
use mathlib.Core.List.{List}
use lib.Dec.{eqb, leb}
use lib.ListN.{length}
use borrow.Author.Tests.{eqb-true, leb-true}
use Rattle.lent.proofs.Tests.{and_true_l, and_true_r}
use Rattle.samtags.specs.Building.{Evidence, evidence_agrees, evidence_in_domain}

-- how long consensus and columns are
pub record Lengths (ev : Evidence) (seq : List ℕ) : Type 0 where
  pub short : length seq ≤ 16000
  pub inf : length ev.informative ≡ length seq
  pub unc : length ev.unconverted ≡ length seq
  pub con : length ev.converted ≡ length seq

pub lengths_known : (ev : Evidence) (seq : List ℕ) → evidence_in_domain ev seq ≡ true → evidence_agrees ev seq ≡ true → Lengths ev seq
lengths_known ev seq d a =
    let s = length seq in
    let i = length ev.informative in
    let u = length ev.unconverted in
    let c = length ev.converted in
    let d₂ = and_true_l (leb s 16000 && leb i 16000 && leb u 16000) (leb c 16000) d in
    let d₃ = and_true_l (leb s 16000 && leb i 16000) (leb u 16000) d₂ in
    let a₂ = and_true_l (eqb i s && eqb u s) (eqb c s) a in
    record {
      short = leb-true s 16000 (and_true_l (leb s 16000) (leb i 16000) d₃);
      inf = eqb-true i s (and_true_l (eqb i s) (eqb u s) a₂);
      unc = eqb-true u s (and_true_r (eqb i s) (eqb u s) a₂);
      con = eqb-true c s (and_true_r (eqb i s && eqb u s) (eqb c s) a);
    }

-- Each public call's contract determines its outcome, the answer and every lent row: two outcomes that meet the contract are equal.
-- Assumes nothing.
use Rattle.std.specs.Prelude.{Ok, Err}
use Rattle.lent.specs.Outcome.{Outcome}
use mathlib.Core.Path.{◌≡◌, ap}
use Prim.Native.Nat.{ℕ}
use native.Mathlib.Omega.{arith}
use mathlib.Core.Bool.{Bool}
use mathlib.Core.List.{List}
use Rattle.lent.proofs.Filled.{settled}
use Rattle.lent.proofs.Outcome.{done_inj}
use Rattle.samtags.specs.Reading.{Tally}
use Rattle.reading.specs.Answers.{tally_says}
use Rattle.reading.specs.Calls.{CallsRead, calls_read}
use Rattle.reading.specs.PublicContracts.{ChecksTag, ReadsCalls, Tallies}

pub tally_says_inj : (a b : Outcome (ℕ × ℕ)) → tally_says a ≡ tally_says b → a ≡ b
tally_says_inj (Ok (g, n)) (Ok (h, m)) e =
    let p : ◌≡◌ {A = Tally} (record { above = g; below = n }) (record { above = h; below = m }) = done_inj e in
    λ j. Ok ((p j).above, (p j).below)
tally_says_inj (Ok (g, n)) (Err r) e = let z : ◌≡◌ {A = ℕ} 0 1 = cc in absurd (omega arith)
tally_says_inj (Err q) (Ok (h, m)) e = let z : ◌≡◌ {A = ℕ} 0 1 = cc in absurd (omega arith)
tally_says_inj (Err q) (Err r) e = let p : q ≡ r = cc in ap Err p

pub check_tag_unique : (ml? : Bool) (seq mm ml : List ℕ) (r s : Outcome (ℕ × ℕ))
    → ChecksTag ml? seq mm ml r → ChecksTag ml? seq mm ml s → r ≡ s
check_tag_unique ml? seq mm ml r s p q = settled r s p q

-- the answer and the three columns, whatever the call leaves
pub calls_unique : (o : CallsRead) (r s : Outcome (ℕ × ℕ)) (g h p q a b : List ℕ)
    → calls_read r g p a ≡ o → calls_read s h q b ≡ o → (r ≡ s) × (g ≡ h) × (p ≡ q) × (a ≡ b)
calls_unique o r s g h p q a b e f =
    let same = settled (calls_read r g p a) (calls_read s h q b) e f in (
      ap (λ (c : CallsRead). c.answer) same,
      ap (λ (c : CallsRead). c.groups) same,
      ap (λ (c : CallsRead). c.places) same,
      ap (λ (c : CallsRead). c.starts) same,
    )

pub read_calls_unique : (ml? : Bool) (seq mm ml groups places starts : List ℕ) (r s : Outcome (ℕ × ℕ)) (g h p q a b : List ℕ)
    → ReadsCalls ml? seq mm ml groups places starts r g p a → ReadsCalls ml? seq mm ml groups places starts s h q b
    → (r ≡ s) × (g ≡ h) × (p ≡ q) × (a ≡ b)
read_calls_unique ml? seq mm ml groups places starts = calls_unique _

pub tally_unique : (seq mm ml : List ℕ) (r s : Outcome (ℕ × ℕ)) → Tallies seq mm ml r → Tallies seq mm ml s → r ≡ s
tally_unique seq mm ml r s p q = tally_says_inj r s (settled (tally_says r) (tally_says s) p q)

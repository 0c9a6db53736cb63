-- Each public call's contract determines its outcome, the answer and every lent row: two outcomes that meet the contract are equal.
-- Assumes nothing.
use mathlib.Core.Path.{◌≡◌}
use Prim.Native.Nat.{ℕ}
use mathlib.Core.Bool.{Bool}
use mathlib.Core.List.{List}
use Rattle.lent.proofs.Filled.{settled}
use Rattle.lent.specs.Outcome.{Outcome}
use Rattle.reading.proofs.Unique.{tally_says_inj, calls_unique}
use Rattle.reading.specs.Answers.{tally_says}
use Rattle.stored.specs.PublicContracts.{ChecksStored, Fills, ReadsStored, TalliesStored, Turns, Unpacks}

-- ---- whatever the outcome is

-- the answer and the row
pub fills_unique : (o : Outcome (List ℕ)) (row : List ℕ) (r s : Outcome ℕ) (row₁ row₂ : List ℕ)
    → Fills o row r row₁ → Fills o row s row₂ → (r ≡ s) × (row₁ ≡ row₂)
fills_unique o row r s row₁ row₂ p q = ((settled r s p.0 q.0), settled row₁ row₂ p.1 q.1)

-- ---- each call

pub turn_unique : (n : ℕ) (packed out : List ℕ) (r s : Outcome ℕ) (out₁ out₂ : List ℕ)
    → Turns n packed out r out₁ → Turns n packed out s out₂ → (r ≡ s) × (out₁ ≡ out₂)
turn_unique n packed out = fills_unique _ out

pub unpack_unique : (reverse : Bool) (n : ℕ) (packed seq : List ℕ) (r s : Outcome ℕ) (seq₁ seq₂ : List ℕ)
    → Unpacks reverse n packed seq r seq₁ → Unpacks reverse n packed seq s seq₂ → (r ≡ s) × (seq₁ ≡ seq₂)
unpack_unique reverse n packed seq = fills_unique _ seq

pub check_tag_unique : (reverse ml? : Bool) (n : ℕ) (packed mm ml : List ℕ) (r s : Outcome (ℕ × ℕ))
    → ChecksStored reverse ml? n packed mm ml r → ChecksStored reverse ml? n packed mm ml s → r ≡ s
check_tag_unique reverse ml? n packed mm ml = settled

pub read_calls_unique : (reverse ml? : Bool) (n : ℕ) (packed mm ml groups places starts : List ℕ) (r s : Outcome (ℕ × ℕ)) (g h p q a b : List ℕ)
    → ReadsStored reverse ml? n packed mm ml groups places starts r g p a → ReadsStored reverse ml? n packed mm ml groups places starts s h q b
    → (r ≡ s) × (g ≡ h) × (p ≡ q) × (a ≡ b)
read_calls_unique reverse ml? n packed mm ml groups places starts = calls_unique _

pub tally_unique : (reverse : Bool) (n : ℕ) (packed mm ml : List ℕ) (r s : Outcome (ℕ × ℕ))
    → TalliesStored reverse n packed mm ml r → TalliesStored reverse n packed mm ml s → r ≡ s
tally_unique reverse n packed mm ml r s p q = tally_says_inj r s (settled (tally_says r) (tally_says s) p q)

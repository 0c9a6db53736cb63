-- Handing on the answer of a call on a record: the number of the definition, the two lent numbers, and the row.
-- Assumes nothing.
use Rattle.std.specs.Prelude.{Option}
use Prim.Native.Nat.{ℕ}
use mathlib.Core.Bool.{Bool}
use mathlib.Core.List.{List}
use mathlib.Core.Path.{◌≡◌, ◌∙◌, ap}
use lib.ListN.{length}
use Rattle.lent.specs.Outcome.{Outcome, number_of, on_done}
use Rattle.record_lib.specs.RecordContracts.{WritesRecordInC, as_number}
use Rattle.record_tags.specs.Records.{Finished, cut_record}
use Rattle.record_writing.specs.Answers.{Left, leaves_record, left}
use Rattle.telling.proofs.Handed.{number_handed, told_handed}
use Rattle.telling.specs.Told.{told}

-- what a caller holds who was told of the answer w: the number r, the length n and whether a field went, g
abbrev pub RecordTold : Outcome (ℕ × Bool) → ℕ → ℕ → ℕ → ℕ → ℕ → Type 0
RecordTold w r n₀ n g₀ g = (r ≡ number_of w) × (n ≡ told (λ (s : ℕ × Bool). s.0) w n₀) × (g ≡ told (λ (s : ℕ × Bool). as_number s.1) w g₀)

abbrev said_of : Finished → ℕ × Bool
said_of f = (length f.bytes, f.went)

pub record_handed : (o : Outcome Finished) (out : List ℕ) (n₀ g₀ : ℕ) {w : Outcome (ℕ × Bool)} {r n g : ℕ} {out' : List ℕ}
    → left w out' ≡ leaves_record o out → RecordTold w r n₀ n g₀ g → WritesRecordInC o out n₀ g₀ r out' n g
unfolding leaves_record
record_handed o out n₀ g₀ {w} e h =
    let answer : w ≡ on_done said_of o = ap (λ (y : Left). y.answer) e in (
      number_handed said_of o answer h.0,
      told_handed (λ (s : ℕ × Bool). s.0) said_of o n₀ answer h.1,
      told_handed (λ (s : ℕ × Bool). as_number s.1) said_of o g₀ answer h.2,
      ap (λ (y : Left). y.row) e,
    )

-- a cut whose start was given as another says
pub cut_handed : (bam before : List ℕ) (reverse : Bool) (given : Option ℕ) (out : List ℕ) (n₀ g₀ : ℕ) {start : Option ℕ} {w : Outcome (ℕ × Bool)} {r n g : ℕ}
    {out' : List ℕ} → start ≡ given → left w out' ≡ leaves_record (cut_record bam before reverse start (length out)) out → RecordTold w r n₀ n g₀ g
    → WritesRecordInC (cut_record bam before reverse given (length out)) out n₀ g₀ r out' n g
cut_handed bam before reverse given out n₀ g₀ s e h =
    record_handed (cut_record bam before reverse given (length out)) out n₀ g₀
    (e ∙ ap (λ (at : Option ℕ). leaves_record (cut_record bam before reverse at (length out)) out) s) h

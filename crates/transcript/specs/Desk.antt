-- The desk (the rows in which a session works), and an output that is filled from its start. These are contracts of private functions; no promise rests on them.
-- Assumes nothing.
use Rattle.std.specs.Prelude.{ℕ, ◌≤◌, ◌≡◌, List, length}
use Rattle.std.proofs.lemmas.List.Edits.{sets}

-- the rows have room for every SEQ, text and ML that an input of 65,536 bytes can give to a session
pub record DeskFits (seq mm ml : List ℕ) : Type 0 where
  pub seq_room : 16000 ≤ length seq
  pub mm_room : 65536 ≤ length mm
  pub ml_room : 32768 ≤ length ml

-- the n bytes of `said` are stored from the output's start on, as far as it reaches
abbrev pub Said : List ℕ → ℕ → List ℕ → List ℕ → Type 0
Said said n out out' = (n ≡ length said) × (out' ≡ sets out 0 said)

-- An entry that is read, and an edited tag while it is written: two rows, and the end of the written part of each. Stores past a row's end are left
-- out, so that rows without room measure. These are contracts of support functions; no promise rests on them.
-- Assumes nothing.
use Rattle.std.specs.Prelude.{ℕ, ◌+◌, Bool, true, false, List, length, take, drop, Ok}
use Rattle.std.proofs.lemmas.List.Edits.{sets}
use Rattle.lent.specs.Lists.{filter}
use Rattle.lent.specs.Outcome.{Outcome, on_done, with_first}
use Rattle.samtags.specs.Writing.{entry_text}

-- ---- an entry

-- the place after the first n places, and m plus the number of those n that pass the test; 7 if there is no such place
abbrev pub passing : (ℕ → Bool) → ℕ → ℕ → List ℕ → Outcome (ℕ × ℕ)
passing held m n places = with_first (drop n places) 7 (λ p rest. Ok (p, m + length (filter held (take n places))))

-- for an entry that is read: its place, and how many of the n places that it passes over pass the test
abbrev pub with_passed : (ℕ → Bool) → ℕ → List ℕ → Outcome (ℕ × List ℕ) → Outcome (ℕ × ℕ)
with_passed held n places o = on_done (λ e. (e.0, length (filter held (take n places)))) o

-- ---- the rows

pub record Draft : Type 0 where
  pub text : List ℕ
  pub end : ℕ
  pub ml : List ℕ
  pub kept : ℕ

abbrev pub draft : List ℕ → ℕ → List ℕ → ℕ → Draft
draft text end ml kept = record { text = text; end = end; ml = ml; kept = kept }

-- the draft with more text and more values
abbrev pub more : Draft → List ℕ → List ℕ → Draft
more w t vs = draft (sets w.text w.end t) (w.end + length t) (sets w.ml w.kept vs) (w.kept + length vs)

-- a call with the values vs, before which `gap` bare spots wait: the rows after it, and how many wait then
abbrev pub entry_put : Bool → Bool → Draft → ℕ → List ℕ → Draft × ℕ
entry_put true true w gap vs = (w, gap + 1)
entry_put true false w gap vs = (more w (entry_text gap) vs, 0)
entry_put false dropped w gap vs = (w, gap)

-- Steps on lent rows, by computation: the scope's session in rows that are longer than what it holds, and the edge cases of a call.
-- Assumes nothing.
use Rattle.std.specs.Prelude.{Ok}
use mathlib.Core.Path.{◌≡◌, refl}
use Prim.Native.Nat.{ℕ}
use mathlib.Core.Bool.{true, false}
use mathlib.Core.List.{List, [], ◌∷◌}
use Rattle.lent.specs.Outcome.{number_of, refuse}
use Rattle.samtags.specs.Bytes.{ascii}
use Rattle.samtags.specs.Session.{Lengths, Memory, answers_in_memory, cut, drop_calls, mask, open_session, run_in_memory, step_in_memory}
use Rattle.stepping.specs.Steps.{came, leaves_memory}

abbrev rows : List ℕ → List ℕ → List ℕ → ℕ → ℕ → ℕ → Memory
rows seq text ml s t m = record { seq = seq; text = text; ml = ml; lengths = record { seq = s; text = t; ml = m } }

abbrev held : ℕ → ℕ → ℕ → Lengths
held s t m = record { seq = s; text = t; ml = m }

-- the bytes behind SEQ, text and ML are those from before the opening
abbrev opened : Memory
opened = rows (ascii "ACCGTCCxx") (ascii "C+m?,0,1,0;yy") (200 ∷ 90 ∷ 30 ∷ 77 ∷ []) 7 11 3

-- the scope's session, step by step: the places of a step are those of SEQ as it finds it, and bytes past the new lengths stay as found
pub step_by_step :
    (leaves_memory opened (step_in_memory true (mask (1 ∷ [])) opened)
    ≡ came (Ok (held 7 9 2)) (ascii "ANCGTCCxx") (ascii "C+m?,1,0;0;yy") (90 ∷ 30 ∷ 30 ∷ 77 ∷ []))
    × (run_in_memory true (mask (1 ∷ []) ∷ drop_calls (5 ∷ []) ∷ cut 3 0 ∷ []) opened
    ≡ rows (ascii "GTCCTCCxx") (ascii "C+m?,1;0;0;yy") (30 ∷ 30 ∷ 30 ∷ 77 ∷ []) 4 7 1)
    × (answers_in_memory true (mask (1 ∷ []) ∷ drop_calls (5 ∷ []) ∷ cut 3 0 ∷ []) opened ≡ 0 ∷ 0 ∷ 0 ∷ [])
unfolding leaves_memory step_in_memory run_in_memory answers_in_memory
step_by_step = (refl, refl, refl)

-- a refusal, and 21, leave every byte; a tag that nobody can read is not read by a cut of nothing
pub left_alone :
    (leaves_memory opened (step_in_memory true (cut 4 4) opened) ≡ came (refuse 11) opened.seq opened.text opened.ml)
    × (step_in_memory true (cut 4294967295 1) opened ≡ refuse 11)
    × (step_in_memory true (cut 0 0) (rows (ascii "A") (ascii "?") [] 1 1 0) ≡ refuse 21)
    × (step_in_memory true (drop_calls (0 ∷ [])) (rows (ascii "C") (ascii "C+m,0;") (7 ∷ []) 1 6 1) ≡ refuse 10)
unfolding leaves_memory step_in_memory
left_alone = (refl, refl, refl, refl)

-- 1 by the lengths, 2 where one is over its row, then the reader's numbers; a session without ML does not look at ML's length
pub by_the_table :
    (number_of (open_session true (rows (ascii "C") [] [] 16001 0 0)) ≡ 1)
    × (number_of (open_session true (rows (ascii "C") (ascii "C+m?;") [] 2 5 0)) ≡ 2)
    × (number_of (open_session true (rows (ascii "C") (ascii "C+m?;") [] 1 5 1)) ≡ 2)
    × (number_of (open_session false (rows (ascii "C") (ascii "C+m?,0;") [] 1 7 99999)) ≡ 0)
    × (number_of (step_in_memory true (mask []) (rows (ascii "C") (ascii "C+m?,0;") (1 ∷ 2 ∷ []) 1 7 2)) ≡ 9)
    × (number_of (step_in_memory true (mask []) (rows (ascii "C") (ascii "C+m?,0;") (1 ∷ 2 ∷ []) 1 7 1)) ≡ 0)
unfolding open_session step_in_memory
by_the_table = (refl, refl, refl, refl, refl, refl)

-- a group on any base keeps its call on a masked base; the group on C loses it
pub any_base_stays :
    run_in_memory false (mask (1 ∷ []) ∷ []) (rows (ascii "ACC") (ascii "N+n?,1;C+m?,0,0;") [] 3 16 0)
    ≡ rows (ascii "ANC") (ascii "N+n?,1;C+m?,0;0;") [] 3 14 0
unfolding run_in_memory
any_base_stays = refl

-- Demand 3's theorem about stored reads, and the law, applied to a worked session: their hypotheses can be met together. A chain of calls exists for every
-- list of steps (proofs/ChainExists).
-- Assumes nothing.
use Rattle.std.specs.Prelude.{Ok}
use mathlib.Core.Path.{◌≡◌, refl}
use Prim.Native.Nat.{ℕ}
use mathlib.Core.Bool.{true}
use mathlib.Core.List.{List, [], ◌∷◌}
use Rattle.packed.proofs.Rows.{bytes_by_test}
use Rattle.reading.specs.Calls.{counts_of}
use Rattle.samtags.specs.Bytes.{ascii}
use Rattle.samtags.specs.Reading.{call_list, lists}
use Rattle.samtags.specs.Spots.{Listing}
use Rattle.session.specs.PublicContracts.{Call, Rows, in_memory}
use Rattle.stored_session.proofs.Demand.{As-meant, session_as_meant}
use Rattle.stored_session.specs.Chain.{ChainStored, read_in, steps_in_read}
use Rattle.stored_steps.specs.Steps.{open_stored}
use Rattle.session.specs.Chain.{Chain, at_end, numbers_of, steps_of}
use Rattle.samtags.specs.Session.{held_in}
use Rattle.stored_session.proofs.AsPlain.{same_session, turned, turned_same}
use Rattle.stored_session.proofs.Held.{order_of_tests}
use native.Mathlib.Omega.{arith}

-- five C in read orientation, stored as five G with a dirty spare half; the first C is listed
abbrev five : Rows
five = record { seq = 0x44 ∷ 0x44 ∷ 0x4F ∷ []; mm = ascii "C+m?,0;"; ml = 200 ∷ []; lengths = record { seq = 5; mm = 7; ml = 1 } }

pub worked_session_as_meant : (cs : List Call) → ChainStored true true five cs
    → (ls : List Listing) × (lists true (read_in true five).seq (read_in true five).text (read_in true five).ml ≡ Ok ls)
    × (◌≡◌ {A = ℕ × ℕ} (counts_of ls) (1, 1)) × As-meant true true five ls cs
unfolding call_list open_stored
worked_session_as_meant cs k = session_as_meant true true five (bytes_by_test five.seq refl) 1 1 refl cs k

-- the law on the same read: a stored session, and the plain session on the turned read
pub worked_same_session : (cs cs' : List Call) → steps_of cs' ≡ steps_in_read true five cs → ChainStored true true five cs → Chain true (turned true five) cs'
    → (numbers_of cs ≡ numbers_of cs') × (read_in true (at_end five cs) ≡ held_in (in_memory (at_end (turned true five) cs')))
worked_same_session cs cs' asks k k' =
    let order = order_of_tests true (in_memory five) (bytes_by_test five.seq refl) refl (omega arith) refl in
    same_session true true five (turned true five) cs cs' (turned_same true true five order) asks k k'

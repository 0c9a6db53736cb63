-- The numbers that each public call can answer: no other number, each of them for some input of a reverse read, and 0 exactly when the call is done.
-- Assumes nothing.
use mathlib.Core.Path.{◌≡◌, refl, ap}
use Prim.Native.Nat.{ℕ}
use mathlib.Core.Bool.{Bool, ◌&&◌, false, true}
use mathlib.Core.List.{List, [], ◌∷◌, ◌++◌, map}
use lib.Dec.{leb}
use lib.ListN.{length, take}
use Rattle.lent.proofs.Answers.{answers, only_and_then, only_need, only_on_done}
use Rattle.lent.specs.Answers.{Answers, refuses_only}
use Rattle.lent.specs.Lists.{among}
use Rattle.lent.specs.Outcome.{Outcome, number_of, on_done}
use Rattle.packed.specs.Packed.{turn}
use Rattle.packed.specs.Stored.{as_stored, in_read}
use Rattle.reading.specs.Answers.{tally_says}
use Rattle.reading.specs.Calls.{CallsRead, counts_of, listed_calls}
use Rattle.samtags.proofs.Numbers.{bad_tags, good_tag, read_tag_only, read_tag_without_ml, tally_tag_only}
use Rattle.samtags.specs.Reading.{call_list, read_tag}
use Rattle.samtags.specs.Session.{Held}
use Rattle.stored.specs.PublicContracts.{ChecksStored, Fills, ReadsStored, TalliesStored, Turns, Unpacks}
use Rattle.stored.specs.Reads.{bases_of, is_exact, listed_stored, read_stored, read_stored_calls, stated_in_domain, tally_stored, turn_stored, unpack_stored}

abbrev pub bases_numbers : List ℕ
bases_numbers = 1 ∷ 2 ∷ 12 ∷ []

abbrev pub check_numbers : List ℕ
check_numbers = 1 ∷ 2 ∷ 3 ∷ 4 ∷ 5 ∷ 6 ∷ 7 ∷ 8 ∷ 9 ∷ []

abbrev pub calls_numbers : List ℕ
calls_numbers = 1 ∷ 2 ∷ 3 ∷ 4 ∷ 5 ∷ 6 ∷ 7 ∷ 8 ∷ 9 ∷ 12 ∷ []

-- without an ML 8 and 9 do not arise
abbrev pub check_numbers_without_ml : List ℕ
check_numbers_without_ml = 1 ∷ 2 ∷ 3 ∷ 4 ∷ 5 ∷ 6 ∷ 7 ∷ []

abbrev pub calls_numbers_without_ml : List ℕ
calls_numbers_without_ml = 1 ∷ 2 ∷ 3 ∷ 4 ∷ 5 ∷ 6 ∷ 7 ∷ 12 ∷ []

-- ---- no other number: bases alone

bases_only : (n : ℕ) (packed : List ℕ) (room : ℕ) (answer : List ℕ) → refuses_only bases_numbers (bases_of n packed room answer) ≡ true
bases_only n packed room answer =
    only_need bases_numbers (leb n 16000) 1 _ refl
    (only_need bases_numbers (is_exact n packed) 2 _ refl
    (only_need bases_numbers (leb (length answer) room) 12 _ refl refl))

pub turn_stored_only : (n : ℕ) (packed : List ℕ) (room : ℕ) → refuses_only bases_numbers (turn_stored n packed room) ≡ true
unfolding turn_stored
turn_stored_only n packed room = bases_only n packed room (turn n packed)

pub unpack_stored_only : (reverse : Bool) (n : ℕ) (packed : List ℕ) (room : ℕ) → refuses_only bases_numbers (unpack_stored reverse n packed room) ≡ true
unfolding unpack_stored
unpack_stored_only reverse n packed room = bases_only n packed room (in_read reverse n packed)

fills_answers : (o : Outcome (List ℕ)) (row : List ℕ) (r : Outcome ℕ) (row' : List ℕ) → refuses_only bases_numbers o ≡ true
    → Fills o row r row' → Answers bases_numbers r
fills_answers o row r row' h e =
    let is : r ≡ on_done length o = e.0 in
    rw is (answers bases_numbers _ refl (only_on_done bases_numbers length o h))

pub turn_numbers : (n : ℕ) (packed out : List ℕ) (r : Outcome ℕ) (out' : List ℕ) → Turns n packed out r out' → Answers bases_numbers r
turn_numbers n packed out r out' = fills_answers (turn_stored n packed (length out)) out r out' (turn_stored_only n packed (length out))

pub unpack_numbers : (reverse : Bool) (n : ℕ) (packed seq : List ℕ) (r : Outcome ℕ) (seq' : List ℕ)
    → Unpacks reverse n packed seq r seq' → Answers bases_numbers r
unpack_numbers reverse n packed seq r seq' =
    fills_answers (unpack_stored reverse n packed (length seq)) seq r seq' (unpack_stored_only reverse n packed (length seq))

-- ---- no other number: reading

-- any set that has the reader's, 2, and not 0
module _ (ns : List ℕ) (no_zero : among ns 0 ≡ false) (one : among ns 1 ≡ true) (two : among ns 2 ≡ true) (reverse ml? : Bool) (n : ℕ) (packed mm ml : List ℕ)
    (reader's : refuses_only ns (read_tag ml? (in_read reverse n packed) mm ml) ≡ true) where
  read_from : refuses_only ns (read_stored reverse ml? n packed mm ml) ≡ true
  unfolding read_stored
  read_from =
      only_need ns (stated_in_domain ml? n mm ml) 1 _ one
      (only_need ns (is_exact n packed) 2 _ two reader's)

  listed_from : among ns 12 ≡ true → (groups places starts : ℕ) → refuses_only ns (listed_stored reverse ml? n packed mm ml groups places starts) ≡ true
  unfolding listed_stored listed_calls
  listed_from twelve groups places starts =
      only_need ns (stated_in_domain ml? n mm ml) 1 _ one
      (only_need ns (is_exact n packed) 2 _ two
      (only_and_then ns (read_tag ml? (in_read reverse n packed) mm ml) _ reader's (λ ls.
      only_need ns (leb (length (call_list ls)) groups && leb (length (call_list ls)) places && leb (length (call_list ls)) starts) 12 _ twelve refl)))

  check_answers : (r : Outcome (ℕ × ℕ)) → ChecksStored reverse ml? n packed mm ml r → Answers ns r
  check_answers r e = rw e (answers ns _ no_zero (only_on_done ns counts_of (read_stored reverse ml? n packed mm ml) read_from))

  calls_answers : among ns 12 ≡ true → (groups places starts : List ℕ) (r : Outcome (ℕ × ℕ)) (groups' places' starts' : List ℕ)
      → ReadsStored reverse ml? n packed mm ml groups places starts r groups' places' starts' → Answers ns r
  unfolding read_stored_calls
  calls_answers twelve groups places starts r groups' places' starts' e =
      let o = listed_stored reverse ml? n packed mm ml (length groups) (length places) (length starts) in
      let is : r ≡ on_done counts_of o = ap (λ (c : CallsRead). c.answer) e in
      rw is (answers ns _ no_zero (only_on_done ns counts_of o (listed_from twelve (length groups) (length places) (length starts))))

module _ (reverse ml? : Bool) (n : ℕ) (packed mm ml : List ℕ) where
  pub read_stored_only : refuses_only check_numbers (read_stored reverse ml? n packed mm ml) ≡ true
  read_stored_only =
      read_from check_numbers refl refl refl reverse ml? n packed mm ml (read_tag_only check_numbers refl refl ml? (in_read reverse n packed) mm ml)

  pub listed_stored_only : (groups places starts : ℕ) → refuses_only calls_numbers (listed_stored reverse ml? n packed mm ml groups places starts) ≡ true
  listed_stored_only =
      listed_from calls_numbers refl refl refl reverse ml? n packed mm ml (read_tag_only calls_numbers refl refl ml? (in_read reverse n packed) mm ml) refl

  pub check_tag_numbers : (r : Outcome (ℕ × ℕ)) → ChecksStored reverse ml? n packed mm ml r → Answers check_numbers r
  check_tag_numbers =
      check_answers check_numbers refl refl refl reverse ml? n packed mm ml (read_tag_only check_numbers refl refl ml? (in_read reverse n packed) mm ml)

  pub read_calls_numbers : (groups places starts : List ℕ) (r : Outcome (ℕ × ℕ)) (groups' places' starts' : List ℕ)
      → ReadsStored reverse ml? n packed mm ml groups places starts r groups' places' starts' → Answers calls_numbers r
  read_calls_numbers =
      calls_answers calls_numbers refl refl refl reverse ml? n packed mm ml (read_tag_only calls_numbers refl refl ml? (in_read reverse n packed) mm ml) refl

module _ (reverse : Bool) (n : ℕ) (packed mm ml : List ℕ) where
  pub check_tag_numbers_without_ml : (r : Outcome (ℕ × ℕ)) → ChecksStored reverse false n packed mm ml r → Answers check_numbers_without_ml r
  check_tag_numbers_without_ml =
      check_answers check_numbers_without_ml refl refl refl reverse false n packed mm ml
      (read_tag_without_ml check_numbers_without_ml refl refl (in_read reverse n packed) mm ml)

  pub read_calls_numbers_without_ml : (groups places starts : List ℕ) (r : Outcome (ℕ × ℕ)) (groups' places' starts' : List ℕ)
      → ReadsStored reverse false n packed mm ml groups places starts r groups' places' starts' → Answers calls_numbers_without_ml r
  read_calls_numbers_without_ml =
      calls_answers calls_numbers_without_ml refl refl refl reverse false n packed mm ml
      (read_tag_without_ml calls_numbers_without_ml refl refl (in_read reverse n packed) mm ml) refl

  pub tally_stored_only : refuses_only check_numbers (tally_stored reverse n packed mm ml) ≡ true
  unfolding tally_stored
  tally_stored_only =
      only_need check_numbers (stated_in_domain true n mm ml) 1 _ refl
      (only_need check_numbers (is_exact n packed) 2 _ refl (tally_tag_only check_numbers refl refl (in_read reverse n packed) mm ml))

  pub tally_numbers : (r : Outcome (ℕ × ℕ)) → TalliesStored reverse n packed mm ml r → Answers check_numbers (tally_says r)
  tally_numbers r e = rw e (answers check_numbers _ refl tally_stored_only)

-- ---- no set is too large: worked inputs of a reverse read, whose numbers are 0 and then each of the set in order

-- one G is stored, for one C in read orientation; the spare half is not 0
abbrev one_g : List ℕ
one_g = 0x4F ∷ []

-- a row of one byte
abbrev row : List ℕ
row = 0 ∷ []

-- the number of a call that fills a row
abbrev turns : ℕ → List ℕ → List ℕ → ℕ
turns n packed out = number_of (turn_stored n packed (length out))

pub turn_each_number : turns 1 one_g row ∷ turns 16001 one_g row ∷ turns 3 one_g row ∷ turns 1 one_g [] ∷ [] ≡ 0 ∷ bases_numbers
unfolding turn_stored
turn_each_number = refl

abbrev unpacks : ℕ → List ℕ → List ℕ → ℕ
unpacks n packed seq = number_of (unpack_stored true n packed (length seq))

pub unpack_each_number : unpacks 1 one_g row ∷ unpacks 16001 one_g row ∷ unpacks 3 one_g row ∷ unpacks 1 one_g [] ∷ [] ≡ 0 ∷ bases_numbers
unfolding unpack_stored
unpack_each_number = refl

-- SEQ of a tag, stored as a reverse read, and a stated number of bases
abbrev checks : Bool → ℕ → Held → ℕ
checks ml? n h = number_of (on_done counts_of (read_stored true ml? n (as_stored true h.seq) h.text h.ml))

pub check_tag_each_number :
    (checks true 1 good_tag ∷ checks true 16001 good_tag ∷ checks true 3 good_tag ∷ map (checks true 1) bad_tags ≡ 0 ∷ check_numbers)
    × (checks false 1 good_tag ∷ checks false 16001 good_tag ∷ checks false 3 good_tag ∷ map (checks false 1) (take 5 bad_tags) ≡ 0 ∷ check_numbers_without_ml)
unfolding read_stored as_stored
check_tag_each_number = (refl, refl)

abbrev tallies : ℕ → Held → ℕ
tallies n h = number_of (tally_stored true n (as_stored true h.seq) h.text h.ml)

pub tally_each_number : tallies 1 good_tag ∷ tallies 16001 good_tag ∷ tallies 3 good_tag ∷ map (tallies 1) bad_tags ≡ 0 ∷ check_numbers
unfolding tally_stored as_stored
tally_each_number = refl

-- what `read_calls` answers, with these columns
abbrev lists_calls : Bool → List ℕ → ℕ → Held → ℕ
lists_calls ml? col n h = number_of (read_stored_calls true ml? n (as_stored true h.seq) h.text h.ml col col col).answer

abbrev each_list : Bool → List Held → List ℕ
each_list ml? bad =
    lists_calls ml? row 1 good_tag
    ∷ lists_calls ml? row 16001 good_tag
    ∷ lists_calls ml? row 3 good_tag
    ∷ map (lists_calls ml? row 1) bad ++ lists_calls ml? [] 1 good_tag
    ∷ []

pub read_calls_each_number : (each_list true bad_tags ≡ 0 ∷ calls_numbers) × (each_list false (take 5 bad_tags) ≡ 0 ∷ calls_numbers_without_ml)
unfolding read_stored_calls as_stored call_list
read_calls_each_number = (refl, refl)

-- The numbers that each public call can answer: no other number, each of them for some input, and 0 exactly when the call is done.
-- Assumes nothing.
use mathlib.Core.Path.{◌≡◌, refl, ap}
use Prim.Native.Nat.{ℕ}
use mathlib.Core.Bool.{Bool, true, false, ◌&&◌}
use mathlib.Core.List.{List, [], ◌∷◌, ◌++◌, map}
use lib.Dec.{leb}
use lib.ListN.{length, take}
use Rattle.lent.proofs.Answers.{answers, only_and_then, only_need, only_on_done}
use Rattle.lent.specs.Answers.{Answers, refuses_only}
use Rattle.lent.specs.Lists.{among}
use Rattle.lent.specs.Outcome.{Outcome, number_of, on_done}
use Rattle.samtags.proofs.Numbers.{bad_tags, good_tag, long_tag, read_tag_only, read_tag_without_ml, tally_tag_each, tally_tag_only}
use Rattle.samtags.specs.Reading.{call_list, read_tag, tally_tag}
use Rattle.samtags.specs.Session.{Held}
use Rattle.reading.specs.Answers.{tally_says}
use Rattle.reading.specs.Calls.{CallsRead, counts_of, listed_calls, read_calls}
use Rattle.reading.specs.PublicContracts.{ChecksTag, ReadsCalls, Tallies}

abbrev pub check_numbers : List ℕ
check_numbers = 1 ∷ 3 ∷ 4 ∷ 5 ∷ 6 ∷ 7 ∷ 8 ∷ 9 ∷ []

abbrev pub calls_numbers : List ℕ
calls_numbers = 1 ∷ 3 ∷ 4 ∷ 5 ∷ 6 ∷ 7 ∷ 8 ∷ 9 ∷ 12 ∷ []

-- without an ML 8 and 9 do not arise
abbrev pub check_numbers_without_ml : List ℕ
check_numbers_without_ml = 1 ∷ 3 ∷ 4 ∷ 5 ∷ 6 ∷ 7 ∷ []

abbrev pub calls_numbers_without_ml : List ℕ
calls_numbers_without_ml = 1 ∷ 3 ∷ 4 ∷ 5 ∷ 6 ∷ 7 ∷ 12 ∷ []

-- ---- no other number

-- any set that has the reader's, and not 0
module _ (ns : List ℕ) (no_zero : among ns 0 ≡ false) (ml? : Bool) (seq mm ml : List ℕ) (reader's : refuses_only ns (read_tag ml? seq mm ml) ≡ true) where
  check_answers : (r : Outcome (ℕ × ℕ)) → ChecksTag ml? seq mm ml r → Answers ns r
  check_answers r e = rw e (answers ns _ no_zero (only_on_done ns counts_of (read_tag ml? seq mm ml) reader's))

  listed_only : (groups places starts : ℕ) → among ns 12 ≡ true → refuses_only ns (listed_calls ml? seq mm ml groups places starts) ≡ true
  unfolding listed_calls
  listed_only groups places starts twelve =
      only_and_then ns (read_tag ml? seq mm ml) _ reader's (λ ls.
      only_need ns (leb (length (call_list ls)) groups && leb (length (call_list ls)) places && leb (length (call_list ls)) starts) 12 _ twelve refl)

  calls_answers : among ns 12 ≡ true → (groups places starts : List ℕ) (r : Outcome (ℕ × ℕ)) (groups' places' starts' : List ℕ)
      → ReadsCalls ml? seq mm ml groups places starts r groups' places' starts' → Answers ns r
  unfolding read_calls
  calls_answers twelve groups places starts r groups' places' starts' e =
      let o = listed_calls ml? seq mm ml (length groups) (length places) (length starts) in
      let is : r ≡ on_done counts_of o = ap (λ (c : CallsRead). c.answer) e in
      rw is (answers ns _ no_zero (only_on_done ns counts_of o (listed_only (length groups) (length places) (length starts) twelve)))

pub check_tag_numbers : (ml? : Bool) (seq mm ml : List ℕ) (r : Outcome (ℕ × ℕ)) → ChecksTag ml? seq mm ml r → Answers check_numbers r
check_tag_numbers ml? seq mm ml = check_answers check_numbers refl ml? seq mm ml (read_tag_only check_numbers refl refl ml? seq mm ml)

pub check_tag_numbers_without_ml : (seq mm ml : List ℕ) (r : Outcome (ℕ × ℕ)) → ChecksTag false seq mm ml r → Answers check_numbers_without_ml r
check_tag_numbers_without_ml seq mm ml =
    check_answers check_numbers_without_ml refl false seq mm ml (read_tag_without_ml check_numbers_without_ml refl refl seq mm ml)

pub read_calls_numbers : (ml? : Bool) (seq mm ml groups places starts : List ℕ) (r : Outcome (ℕ × ℕ)) (groups' places' starts' : List ℕ)
    → ReadsCalls ml? seq mm ml groups places starts r groups' places' starts' → Answers calls_numbers r
read_calls_numbers ml? seq mm ml = calls_answers calls_numbers refl ml? seq mm ml (read_tag_only calls_numbers refl refl ml? seq mm ml) refl

pub read_calls_numbers_without_ml : (seq mm ml groups places starts : List ℕ) (r : Outcome (ℕ × ℕ)) (groups' places' starts' : List ℕ)
    → ReadsCalls false seq mm ml groups places starts r groups' places' starts' → Answers calls_numbers_without_ml r
read_calls_numbers_without_ml seq mm ml =
    calls_answers calls_numbers_without_ml refl false seq mm ml (read_tag_without_ml calls_numbers_without_ml refl refl seq mm ml) refl

pub tally_numbers : (seq mm ml : List ℕ) (r : Outcome (ℕ × ℕ)) → Tallies seq mm ml r → Answers check_numbers (tally_says r)
tally_numbers seq mm ml r e = rw e (answers check_numbers _ refl (tally_tag_only check_numbers refl refl seq mm ml))

-- ---- each of them

-- what `check_tag` answers
abbrev checks : Bool → Held → ℕ
checks ml? h = number_of (on_done counts_of (read_tag ml? h.seq h.text h.ml))

pub check_tag_each_number :
    (map (checks true) (good_tag ∷ long_tag ∷ bad_tags) ≡ 0 ∷ check_numbers)
    × (map (checks false) (good_tag ∷ long_tag ∷ take 5 bad_tags) ≡ 0 ∷ check_numbers_without_ml)
unfolding read_tag
check_tag_each_number = (refl, refl)

pub tally_each_number : map (λ (h : Held). number_of (tally_tag h.seq h.text h.ml)) (good_tag ∷ long_tag ∷ bad_tags) ≡ 0 ∷ check_numbers
tally_each_number = tally_tag_each

-- what `read_calls` answers, with these columns
abbrev lists_calls : Bool → List ℕ → Held → ℕ
lists_calls ml? row h = number_of (read_calls ml? h.seq h.text h.ml row row row).answer

pub read_calls_each_number :
    (map (lists_calls true (0 ∷ [])) (good_tag ∷ long_tag ∷ bad_tags) ++ lists_calls true [] good_tag ∷ [] ≡ 0 ∷ calls_numbers)
    × (map (lists_calls false (0 ∷ [])) (good_tag ∷ long_tag ∷ take 5 bad_tags) ++ lists_calls false [] good_tag ∷ [] ≡ 0 ∷ calls_numbers_without_ml)
unfolding read_calls call_list
read_calls_each_number = (refl, refl)

-- The stored call is the plain call on the bases in read orientation: if the packed bytes are as many as the bases take, both give the same answer and leave
-- the same columns, with places counted from the other end for a reverse read. Turning and unpacking by calls: what is left at the front of the rows.
-- Assumes nothing.
use Rattle.std.specs.Prelude.{Ok, Err}
use mathlib.Core.Path.{◌≡◌, refl, sym, ap, ◌∙◌}
use Prim.Native.Nat.{ℕ, ◌*◌, ◌/◌, ◌%◌}
use native.Mathlib.Omega.{arith}
use mathlib.Core.Bool.{Bool, true, false}
use mathlib.Core.List.{List, [], ◌∷◌, ◌++◌}
use lib.Dec.{leb}
use lib.ListN.{get_or, length, take}
use lib.Seq.{take_all}
use borrow.Author.Tests.{eq-eqb, eqb-true}
use Rattle.lent.proofs.Filled.{over_front}
use Rattle.lent.proofs.Outcome.{done_inj, need_rest, need_test, on_done_inv}
use Rattle.lent.specs.Filled.{leaves, over}
use Rattle.lent.specs.Outcome.{Outcome, and_then, need, on_done}
use Rattle.packed.proofs.Rows.{Bytes}
use Rattle.packed.proofs.Turning.{length_in_read, pack_unpack_even, pack_unpack_odd, turn_twice, unpack_turn}
use Rattle.packed.specs.Packed.{bytes_for, pack, reverse_complement, turn, unpack}
use Rattle.packed.specs.Stored.{in_read}
use Rattle.reading.specs.Calls.{calls_read, counts_of, group_column, listed_calls, read_calls, start_column}
use Rattle.reading.specs.PublicContracts.{ChecksTag, ReadsCalls, Tallies}
use Rattle.reading.proofs.Unique.{tally_says_inj, calls_unique}
use Rattle.samtags.specs.Reading.{in_domain, lists, read_tag, tally_tag}
use Rattle.samtags.specs.Spots.{Listing}
use Rattle.stored.proofs.ColumnLaws.{columns_stored}
use Rattle.stored_rows.proofs.OrderLaws.{asked_again}
use Rattle.stored.specs.PublicContracts.{ChecksStored, Fills, ReadsStored, TalliesStored, Turns, Unpacks}
use Rattle.stored.specs.Mirrors.{places_as_stored}
use Rattle.stored.specs.Reads.{bases_of, is_exact, listed_stored, read_stored, read_stored_calls, stated_in_domain, stored_column, tally_stored, turn_stored, unpack_stored}

-- the plain call asks the domain's test again, whatever it does with what it reads
then_again : {A B : Type 0} (d e t : Bool) (o : Outcome A) (f : A → Outcome B) → e ≡ d → t ≡ true
    → need d 1 (need t 2 (and_then (need e 1 o) f)) ≡ and_then (need e 1 o) f
then_again d e t o f s h =
    ap (λ x. need d 1 (need t 2 x)) (then_need e) ∙ asked_again d e t (and_then o f) s h ∙ sym (then_need e)
  where
    then_need : (e : Bool) → and_then (need e 1 o) f ≡ need e 1 (and_then o f)
    then_need true = refl
    then_need false = refl

-- ---- the outcomes

module _ (reverse ml? : Bool) (n : ℕ) (packed text ml : List ℕ) (exact : length packed ≡ bytes_for n) where
  same_domain : in_domain ml? (in_read reverse n packed) text ml ≡ stated_in_domain ml? n text ml
  same_domain = rw (length_in_read reverse n packed)

  -- whatever the plain call does with what it reads
  then_turned : {B : Type 0} (f : List Listing → Outcome B)
      → need (stated_in_domain ml? n text ml) 1 (need (is_exact n packed) 2 (and_then (read_tag ml? (in_read reverse n packed) text ml) f))
      ≡ and_then (read_tag ml? (in_read reverse n packed) text ml) f
  unfolding read_tag
  then_turned f =
      then_again (stated_in_domain ml? n text ml) (in_domain ml? (in_read reverse n packed) text ml) (is_exact n packed)
      (lists ml? (in_read reverse n packed) text ml) f same_domain (eq-eqb (length packed) (bytes_for n) exact)

  pub read_turned : read_stored reverse ml? n packed text ml ≡ read_tag ml? (in_read reverse n packed) text ml
  unfolding read_stored
  read_turned =
      let whole = as_is (read_tag ml? (in_read reverse n packed) text ml) in
      sym (ap (λ (o : Outcome (List Listing)). need (stated_in_domain ml? n text ml) 1 (need (is_exact n packed) 2 o)) whole)
      ∙ then_turned (λ ls. Ok ls)
      ∙ whole
    where
      as_is : (o : Outcome (List Listing)) → and_then o (λ ls. Ok ls) ≡ o
      as_is (Err r) = refl
      as_is (Ok ls) = refl

  pub listed_turned : (groups places starts : ℕ) → listed_stored reverse ml? n packed text ml groups places starts
      ≡ listed_calls ml? (in_read reverse n packed) text ml groups places starts
  unfolding listed_stored listed_calls
  listed_turned groups places starts = then_turned _

pub tally_turned : (reverse : Bool) (n : ℕ) (packed text ml : List ℕ) → length packed ≡ bytes_for n
    → tally_stored reverse n packed text ml ≡ tally_tag (in_read reverse n packed) text ml
unfolding tally_stored tally_tag
tally_turned reverse n packed text ml exact = then_turned reverse true n packed text ml exact _

-- ---- the calls: r is the answer of the stored call and s that of the plain call

pub check_tag_turned : (reverse ml? : Bool) (n : ℕ) (packed mm ml : List ℕ) (r s : Outcome (ℕ × ℕ)) → length packed ≡ bytes_for n
    → ChecksStored reverse ml? n packed mm ml r → ChecksTag ml? (in_read reverse n packed) mm ml s → r ≡ s
check_tag_turned reverse ml? n packed mm ml r s exact p q =
    p ∙ ap (on_done counts_of) (read_turned reverse ml? n packed mm ml exact) ∙ sym q

pub tally_call_turned : (reverse : Bool) (n : ℕ) (packed mm ml : List ℕ) (r s : Outcome (ℕ × ℕ)) → length packed ≡ bytes_for n
    → TalliesStored reverse n packed mm ml r → Tallies (in_read reverse n packed) mm ml s → r ≡ s
tally_call_turned reverse n packed mm ml r s exact p q = tally_says_inj r s (p ∙ tally_turned reverse n packed mm ml exact ∙ sym q)

-- The stored call leaves g₁, p₁ and s₁, and the plain call g₂, p₂ and s₂. The listed places are those of the plain call, in the same order, each counted from
-- the other end if the read is reverse; the entries after the list are the same.
pub read_calls_turned : (reverse ml? : Bool) (n : ℕ) (packed mm ml groups places starts : List ℕ) (r s : Outcome (ℕ × ℕ)) (g₁ g₂ p₁ p₂ s₁ s₂ : List ℕ)
    → length packed ≡ bytes_for n
    → ReadsStored reverse ml? n packed mm ml groups places starts r g₁ p₁ s₁
    → ReadsCalls ml? (in_read reverse n packed) mm ml groups places starts s g₂ p₂ s₂
    → (r ≡ s) × (g₁ ≡ g₂) × (p₁ ≡ places_as_stored s reverse n p₂) × (s₁ ≡ s₂)
unfolding read_stored_calls read_calls
read_calls_turned reverse ml? n packed mm ml groups places starts r s g₁ g₂ p₁ p₂ s₁ s₂ exact e f =
    let o = listed_calls ml? (in_read reverse n packed) mm ml (length groups) (length places) (length starts) in
    let turned = listed_turned reverse ml? n packed mm ml exact (length groups) (length places) (length starts) in
    let left = columns_stored reverse n groups places starts g₂ p₂ s₂ s o f in
    calls_unique _ r s g₁ g₂ p₁ (places_as_stored s reverse n p₂) s₁ s₂
    (e ∙ ap (λ (o : Outcome (List Listing)).
    calls_read (on_done counts_of o) (leaves group_column o groups) (leaves (stored_column reverse n) o places) (leaves start_column o starts)) turned)
    left

-- ---- turning and unpacking: a call that is done

-- what a call that fills a row from bases left at its front
pub record Filled-from (n : ℕ) (packed answer : List ℕ) (k : ℕ) (row : List ℕ) : Type 0 where
  pub bytes_exact : length packed ≡ bytes_for n
  pub number_is : k ≡ length answer
  pub front_is : take k row ≡ answer

filled_from : (n : ℕ) (packed row answer : List ℕ) (k : ℕ) (row' : List ℕ)
    → Fills (bases_of n packed (length row) answer) row (Ok k) row' → Filled-from n packed answer k row'
unfolding leaves
filled_from n packed row answer k row' e =
    let i = on_done_inv length (bases_of n packed (length row) answer) k (sym e.0) in
    let two = need_rest (leb n 16000) 1 _ i.0 i.1 in
    let last = need_rest (is_exact n packed) 2 _ i.0 two in
    let is : answer ≡ i.0 = done_inj (need_rest (leb (length answer) (length row)) 12 (Ok answer) i.0 last) in
    let long : k ≡ length answer = sym (ap length is ∙ i.2) in
    let left : row' ≡ over answer row =
    e.1 ∙ ap (λ (o : Outcome (List ℕ)). leaves (λ (l : List ℕ). l) o row) i.1 ∙ ap (λ (l : List ℕ). over l row) (sym is) in
    record {
      bytes_exact = eqb-true (length packed) (bytes_for n) (need_test (is_exact n packed) 2 _ i.0 two);
      number_is = long;
      front_is = (λ j. take (long j) (left j)) ∙ over_front answer row;
    }

pub turn_left : (n : ℕ) (packed out : List ℕ) (k : ℕ) (out' : List ℕ) → Turns n packed out (Ok k) out' → Filled-from n packed (turn n packed) k out'
unfolding turn_stored
turn_left n packed out k out' = filled_from n packed out (turn n packed) k out'

pub unpack_left : (reverse : Bool) (n : ℕ) (packed seq : List ℕ) (k : ℕ) (seq' : List ℕ) → Unpacks reverse n packed seq (Ok k) seq'
    → Filled-from n packed (in_read reverse n packed) k seq'
unfolding unpack_stored
unpack_left reverse n packed seq k seq' = filled_from n packed seq (in_read reverse n packed) k seq'

-- A packed SEQ that was turned by a call of `turn`, and is then turned again or unpacked. Bytes after the turned ones are not given to the second call.
module _ (n : ℕ) (packed out : List ℕ) (k : ℕ) (out' : List ℕ) (turns : Turns n packed out (Ok k) out') where
  -- Unpacked, it is the reverse complement of what a call of `unpack` gives of the bytes before, as a forward read.
  pub unpack_of_turned : (seq seq₂ : List ℕ) (m m₂ : ℕ) (seq' seq₂' : List ℕ) → Unpacks false n (take k out') seq (Ok m) seq'
      → Unpacks false n packed seq₂ (Ok m₂) seq₂' → take m seq' ≡ reverse_complement (take m₂ seq₂')
  unfolding in_read
  unpack_of_turned seq seq₂ m m₂ seq' seq₂' a b =
      (unpack_left false n (take k out') seq m seq' a).front_is
      ∙ ap (unpack n) (turn_left n packed out k out' turns).front_is
      ∙ unpack_turn n packed
      ∙ sym (ap reverse_complement (unpack_left false n packed seq₂ m₂ seq₂' b).front_is)

  -- Unpacked as a forward read, it is what a call of `unpack` gives of the bytes before, as a reverse read.
  pub unpack_reverse_is_turned : (seq seq₂ : List ℕ) (m m₂ : ℕ) (seq' seq₂' : List ℕ) → Unpacks false n (take k out') seq (Ok m) seq'
      → Unpacks true n packed seq₂ (Ok m₂) seq₂' → take m seq' ≡ take m₂ seq₂'
  unfolding in_read
  unpack_reverse_is_turned seq seq₂ m m₂ seq' seq₂' a b =
      (unpack_left false n (take k out') seq m seq' a).front_is
      ∙ ap (unpack n) (turn_left n packed out k out' turns).front_is
      ∙ unpack_turn n packed
      ∙ sym (unpack_left true n packed seq₂ m₂ seq₂' b).front_is

  module _ (bytes : Bytes packed) (out₂ : List ℕ) (k₂ : ℕ) (out₂' : List ℕ) (again : Turns n (take k out') out₂ (Ok k₂) out₂') where
    -- turned again, it is the bytes before, packed afresh
    pub turned_again : take k₂ out₂' ≡ pack (unpack n packed)
    turned_again =
        (turn_left n (take k out') out₂ k₂ out₂' again).front_is
        ∙ ap (turn n) (turn_left n packed out k out' turns).front_is
        ∙ turn_twice n packed bytes

    -- the same bytes, if the number of bases is even
    pub turned_again_even : n % 2 ≡ 0 → take k₂ out₂' ≡ packed
    turned_again_even even =
        let exact = (turn_left n packed out k out' turns).bytes_exact in
        turned_again ∙ pack_unpack_even n packed bytes even (omega (arith, exact)) ∙ take_all (n / 2) packed (omega (arith, even, exact))

    -- the same bytes with the spare half 0, if it is odd
    pub turned_again_odd : n % 2 ≡ 1 → take k₂ out₂' ≡ take (n / 2) packed ++ get_or packed (n / 2) 0 / 16 * 16 ∷ []
    turned_again_odd odd =
        let exact = (turn_left n packed out k out' turns).bytes_exact in
        turned_again ∙ pack_unpack_odd n packed bytes odd (omega (arith, exact))

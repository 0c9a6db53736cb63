-- Facts about an alignment that passed the check.
-- Assumes nothing.
use Rattle.std.specs.Prelude.{Ok}
use mathlib.Core.Path.{◌≡◌, sym}
use mathlib.Core.Bool.{Bool, true, false, ◌&&◌}
use mathlib.Core.List.{List}
use Prim.Native.Nat.{ℕ, ◌+◌, ◌≤◌, ◌<◌}
use native.Mathlib.Omega.{arith}
use lib.Dec.{leb}
use lib.IntN.{ℤ}
use lib.ListN.{length, get_or}
use borrow.Author.Tests.{leb-true}
use Rattle.lent.specs.Lists.{every}
use Rattle.lent.specs.Outcome.{Outcome, need}
use Rattle.lent.proofs.Outcome.{done_inj, need_test, need_rest}
use Rattle.lent.proofs.Tests.{and_true_l, and_true_r}
use Rattle.cigar.specs.Cigar.{is_known, places_taken, query_length, reference_span, is_start, start_of, checked}
use Rattle.walking.specs.Walk.{outset, Reaches}
use Rattle.cigar.proofs.Signed.{start_small}
use Rattle.cigar.proofs.Totals.{places_at_most, total_at_most}

module _ (words : List ℕ) (start : ℤ) (n : ℕ) (e : checked words start ≡ Ok n) where
  sizes : Outcome ℕ
  sizes = need (leb (length words) 65535 && leb (query_length words) 16000) 1 (Ok (query_length words))

  sized : sizes ≡ Ok n
  unfolding sizes
  sized = need_rest (every is_known words && is_start start) 13 sizes n e

  pub checked_start : is_start start ≡ true
  unfolding sizes
  checked_start = and_true_r (every is_known words) (is_start start) (need_test (every is_known words && is_start start) 13 sizes n e)

  few : length words ≤ 65535
  unfolding sizes
  few =
      leb-true (length words) 65535
      (and_true_l (leb (length words) 65535) (leb (query_length words) 16000)
      (need_test (leb (length words) 65535 && leb (query_length words) 16000) 1 (Ok (query_length words)) n sized))

  pub checked_bases : n ≡ query_length words
  unfolding sizes
  checked_bases =
      sym (done_inj (need_rest (leb (length words) 65535 && leb (query_length words) 16000) 1 (Ok (query_length words)) n sized))

  -- words of 32 bits
  module _ (small : (i : ℕ) → get_or words i 0 < 4294967296) where
    pub checked_end : start_of start + reference_span words < 9223372036854775808
    checked_end = omega (arith, few, start_small start checked_start, total_at_most places_taken places_at_most words small)

    pub checked_reach : (r : Bool) → Reaches r (outset r words (start_of start)) (reference_span words)
    checked_reach false = checked_end
    checked_reach true = omega (arith, checked_end)

-- The tests of each public call, in the scope's order of refusals; and last the one edit that serves all three calls.
-- Assumes nothing.
use Rattle.std.specs.Prelude.{Err, Option, None, Some}
use mathlib.Core.Path.{◌≡◌}
use Prim.Native.Nat.{ℕ, ◌<◌, ◌≤◌}
use mathlib.Core.Bool.{Bool, true, false, ◌&&◌}
use mathlib.Core.List.{List, []}
use lib.Dec.{leb}
use lib.ListN.{length, drop}
use borrow.Author.Tests.{eq-eqb, le-leb, lt-leb, ne_eqb}
use Rattle.lent.specs.Filled.{leaves}
use Rattle.lent.specs.Outcome.{Outcome, refuse}
use Rattle.lent.specs.declared.Refusal.{Refusal}
use Rattle.samtags.specs.Edits.{cut_tag, drop_from_tag, in_room, lies_in, mask_tag, same_bytes_of, window_start, edited}
use Rattle.samtags.specs.Reading.{in_domain}
use Rattle.samtags.specs.Writing.{Tag}
use Rattle.changing.proofs.WindowLaws.{cut_is, drop_is, mask_is}
use Rattle.editing.specs.Rewrote.{leaves_tag, rewrote}
use Rattle.changing.specs.Windows.{is_marked, marked_at, window_edit}

-- a refusal leaves the rows as they were
pub left_alone : (ml? : Bool) (t v : List ℕ) (o : Outcome Tag) (r : Refusal) → o ≡ Err r → rewrote (Err r) t v ≡ leaves_tag ml? o t v
unfolding leaves_tag leaves
left_alone ml? t v o r e = rw e

module _ (ml? : Bool) (before after text ml : List ℕ) (n m : ℕ) where
  pub mask_one : in_domain ml? before text ml ≡ false → mask_tag ml? before after text ml n m ≡ refuse 1
  unfolding mask_tag
  mask_one h = rw h

  pub cut_one : (start : Option ℕ) → in_domain ml? before text ml ≡ false → cut_tag ml? start before after text ml n m ≡ refuse 1
  unfolding cut_tag
  cut_one start h = rw h

  module _ (d : in_domain ml? before text ml ≡ true) where
    pub mask_one_after : 16000 < length after → mask_tag ml? before after text ml n m ≡ refuse 1
    unfolding mask_tag
    mask_one_after h = rw (d, lt-leb (length after) 16000 h)

    pub cut_one_after : (start : Option ℕ) → 16000 < length after → cut_tag ml? start before after text ml n m ≡ refuse 1
    unfolding cut_tag
    cut_one_after start h = rw (d, lt-leb (length after) 16000 h)

    module _ (l : length after ≤ 16000) where
      pub mask_two : (length before ≡ length after → ⊥) → mask_tag ml? before after text ml n m ≡ refuse 2
      unfolding mask_tag
      mask_two h = rw (d, le-leb (length after) 16000 l, ne_eqb (length before) (length after) h)

      pub mask_on : length before ≡ length after
          → mask_tag ml? before after text ml n m ≡ in_room ml? n m (edited (window_edit 0 after []) ml? before text ml)
      unfolding mask_tag
      mask_on h = rw (d, le-leb (length after) 16000 l, eq-eqb (length before) (length after) h, mask_is ml? before text ml after h)

      pub cut_unchanged : (start : Option ℕ) → same_bytes_of before after ≡ true → cut_tag ml? start before after text ml n m ≡ refuse 21
      unfolding cut_tag
      cut_unchanged start h = rw (d, le-leb (length after) 16000 l, h)

      module _ (start : Option ℕ) (s : same_bytes_of before after ≡ false) where
        pub cut_unknown : None ≡ window_start start before after → cut_tag ml? start before after text ml n m ≡ refuse 11
        unfolding cut_tag
        cut_unknown h = rw (d, le-leb (length after) 16000 l, s, ← h)

        module _ (lo : ℕ) (k : Some lo ≡ window_start start before after) where
          pub cut_no_window : leb lo (length before) && lies_in after (drop lo before) ≡ false → cut_tag ml? start before after text ml n m ≡ refuse 11
          unfolding cut_tag
          cut_no_window h = rw (d, le-leb (length after) 16000 l, s, ← k, h)

          pub cut_on : leb lo (length before) && lies_in after (drop lo before) ≡ true
              → cut_tag ml? start before after text ml n m ≡ in_room ml? n m (edited (window_edit lo after []) ml? before text ml)
          unfolding cut_tag
          cut_on h = rw (d, le-leb (length after) 16000 l, s, ← k, h, cut_is ml? before text ml lo after)

module _ (ml? : Bool) (seq places text ml : List ℕ) (n m : ℕ) where
  pub drop_one : in_domain ml? seq text ml ≡ false → drop_from_tag ml? seq places text ml n m ≡ refuse 1
  unfolding drop_from_tag
  drop_one h = rw h

  pub drop_on : in_domain ml? seq text ml ≡ true → (marks : List ℕ) → length seq ≤ length marks → ((p : ℕ) → is_marked marks p ≡ false)
      → drop_from_tag ml? seq places text ml n m ≡ in_room ml? n m (edited (window_edit 0 seq (marked_at places marks)) ml? seq text ml)
  unfolding drop_from_tag
  drop_on h marks l unmarked = rw (h, drop_is ml? seq text ml places marks l unmarked)

-- Worked calls on a reverse read of five stored C, which is GGGGG in read orientation: where places and starts are counted, what is compared, and which
-- number comes first. The hypotheses of the theorems of Turned can be met: each is applied to a worked call.
-- Assumes nothing.
use Rattle.std.specs.Prelude.{Ok, Some, None}
use Rattle.lent.specs.Outcome.{Outcome, refuse}
use mathlib.Core.Path.{◌≡◌, refl}
use Prim.Native.Nat.{ℕ}
use mathlib.Core.Bool.{true}
use mathlib.Core.List.{List, [], ◌∷◌, ◌++◌}
use lib.ListN.{replicate}
use Rattle.editing.specs.Rewrote.{leaves_tag}
use Rattle.packed.specs.Stored.{in_read}
use Rattle.rewriting.specs.PublicContracts.{Drops, Masks, Trims}
use Rattle.samtags.specs.Bytes.{ascii}
use Rattle.samtags.specs.Edits.{cut_tag, drop_from_tag, mask_tag}
use Rattle.stored_edits.proofs.Turned.{drop_masked_modifications_turned, drop_modifications_at_turned, trim_clipped_modifications_turned}
use Rattle.stored_edits.specs.PublicContracts.{DropsStored, MasksStored, TrimsStored}
use Rattle.stored_edits.specs.Edits.{cut_stored, drop_stored, mask_stored}

-- 22 22 20: CCCCC, with the spare half 0
abbrev five : List ℕ
five = 34 ∷ 34 ∷ 32 ∷ []

-- 22 22 2F: the same bases, with a dirty spare half
abbrev dirty : List ℕ
dirty = 34 ∷ 34 ∷ 47 ∷ []

-- 22 20: CCC
abbrev three : List ℕ
three = 34 ∷ 32 ∷ []

-- 22 22 F0: CCCCN
abbrev masked : List ℕ
masked = 34 ∷ 34 ∷ 240 ∷ []

-- calls at the places 0 and 4 in read orientation
abbrev mm : List ℕ
mm = ascii "G-m?,0,3;"

abbrev ml : List ℕ
ml = 200 ∷ 90 ∷ []

abbrev zeros : ℕ → List ℕ
zeros n = replicate n 0

pub five_in_read : (in_read true 5 five ≡ ascii "GGGGG") × (in_read true 5 dirty ≡ ascii "GGGGG") × (in_read true 5 masked ≡ ascii "NGGGG")
unfolding in_read
five_in_read = (refl, refl, refl)

-- ---- drops

-- place 7 is past the end and drops nothing
pub worked_past : DropsStored true true 5 five (7 ∷ []) mm ml (zeros 10) (zeros 3) (Ok (9, 2)) (mm ++ zeros 1) (ml ++ zeros 1)
unfolding leaves_tag drop_stored
worked_past = refl

-- place 0 is the last base in read orientation
pub worked_first : DropsStored true true 5 five (0 ∷ []) mm ml (zeros 10) (zeros 3) (Ok (7, 1)) (ascii "G-m?,0;" ++ zeros 3) (200 ∷ zeros 2)
unfolding leaves_tag drop_stored
worked_first = refl

-- place 4 is the first
pub worked_last : DropsStored true true 5 dirty (4 ∷ []) mm ml (zeros 10) (zeros 3) (Ok (7, 1)) (ascii "G-m?,4;" ++ zeros 3) (90 ∷ zeros 2)
unfolding leaves_tag drop_stored
worked_last = refl

-- ---- masks

-- the stored last base is the first in read orientation
pub worked_masks : MasksStored true true 5 dirty 5 masked mm ml (zeros 10) (zeros 3) (Ok (7, 1)) (ascii "G-m?,3;" ++ zeros 3) (90 ∷ zeros 2)
unfolding leaves_tag mask_stored
worked_masks = refl

-- ---- cuts

-- the window of the first three stored bases is that of the last three in read orientation
pub worked_trims : TrimsStored true true (Some 0) 5 dirty 3 three mm ml (zeros 10) (zeros 3) (Ok (7, 1)) (ascii "G-m?,2;" ++ zeros 3) (90 ∷ zeros 2)
unfolding leaves_tag cut_stored
worked_trims = refl

-- the window of the last three stored bases is that of the first three in read orientation
pub worked_trims_end : TrimsStored true true (Some 2) 5 five 3 three mm ml (zeros 10) (zeros 3) (Ok (7, 1)) (ascii "G-m?,0;" ++ zeros 3) (200 ∷ zeros 2)
unfolding leaves_tag cut_stored
worked_trims_end = refl

-- a window that does not fit has no start
pub worked_no_window : TrimsStored true true (Some 3) 5 five 3 three mm ml (zeros 10) (zeros 3) (refuse 11) (zeros 10) (zeros 3)
unfolding leaves_tag cut_stored
worked_no_window = refl

-- bases are compared, not bytes: a cut that changes only the spare half changes nothing
pub worked_spare : TrimsStored true true None 5 five 5 dirty mm ml (zeros 10) (zeros 3) (refuse 21) (zeros 10) (zeros 3)
unfolding leaves_tag cut_stored
worked_spare = refl

-- ---- the checks of the lengths

-- two wrong numbers of bytes, and one of either
pub worked_two :
    MasksStored true true 5 three 5 three mm ml (zeros 10) (zeros 3) (refuse 2) (zeros 10) (zeros 3)
    × MasksStored true true 5 three 5 five mm ml (zeros 10) (zeros 3) (refuse 2) (zeros 10) (zeros 3)
    × TrimsStored true true (Some 0) 5 five 3 five mm ml (zeros 10) (zeros 3) (refuse 2) (zeros 10) (zeros 3)
    × DropsStored true true 5 three [] mm ml (zeros 10) (zeros 3) (refuse 2) (zeros 10) (zeros 3)
unfolding leaves_tag mask_stored cut_stored drop_stored
worked_two = (refl, refl, refl, refl)

-- two SEQ of different lengths, each with its bytes
pub worked_lengths : MasksStored true true 5 five 3 three mm ml (zeros 10) (zeros 3) (refuse 2) (zeros 10) (zeros 3)
unfolding leaves_tag mask_stored
worked_lengths = refl

-- 1 before 2: too many bases, for which the bytes are too few
pub worked_one :
    MasksStored true true 5 three 16001 five mm ml (zeros 10) (zeros 3) (refuse 1) (zeros 10) (zeros 3)
    × TrimsStored true true (Some 0) 16001 five 3 five mm ml (zeros 10) (zeros 3) (refuse 1) (zeros 10) (zeros 3)
    × DropsStored true true 16001 five [] mm ml (zeros 10) (zeros 3) (refuse 1) (zeros 10) (zeros 3)
unfolding leaves_tag mask_stored cut_stored drop_stored
worked_one = (refl, refl, refl)

-- ---- the plain calls in read orientation

pub worked_plain_drop : Drops true (ascii "GGGGG") (4 ∷ []) mm ml (zeros 10) (zeros 3) (Ok (7, 1)) (ascii "G-m?,0;" ++ zeros 3) (200 ∷ zeros 2)
unfolding leaves_tag drop_from_tag
worked_plain_drop = refl

pub worked_plain_mask : Masks true (ascii "GGGGG") (ascii "NGGGG") mm ml (zeros 10) (zeros 3) (Ok (7, 1)) (ascii "G-m?,3;" ++ zeros 3) (90 ∷ zeros 2)
unfolding leaves_tag mask_tag
worked_plain_mask = refl

pub worked_plain_trim : Trims true (Some 2) (ascii "GGGGG") (ascii "GGG") mm ml (zeros 10) (zeros 3) (Ok (7, 1)) (ascii "G-m?,2;" ++ zeros 3) (90 ∷ zeros 2)
unfolding leaves_tag cut_tag
worked_plain_trim = refl

-- whatever the plain call answers and leaves is what the stored call did
module _ (s : Outcome (ℕ × ℕ)) (t v : List ℕ) where
  pub worked_drop_turned : Drops true (ascii "GGGGG") (4 ∷ []) mm ml (zeros 10) (zeros 3) s t v
      → (Ok (7, 1) ≡ s) × (ascii "G-m?,0;" ++ zeros 3 ≡ t) × (200 ∷ zeros 2 ≡ v)
  unfolding in_read
  worked_drop_turned =
      drop_modifications_at_turned true true mm ml (zeros 10) (zeros 3) (Ok (7, 1)) s _ t _ v 5 five (0 ∷ []) refl worked_first

  pub worked_mask_turned : Masks true (ascii "GGGGG") (ascii "NGGGG") mm ml (zeros 10) (zeros 3) s t v
      → (Ok (7, 1) ≡ s) × (ascii "G-m?,3;" ++ zeros 3 ≡ t) × (90 ∷ zeros 2 ≡ v)
  unfolding in_read
  worked_mask_turned =
      drop_masked_modifications_turned true true mm ml (zeros 10) (zeros 3) (Ok (7, 1)) s _ t _ v 5 dirty 5 masked refl refl worked_masks

  pub worked_trim_turned : Trims true (Some 2) (ascii "GGGGG") (ascii "GGG") mm ml (zeros 10) (zeros 3) s t v
      → (Ok (7, 1) ≡ s) × (ascii "G-m?,2;" ++ zeros 3 ≡ t) × (90 ∷ zeros 2 ≡ v)
  unfolding in_read
  worked_trim_turned =
      trim_clipped_modifications_turned true true mm ml (zeros 10) (zeros 3) (Ok (7, 1)) s _ t _ v 5 dirty 3 three refl refl (Some 0) (Some 2) refl
      worked_trims

-- A read as a BAM record stores it. A reverse read is stored reverse-complemented, and its tag stays in read orientation. Everything that is counted in
-- the stored read (a place, the two ends of a cut, the start of a window) has its counterpart in read orientation.
-- Assumes nothing.
use Rattle.std.specs.Prelude.{ℕ, ◌+◌, ◌-◌, Bool, cond, List, map, leb, ltb, Option, None, Some}
use Rattle.lent.specs.Lists.{filter}
use Rattle.samtags.specs.Session.{Step, mask, drop_calls, cut}
use Rattle.packed.specs.Packed.{pack, reverse_complement, unpack}

-- bases as they are, or reverse-complemented if the read is reverse: from the stored read to read orientation, and back
abbrev pub turned_if : Bool → List ℕ → List ℕ
turned_if reverse seq = cond reverse (reverse_complement seq) seq

-- the bases of a stored read of n bases, in read orientation
unfoldable pub in_read : Bool → ℕ → List ℕ → List ℕ
unfolding unpack reverse_complement
in_read reverse n packed = turned_if reverse (unpack n packed)

-- bases in read orientation, as the read is stored
unfoldable pub as_stored : Bool → List ℕ → List ℕ
unfolding pack reverse_complement
as_stored reverse seq = pack (turned_if reverse seq)

-- a place of n counted from the other end
abbrev pub mirrored : ℕ → ℕ → ℕ
mirrored n p = n - 1 - p

-- a list of places, in read orientation; places past the end do nothing
abbrev pub places_in_read : Bool → ℕ → List ℕ → List ℕ
places_in_read reverse n places = cond reverse (map (mirrored n) (filter (λ p. ltb p n) places)) places

-- the start of a window of k bases in a read of n bases, in read orientation; unknown if the window does not fit
abbrev pub start_mirrored : ℕ → ℕ → Option ℕ → Option ℕ
start_mirrored n k None = None
start_mirrored n k (Some s) = cond (leb (s + k) n) (Some (n - (s + k))) None

abbrev pub start_in_read : Bool → ℕ → ℕ → Option ℕ → Option ℕ
start_in_read reverse n k start = cond reverse (start_mirrored n k start) start

-- a step on a read of n bases, in read orientation
abbrev pub step_in_read : Bool → ℕ → Step → Step
step_in_read reverse n (mask places) = mask (places_in_read reverse n places)
step_in_read reverse n (drop_calls places) = drop_calls (places_in_read reverse n places)
step_in_read reverse n (cut front back) = cut (cond reverse back front) (cond reverse front back)

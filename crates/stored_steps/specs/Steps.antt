-- The edit session of a stored read: SEQ is packed, as a BAM record stores it. A step turns SEQ into read orientation, edits as the plain session does,
-- and turns back. Opening reads the tag in the same way.
-- Assumes nothing.
use Rattle.std.specs.Prelude.{Bool, true, cond, ◌&&◌, List, length, take, leb, eqb, Ok}
use Rattle.lent.specs.Filled.{over}
use Rattle.lent.specs.Outcome.{Outcome, need, and_then}
use Rattle.packed.specs.Packed.{bytes_for}
use Rattle.packed.specs.Stored.{as_stored, in_read, step_in_read}
use Rattle.samtags.specs.Reading.{lists}
use Rattle.samtags.specs.Session.{Held, Memory, Step, lengths_in_domain, stepped}
use Rattle.samtags.specs.Spots.{Listing}

-- what the session holds, with SEQ unpacked in read orientation
unfoldable pub held_in_read : Bool → Memory → Held
unfolding in_read
held_in_read reverse m = record {
  seq = in_read reverse m.lengths.seq m.seq;
  text = take m.lengths.text m.text;
  ml = take m.lengths.ml m.ml;
}

-- The new contents at the front of each buffer: SEQ packed as the read is stored, text and ML as they are. Bytes after them are unchanged; without ML so
-- are the ML buffer and its length.
unfoldable pub stored_back : Bool → Bool → Memory → Held → Memory
unfolding as_stored over
stored_back reverse ml? m s = record {
  seq = over (as_stored reverse s.seq) m.seq;
  text = over s.text m.text;
  ml = cond ml? (over s.ml m.ml) m.ml;
  lengths = record { seq = length s.seq; text = length s.text; ml = cond ml? (length s.ml) m.lengths.ml };
}

-- the buffers of text and ML are at least as long as the session's lengths of them
abbrev pub tag_in_buffers : Bool → Memory → Bool
tag_in_buffers ml? m = leb m.lengths.text (length m.text) && cond ml? (leb m.lengths.ml (length m.ml)) true

-- opening: 1, then 2 if the packed bytes are not as many as the bases take, then the reader's numbers; nothing is written
unfoldable pub open_stored : Bool → Bool → Memory → Outcome (List Listing)
unfolding held_in_read lists
open_stored reverse ml? m =
    need (lengths_in_domain ml? m.lengths) 1
    (need (eqb (length m.seq) (bytes_for m.lengths.seq) && tag_in_buffers ml? m) 2
    (lists ml? (held_in_read reverse m).seq (held_in_read reverse m).text (held_in_read reverse m).ml))

-- A step: 1, then 2 if the packed bytes are fewer than the bases take, then the plain step in read orientation. A cut leaves the buffer longer than the
-- bases take.
unfoldable pub step_stored : Bool → Bool → Step → Memory → Outcome Memory
unfolding held_in_read stepped stored_back
step_stored reverse ml? t m =
    need (lengths_in_domain ml? m.lengths) 1
    (need (leb (bytes_for m.lengths.seq) (length m.seq) && tag_in_buffers ml? m) 2
    (and_then (stepped ml? (step_in_read reverse m.lengths.seq t) (held_in_read reverse m)) (λ s. Ok (stored_back reverse ml? m s))))

-- The room lent for a tag: 12 if text or ML has no room, and the tag if both have. Without ML the room for ML is ignored.
-- Assumes nothing.
use Rattle.std.specs.Prelude.{Ok}
use mathlib.Core.Path.{◌≡◌}
use Prim.Native.Nat.{ℕ, ◌≤◌, ◌<◌}
use mathlib.Core.Bool.{Bool, true, false}
use lib.ListN.{length}
use borrow.Author.Tests.{le-leb, lt-leb}
use Rattle.lent.specs.Outcome.{refuse}
use Rattle.samtags.specs.Writing.{Tag}
use Rattle.samtags.specs.Edits.{in_room}

module _ (t m : ℕ) (tag : Tag) where
  pub no_room_for_text : (ml? : Bool) → t < length tag.text → in_room ml? t m (Ok tag) ≡ refuse 12
  no_room_for_text ml? h = rw (lt-leb (length tag.text) t h)

  pub no_room_for_ml : length tag.text ≤ t → m < length tag.ml → in_room true t m (Ok tag) ≡ refuse 12
  no_room_for_ml h k = rw (le-leb (length tag.text) t h, lt-leb (length tag.ml) m k)

  pub room_for_both : length tag.text ≤ t → length tag.ml ≤ m → in_room true t m (Ok tag) ≡ Ok tag
  room_for_both h k = rw (le-leb (length tag.text) t h, le-leb (length tag.ml) m k)

  pub room_for_text : length tag.text ≤ t → in_room false t m (Ok tag) ≡ Ok tag
  room_for_text h = rw (le-leb (length tag.text) t h)

-- Which calls over columns and over reads are refused, and with which number: 1 above the limits of the domain, 2 if lengths disagree, last 12 if a
-- lent row is too short. All other calls are done with the number of entries that each row takes.
-- Assumes nothing.
use Rattle.std.specs.Prelude.{ℕ, min, ◌&&◌, List, length, leb, eqb, Ok}
use Rattle.lent.specs.Lists.{sum}
use Rattle.lent.specs.Outcome.{Outcome, need, and_then}

-- ---- columns

-- three columns; Ok with the number of positions
unfoldable pub columns_of : ℕ → ℕ → ℕ → Outcome ℕ
columns_of inf unc con =
    need (leb inf 16000 && leb unc 16000 && leb con 16000) 1 (need (eqb unc inf && eqb con inf) 2 (Ok inf))

-- room for n entries in each of three rows
unfoldable pub in_room : ℕ → ℕ → ℕ → ℕ → Outcome ℕ
in_room n inf unc con = need (leb n inf && leb n unc && leb n con) 12 (Ok n)

-- SEQ and the informative column
unfoldable pub restorable : ℕ → ℕ → Outcome ℕ
restorable seq inf = need (leb seq 16000 && leb inf 16000) 1 (need (eqb inf seq) 2 (Ok seq))

-- the first `len` positions of three columns, or all if there are fewer, into three rows
unfoldable pub truncated : ℕ → ℕ → ℕ → ℕ → ℕ → ℕ → ℕ → Outcome ℕ
truncated len inf unc con keptInf keptUnc keptCon =
    and_then (columns_of inf unc con) (λ n. in_room (min len n) keptInf keptUnc keptCon)

-- one column's counts into a row of `room` entries
unfoldable pub counts_in_room : ℕ → ℕ → ℕ → ℕ → Outcome ℕ
counts_in_room inf unc con room = and_then (columns_of inf unc con) (λ n. need (leb n room) 12 (Ok n))

-- ---- reads

-- the reads' lengths, joined bases and aligned bytes, and a consensus of n positions that needs room in three columns
unfoldable pub annotated : ℕ → List ℕ → List ℕ → List ℕ → ℕ → ℕ → ℕ → Outcome ℕ
annotated n lengths bases aligned inf unc con =
    need (leb n 16000 && leb (length lengths) 4096 && leb (length bases) 1048576 && leb (length aligned) 1048576) 1
    (need (eqb (sum lengths) (length bases) && eqb (length aligned) (length bases)) 2
    (in_room n inf unc con))

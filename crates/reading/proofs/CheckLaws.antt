-- The checks of a tag before its groups are read: each test by itself, in the scope's order.
-- Assumes nothing.
use Rattle.std.specs.Prelude.{Ok}
use mathlib.Core.Path.{◌≡◌}
use Prim.Native.Nat.{◌<◌, ◌≤◌, ℕ}
use mathlib.Core.Bool.{Bool, cond}
use mathlib.Core.List.{List, []}
use lib.Dec.{eqb}
use lib.ListN.{length}
use borrow.Author.Tests.{le-leb, lt-leb, eqb-true}
use Rattle.lent.proofs.Outcome.{need_rest, need_test}
use Rattle.lent.specs.Lists.{every, last_or}
use Rattle.lent.specs.Outcome.{Outcome, need, refuse}
use Rattle.samtags.proofs.Taken.{in_domain_lem, taken_fits}
use Rattle.samtags.specs.Bytes.{is_ascii}
use Rattle.samtags.specs.Reading.{in_domain, nowhere, read_groups, read}
use Rattle.samtags.specs.Spots.{Group}
use Rattle.samtags.specs.Text.{closed_by}

module _ (ml? : Bool) (seq text ml : List ℕ) where
  abbrev pub tested : Outcome (List Group)
  tested = need (in_domain ml? seq text ml) 1 (read ml? nowhere seq text ml)

  pub one_seq : 16000 < length seq → tested ≡ refuse 1
  one_seq h = rw (lt-leb (length seq) 16000 h)

  pub one_text : length seq ≤ 16000 → 65536 < length text → tested ≡ refuse 1
  one_text a h = rw (le-leb (length seq) 16000 a, lt-leb (length text) 65536 h)

  module _ (a : length seq ≤ 16000) (b : length text ≤ 65536) (n : ℕ) (taken : n ≡ cond ml? (length ml) 0) where
    pub one_ml : 65536 < n → tested ≡ refuse 1
    one_ml h = rw (le-leb (length seq) 16000 a, le-leb (length text) 65536 b, taken_fits ml? ml, ← taken, lt-leb n 65536 h)

    pub inside : n ≤ 65536 → tested ≡ read ml? nowhere seq text ml
    inside c = rw (le-leb (length seq) 16000 a, le-leb (length text) 65536 b, taken_fits ml? ml, ← taken, le-leb n 65536 c)

-- a tag that passes all of them
pub record Passed (ml? : Bool) (seq text ml : List ℕ) (gs : List Group) : Type 0 where
  pub seq_fits : length seq ≤ 16000
  pub text_fits : length text ≤ 65536
  pub ml_fits : cond ml? (length ml) 0 ≤ 65536
  pub closed : last_or 0 text ≡ 59
  pub groups : read_groups ml? nowhere seq (closed_by 59 text) (cond ml? ml []) ≡ Ok gs

pub passed : (ml? : Bool) (seq text ml : List ℕ) (gs : List Group) → tested ml? seq text ml ≡ Ok gs → Passed ml? seq text ml gs
unfolding read
passed ml? seq text ml gs e =
    let domain = in_domain_lem ml? seq text ml (need_test (in_domain ml? seq text ml) 1 _ gs e) in
    let o = need_rest (in_domain ml? seq text ml) 1 _ gs e in
    let o₃ = need_rest (every is_ascii text) 3 _ gs o in
    record {
      seq_fits = domain.0;
      text_fits = domain.1;
      ml_fits = domain.2;
      closed = eqb-true (last_or 0 text) 59 (need_test (eqb (last_or 0 text) 59) 4 _ gs o₃);
      groups = need_rest (eqb (last_or 0 text) 59) 4 _ gs o₃;
    }

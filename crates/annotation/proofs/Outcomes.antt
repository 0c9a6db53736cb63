-- Facts about the lengths when a call is done.
-- Assumes nothing.
use Rattle.std.specs.Prelude.{Ok}
use mathlib.Core.Path.{◌≡◌, sym}
use Prim.Native.Nat.{ℕ, ◌≤◌, min}
use native.Mathlib.Omega.{arith}
use mathlib.Core.Bool.{◌&&◌}
use mathlib.Core.List.{List}
use lib.Dec.{leb, eqb}
use lib.ListN.{length}
use borrow.Author.Tests.{leb-true, eqb-true}
use Rattle.lent.proofs.Outcome.{done_inj, need_test, need_rest, and_then_inv}
use Rattle.lent.proofs.Tests.{and_true_l, and_true_r}
use Rattle.lent.specs.Outcome.{need}
use Rattle.refusals.specs.Refusals.{columns_of, restorable, truncated, counts_in_room, in_room, annotated}
use Rattle.lent.specs.Lists.{sum}

pub record InRoom (n inf unc con k : ℕ) : Type 0 where
  pub is : k ≡ n
  pub room_inf : n ≤ inf
  pub room_unc : n ≤ unc
  pub room_con : n ≤ con

pub in_room_done : (n inf unc con k : ℕ) → in_room n inf unc con ≡ Ok k → InRoom n inf unc con k
unfolding in_room
in_room_done n inf unc con k e =
    let t = need_test (leb n inf && leb n unc && leb n con) 12 (Ok n) k e in
    let t2 = and_true_l (leb n inf && leb n unc) (leb n con) t in
    record {
      is = sym (done_inj (need_rest (leb n inf && leb n unc && leb n con) 12 (Ok n) k e));
      room_inf = leb-true n inf (and_true_l (leb n inf) (leb n unc) t2);
      room_unc = leb-true n unc (and_true_r (leb n inf) (leb n unc) t2);
      room_con = leb-true n con (and_true_r (leb n inf && leb n unc) (leb n con) t);
    }

pub record Columns (inf unc con n : ℕ) : Type 0 where
  pub is : n ≡ inf
  pub same_unc : unc ≡ inf
  pub same_con : con ≡ inf
  pub short : inf ≤ 16000

pub columns_done : (inf unc con n : ℕ) → columns_of inf unc con ≡ Ok n → Columns inf unc con n
unfolding columns_of
columns_done inf unc con n e =
    let short = leb inf 16000 && leb unc 16000 && leb con 16000 in
    let same = eqb unc inf && eqb con inf in
    let s = need_test short 1 (need same 2 (Ok inf)) n e in
    let r = need_rest short 1 (need same 2 (Ok inf)) n e in
    let t = need_test same 2 (Ok inf) n r in
    record {
      is = sym (done_inj (need_rest same 2 (Ok inf) n r));
      same_unc = eqb-true unc inf (and_true_l (eqb unc inf) (eqb con inf) t);
      same_con = eqb-true con inf (and_true_r (eqb unc inf) (eqb con inf) t);
      short = leb-true inf 16000 (and_true_l (leb inf 16000) (leb unc 16000) (and_true_l (leb inf 16000 && leb unc 16000) (leb con 16000) s));
    }

pub record CountsInRoom (inf unc con room n : ℕ) : Type 0 where
  pub columns : Columns inf unc con n
  pub room_counts : n ≤ room

pub counts_in_room_done : (inf unc con room n : ℕ) → counts_in_room inf unc con room ≡ Ok n → CountsInRoom inf unc con room n
unfolding counts_in_room
counts_in_room_done inf unc con room n e =
    let (m, columns, fits) = and_then_inv (columns_of inf unc con) (λ n. need (leb n room) 12 (Ok n)) n e in
    let is : m ≡ n = done_inj (need_rest (leb m room) 12 (Ok m) n fits) in
    let short : m ≤ room = leb-true m room (need_test (leb m room) 12 (Ok m) n fits) in
    record { columns = columns_done inf unc con n (rw is at columns); room_counts = omega arith }

pub record Truncated (len inf unc con keptInf keptUnc keptCon k : ℕ) : Type 0 where
  pub columns : Columns inf unc con inf
  pub rooms : InRoom (min len inf) keptInf keptUnc keptCon k

pub truncated_done : (len inf unc con keptInf keptUnc keptCon k : ℕ) → truncated len inf unc con keptInf keptUnc keptCon ≡ Ok k
    → Truncated len inf unc con keptInf keptUnc keptCon k
unfolding truncated
truncated_done len inf unc con keptInf keptUnc keptCon k e =
    let (m, columns, fits) = and_then_inv (columns_of inf unc con) (λ n. in_room (min len n) keptInf keptUnc keptCon) k e in
    let is : m ≡ inf = (columns_done inf unc con m columns).is in
    record {
      columns = columns_done inf unc con inf (rw is at columns);
      rooms = in_room_done (min len inf) keptInf keptUnc keptCon k (rw is at fits);
    }

pub record Restorable (seq inf n : ℕ) : Type 0 where
  pub is : n ≡ seq
  pub same : inf ≡ seq

pub restorable_done : (seq inf n : ℕ) → restorable seq inf ≡ Ok n → Restorable seq inf n
unfolding restorable
restorable_done seq inf n e =
    let r = need_rest (leb seq 16000 && leb inf 16000) 1 (need (eqb inf seq) 2 (Ok seq)) n e in
    record {
      is = sym (done_inj (need_rest (eqb inf seq) 2 (Ok seq) n r));
      same = eqb-true inf seq (need_test (eqb inf seq) 2 (Ok seq) n r);
    }

pub record Annotated (n : ℕ) (lengths bases aligned : List ℕ) (inf unc con k : ℕ) : Type 0 where
  pub reads : length lengths ≤ 4096
  pub joined : sum lengths ≡ length bases
  pub same : length aligned ≡ length bases
  pub rooms : InRoom n inf unc con k

pub annotated_done : (n : ℕ) (lengths bases aligned : List ℕ) (inf unc con k : ℕ) → annotated n lengths bases aligned inf unc con ≡ Ok k
    → Annotated n lengths bases aligned inf unc con k
unfolding annotated
annotated_done n lengths bases aligned inf unc con k e =
    let two = leb n 16000 && leb (length lengths) 4096 in
    let short = two && leb (length bases) 1048576 && leb (length aligned) 1048576 in
    let joined = eqb (sum lengths) (length bases) in
    let agree = joined && eqb (length aligned) (length bases) in
    let s = need_test short 1 (need agree 2 (in_room n inf unc con)) k e in
    let r = need_rest short 1 (need agree 2 (in_room n inf unc con)) k e in
    let t = need_test agree 2 (in_room n inf unc con) k r in
    let s2 = and_true_l two (leb (length bases) 1048576) (and_true_l (two && leb (length bases) 1048576) (leb (length aligned) 1048576) s) in
    record {
      reads = leb-true (length lengths) 4096 (and_true_r (leb n 16000) (leb (length lengths) 4096) s2);
      joined = eqb-true (sum lengths) (length bases) (and_true_l joined (eqb (length aligned) (length bases)) t);
      same = eqb-true (length aligned) (length bases) (and_true_r joined (eqb (length aligned) (length bases)) t);
      rooms = in_room_done n inf unc con k (need_rest agree 2 (in_room n inf unc con) k r);
    }

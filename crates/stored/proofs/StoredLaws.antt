-- Calls that fill one row from a packed SEQ: refused by the checks, short of room, and done.
-- Assumes nothing.
use Rattle.std.specs.Prelude.{Ok, Err}
use mathlib.Core.Path.{◌≡◌, refl, sym, ap, ◌∙◌}
use Prim.Native.Nat.{ℕ, ◌≤◌, ◌<◌}
use mathlib.Core.Bool.{Bool, false}
use mathlib.Core.List.{List}
use lib.ListN.{length}
use lib.Dec.{leb}
use borrow.Author.Tests.{le-leb, lt-leb}
use Rattle.lent.proofs.Tests.{by-test}
use Rattle.lent.specs.Filled.{leaves, over}
use Rattle.lent.specs.Outcome.{Outcome, need, refusal}
use Rattle.lent.specs.declared.Refusal.{Refusal}
use Rattle.stored_rows.proofs.OrderLaws.{tested, tests_pass, tests_refuse}
use Rattle.stored_rows.specs.Orders.{numbers_in_domain}
use Rattle.stored.specs.PublicContracts.{Fills}
use Rattle.stored.specs.Reads.{bases_of, is_exact}

-- ---- calls that fill one row

module _ (n : ℕ) (packed row answer : List ℕ) where
  pub fill_refused : (r : Refusal) → tested (leb n 16000) (is_exact n packed) ≡ Err r
      → Fills (bases_of n packed (length row) answer) row (Err r) row
  unfolding leaves
  fill_refused r e = rw (tests_refuse (leb n 16000) (is_exact n packed) (need (leb (length answer) (length row)) 12 (Ok answer)) r e) (refl, refl)

  pub fill_short : tested (leb n 16000) (is_exact n packed) ≡ Ok tt → length row < length answer
      → Fills (bases_of n packed (length row) answer) row (Err (refusal 12)) row
  unfolding leaves
  fill_short e l =
      rw (
        tests_pass (leb n 16000) (is_exact n packed) (need (leb (length answer) (length row)) 12 (Ok answer)) e,
        lt-leb (length answer) (length row) l,
      ) (refl, refl)

  pub fill_done : (k : ℕ) (row' : List ℕ) → tested (leb n 16000) (is_exact n packed) ≡ Ok tt → length answer ≤ length row → length answer ≡ k
      → row' ≡ over answer row → Fills (bases_of n packed (length row) answer) row (Ok k) row'
  unfolding leaves
  fill_done k row' e l long f =
      rw (
        tests_pass (leb n 16000) (is_exact n packed) (need (leb (length answer) (length row)) 12 (Ok answer)) e,
        le-leb (length answer) (length row) l,
      ) (ap Ok (sym long), f)

-- without a tag the domain is that of the bases
pub bases_domain_alone : (n : ℕ) → numbers_in_domain false n 0 0 ≡ leb n 16000
bases_domain_alone n = by-test (leb n 16000) (λ e. rw e) (λ e. rw e)

pub alone : (n : ℕ) (t : Bool) (o : Outcome (Unit {0})) → tested (numbers_in_domain false n 0 0) t ≡ o → tested (leb n 16000) t ≡ o
alone n t o e = sym (ap (λ (d : Bool). tested d t) (bases_domain_alone n)) ∙ e

-- `read_calls` checks for 1 and 2, reads the calls with a row to unpack SEQ in, the short or the long one, and mirrors the places.
-- Assumes nothing.
use mathlib.Core.Path.{◌∙◌, ◌≡◌, ap, sym}
use native.Mathlib.Omega.{arith}
use mathlib.Core.List.{List}
use lib.ListN.{length}
use Rattle.lent.specs.Filled.{leaves}
use Rattle.lent.specs.Outcome.{Outcome, on_done}
use Rattle.packed.specs.Stored.{in_read}
use Rattle.reading.specs.Calls.{calls_read, counts_of, group_column, listed_calls, read_calls, start_column}
use Rattle.samtags.specs.Spots.{Listing}
use Rattle.stored_rows.proofs.OrderLaws.{stored_passed, tests_pass, tests_refuse}
use Rattle.stored.proofs.ColumnLaws.{calls_fit, calls_left, columns_stored}
use Rattle.stored.specs.Mirrors.{places_as_stored}
use Rattle.stored.specs.Reads.{is_exact, listed_stored, read_stored_calls, stated_in_domain, stored_column}
use Rattle.lent.proofs.Outcome.{passed_on}
use Rattle.stored.proofs.read_calls.Goals as goal

pub returns-in_err-stored_in_order : goal.returns-in_err-stored_in_order
unfolding listed_stored read_stored_calls
returns-in_err-stored_in_order c =
    ap (λ (o : Outcome _). calls_read o c.args.groups.now c.args.places.now c.args.starts.now) (passed_on _ _ c.from_residual.ensures.1)
    ∙ calls_left (stored_column c.args.reverse c.args.bases) c.args.groups.now c.args.places.now c.args.starts.now _ c.in_err-stored_in_order.field-0.0
    (tests_refuse (stated_in_domain c.args.has_ml c.args.bases c.args.mm.now c.args.ml.now) (is_exact c.args.bases c.args.packed.now)
    (listed_calls c.args.has_ml (in_read c.args.reverse c.args.bases c.args.packed.now) c.args.mm.now c.args.ml.now (length c.args.groups.now) (length c.args.places.now) (length c.args.starts.now))
    c.in_err-stored_in_order.field-0.0 (sym c.stored_in_order.ensures ∙ c.in_err-stored_in_order.was))

pub read_with-read-requires : goal.read_with-read-requires
read_with-read-requires c =
    let kept = sym c.stored_in_order.ensures ∙ c.in_ok-stored_in_order.was in
    let fits = stored_passed c.args.has_ml (length c.args.packed.now) c.args.bases (length c.args.mm.now) (length c.args.ml.now) kept in
    (fits.bases_domain, omega (arith, fits.bytes_exact), omega (arith, c.few_marks-few.ensures.0))

pub as_stored-requires : goal.as_stored-requires
unfolding read_calls
as_stored-requires c =
    let kept = sym c.stored_in_order.ensures ∙ c.in_ok-stored_in_order.was in
    let fits = stored_passed c.args.has_ml (length c.args.packed.now) c.args.bases (length c.args.mm.now) (length c.args.ml.now) kept in
    let o = listed_calls c.args.has_ml (in_read c.args.reverse c.args.bases c.args.packed.now) c.args.mm.now c.args.ml.now (length c.args.groups.now) (length c.args.places.now) (length c.args.starts.now) in
    (fits.bases_domain, calls_fit c.args.reverse c.args.bases c.args.groups.now c.args.places.now c.args.starts.now c.read_with-read.new.groups c.read_with-read.new.places c.read_with-read.new.starts c.read_with-read.result o c.read_with-read.ensures)

pub returns-then-bases-le1024 : goal.returns-then-bases-le1024
unfolding read_calls listed_stored read_stored_calls
returns-then-bases-le1024 c =
    let kept = sym c.stored_in_order.ensures ∙ c.in_ok-stored_in_order.was in
    let o = listed_calls c.args.has_ml (in_read c.args.reverse c.args.bases c.args.packed.now) c.args.mm.now c.args.ml.now (length c.args.groups.now) (length c.args.places.now) (length c.args.starts.now) in
    let stored = columns_stored c.args.reverse c.args.bases c.args.groups.now c.args.places.now c.args.starts.now c.read_with-read.new.groups c.read_with-read.new.places c.read_with-read.new.starts c.read_with-read.result o
    c.read_with-read.ensures in
    (λ j. calls_read (c.as_stored.ensures.0 j) c.read_with-read.new.groups (c.as_stored.ensures.1 j) c.read_with-read.new.starts)
    ∙ stored
    ∙ sym (ap (λ (x : Outcome (List Listing)). calls_read (on_done counts_of x) (leaves group_column x c.args.groups.now)
    (leaves (stored_column c.args.reverse c.args.bases) x c.args.places.now) (leaves start_column x c.args.starts.now))
    (tests_pass (stated_in_domain c.args.has_ml c.args.bases c.args.mm.now c.args.ml.now) (is_exact c.args.bases c.args.packed.now) o kept))

pub read_with-read-requires-2 : goal.read_with-read-requires-2
read_with-read-requires-2 c =
    let kept = sym c.stored_in_order.ensures ∙ c.in_ok-stored_in_order.was in
    let fits = stored_passed c.args.has_ml (length c.args.packed.now) c.args.bases (length c.args.mm.now) (length c.args.ml.now) kept in
    (fits.bases_domain, omega (arith, fits.bytes_exact), omega (arith, fits.bases_domain, c.no_marks-row.ensures.0))

pub as_stored-requires-2 : goal.as_stored-requires-2
unfolding read_calls
as_stored-requires-2 c =
    let kept = sym c.stored_in_order.ensures ∙ c.in_ok-stored_in_order.was in
    let fits = stored_passed c.args.has_ml (length c.args.packed.now) c.args.bases (length c.args.mm.now) (length c.args.ml.now) kept in
    let o = listed_calls c.args.has_ml (in_read c.args.reverse c.args.bases c.args.packed.now) c.args.mm.now c.args.ml.now (length c.args.groups.now) (length c.args.places.now) (length c.args.starts.now) in
    (fits.bases_domain, calls_fit c.args.reverse c.args.bases c.args.groups.now c.args.places.now c.args.starts.now c.read_with-read-2.new.groups c.read_with-read-2.new.places c.read_with-read-2.new.starts c.read_with-read-2.result o c.read_with-read-2.ensures)

pub returns : goal.returns
unfolding read_calls listed_stored read_stored_calls
returns c =
    let kept = sym c.stored_in_order.ensures ∙ c.in_ok-stored_in_order.was in
    let mirrors : c.as_stored-2.new.places ≡ places_as_stored c.read_with-read-2.result c.args.reverse c.args.bases c.read_with-read-2.new.places = c.as_stored-2.ensures.1 in
    let o = listed_calls c.args.has_ml (in_read c.args.reverse c.args.bases c.args.packed.now) c.args.mm.now c.args.ml.now (length c.args.groups.now) (length c.args.places.now) (length c.args.starts.now) in
    let stored = columns_stored c.args.reverse c.args.bases c.args.groups.now c.args.places.now c.args.starts.now c.read_with-read-2.new.groups c.read_with-read-2.new.places c.read_with-read-2.new.starts c.read_with-read-2.result o
    c.read_with-read-2.ensures in
    (λ j. calls_read (c.as_stored-2.ensures.0 j) c.read_with-read-2.new.groups (mirrors j) c.read_with-read-2.new.starts)
    ∙ stored
    ∙ sym (ap (λ (x : Outcome (List Listing)). calls_read (on_done counts_of x) (leaves group_column x c.args.groups.now)
    (leaves (stored_column c.args.reverse c.args.bases) x c.args.places.now) (leaves start_column x c.args.starts.now))
    (tests_pass (stated_in_domain c.args.has_ml c.args.bases c.args.mm.now c.args.ml.now) (is_exact c.args.bases c.args.packed.now) o kept))

-- A session of a stored read can be opened again after any steps, on the bytes that the bases then take, and lists what is left. After a cut the row may
-- be longer, and the opening refuses a longer row.
-- Assumes nothing.
use Rattle.std.specs.Prelude.{Ok}
use mathlib.Core.Path.{◌≡◌, ap, ◌∙◌, sym}
use Prim.Native.Nat.{ℕ, ◌/◌, ◌%◌, ◌≤◌, ◌<◌}
use native.Mathlib.Omega.{arith}
use mathlib.Core.Bool.{Bool, true, false, cond, ◌&&◌}
use mathlib.Core.List.{List, map}
use lib.ListN.{length, take}
use lib.Seq.{get_or-take, length-take-le}
use lib.Dec.{eqb}
use borrow.Author.Tests.{eq-eqb}
use Rattle.lent.specs.Outcome.{Outcome, on_done}
use Rattle.lent.proofs.Tabulate.{tabulate_ext}
use Rattle.lent.proofs.Tests.{and_true}
use Rattle.packed.proofs.Rows.{Bytes}
use Rattle.packed.specs.Packed.{bytes_for, letter_of, reverse_complement, unpack}
use Rattle.packed.specs.Stored.{in_read}
use Rattle.packed.specs.Walks.{letter_at}
use Rattle.samtags.specs.Meaning.{after_steps, left_of_listing, opening}
use Rattle.samtags.specs.Reading.{lists}
use Rattle.samtags.specs.Session.{Held, lengths_in_domain}
use Rattle.samtags.specs.Spots.{Listing}
use Rattle.session.specs.Chain.{at_end}
use Rattle.session.specs.PublicContracts.{Call, Rows, in_memory, rows}
use Rattle.stored_session.proofs.Demand.{as_meant, chain_runs}
use Rattle.stored_session.proofs.Held.{In-order, domain_test, opened_in_order, tag_test}
use Rattle.stored_session.specs.Chain.{ChainStored, read_in, steps_in_read}
use Rattle.stored_steps.specs.Steps.{held_in_read, open_stored, tag_in_buffers}
use Rattle.reading.specs.Calls.{counts_of}
use Rattle.lent.proofs.Outcome.{on_done_inv}
use Rattle.stored_session.specs.PublicContracts.{OpensStored}

-- ---- bytes past the bases are not read

unpack_front : (n k : ℕ) (packed : List ℕ) → bytes_for n ≤ k → unpack n (take k packed) ≡ unpack n packed
unfolding unpack
unpack_front n k packed l =
    tabulate_ext n (letter_at (take k packed)) (letter_at packed) (λ (i : ℕ) (h : i < n).
    ap (λ (x : ℕ). letter_of (cond (eqb (i % 2) 0) (x / 16) (x % 16))) (get_or-take k packed (i / 2) 0 (omega (arith, l, h))))

pub in_read_front : (reverse : Bool) (n k : ℕ) (packed : List ℕ) → bytes_for n ≤ k → in_read reverse n (take k packed) ≡ in_read reverse n packed
unfolding in_read
in_read_front true n k packed l = ap reverse_complement (unpack_front n k packed l)
in_read_front false n k packed l = unpack_front n k packed l

-- the rows with SEQ's row as long as the bases take
abbrev pub fitted : Rows → Rows
fitted w = rows (take (bytes_for w.lengths.seq) w.seq) w.mm w.ml w.lengths

pub fitted_held : (reverse : Bool) (w : Rows) → read_in reverse (fitted w) ≡ read_in reverse w
unfolding held_in_read
fitted_held reverse w = λ j. record {
  seq = in_read_front reverse w.lengths.seq (bytes_for w.lengths.seq) w.seq (omega arith) j;
  text = take w.lengths.mm w.mm;
  ml = take w.lengths.ml w.ml;
}

-- ---- opened again

-- rows in order that fit are opened as they are read
fitted_opens : (reverse ml? : Bool) (w : Rows) → In-order ml? (in_memory w)
    → open_stored reverse ml? (in_memory (fitted w)) ≡ lists ml? (read_in reverse w).seq (read_in reverse w).text (read_in reverse w).ml
unfolding open_stored
fitted_opens reverse ml? w i =
    let n = bytes_for w.lengths.seq in
    let long : length (take n w.seq) ≡ n = length-take-le n w.seq i.seq_buffer in
    let domain : lengths_in_domain ml? (in_memory w).lengths ≡ true = domain_test ml? (in_memory w) i in
    let both : eqb (length (take n w.seq)) n && tag_in_buffers ml? (in_memory w) ≡ true =
    and_true (eqb (length (take n w.seq)) n) (tag_in_buffers ml? (in_memory w)) (eq-eqb _ _ long) (tag_test ml? (in_memory w) i) in
    rw (domain, both) (ap (λ (h : Held). lists ml? h.seq h.text h.ml) (fitted_held reverse w))

pub opens_again : (reverse ml? : Bool) (w : Rows) → Bytes w.seq → (ls : List Listing) → open_stored reverse ml? (in_memory w) ≡ Ok ls
    → (cs : List Call) → ChainStored reverse ml? w cs
    → open_stored reverse ml? (in_memory (fitted (at_end w cs)))
    ≡ Ok (map (left_of_listing (after_steps ls (steps_in_read reverse w cs) (opening (read_in reverse w).seq))) ls)
opens_again reverse ml? w bytes ls e cs k =
    let o = opened_in_order reverse ml? (in_memory w) ls bytes e in
    fitted_opens reverse ml? (at_end w cs) (chain_runs reverse ml? cs w o.0 k).2
    ∙ (as_meant reverse ml? w bytes ls e cs k).lists_then

-- About the code: if `open` answered Ok, then after any calls, opened again on the bytes that the bases take, it answers as many groups and calls as are
-- left.
pub opened_again : (reverse ml? : Bool) (w : Rows) → Bytes w.seq → (groups calls : ℕ) → OpensStored reverse ml? w (Ok (groups, calls))
    → (cs : List Call) → ChainStored reverse ml? w cs
    → (ls : List Listing) × (lists ml? (read_in reverse w).seq (read_in reverse w).text (read_in reverse w).ml ≡ Ok ls)
    × ((r : Outcome (ℕ × ℕ)) → OpensStored reverse ml? (fitted (at_end w cs)) r
    → r ≡ Ok (counts_of (map (left_of_listing (after_steps ls (steps_in_read reverse w cs) (opening (read_in reverse w).seq))) ls)))
opened_again reverse ml? w bytes groups calls opened cs k =
    let (ls, e, counted) = on_done_inv counts_of (open_stored reverse ml? (in_memory w)) (groups, calls) (sym opened) in (
      ls,
      (opened_in_order reverse ml? (in_memory w) ls bytes e).1,
      λ r again. again ∙ ap (on_done counts_of) (opens_again reverse ml? w bytes ls e cs k),
    )

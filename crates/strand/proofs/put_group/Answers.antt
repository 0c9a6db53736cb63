-- `put_group` writes the header, the entries and ';' one after the other, which make the strand's text.
-- Assumes nothing.
use mathlib.Core.Path.{◌∙◌, ◌≡◌, ap, sym}
use Prim.Native.Nat.{◌+◌, ◌≤◌, ℕ}
use native.Mathlib.Omega.{arith}
use mathlib.Core.List.{List, [], ◌++◌, ◌∷◌}
use lib.ListN.{length, length-append, set}
use lib.Seq.{sets}
use Rattle.lent.proofs.Stores.{sets_append}
use Rattle.samtags.proofs.Skips.{entries_short}
use Rattle.samtags.specs.Building.{Evidence, columns, header_of}
use Rattle.samtags.specs.Bytes.{semicolon}
use Rattle.samtags.specs.Writing.{entries_text, skips_from}
use Rattle.strand.proofs.Spots.{spots_few, strand_ml, strand_text}
use Rattle.strand.specs.Walk.{spots_from}
use Rattle.strand.proofs.put_group.Goals as goal
use Rattle.strand.proofs.put_group.Goals.{After-slice_known-6-1}

-- how long the entries are at most
short_entries : (c : After-slice_known-6-1) →
    let a = c.args in
    let ev : Evidence = columns a.informative.now a.unconverted.now a.converted.now in
    length (entries_text (skips_from 0 (spots_from a.mode a.pattern ev a.seq.now 0))) ≤ 32000
short_entries c =
    let a = c.args in
    let ev : Evidence = columns a.informative.now a.unconverted.now a.converted.now in
    let spots = spots_from a.mode a.pattern ev a.seq.now 0 in
    omega (arith, entries_short 0 spots, spots_few a.mode a.pattern ev a.seq.now)

pub overflow_add-result : goal.overflow_add-result
overflow_add-result c =
    omega (arith, short_entries c, c.put_entries-end.ensures.0)

pub returns : goal.returns
returns c =
    let a = c.args in
    let ev : Evidence = columns a.informative.now a.unconverted.now a.converted.now in
    let entries = entries_text (skips_from 0 (spots_from a.mode a.pattern ev a.seq.now 0)) in
    let put = c.put_entries-end in
    let row = a.text.now in
    let end : put.result.text ≡ 4 + length entries = put.ensures.0 in
    let stored : put.new.text ≡ sets (sets row 0 (header_of a.pattern)) 4 entries =
    put.ensures.2 ∙ ap (λ (l : List ℕ). sets l 4 entries) c.put_header.ensures in
    let text = strand_text a.mode a.pattern ev a.seq.now in
    let ml = strand_ml a.mode a.pattern ev a.seq.now in
    rw (text, ml) (
      omega (arith, end, length-append (header_of a.pattern) (entries ++ semicolon ∷ []), length-append entries (semicolon ∷ [])),
      put.ensures.1,
      c.put.ensures
          ∙ (λ j. set (stored j) (end j) semicolon)
          ∙ sym (sets_append (sets row 0 (header_of a.pattern)) 4 entries (semicolon ∷ [])),
      put.ensures.3,
    )

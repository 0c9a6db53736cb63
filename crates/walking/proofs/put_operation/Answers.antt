-- `put_operation` writes the operation's places, or as many missing ones.
-- Assumes nothing.
use mathlib.Core.Path.{◌≡◌, sym, ap, ◌∙◌}
use Prim.Native.Nat.{ℕ}
use lib.ListN.{replicate}
use Rattle.cigar.specs.Cigar.{bases_taken, places_taken, missing, placed}
use Rattle.walking.specs.Walk.{run}
use Rattle.walking.proofs.Walks.{reaches_fewer, bases_within, placed_yes, placed_no}
use Rattle.walking.proofs.put_operation.Goals as goal

pub put_places-requires : goal.put_places-requires
put_places-requires c =
    let a = c.args in
    rw c.bases_taken-n.ensures (
      c.requires.0,
      reaches_fewer a.is_reverse a.place (places_taken a.word) (bases_taken a.word) c.requires.1
          (bases_within a.word (sym c.takes_places.ensures ∙ c.if-takes_places.true)),
    )

pub returns-then-takes_places : goal.returns-then-takes_places
returns-then-takes_places c =
    let a = c.args in
    let l = run a.is_reverse a.place (bases_taken a.word) in
    let e : placed a.word l ≡ run a.is_reverse a.place c.bases_taken-n.result =
    placed_yes a.word l (sym c.takes_places.ensures ∙ c.if-takes_places.true)
    ∙ ap (λ (n : ℕ). run a.is_reverse a.place n) (sym c.bases_taken-n.ensures) in
    rw e c.put_places.ensures

pub returns-else-takes_places : goal.returns-else-takes_places
returns-else-takes_places c =
    let a = c.args in
    let l = run a.is_reverse a.place (bases_taken a.word) in
    let e : placed a.word l ≡ replicate c.bases_taken-n.result missing =
    placed_no a.word l (sym c.takes_places.ensures ∙ c.if-takes_places.false)
    ∙ ap (λ (n : ℕ). replicate n missing) (sym c.bases_taken-n.ensures) in
    rw e c.put_missing.ensures

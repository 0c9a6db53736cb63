-- Writing an entry and a group into the rows they were read from: past what is written the rows are unchanged.
-- Assumes nothing.
use Rattle.std.specs.Prelude.{Ok, Err}
use mathlib.Core.Path.{◌≡◌, ◌∙◌, ap, refl, subst}
use Prim.Native.Nat.{ℕ, ◌+◌, ◌-◌, ◌≤◌}
use native.Mathlib.Omega.{arith}
use mathlib.Core.Bool.{Bool, true, false}
use mathlib.Core.List.{List}
use lib.ListN.{drop, length, length-drop}
use lib.Seq.{drop-drop}
use Rattle.changing.specs.Drafts.{Draft, draft, entry_put, more}
use Rattle.drafting.specs.Walks.{EntriesEdited, GroupEdited, group_put}
use Rattle.drafting.specs.declared.Cursor.{Cursor}
use Rattle.moving.proofs.RowLaws.{ahead_of, drop_stored, same_later}
use Rattle.lent.proofs.Outcome.{on_done_inv}
use Rattle.lent.specs.Lists.{concat_map}
use Rattle.lent.specs.Outcome.{Outcome, on_done}
use Rattle.samtags.specs.Edits.{Edit, changed}
use Rattle.samtags.specs.Spots.{Group, Spot, values_of}
use Rattle.samtags.specs.Text.{up_to}
use Rattle.samtags.specs.Writing.{entry_text, group_text}

-- the rows w' are the rows w from where the written parts of w' end
abbrev pub AheadOf : Draft → Draft → Type 0
AheadOf w w' =
    ((i : ℕ) → w'.end ≤ i → drop i w'.text ≡ drop i w.text) × ((j : ℕ) → w'.kept ≤ j → drop j w'.ml ≡ drop j w.ml)

more_ahead : (w : Draft) (t vs : List ℕ) → AheadOf w (more w t vs)
more_ahead w t vs = (λ i h. drop_stored w.text w.end t i h, λ j h. drop_stored w.ml w.kept vs j h)

-- an entry
pub put_ahead : (held dropped : Bool) (w : Draft) (gap : ℕ) (vs : List ℕ) (w' : Draft) (gap' : ℕ) → entry_put held dropped w gap vs ≡ (w', gap')
    → AheadOf w w'
put_ahead held dropped w gap vs w' gap' e = subst (λ (q : Draft × ℕ). AheadOf w q.0) e (go held dropped)
  where
    go : (held dropped : Bool) → AheadOf w (entry_put held dropped w gap vs).0
    go true true = (λ i h. refl, λ j h. refl)
    go true false = more_ahead w (entry_text gap) vs
    go false dropped = (λ i h. refl, λ j h. refl)

-- a group
pub group_ahead : (e : Edit) (w : Draft) (o : Outcome (Group × List ℕ)) (w' : Draft) (left : List ℕ) → on_done (group_put e w) o ≡ Ok (w', left)
    → AheadOf w w'
group_ahead e w o w' left h =
    let i = on_done_inv (group_put e w) o (w', left) h in
    let g = changed e i.0.0 in
    subst (λ (q : Draft × List ℕ). AheadOf w q.0) i.2 (more_ahead w (group_text g) (concat_map values_of g.spots))

-- what is said of entries over a row is said of them over any row that is the same from the entries on
pub entries_there : (held dropped : ℕ → Bool) (text text' ml : List ℕ) (c : Cursor) → drop c.at text ≡ drop c.at text'
    → (o : Outcome (List Spot × List ℕ)) (t v : List ℕ) (r : Outcome Cursor) (t' v' : List ℕ) → EntriesEdited held dropped text ml c o t v r t' v'
    → EntriesEdited held dropped text' ml c o t v r t' v'
entries_there held dropped text text' ml c e o t v (Err r) t' v' h = h
entries_there held dropped text text' ml c e o t v (Ok d) t' v' h =
    (h.0 ∙ ap (λ (l : List ℕ). c.at + length (up_to 59 l)) e, h.1, h.2, h.3, h.4)

-- o is what the answer says of the group at the cursor c: text₀ and ml₀ are the rows as they came in, text and ml as they are. Their parts from where
-- the written parts end are lent, and come back as t' and v'
abbrev pub GroupThere : Edit → List ℕ → List ℕ → Cursor → Outcome (Group × List ℕ) → List ℕ → List ℕ → Outcome Cursor → List ℕ → List ℕ → Type 0
GroupThere e text₀ ml₀ c o text ml (Err r) t' v' = o ≡ Err r
GroupThere e text₀ ml₀ c o text ml (Ok d) t' v' =
    (c.end + d.at ≡ c.at + length (up_to 59 (drop c.at text₀)) + 1) × (c.kept + d.used ≤ length ml₀)
    × (c.at + d.end ≤ c.end + d.at) × (c.used + d.kept ≤ c.kept + d.used)
    × (on_done (group_put e (draft (drop c.end text) 0 (drop c.kept ml) 0)) o
    ≡ Ok (draft t' d.end v' d.kept, drop (c.kept + d.used) ml₀))

module _ (e : Edit) (text₀ ml₀ text ml : List ℕ) (c : Cursor) (behind : c.end ≤ c.at) (behind-ml : c.kept ≤ c.used) (few : c.kept ≤ length ml)
    (there : drop c.at text ≡ drop c.at text₀) (there-ml : drop c.used ml ≡ drop c.used ml₀) (same : length ml ≡ length ml₀) where
  abbrev part : List ℕ
  part = drop c.end text

  abbrev ml_part : List ℕ
  ml_part = drop c.kept ml

  group_known : (o : Outcome (Group × List ℕ)) (r : Outcome Cursor) (t' v' : List ℕ)
      → GroupEdited e part ml_part (c.at - c.end) (c.used - c.kept) o part ml_part r t' v' → GroupThere e text₀ ml₀ c o text ml r t' v'
  group_known o (Err r) t' v' h = h
  group_known o (Ok d) t' v' h =
      let size : length (up_to 59 (drop (c.at - c.end) part)) ≡ length (up_to 59 (drop c.at text₀)) =
      ap (λ (l : List ℕ). length (up_to 59 l)) (ahead_of text text₀ c.end c.at behind there) in
      let past : c.used + d.kept ≤ c.kept + d.used = omega (arith, h.3, behind-ml) in
      let left : drop d.used ml_part ≡ drop (c.kept + d.used) ml₀ =
      drop-drop d.used c.kept ml ∙ same_later ml ml₀ c.used (c.kept + d.used) (omega arith) there-ml in (
        omega (arith, h.0, size, behind),
        omega (arith, h.1, length-drop c.kept ml, few, same),
        omega (arith, h.2, behind),
        past,
        h.4 ∙ ap (λ (l : List ℕ). Ok (draft t' d.end v' d.kept, l)) left,
      )

  -- what is said of the group over the parts is said of it over the rows as they came in
  pub group_there : (read : List ℕ → List ℕ → Outcome (Group × List ℕ)) (r : Outcome Cursor) (t' v' : List ℕ)
      → GroupEdited e part ml_part (c.at - c.end) (c.used - c.kept) (read (drop (c.at - c.end) part) (drop (c.used - c.kept) ml_part))
      part ml_part r t' v'
      → GroupThere e text₀ ml₀ c (read (drop c.at text₀) (drop c.used ml₀)) text ml r t' v'
  group_there read r t' v' h =
      let at : drop (c.at - c.end) part ≡ drop c.at text₀ = ahead_of text text₀ c.end c.at behind there in
      let used : drop (c.used - c.kept) ml_part ≡ drop c.used ml₀ = ahead_of ml ml₀ c.kept c.used behind-ml there-ml in
      let reads : read (drop (c.at - c.end) part) (drop (c.used - c.kept) ml_part) ≡ read (drop c.at text₀) (drop c.used ml₀) =
      λ j. read (at j) (used j) in
      subst (λ (o : Outcome (Group × List ℕ)). GroupThere e text₀ ml₀ c o text ml r t' v') reads (group_known _ r t' v' h)

-- Laws of the rows that an edited tag is written into: one more entry, one more group, and the whole tag.
-- Assumes nothing.
use Rattle.std.specs.Prelude.{Ok, Err}
use mathlib.Core.Path.{◌≡◌, refl, sym, ap, ◌∙◌}
use Prim.Native.Nat.{ℕ, ◌+◌, ◌≤◌, ◌<◌, min}
use native.Mathlib.Nat.{add-zero}
use native.Mathlib.Numerals.{add-one}
use native.Mathlib.Omega.{arith}
use mathlib.Core.Bool.{Bool, not, ◌&&◌}
use mathlib.Core.List.{List, [], ◌∷◌, ◌++◌, map, append-nil}
use lib.ListN.{length, set, take, drop, length-append}
use lib.Seq.{sets}
use Rattle.lent.proofs.Stores.{sets_append, sets_part}
use Rattle.lent.proofs.Tests.{by-test}
use Rattle.lent.proofs.Outcome.{on_done_inv}
use Rattle.lent.specs.Lists.{concat_map, filter, last_or}
use Rattle.lent.specs.Outcome.{Outcome, and_then, on_done}
use Rattle.lent.specs.declared.Refusal.{Refusal}
use Rattle.samtags.proofs.Length.{change, skips_bare}
use Rattle.samtags.specs.Edits.{Edit, changed}
use Rattle.samtags.specs.Reading.{read_group, read_groups, read_spots, values_if}
use Rattle.samtags.specs.Spots.{Group, Spot, bare, call, tracked, values_of}
use Rattle.samtags.specs.Text.{base_of, closed_by, ends_in_question, led_by, up_to}
use Rattle.samtags.specs.Writing.{Tag, entries_text, entry_text, group_text, ml_of, skips_from, text_of, written}
use Rattle.changing.specs.Drafts.{Draft, draft, entry_put, more}
use Rattle.drafting.specs.Walks.{edited_groups, group_put, spots_put, tag_put}
use Rattle.changing.specs.Windows.{denied_in, held_in, is_marked, window_edit}
use Rattle.places.proofs.TextLaws.{group_on, groups_at}
use Rattle.fields.specs.Fields.{field_of}

pub more_append : (w : Draft) (a b u v : List ℕ) → more w (a ++ b) (u ++ v) ≡ more (more w a u) b v
more_append w a b u v =
    let n : w.end + length (a ++ b) ≡ w.end + length a + length b = omega (arith, length-append a b) in
    let m : w.kept + length (u ++ v) ≡ w.kept + length u + length v = omega (arith, length-append u v) in
    λ j. draft (sets_append w.text w.end a b j) (n j) (sets_append w.ml w.kept u v j) (m j)

pub more_none : (w : Draft) → more w [] [] ≡ w
more_none w = λ j. draft w.text (add-zero w.end j) w.ml (add-zero w.kept j)

-- ---- an entry

module _ (held dropped : ℕ → Bool) where
  values_bare : (ps : List ℕ) (ss : List Spot)
      → concat_map values_of (change held dropped (map bare ps ++ ss)) ≡ concat_map values_of (change held dropped ss)
  values_bare [] ss = refl
  values_bare (p ∷ ps) ss = by-test (held p) (λ e. rw e (values_bare ps ss)) (λ e. rw e (values_bare ps ss))

  put_call : (w : Draft) (gap p : ℕ) (vs : List ℕ) (r : List Spot × List ℕ)
      → spots_put held dropped w gap (call p vs ∷ r.0, r.1)
      ≡ spots_put held dropped (entry_put (held p) (dropped p) w gap vs).0 (entry_put (held p) (dropped p) w gap vs).1 r
  put_call w gap p vs r =
      by-test (dropped p)
      (λ n. by-test (held p)
      (λ e. rw (n, e, add-one gap))
      (λ e. rw (n, e)))
      (λ n. by-test (held p)
      (λ e. rw (n, e)
      (ap (λ (x : Draft). (x, r.1))
      (more_append w (entry_text gap) (entries_text (skips_from 0 (change held dropped r.0))) vs (concat_map values_of (change held dropped r.0)))))
      (λ e. rw (n, e)))

  -- the bases that an entry passes, and its call
  pub put_one : (w : Draft) (gap : ℕ) (qs : List ℕ) (p : ℕ) (vs : List ℕ) (c : ℕ) (w' : Draft) (gap' : ℕ) → c ≡ length (filter held qs)
      → entry_put (held p) (dropped p) w (gap + c) vs ≡ (w', gap') → (x : Outcome (List Spot × List ℕ))
      → on_done (spots_put held dropped w gap) (and_then x (λ r. Ok (map bare qs ++ call p vs ∷ r.0, r.1))) ≡ on_done (spots_put held dropped w' gap') x
  put_one w gap qs p vs c w' gap' k o (Err r) = refl
  put_one w gap qs p vs c w' gap' k o (Ok r) =
      rw (skips_bare held dropped gap qs (call p vs ∷ r.0), values_bare qs (call p vs ∷ r.0), ← k)
      (ap Ok (put_call w (gap + c) p vs r ∙ ap (λ (y : Draft × ℕ). spots_put held dropped y.0 y.1 r) o))

  -- at the group's end no call is left
  pub put_end : (w : Draft) (gap : ℕ) (places ml : List ℕ) → on_done (spots_put held dropped w gap) (Ok (map bare places, ml)) ≡ Ok (w, ml)
  put_end w gap places ml =
      rw (← append-nil (map bare places), skips_bare held dropped gap places [], values_bare places [])
      (ap (λ (x : Draft). Ok (x, ml)) (more_none w))

-- ---- a group

module _ (e : Edit) (h : List ℕ) where
  -- the header, the entries, the ';'
  pub put_group : (w : Draft) (x : Outcome (List Spot × List ℕ))
      → on_done (group_put e w) (and_then x (λ r. Ok (record { header = h; spots = r.0 }, r.1)))
      ≡ on_done (λ (y : Draft × List ℕ). (more y.0 (59 ∷ []) [], y.1)) (on_done (spots_put (e.still_held (base_of h)) e.dropped (more w h []) 0) x)
  unfolding changed group_text
  put_group w (Err r) = refl
  put_group w (Ok r) =
      let ss = change (e.still_held (base_of h)) e.dropped r.0 in
      let t : List ℕ = entries_text (skips_from 0 ss) in
      let v : List ℕ = concat_map values_of ss in
      ap (λ (y : Draft). Ok (y, r.1))
      (ap (λ (u : List ℕ). more w (h ++ t ++ 59 ∷ []) u) (sym (append-nil v))
      ∙ more_append w (h ++ t) (59 ∷ []) v []
      ∙ ap (λ (y : Draft). more y (59 ∷ []) []) (more_append w h t [] v))

-- the header, by what its store leaves
pub header_stored : (t : List ℕ) (v h t' : List ℕ) (n : ℕ) → n ≡ 0 + length h → t' ≡ sets t 0 h → more (draft t 0 v 0) h [] ≡ draft t' n v 0
header_stored t v h t' n p q = λ j. draft (sym q j) (sym p j) v 0

-- the ';', by what its store leaves
pub close_stored : (t : List ℕ) (n : ℕ) (v : List ℕ) (m : ℕ) (t' : List ℕ) → t' ≡ set t n 59 → more (draft t n v m) (59 ∷ []) [] ≡ draft t' (n + 1) v m
close_stored t n v m t' q = λ j. draft (sym q j) (n + 1) v (add-zero m j)

-- one group: its header h, k values to an entry, over the base b
module _ (lo : ℕ) (after marks : List ℕ) (ml? : Bool) (seq t : List ℕ) (at : ℕ) (h : List ℕ)
    (q : h ≡ field_of (drop at t)) (ml : List ℕ) (long : 2 ≤ length h) (k b : ℕ) (u : Bool) (kh : k ≡ values_if ml? h) (bh : b ≡ base_of h) (uh : u ≡ ends_in_question h) where
  abbrev spots_read : Outcome (List Spot × List ℕ)
  spots_read = read_spots k (denied_in marks u) (led_by 44 (up_to 59 (drop (at + length h) t))) (tracked b seq) ml

  group_read : read_group ml? (is_marked marks) seq (up_to 59 (drop at t)) ml ≡ and_then spots_read (λ r. Ok (record { header = h; spots = r.0 }, r.1))
  group_read =
      group_on ml? (is_marked marks) seq t at h q ml long
      ∙ (λ j. and_then (read_spots (sym kh j) (λ p. is_marked marks p && not (sym uh j)) (led_by 44 (up_to 59 (drop (at + length h) t)))
      (tracked (sym bh j) seq) ml)
      (λ r. Ok (record { header = h; spots = r.0 }, r.1)))

  pub group_refused : (r : Refusal) → spots_read ≡ Err r → read_group ml? (is_marked marks) seq (up_to 59 (drop at t)) ml ≡ Err r
  group_refused r e = group_read ∙ rw e

  pub group_put_lem : (out v out₁ : List ℕ) (n : ℕ) → n ≡ 0 + length h → out₁ ≡ sets out 0 h
      → (out₂ : List ℕ) (n₂ : ℕ) (v₂ : List ℕ) (m₂ : ℕ) (left out₃ : List ℕ)
      → on_done (spots_put (held_in lo after b) (is_marked marks) (draft out₁ n v 0) 0) spots_read ≡ Ok (draft out₂ n₂ v₂ m₂, left) → out₃ ≡ set out₂ n₂ 59
      → on_done (group_put (window_edit lo after marks) (draft out 0 v 0)) (read_group ml? (is_marked marks) seq (up_to 59 (drop at t)) ml)
      ≡ Ok (draft out₃ (n₂ + 1) v₂ m₂, left)
  group_put_lem out v out₁ n sized stored out₂ n₂ v₂ m₂ left out₃ e closed =
      let e' : Edit = window_edit lo after marks in
      ap (on_done (group_put e' (draft out 0 v 0))) group_read
      ∙ put_group e' h (draft out 0 v 0) spots_read
      ∙ ap (on_done (λ (y : Draft × List ℕ). (more y.0 (59 ∷ []) [], y.1)))
      ((λ j. on_done (spots_put (held_in lo after (sym bh j)) (is_marked marks) (header_stored out v h out₁ n sized stored j) 0) spots_read) ∙ e)
      ∙ ap (λ (y : Draft). Ok (y, left)) (close_stored out₂ n₂ v₂ m₂ out₃ closed)

-- ---- a tag

module _ (e : Edit) where
  -- one group more
  pub put_groups : (w : Draft) (g : Group) (left : List ℕ) (w' : Draft) → group_put e w (g, left) ≡ (w', left) → (o : Outcome (List Group))
      → on_done (tag_put w) (edited_groups e (and_then o (λ rest. Ok (g ∷ rest)))) ≡ on_done (tag_put w') (edited_groups e o)
  unfolding written text_of ml_of
  put_groups w g left w' k (Err r) = refl
  put_groups w g left w' k (Ok gs) =
      let rest : Tag = written (map (changed e) gs) in
      ap Ok
      (more_append w (group_text (changed e g)) rest.text (concat_map values_of (changed e g).spots) rest.ml
      ∙ ap (λ (y : Draft). more y rest.text rest.ml) (ap (λ (y : Draft × List ℕ). y.0) k))

  -- no group more
  pub put_none : (w : Draft) → on_done (tag_put w) (edited_groups e (Ok [])) ≡ Ok w
  unfolding written text_of ml_of
  put_none w = ap Ok (more_none w)

-- a refusal is the reading's own
pub put_refused : (e : Edit) (w : Draft) (o : Outcome (List Group)) (r : Refusal) → on_done (tag_put w) (edited_groups e o) ≡ Err r → o ≡ Err r
put_refused e w (Err q) r h = let s : q ≡ r = cc in rw s
put_refused e w (Ok gs) r h = let z : ◌≡◌ {A = ℕ} 0 1 = cc in absurd (omega arith)

-- what is stored into the parts that begin where the rows' written parts end, or into empty parts if the rows end before, is in the rows
pub in_parts : (t : List ℕ) (n : ℕ) (v : List ℕ) (m : ℕ) (room ml_room : ℕ) → room ≡ min n (length t) → ml_room ≡ min m (length v)
    → (x y t' : List ℕ) (n' : ℕ) (v' : List ℕ) (m' : ℕ) → more (draft (drop room t) 0 (drop ml_room v) 0) x y ≡ draft t' n' v' m'
    → more (draft t n v m) x y ≡ draft (take room t ++ t') (n + n') (take ml_room v ++ v') (m + m')
in_parts t n v m room ml_room p q x y t' n' v' m' h =
    let text : sets t n x ≡ take room t ++ t' =
    sym (sets_part t n room x p) ∙ ap (λ (w : Draft). take room t ++ w.text) h in
    let values : sets v m y ≡ take ml_room v ++ v' =
    sym (sets_part v m ml_room y q) ∙ ap (λ (w : Draft). take ml_room v ++ w.ml) h in
    let end : n + length x ≡ n + n' = omega (arith, ap (λ (w : Draft). w.end) h) in
    let kept : m + length y ≡ m + m' = omega (arith, ap (λ (w : Draft). w.kept) h) in
    λ j. draft (text j) (end j) (values j) (kept j)

-- ---- one turn over groups: the group at `at`, and those after it

module _ (e : Edit) (ml? : Bool) (seq t : List ℕ) (at : ℕ) (l : at < length t) (last : last_or 0 t ≡ 59) (ml : List ℕ) where
  pub groups_refused : (r : Refusal) → read_group ml? e.dropped seq (up_to 59 (drop at t)) ml ≡ Err r
      → read_groups ml? e.dropped seq (closed_by 59 (drop at t)) ml ≡ Err r
  groups_refused r h = groups_at ml? e.dropped seq t at l last ml ∙ rw h

  groups_next : (g : Group) (left : List ℕ) (next : ℕ) → read_group ml? e.dropped seq (up_to 59 (drop at t)) ml ≡ Ok (g, left)
      → next ≡ at + length (up_to 59 (drop at t)) + 1
      → read_groups ml? e.dropped seq (closed_by 59 (drop at t)) ml
      ≡ and_then (read_groups ml? e.dropped seq (closed_by 59 (drop next t)) left) (λ gs. Ok (g ∷ gs))
  groups_next g left next h s = groups_at ml? e.dropped seq t at l last ml ∙ rw (h, s)

  pub groups_turn : (out : List ℕ) (n : ℕ) (v : List ℕ) (m room ml_room : ℕ) → room ≡ min n (length out) → ml_room ≡ min m (length v)
      → (next : ℕ) → next ≡ at + length (up_to 59 (drop at t)) + 1 → (t' : List ℕ) (n' : ℕ) (v' : List ℕ) (m' : ℕ) (left : List ℕ)
      → on_done (group_put e (draft (drop room out) 0 (drop ml_room v) 0)) (read_group ml? e.dropped seq (up_to 59 (drop at t)) ml)
      ≡ Ok (draft t' n' v' m', left)
      → on_done (tag_put (draft out n v m)) (edited_groups e (read_groups ml? e.dropped seq (closed_by 59 (drop at t)) ml))
      ≡ on_done (tag_put (draft (take room out ++ t') (n + n') (take ml_room v ++ v') (m + m')))
      (edited_groups e (read_groups ml? e.dropped seq (closed_by 59 (drop next t)) left))
  groups_turn out n v m room ml_room p q next s t' n' v' m' left h =
      let i = on_done_inv (group_put e (draft (drop room out) 0 (drop ml_room v) 0)) (read_group ml? e.dropped seq (up_to 59 (drop at t)) ml)
      (draft t' n' v' m', left) h in
      let g : Group = i.0.0 in
      let stored : more (draft (drop room out) 0 (drop ml_room v) 0) (group_text (changed e g)) (concat_map values_of (changed e g).spots)
      ≡ draft t' n' v' m' =
      ap (λ (y : Draft × List ℕ). y.0) i.2 in
      let rest : Outcome (List Group) = read_groups ml? e.dropped seq (closed_by 59 (drop next t)) left in
      let same : i.0.1 ≡ left = ap (λ (y : Draft × List ℕ). y.1) i.2 in
      let w : Draft = draft (take room out ++ t') (n + n') (take ml_room v ++ v') (m + m') in
      let whole : more (draft out n v m) (group_text (changed e g)) (concat_map values_of (changed e g).spots) ≡ w =
      in_parts out n v m room ml_room p q (group_text (changed e g)) (concat_map values_of (changed e g).spots) t' n' v' m' stored in
      let reads : read_groups ml? e.dropped seq (closed_by 59 (drop at t)) ml ≡ and_then rest (λ gs. Ok (g ∷ gs)) =
      groups_next g i.0.1 next i.1 s
      ∙ ap (λ (x : List ℕ). and_then (read_groups ml? e.dropped seq (closed_by 59 (drop next t)) x) (λ gs. Ok (g ∷ gs))) same in
      ap (λ (o : Outcome (List Group)). on_done (tag_put (draft out n v m)) (edited_groups e o)) reads
      ∙ put_groups e (draft out n v m) g left w (ap (λ (y : Draft). (y, left)) whole) rest

-- Laws of a walk that lists calls: its columns and counts after one more call and after one more group.
-- Assumes nothing.
use Rattle.std.specs.Prelude.{Ok, Err}
use mathlib.Core.Path.{◌≡◌, refl, ◌∙◌, ap, sym}
use Prim.Native.Nat.{◌+◌, ◌<◌, ◌≤◌, suc, ℕ}
use native.Mathlib.Nat.{add-zero}
use native.Mathlib.Numerals.{add-one}
use native.Mathlib.Omega.{arith}
use mathlib.Core.Bool.{Bool}
use mathlib.Core.List.{List, [], ◌++◌, ◌∷◌, map}
use lib.ListN.{drop, length, length-append, set}
use lib.Seq.{sets}
use Rattle.lent.specs.Lists.{last_or}
use Rattle.lent.specs.Outcome.{Outcome, and_then, on_done}
use Rattle.lent.specs.declared.Refusal.{Refusal}
use Rattle.samtags.proofs.Read.{calls_bare}
use Rattle.samtags.specs.Meaning.{next}
use Rattle.samtags.specs.Reading.{Row, rows_from, rows_of, values_in, nowhere, read_group, read_spots, values_if, read_groups}
use Rattle.samtags.specs.Spots.{Call, Group, Spot, bare, call, calls_in, listing, tracked}
use Rattle.samtags.specs.Text.{base_of, led_by, up_to, closed_by}
use Rattle.places.proofs.TextLaws.{calls_none, group_on, groups_at}
use Rattle.fields.specs.Fields.{field_of}
use Rattle.scanning.specs.Scanning.{Columns, Finished, Listed, columns, finished, listed_group, listed_spots, with_rows}

-- ---- the columns

rows_more : (c : Columns) (n : ℕ) (r : Row) (rs : List Row)
    → with_rows c n (r ∷ rs) ≡ with_rows (columns (set c.groups n r.group) (set c.places n r.place) (set c.starts n r.start)) (n + 1) rs
rows_more c n r rs =
    let e : suc n ≡ n + 1 = sym (add-one n) in
    λ j. record {
      groups = sets (set c.groups n r.group) (e j) (map (λ (r : Row). r.group) rs);
      places = sets (set c.places n r.place) (e j) (map (λ (r : Row). r.place) rs);
      starts = sets (set c.starts n r.start) (e j) (map (λ (r : Row). r.start) rs);
    }

rows_append : (c : Columns) (n : ℕ) (xs ys : List Row) → with_rows c n (xs ++ ys) ≡ with_rows (with_rows c n xs) (n + length xs) ys
rows_append c n [] ys = rw (add-zero n)
rows_append c n (x ∷ xs) ys =
    let d : Columns = columns (set c.groups n x.group) (set c.places n x.place) (set c.starts n x.start) in
    let q : n + 1 + length xs ≡ n + suc (length xs) = omega arith in
    rows_more c n x (xs ++ ys) ∙ rows_append d (n + 1) xs ys
    ∙ (λ j. with_rows (sym (rows_more c n x xs) j) (q j) ys)

module _ (g : ℕ) (c : Columns) (n u : ℕ) where
  -- at the group's end
  pub list_end : (places ml : List ℕ) → on_done (listed_spots g c n u) (Ok (map bare places, ml)) ≡ Ok (record { rows = c; calls = n; used = u }, ml)
  list_end places ml = rw (calls_none places, add-zero n, add-zero u)

  -- one call more
  pub list_one : (ps : List ℕ) (p : ℕ) (vs : List ℕ) (k : ℕ) → length vs ≡ k → (x : Outcome (List Spot × List ℕ))
      → on_done (listed_spots g c n u) (and_then x (λ r. Ok (map bare ps ++ call p vs ∷ r.0, r.1)))
      ≡ on_done (listed_spots g (columns (set c.groups n g) (set c.places n p) (set c.starts n u)) (n + 1) (u + k)) x
  list_one ps p vs k l (Err r) = refl
  list_one ps p vs k l (Ok r) =
      let one = rows_more c n (record { group = g; place = p; start = u }) (rows_of g (u + k) (calls_in r.0)) in
      let count : n + suc (length (calls_in r.0)) ≡ n + 1 + length (calls_in r.0) = omega arith in
      let sum : u + (k + values_in (calls_in r.0)) ≡ u + k + values_in (calls_in r.0) = omega arith in
      rw (calls_bare ps (call p vs ∷ r.0), l) (λ j. Ok (record { rows = one j; calls = count j; used = sum j }, r.1))

-- ---- one group: its header h, k values to an entry, over the base b

module _ (ml? : Bool) (seq t : List ℕ) (at : ℕ) (h : List ℕ) (q : h ≡ field_of (drop at t)) (ml : List ℕ) (long : 2 ≤ length h)
    (k b : ℕ) (kh : k ≡ values_if ml? h) (bh : b ≡ base_of h) where
  abbrev spots_read : Outcome (List Spot × List ℕ)
  spots_read = read_spots k nowhere (led_by 44 (up_to 59 (drop (at + length h) t))) (tracked b seq) ml

  pub group_refused : (r : Refusal) → spots_read ≡ Err r → read_group ml? nowhere seq (up_to 59 (drop at t)) ml ≡ Err r
  group_refused r e = group_on ml? nowhere seq t at h q ml long ∙ rw (← kh, ← bh, e)

  pub group_listed : (g : ℕ) (c : Columns) (n u : ℕ)
      → on_done (listed_group g c n u) (read_group ml? nowhere seq (up_to 59 (drop at t)) ml) ≡ on_done (listed_spots g c n u) spots_read
  group_listed g c n u = ap (on_done (listed_group g c n u)) (group_on ml? nowhere seq t at h q ml long) ∙ rw (← kh, ← bh) (go spots_read)
    where
      go : (x : Outcome (List Spot × List ℕ))
          → on_done (listed_group g c n u) (and_then x (λ r. Ok (record { header = h; spots = r.0 }, r.1))) ≡ on_done (listed_spots g c n u) x
      go (Err r) = refl
      go (Ok r) = refl

pub rows_count : (g u : ℕ) (cs : List Call) → length (rows_of g u cs) ≡ length cs
rows_count g u [] = refl
rows_count g u (x ∷ cs) = ap suc (rows_count g (u + length x.values) cs)

-- the groups after one that left x
abbrev pub finished_after : ℕ → (List ℕ → Outcome (List Group)) → Listed × List ℕ → Outcome Finished
finished_after g rest x = on_done (finished (suc g) x.0.rows x.0.calls x.0.used) (rest x.1)

-- one group more
pub finish_one : (g : ℕ) (c : Columns) (n u : ℕ) (x : Outcome (Group × List ℕ)) (rest : List ℕ → Outcome (List Group))
    → on_done (finished g c n u) (and_then x (λ r. and_then (rest r.1) (λ gs. Ok (r.0 ∷ gs))))
    ≡ and_then (on_done (listed_group (suc g) c n u) x) (finished_after g rest)
finish_one g c n u (Err r) rest = refl
finish_one g c n u (Ok r) rest = go (rest r.1)
  where
    cs : List Call
    cs = calls_in r.0.spots

    go : (y : Outcome (List Group))
        → on_done (finished g c n u) (and_then y (λ gs. Ok (r.0 ∷ gs)))
        ≡ on_done (finished (suc g) (with_rows c n (rows_of (suc g) u cs)) (n + length cs) (u + values_in cs)) y
    go (Err q) = refl
    go (Ok gs) =
        let more : List Row = rows_from (suc (suc g)) (u + values_in cs) (map listing gs) in
        let here : length (rows_of (suc g) u cs) ≡ length cs = rows_count (suc g) u cs in
        let cols : with_rows c n (rows_of (suc g) u cs ++ more) ≡ with_rows (with_rows c n (rows_of (suc g) u cs)) (n + length cs) more =
        rows_append c n (rows_of (suc g) u cs) more ∙ ap (λ (k : ℕ). with_rows (with_rows c n (rows_of (suc g) u cs)) (n + k) more) here in
        let count : n + length (rows_of (suc g) u cs ++ more) ≡ n + length cs + length more = omega (arith, here, length-append (rows_of (suc g) u cs) more) in
        let groups : g + suc (length gs) ≡ suc g + length gs = omega arith in
        λ j. Ok (record { rows = cols j; groups = groups j; calls = count j })

-- no group more
pub finish_none : (g : ℕ) (c : Columns) (n u : ℕ) → on_done (finished g c n u) (Ok []) ≡ Ok (record { rows = c; groups = g; calls = n })
finish_none g c n u = rw (add-zero g, add-zero n)

-- ---- one turn over groups: the group at `at`, and those after it

module _ (ml? : Bool) (seq t : List ℕ) (at : ℕ) (l : at < length t) (last : last_or 0 t ≡ 59) (ml : List ℕ) where
  pub groups_refused : (r : Refusal) → read_group ml? nowhere seq (up_to 59 (drop at t)) ml ≡ Err r
      → read_groups ml? nowhere seq (closed_by 59 (drop at t)) ml ≡ Err r
  groups_refused r e = groups_at ml? nowhere seq t at l last ml ∙ rw e

  pub groups_turn : (g : ℕ) (c : Columns) (n u next group : ℕ) (x : Listed) (left : List ℕ)
      → next ≡ at + length (up_to 59 (drop at t)) + 1 → group ≡ g + 1
      → on_done (listed_group (g + 1) c n u) (read_group ml? nowhere seq (up_to 59 (drop at t)) ml) ≡ Ok (x, left)
      → on_done (finished g c n u) (read_groups ml? nowhere seq (closed_by 59 (drop at t)) ml)
      ≡ on_done (finished group x.rows x.calls x.used) (read_groups ml? nowhere seq (closed_by 59 (drop next t)) left)
  groups_turn g c n u next group x left p q e =
      let rest : List ℕ → Outcome (List Group) = λ r. read_groups ml? nowhere seq (closed_by 59 (drop (at + length (up_to 59 (drop at t)) + 1) t)) r in
      let s : g + 1 ≡ suc g = add-one g in
      let one : on_done (listed_group (suc g) c n u) (read_group ml? nowhere seq (up_to 59 (drop at t)) ml) ≡ Ok (x, left) = rw s at e in
      ap (on_done (finished g c n u)) (groups_at ml? nowhere seq t at l last ml)
      ∙ finish_one g c n u (read_group ml? nowhere seq (up_to 59 (drop at t)) ml) rest
      ∙ ap (λ (y : Outcome (Listed × List ℕ)). and_then y (finished_after g rest)) one
      ∙ rw (p, q, s)

-- Reading what was written gives back the groups.
-- Assumes nothing.
use Rattle.std.specs.Prelude.{Ok}
use mathlib.Core.Path.{◌≡◌, refl, sym, ◌∙◌}
use Prim.Native.Nat.{ℕ, suc}
use native.Mathlib.Omega.{arith}
use mathlib.Core.Bool.{Bool, true, false, cond}
use mathlib.Core.List.{List, [], ◌∷◌, ◌++◌, map, append-nil, append_assoc, map-append}
use lib.ListN.{length, take, drop, length-append}
use lib.Seq.{take_at, drop_at}
use lib.Dec.{leb, eqb}
use borrow.Author.Tests.{le-leb, eqb-true}
use Rattle.lent.specs.Lists.{every, concat_map, last_or}
use Rattle.lent.proofs.Tests.{and_true_l, and_true_r}
use Rattle.lent.proofs.Lists.{every_append, drop_step, take_step, take_whole, last_or_append, empty_of_length}
use Rattle.samtags.specs.Bytes.{comma, semicolon, is_ascii}
use Rattle.samtags.specs.Decimal.{digits}
use Rattle.samtags.specs.Text.{closed_by, base_of}
use Rattle.samtags.specs.Spots.{Spot, bare, call, place_of, values_of, Group, tracked}
use Rattle.samtags.specs.Reading.{nowhere, read_spots, values_if, read_group, read_groups, read}
use Rattle.samtags.specs.Writing.{skips_from, entries_text, text_of, ml_of}
use Rattle.samtags.proofs.Decimal.{digits_number, value_digits}
use Rattle.samtags.proofs.Text.{lacks, header_of, fields_of, group_of, group_ascii, entries_fields, digits_numbers}

-- a listed spot has k values
abbrev pub sized : ℕ → Spot → Bool
sized k (bare p) = true
sized k (call p vs) = eqb (length vs) k

-- The spots that the written numbers give back, where n places were passed already: those n places bare, and the spots.
read_spots_lem : (k n : ℕ) (ss : List Spot) (places ml : List ℕ) → drop n places ≡ map place_of ss → every (sized k) ss ≡ true
    → read_spots k nowhere (map digits (skips_from n ss)) places (concat_map values_of ss ++ ml) ≡ Ok (map bare (take n places) ++ ss, ml)
unfolding read_spots
read_spots_lem k n [] places ml e s = rw (take_whole n places e, append-nil (map bare places))
read_spots_lem k n (bare p ∷ ss) places ml e s =
    rw (read_spots_lem k (suc n) ss places ml (drop_step n places e) s, take_step n places e, map-append bare (take n places) (p ∷ []), append_assoc (map bare (take n places)) (bare p ∷ []) ss)
read_spots_lem k n (call p vs ∷ ss) places ml e s =
    let l : length vs ≡ k = eqb-true (length vs) k (and_true_l (eqb (length vs) k) (every (sized k) ss) s) in
    let more : List ℕ = concat_map values_of ss ++ ml in
    let long : leb k (length (vs ++ more)) ≡ true = le-leb k (length (vs ++ more)) (omega (arith, length-append vs more)) in
    rw (digits_number n, value_digits n, e, append_assoc vs (concat_map values_of ss) ml, long, take_at vs more, drop_at vs more, read_spots_lem k 0 ss (map place_of ss) ml refl (and_true_r (eqb (length vs) k) (every (sized k) ss) s))

-- A group that fits SEQ: its header is one that can be read, its spots are at the tracked places, each call has its values.
pub record Fits (ml? : Bool) (seq : List ℕ) (g : Group) : Type 0 where
  pub long : leb 2 (length g.header) ≡ true
  pub no_comma : lacks comma g.header ≡ true
  pub no_semi : lacks semicolon g.header ≡ true
  pub low : every is_ascii g.header ≡ true
  pub places : map place_of g.spots ≡ tracked (base_of g.header) seq
  pub sizes : every (sized (values_if ml? g.header)) g.spots ≡ true

abbrev pub AllFit : Bool → List ℕ → List Group → Type 0
AllFit ml? seq [] = Unit {0}
AllFit ml? seq (g ∷ gs) = Fits ml? seq g × AllFit ml? seq gs

-- one group, whatever of ML is left behind its own values
read_group_lem : (ml? : Bool) (seq : List ℕ) (g : Group) (ml : List ℕ) → Fits ml? seq g
    → read_group ml? nowhere seq (g.header ++ entries_text (skips_from 0 g.spots)) (concat_map values_of g.spots ++ ml) ≡ Ok (g, ml)
unfolding read_group
read_group_lem ml? seq g ml f =
    let h : List ℕ = g.header in
    let ns : List ℕ = skips_from 0 g.spots in
    rw (
      entries_fields ns,
      header_of h (map digits ns) (digits_numbers ns) f.no_comma,
      fields_of h (map digits ns) (digits_numbers ns) f.no_comma,
      f.long,
      read_spots_lem (values_if ml? h) 0 g.spots (tracked (base_of h) seq) ml (sym f.places) f.sizes,
    )

read_groups_lem : (ml? : Bool) (seq : List ℕ) (gs : List Group) → AllFit ml? seq gs
    → read_groups ml? nowhere seq (closed_by semicolon (text_of gs)) (ml_of gs) ≡ Ok gs
unfolding read_groups text_of ml_of
read_groups_lem ml? seq [] f = refl
read_groups_lem ml? seq (g ∷ gs) f =
    let h : List ℕ = g.header in
    let ns : List ℕ = skips_from 0 g.spots in
    let one = read_group_lem ml? seq g (ml_of gs) f.0 in
    rw (entries_fields ns, group_of h (map digits ns) (digits_numbers ns) (text_of gs) f.0.no_semi, ← entries_fields ns, one, read_groups_lem ml? seq gs f.1)

text_low : (ml? : Bool) (seq : List ℕ) (gs : List Group) → AllFit ml? seq gs → every is_ascii (text_of gs) ≡ true
unfolding text_of
text_low ml? seq [] f = refl
text_low ml? seq (g ∷ gs) f =
    let h : List ℕ = g.header in
    let ns : List ℕ = skips_from 0 g.spots in
    rw (
      every_append is_ascii (h ++ entries_text ns ++ semicolon ∷ []) (text_of gs),
      entries_fields ns,
      group_ascii h (map digits ns) (digits_numbers ns) f.0.low,
      text_low ml? seq gs f.1,
    )

text_last : (d : ℕ) (g : Group) (gs : List Group) → last_or d (text_of (g ∷ gs)) ≡ last_or semicolon (text_of gs)
unfolding text_of
text_last d g gs =
    let h : List ℕ = g.header ++ entries_text (skips_from 0 g.spots) in
    rw (last_or_append d (h ++ semicolon ∷ []) (text_of gs), last_or_append d h (semicolon ∷ []))

text_ends : (gs : List Group) → last_or semicolon (text_of gs) ≡ semicolon
unfolding text_of
text_ends [] = refl
text_ends (g ∷ gs) = text_last semicolon g gs ∙ text_ends gs

no_values : (ss : List Spot) → every (sized 0) ss ≡ true → concat_map values_of ss ≡ []
no_values [] s = refl
no_values (bare p ∷ ss) s = no_values ss s
no_values (call p vs ∷ ss) s =
    rw (empty_of_length vs (eqb-true (length vs) 0 (and_true_l (eqb (length vs) 0) (every (sized 0) ss) s)), no_values ss (and_true_r (eqb (length vs) 0) (every (sized 0) ss) s))

-- without an ML the groups have no values
pub no_ml : (seq : List ℕ) (gs : List Group) → AllFit false seq gs → ml_of gs ≡ []
unfolding ml_of values_if
no_ml seq [] f = refl
no_ml seq (g ∷ gs) f = rw (no_values g.spots f.0.sizes) (no_ml seq gs f.1)

-- what was written is read back
pub read_written : (ml? : Bool) (seq : List ℕ) (g : Group) (gs : List Group) (lent : List ℕ) → AllFit ml? seq (g ∷ gs)
    → read ml? nowhere seq (text_of (g ∷ gs)) (cond ml? (ml_of (g ∷ gs)) lent) ≡ Ok (g ∷ gs)
unfolding read
read_written true seq g gs lent f =
    rw (text_low true seq (g ∷ gs) f, text_last 0 g gs, text_ends gs) (read_groups_lem true seq (g ∷ gs) f)
read_written false seq g gs lent f =
    rw (text_low false seq (g ∷ gs) f, text_last 0 g gs, text_ends gs, ← no_ml seq (g ∷ gs) f) (read_groups_lem false seq (g ∷ gs) f)

-- Over upper-case bases, reading a built tag gives back exactly the calls that it was built from, for one strand and for two. A tag that is built for two
-- strands takes at most 64,010 bytes.
-- Assumes nothing.
use Rattle.std.specs.Prelude.{Ok, Option, None, Some}
use mathlib.Core.Path.{◌≡◌, refl, ap, ◌∙◌, subst}
use Prim.Native.Nat.{ℕ, suc, ◌+◌, ◌*◌, ◌≤◌}
use native.Mathlib.Omega.{arith}
use native.Mathlib.Nat.{mul-le-mul_right, suc-mul}
use mathlib.Core.Bool.{Bool, true, false, cond, not, ◌&&◌}
use mathlib.Core.List.{List, [], ◌∷◌, ◌++◌, map}
use lib.ListN.{length, length-append, length-map}
use lib.Dec.{leb, eqb}
use borrow.Author.Tests.{eqb-true, le-leb, leb-true}
use Rattle.lent.specs.Lists.{every, filter, is_empty, concat_map}
use Rattle.lent.proofs.Tests.{by-test, and_true, and_true_l, and_true_r, eqb_sym}
use Rattle.lent.proofs.Lists.{every_filter}
use Rattle.pattern.specs.Case.{upper, same_in_any_case}
use Rattle.pattern.specs.Patterns.{letter_of, is_enabled}
use Rattle.pattern.specs.declared.ConversionPattern.{ConversionPattern}
use Rattle.pattern.specs.declared.ConversionPattern.TheVariants.{CToT, GToA}
use Rattle.pattern.specs.declared.MethylationMode.{MethylationMode}
use Rattle.samtags.specs.Bytes.{comma, semicolon}
use Rattle.samtags.specs.Text.{base_of}
use Rattle.lent.specs.Outcome.{need}
use Rattle.samtags.specs.Spots.{Spot, bare, call, place_of, values_of, Group, Call, Listing, calls_in, listing, holds, places_from, tracked}
use Rattle.samtags.specs.Reading.{values_if, lists, in_domain, read_tag}
use Rattle.samtags.specs.Writing.{Tag, skips_from, entries_text, group_text, text_of, ml_of, written}
use Rattle.samtags.specs.Building.{Evidence, called_at, spot_at, header_of, strand_group, has_calls, built_tag, build_tag, evidence_in_domain, evidence_agrees, Strand, is_c_to_t, in_join_order, group_of, joined_groups, joined_tag, call_at, calls_from, evidence_calls}
use Rattle.lent.proofs.Outcome.{done_inj, need_test, need_rest, and_then_inv}
use Rattle.samtags.proofs.Skips.{entries_short}
use Rattle.samtags.proofs.SameText.{is_call, on_spots, text_same, ml_same}
use Rattle.samtags.proofs.ReadWritten.{sized, Fits, AllFit}
use Rattle.samtags.proofs.Places.{places_length}
use Rattle.samtags.proofs.Steps.{map_some, read_back}
use Rattle.samtags.proofs.Names.{upper_case}
use Rattle.samtags.proofs.ReadMeans.{no_u}

-- ---- over upper-case bases the builder's places are the reader's

-- a pattern's letter is in upper case, and not N
letter_upper : (p : ConversionPattern) → upper (letter_of p) ≡ letter_of p
unfolding upper
letter_upper CToT = refl
letter_upper GToA = refl

letter_not_n : (p : ConversionPattern) → eqb (letter_of p) 78 ≡ false
letter_not_n CToT = refl
letter_not_n GToA = refl

letter_base : (p : ConversionPattern) → base_of (header_of p) ≡ letter_of p
unfolding base_of upper
letter_base CToT = refl
letter_base GToA = refl

any_case_is : (p : ConversionPattern) (x : ℕ) → upper x ≡ x → same_in_any_case (letter_of p) x ≡ eqb x (letter_of p)
unfolding same_in_any_case
any_case_is p x u = rw (letter_upper p, u) (eqb_sym (letter_of p) x)

holds_is : (p : ConversionPattern) (x : ℕ) → holds (letter_of p) x ≡ eqb x (letter_of p)
unfolding holds
holds_is p x = rw (letter_not_n p)

places_same : (p : ConversionPattern) (i : ℕ) (xs : List ℕ) → upper_case xs ≡ true
    → places_from (same_in_any_case (letter_of p)) i xs ≡ places_from (holds (letter_of p)) i xs
places_same p i [] u = refl
places_same p i (x ∷ xs) u =
    let ux : upper x ≡ x = eqb-true (upper x) x (and_true_l (eqb (upper x) x) (upper_case xs) u) in
    rw (any_case_is p x ux, holds_is p x, places_same p (suc i) xs (and_true_r (eqb (upper x) x) (upper_case xs) u))

-- ---- with and without ML

-- a call with its values, or with no values if there is no ML
abbrev pub valued_call : Bool → Call → Call
valued_call ml? c = record { place = c.place; values = cond ml? c.values [] }

abbrev pub valued : Bool → Spot → Spot
valued ml? (bare p) = bare p
valued ml? (call p vs) = call p (cond ml? vs [])

abbrev pub valued_group : Bool → Group → Group
valued_group ml? g = on_spots (valued ml?) g

text_valued : (ml? : Bool) (gs : List Group) → text_of (map (valued_group ml?) gs) ≡ text_of gs
text_valued ml? = text_same (valued ml?) calls_stay
  where
    calls_stay : (s : Spot) → is_call (valued ml? s) ≡ is_call s
    calls_stay (bare p) = refl
    calls_stay (call p vs) = refl

values_stay : (s : Spot) → values_of (valued true s) ≡ values_of s
values_stay (bare p) = refl
values_stay (call p vs) = refl

ml_lent : (ml? : Bool) (gs : List Group) (lent : List ℕ) → cond ml? (ml_of (map (valued_group ml?) gs)) lent ≡ cond ml? (ml_of gs) lent
ml_lent true gs lent = ml_same (valued true) values_stay gs
ml_lent false gs lent = refl

calls_valued : (ml? : Bool) (ss : List Spot) → calls_in (map (valued ml?) ss) ≡ map (valued_call ml?) (calls_in ss)
calls_valued ml? [] = refl
calls_valued ml? (bare p ∷ ss) = calls_valued ml? ss
calls_valued ml? (call p vs ∷ ss) = ap (λ (r : List Call). record { place = p; values = cond ml? vs [] } ∷ r) (calls_valued ml? ss)

-- ---- a strand's group fits

spots_places : (ml? : Bool) (f : ℕ → Option ℕ) (ps : List ℕ) → map place_of (map (valued ml?) (map (λ q. spot_at (f q) q) ps)) ≡ ps
spots_places ml? f [] = refl
spots_places ml? f (p ∷ ps) = rw (one (f p), spots_places ml? f ps)
  where
    one : (v : Option ℕ) → place_of (valued ml? (spot_at v p)) ≡ p
    one None = refl
    one (Some v) = refl

spots_sized : (ml? : Bool) (f : ℕ → Option ℕ) (ps : List ℕ) → every (sized (cond ml? 1 0)) (map (valued ml?) (map (λ q. spot_at (f q) q) ps)) ≡ true
spots_sized ml? f [] = refl
spots_sized ml? f (p ∷ ps) = and_true _ _ (one ml? (f p)) (spots_sized ml? f ps)
  where
    one : (ml? : Bool) (v : Option ℕ) → sized (cond ml? 1 0) (valued ml? (spot_at v p)) ≡ true
    one ml? None = refl
    one true (Some v) = refl
    one false (Some v) = refl

one_value : (ml? : Bool) (p : ConversionPattern) → values_if ml? (header_of p) ≡ cond ml? 1 0
unfolding values_if
one_value true CToT = refl
one_value true GToA = refl
one_value false p = refl

strand_fits : (ml? : Bool) (mode : MethylationMode) (p : ConversionPattern) (ev : Evidence) (seq : List ℕ) → upper_case seq ≡ true
    → Fits ml? seq (valued_group ml? (strand_group mode p ev seq))
unfolding strand_group tracked
strand_fits ml? mode p ev seq u = record {
  long = long_header p;
  no_comma = no_comma_in p;
  no_semi = no_semi_in p;
  low = low_header p;
  places = spots_places ml? (called_at mode ev) (places_from (same_in_any_case (letter_of p)) 0 seq) ∙ places_same p 0 seq u ∙ rw (letter_base p);
  sizes = rw (one_value ml? p) (spots_sized ml? (called_at mode ev) (places_from (same_in_any_case (letter_of p)) 0 seq));
}
  where
    long_header : (p : ConversionPattern) → leb 2 (length (header_of p)) ≡ true
    long_header CToT = refl
    long_header GToA = refl

    no_comma_in : (p : ConversionPattern) → every (λ x. not (eqb x comma)) (header_of p) ≡ true
    no_comma_in CToT = refl
    no_comma_in GToA = refl

    no_semi_in : (p : ConversionPattern) → every (λ x. not (eqb x semicolon)) (header_of p) ≡ true
    no_semi_in CToT = refl
    no_semi_in GToA = refl

    low_header : (p : ConversionPattern) → every (λ b. leb b 127) (header_of p) ≡ true
    low_header CToT = refl
    low_header GToA = refl

-- ---- its calls are those that the evidence gives

one_call : (v : Option ℕ) (i : ℕ) (ss : List Spot) → calls_in (spot_at v i ∷ ss) ≡ call_at true v i (calls_in ss)
one_call None i ss = refl
one_call (Some v) i ss = refl

calls_from_lem : (mode : MethylationMode) (p : ConversionPattern) (ev : Evidence) (i : ℕ) (xs : List ℕ) → upper_case xs ≡ true
    → calls_in (map (λ q. spot_at (called_at mode ev q) q) (places_from (same_in_any_case (letter_of p)) i xs)) ≡ calls_from i mode p ev xs
unfolding calls_from
calls_from_lem mode p ev i [] u = refl
calls_from_lem mode p ev i (x ∷ xs) u =
    let ux : upper x ≡ x = eqb-true (upper x) x (and_true_l (eqb (upper x) x) (upper_case xs) u) in
    let rest = calls_from_lem mode p ev (suc i) xs (and_true_r (eqb (upper x) x) (upper_case xs) u) in
    rw (any_case_is p x ux)
    (by-test (eqb x (letter_of p))
    (λ e. rw e (one_call (called_at mode ev i) i (map (λ q. spot_at (called_at mode ev q) q) (places_from (same_in_any_case (letter_of p)) (suc i) xs)) ∙ ap (call_at true (called_at mode ev i) i) rest))
    (λ e. rw e rest))

strand_calls : (mode : MethylationMode) (p : ConversionPattern) (ev : Evidence) (seq : List ℕ) → upper_case seq ≡ true
    → calls_in (strand_group mode p ev seq).spots ≡ evidence_calls mode p ev seq
unfolding strand_group evidence_calls
strand_calls mode p ev seq u = calls_from_lem mode p ev 0 seq u

-- ---- what the tag lists

-- the listing that the evidence of a strand gives
abbrev pub evidence_listing : Bool → MethylationMode → ConversionPattern → Evidence → List ℕ → Listing
evidence_listing ml? mode p ev seq = record { header = header_of p; calls = map (valued_call ml?) (evidence_calls mode p ev seq) }

pub strand_lists : (ml? : Bool) (mode : MethylationMode) (p : ConversionPattern) (ev : Evidence) (seq : List ℕ) → upper_case seq ≡ true
    → listing (valued_group ml? (strand_group mode p ev seq)) ≡ evidence_listing ml? mode p ev seq
unfolding strand_group
strand_lists ml? mode p ev seq u =
    ap (λ (cs : List Call). record { header = header_of p; calls = cs })
    (calls_valued ml? (strand_group mode p ev seq).spots ∙ ap (map (valued_call ml?)) (strand_calls mode p ev seq u))

-- groups of strands, of which there is one, are read back with their calls
groups_read_back : (ml? : Bool) (seq : List ℕ) (gs : List Group) (lent : List ℕ) → AllFit ml? seq (map (valued_group ml?) gs) → is_empty gs ≡ false
    → lists ml? seq (written gs).text (cond ml? (written gs).ml lent) ≡ Ok (map listing (map (valued_group ml?) gs))
unfolding lists written
groups_read_back ml? seq gs lent f e =
    rw (← text_valued ml? gs, ← ml_lent ml? gs lent, read_back ml? seq (map (valued_group ml?) gs) lent f (map_some (valued_group ml?) gs e))

-- ---- one strand

pub no_u_lem : (ml? : Bool) (mode : MethylationMode) (p : ConversionPattern) (ev : Evidence) (seq : List ℕ)
    → eqb (base_of (evidence_listing ml? mode p ev seq).header) 85 ≡ false
no_u_lem ml? mode p ev seq = rw (letter_base p) (letter p)
  where
    letter : (p : ConversionPattern) → eqb (letter_of p) 85 ≡ false
    letter CToT = refl
    letter GToA = refl

-- a build that is done is what is built whatever the room
pub built_in_room : (ml? : Bool) (mode : MethylationMode) (p : ConversionPattern) (ev : Evidence) (seq : List ℕ) (t m : ℕ) (r : Tag)
    → build_tag ml? mode p ev seq t m ≡ Ok r → built_tag mode p ev seq ≡ Ok r
unfolding build_tag
built_in_room ml? mode p ev seq t m r e =
    let (w, built, fits) = and_then_inv (built_tag mode p ev seq) (λ (r : Tag). need (leb (length r.text) t && cond ml? (leb (length r.ml) m) true) 12 (Ok r)) r e in
    rw (done_inj (need_rest (leb (length w.text) t && cond ml? (leb (length w.ml) m) true) 12 (Ok w) r fits)) at built

-- and that is its strand's tag
pub built_tag_lem : (ml? : Bool) (mode : MethylationMode) (p : ConversionPattern) (ev : Evidence) (seq : List ℕ) (t m : ℕ) (r : Tag)
    → build_tag ml? mode p ev seq t m ≡ Ok r → written (strand_group mode p ev seq ∷ []) ≡ r
unfolding built_tag
built_tag_lem ml? mode p ev seq t m r e =
    let g = strand_group mode p ev seq in
    let e₂ = need_rest (evidence_in_domain ev seq) 1 _ r (built_in_room ml? mode p ev seq t m r e) in
    let e₃ = need_rest (evidence_agrees ev seq) 2 _ r e₂ in
    done_inj (need_rest (is_enabled mode && has_calls g) 20 (Ok (written (g ∷ []))) r e₃)

-- What is built, with and without ML, is read, and lists exactly the calls of the evidence.
pub built_is_read : (ml? : Bool) (mode : MethylationMode) (p : ConversionPattern) (ev : Evidence) (seq : List ℕ) (t m : ℕ) (r : Tag) (lent : List ℕ)
    → upper_case seq ≡ true → build_tag ml? mode p ev seq t m ≡ Ok r
    → lists ml? seq r.text (cond ml? r.ml lent) ≡ Ok (evidence_listing ml? mode p ev seq ∷ [])
built_is_read ml? mode p ev seq t m r lent u e =
    subst (λ (q : Tag). lists ml? seq q.text (cond ml? q.ml lent) ≡ Ok (evidence_listing ml? mode p ev seq ∷ [])) (built_tag_lem ml? mode p ev seq t m r e)
    (groups_read_back ml? seq (strand_group mode p ev seq ∷ []) lent (strand_fits ml? mode p ev seq u, tt) refl
    ∙ ap (λ (l : Listing). Ok (l ∷ [])) (strand_lists ml? mode p ev seq u))

-- ---- strands joined

abbrev pub listing_of : Bool → MethylationMode → List ℕ → Strand → Listing
listing_of ml? mode seq s = evidence_listing ml? mode s.pattern s.evidence seq

-- the listings of the strands that have a call, C to T first
abbrev pub joined_listings : Bool → MethylationMode → List Strand → List ℕ → List Listing
joined_listings ml? mode strands seq =
    cond (is_enabled mode) (filter (λ (l : Listing). not (is_empty l.calls)) (map (listing_of ml? mode seq) (in_join_order strands))) []

all_fit_filter : (ml? : Bool) (seq : List ℕ) (t : Group → Bool) (gs : List Group) → AllFit ml? seq (map (valued_group ml?) gs)
    → AllFit ml? seq (map (valued_group ml?) (filter t gs))
all_fit_filter ml? seq t [] f = tt
all_fit_filter ml? seq t (g ∷ gs) f =
    by-test (t g) (λ e. rw e (f.0, all_fit_filter ml? seq t gs f.1)) (λ e. rw e (all_fit_filter ml? seq t gs f.1))

some_valued : (ml? : Bool) (ss : List Spot) → is_empty (calls_in (map (valued ml?) ss)) ≡ is_empty (calls_in ss)
some_valued ml? [] = refl
some_valued ml? (bare p ∷ ss) = some_valued ml? ss
some_valued ml? (call p vs ∷ ss) = refl

-- a group has calls exactly when its listing has
lists_filter : (ml? : Bool) (gs : List Group)
    → map listing (map (valued_group ml?) (filter has_calls gs)) ≡ filter (λ (l : Listing). not (is_empty l.calls)) (map listing (map (valued_group ml?) gs))
lists_filter ml? [] = refl
lists_filter ml? (g ∷ gs) =
    rw (some_valued ml? g.spots)
    (by-test (is_empty (calls_in g.spots)) (λ e. rw e (lists_filter ml? gs)) (λ e. rw (e, lists_filter ml? gs)))

module _ (ml? : Bool) (mode : MethylationMode) (seq : List ℕ) (u : upper_case seq ≡ true) where
  all_fit : (strands : List Strand) → AllFit ml? seq (map (valued_group ml?) (map (group_of mode seq) strands))
  all_fit [] = tt
  all_fit (s ∷ ss) = (strand_fits ml? mode s.pattern s.evidence seq u, all_fit ss)

  all_list : (strands : List Strand) → map listing (map (valued_group ml?) (map (group_of mode seq) strands)) ≡ map (listing_of ml? mode seq) strands
  all_list [] = refl
  all_list (s ∷ ss) = rw (strand_lists ml? mode s.pattern s.evidence seq u, all_list ss)

  joined_fit : (strands : List Strand) → AllFit ml? seq (map (valued_group ml?) (joined_groups mode strands seq))
  unfolding joined_groups
  joined_fit strands =
      by-test (is_enabled mode)
      (λ e. rw e (all_fit_filter ml? seq has_calls (map (group_of mode seq) (in_join_order strands)) (all_fit (in_join_order strands))))
      (λ e. rw e tt)

  pub joined_list : (strands : List Strand) → map listing (map (valued_group ml?) (joined_groups mode strands seq)) ≡ joined_listings ml? mode strands seq
  unfolding joined_groups
  joined_list strands =
      by-test (is_enabled mode)
      (λ e. rw e (lists_filter ml? (map (group_of mode seq) (in_join_order strands))
      ∙ ap (filter (λ (l : Listing). not (is_empty l.calls))) (all_list (in_join_order strands))))
      (λ e. rw e)

  -- What is built for strands, where it has a call, is accepted by the reader and lists exactly the calls of all, C to T first.
  pub joined_is_read : (strands : List Strand) (lent : List ℕ) → is_empty (joined_groups mode strands seq) ≡ false
      → lists ml? seq (joined_tag mode strands seq).text (cond ml? (joined_tag mode strands seq).ml lent) ≡ Ok (joined_listings ml? mode strands seq)
  unfolding joined_tag
  joined_is_read strands lent e = groups_read_back ml? seq (joined_groups mode strands seq) lent (joined_fit strands) e ∙ ap Ok (joined_list strands)

strands_no_u : (ml? : Bool) (mode : MethylationMode) (seq : List ℕ) (strands : List Strand) → no_u (map (listing_of ml? mode seq) strands) ≡ true
strands_no_u ml? mode seq [] = refl
strands_no_u ml? mode seq (s ∷ ss) = rw (no_u_lem ml? mode s.pattern s.evidence seq, strands_no_u ml? mode seq ss)

pub joined_no_u : (ml? : Bool) (mode : MethylationMode) (strands : List Strand) (seq : List ℕ) → no_u (joined_listings ml? mode strands seq) ≡ true
joined_no_u ml? mode strands seq =
    by-test (is_enabled mode)
    (λ e. rw e (every_filter _ (λ (l : Listing). not (is_empty l.calls)) (map (listing_of ml? mode seq) (in_join_order strands))
    (strands_no_u ml? mode seq (in_join_order strands))))
    (λ e. rw e)

-- ---- how long a built tag is

-- a strand's text and values, over n bases
abbrev Short : ℕ → Group → Type 0
Short n g = (length (group_text g) ≤ 2 * n + 5) × (length (concat_map values_of g.spots) ≤ n)

values_short : (f : ℕ → Option ℕ) (ps : List ℕ) → length (concat_map values_of (map (λ q. spot_at (f q) q) ps)) ≤ length ps
values_short f [] = omega arith
values_short f (p ∷ ps) = one (f p) (concat_map values_of (map (λ q. spot_at (f q) q) ps)) (values_short f ps)
  where
    one : (v : Option ℕ) (vs : List ℕ) → length vs ≤ length ps → length (values_of (spot_at v p) ++ vs) ≤ suc (length ps)
    one None vs h = omega arith
    one (Some v) vs h = omega arith

strand_short : (mode : MethylationMode) (p : ConversionPattern) (ev : Evidence) (seq : List ℕ) → Short (length seq) (strand_group mode p ev seq)
unfolding strand_group group_text
strand_short mode p ev seq =
    let places = places_from (same_in_any_case (letter_of p)) 0 seq in
    let spots = map (λ q. spot_at (called_at mode ev q) q) places in
    let few = places_length (same_in_any_case (letter_of p)) 0 seq in (
      omega (
        arith,
        few,
        length-map places (λ q. spot_at (called_at mode ev q) q),
        entries_short 0 spots,
        length-append (header_of p) (entries_text (skips_from 0 spots)),
        length-append (header_of p ++ entries_text (skips_from 0 spots)) (semicolon ∷ []),
      ),
      omega (arith, few, values_short (called_at mode ev) places),
    )

-- as many strands as there are groups, each short
filter_short : (n : ℕ) (t : Group → Bool) (mode : MethylationMode) (seq : List ℕ) → length seq ≡ n → (strands : List Strand)
    → (length (text_of (filter t (map (group_of mode seq) strands))) ≤ length strands * (2 * n + 5))
    × (length (ml_of (filter t (map (group_of mode seq) strands))) ≤ length strands * n)
unfolding text_of ml_of
filter_short n t mode seq l [] = (omega arith, omega arith)
filter_short n t mode seq l (s ∷ ss) =
    let g = group_of mode seq s in
    let rest = filter t (map (group_of mode seq) ss) in
    let short : Short n g = subst (λ (k : ℕ). Short k g) l (strand_short mode s.pattern s.evidence seq) in
    let more = filter_short n t mode seq l ss in
    let one : suc (length ss) * (2 * n + 5) ≡ length ss * (2 * n + 5) + (2 * n + 5) = suc-mul (length ss) (2 * n + 5) in
    let two : suc (length ss) * n ≡ length ss * n + n = suc-mul (length ss) n in
    by-test (t g)
    (λ e. rw e (
      omega (arith, short.0, more.0, one, length-append (group_text g) (text_of rest)),
      omega (arith, short.1, more.1, two, length-append (concat_map values_of g.spots) (ml_of rest)),
    ))
    (λ e. rw e (omega (arith, more.0, one), omega (arith, more.1, two)))

-- sorting the strands leaves as many
order_length : (strands : List Strand) → length (in_join_order strands) ≡ length strands
order_length strands = length-append (filter is_c_to_t strands) (filter (λ s. not (is_c_to_t s)) strands) ∙ parted strands
  where
    parted : (ss : List Strand) → length (filter is_c_to_t ss) + length (filter (λ s. not (is_c_to_t s)) ss) ≡ length ss
    parted [] = refl
    parted (s ∷ ss) = by-test (is_c_to_t s) (λ e. rw e (omega (arith, parted ss))) (λ e. rw e (omega (arith, parted ss)))

-- A tag built for at most two strands on at most 16,000 bases takes at most 64,010 bytes of text and 32,000 of ML. So it can always be edited.
pub joined_fits_the_domain : (mode : MethylationMode) (strands : List Strand) (seq : List ℕ) → length strands ≤ 2 → length seq ≤ 16000
    → (length (joined_tag mode strands seq).text ≤ 64010) × (length (joined_tag mode strands seq).ml ≤ 32000)
unfolding joined_tag joined_groups
joined_fits_the_domain mode strands seq few h =
    let s = filter_short (length seq) has_calls mode seq refl (in_join_order strands) in
    let ends = at_most_two (length strands) (length seq) few h in
    by-test (is_enabled mode)
    (λ e. rw e (omega (arith, (rw (order_length strands) at s.0), ends.0), omega (arith, (rw (order_length strands) at s.1), ends.1)))
    (λ e. rw e (omega arith, omega arith))
  where
    at_most_two : (k n : ℕ) → k ≤ 2 → n ≤ 16000 → (k * (2 * n + 5) ≤ 64010) × (k * n ≤ 32000)
    at_most_two k n a b = (omega (arith, mul-le-mul_right (2 * n + 5) a), omega (arith, mul-le-mul_right n a))

-- ---- the public reader takes what is built

in_domain_lem : (ml? : Bool) (seq : List ℕ) (r : Tag) (lent : List ℕ) → length seq ≤ 16000 → length r.text ≤ 65536 → length r.ml ≤ 65536
    → in_domain ml? seq r.text (cond ml? r.ml lent) ≡ true
in_domain_lem true seq r lent a b c = rw (le-leb (length seq) 16000 a, le-leb (length r.text) 65536 b, le-leb (length r.ml) 65536 c)
in_domain_lem false seq r lent a b c = rw (le-leb (length seq) 16000 a, le-leb (length r.text) 65536 b)

-- what is built for one strand is no longer than the domain allows
built_short : (ml? : Bool) (mode : MethylationMode) (p : ConversionPattern) (ev : Evidence) (seq : List ℕ) (t m : ℕ) (r : Tag)
    → build_tag ml? mode p ev seq t m ≡ Ok r → (length seq ≤ 16000) × (length r.text ≤ 32005) × (length r.ml ≤ 16000)
unfolding built_tag written text_of ml_of
built_short ml? mode p ev seq t m r e =
    let g = strand_group mode p ev seq in
    let short = strand_short mode p ev seq in
    let inside = need_test (evidence_in_domain ev seq) 1 _ r (built_in_room ml? mode p ev seq t m r e) in
    let size : length seq ≤ 16000 = leb-true (length seq) 16000 (and_true_l (leb (length seq) 16000) _ (and_true_l _ _ (and_true_l _ _ inside))) in
    let same = built_tag_lem ml? mode p ev seq t m r e in
    subst (λ (q : Tag). (length seq ≤ 16000) × (length q.text ≤ 32005) × (length q.ml ≤ 16000)) same (
      size,
      omega (arith, short.0, length-append (group_text g) []),
      omega (arith, short.1, length-append (concat_map values_of g.spots) []),
    )

-- A built tag, with or without ML, is accepted by the public reader and lists exactly the calls of the evidence.
pub built_is_accepted : (ml? : Bool) (mode : MethylationMode) (p : ConversionPattern) (ev : Evidence) (seq : List ℕ) (t m : ℕ) (r : Tag) (lent : List ℕ)
    → upper_case seq ≡ true → build_tag ml? mode p ev seq t m ≡ Ok r
    → read_tag ml? seq r.text (cond ml? r.ml lent) ≡ Ok (evidence_listing ml? mode p ev seq ∷ [])
unfolding read_tag
built_is_accepted ml? mode p ev seq t m r lent u e =
    let s = built_short ml? mode p ev seq t m r e in
    rw (in_domain_lem ml? seq r lent s.0 (omega (arith, s.1)) (omega (arith, s.2))) (built_is_read ml? mode p ev seq t m r lent u e)

pub joined_is_accepted : (ml? : Bool) (mode : MethylationMode) (strands : List Strand) (seq lent : List ℕ) → upper_case seq ≡ true → length strands ≤ 2
    → length seq ≤ 16000 → is_empty (joined_groups mode strands seq) ≡ false
    → read_tag ml? seq (joined_tag mode strands seq).text (cond ml? (joined_tag mode strands seq).ml lent) ≡ Ok (joined_listings ml? mode strands seq)
unfolding read_tag
joined_is_accepted ml? mode strands seq lent u few h e =
    let s = joined_fits_the_domain mode strands seq few h in
    rw (in_domain_lem ml? seq (joined_tag mode strands seq) lent h (omega (arith, s.0)) (omega (arith, s.1))) (joined_is_read ml? mode seq u strands lent e)

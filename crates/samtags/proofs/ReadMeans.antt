-- What the reader accepts means what SAMtags says: the text is spelled by pieces, and the listings are the calls that SAMtags gives for these pieces.
-- Assumes nothing.
use Rattle.std.specs.Prelude.{Ok}
use mathlib.Core.Path.{◌≡◌, refl, sym, ap, ◌∙◌, subst}
use Prim.Native.Nat.{ℕ, zero, suc, ◌+◌, ◌*◌, ◌≤◌, ◌<◌}
use native.Mathlib.Omega.{arith}
use native.Mathlib.Nat.{suc-mul}
use mathlib.Core.Bool.{Bool, true, false, cond, not}
use mathlib.Core.List.{List, [], ◌∷◌, ◌++◌, map, map-map, append-nil}
use lib.ListN.{length, get_or, take, drop, length-drop, length-map}
use lib.Seq.{drop-drop}
use lib.Dec.{eqb}
use borrow.Author.Tests.{leb-true, le-leb, eqb-true, not-true}
use Rattle.lent.specs.Lists.{every, is_empty, concat_map, last_or}
use Rattle.lent.proofs.Tests.{by-test, and_true, and_true_l, and_true_r}
use Rattle.lent.proofs.Lists.{drop_step, get_d_step, drop_more}
use Rattle.samtags.specs.Bytes.{comma, semicolon}
use Rattle.samtags.specs.Decimal.{is_number, value}
use Rattle.samtags.specs.Text.{up_to, led_by, closed_by, push, base_of}
use Rattle.samtags.specs.Spots.{Spot, bare, call, Group, Call, Listing, calls_in, listing, tracked}
use Rattle.samtags.specs.Reading.{nowhere, values_if, read, lists}
use Rattle.samtags.specs.Samtags.{letter_u, Names, ordinal, no_call, Entries, GroupMeans, TagMeans, no_group, a_group, Piece, led_by_commas, spelled, entries_of}
use Rattle.lent.proofs.Outcome.{done_inj, and_then_inv}
use Rattle.samtags.proofs.Read.{SpotsRead, no_entry, an_entry, GroupsRead, no_group_lem, a_group_lem, tag_read, calls_bare}
use Rattle.samtags.proofs.Text.{closed_by_some}
use Rattle.samtags.proofs.Names.{upper_case, base_upper, tracked_names}

-- ---- the entries of a group

-- Of the group's places, `whole`, n were passed before these entries.
pub record Entries-mean (k : ℕ) (fs : List (List ℕ)) (n : ℕ) (whole ml : List ℕ) (cs : List Call) (left : List ℕ) : Type 0 where
  pub as_many : length cs ≡ length fs
  pub within : (j : ℕ) → j < length fs → n + ordinal (map value fs) j < length whole
  pub places : (j : ℕ) → j < length fs → (get_or cs j no_call).place ≡ get_or whole (n + ordinal (map value fs) j) 0
  pub values : (j : ℕ) → j < length fs → (get_or cs j no_call).values ≡ take k (drop (j * k) ml)
  pub enough : length fs * k ≤ length ml
  pub rest : left ≡ drop (length fs * k) ml
  pub numbers : every is_number fs ≡ true

module _ (k v n : ℕ) (ml : List ℕ) where
  -- the ordinal of the first entry, and of one that follows it
  first_ordinal : (vs : List ℕ) → n + ordinal (v ∷ vs) 0 ≡ n + v
  first_ordinal vs = omega arith

  later_ordinal : (vs : List ℕ) (j : ℕ) → n + ordinal (v ∷ vs) (suc j) ≡ suc (n + v) + ordinal vs j
  later_ordinal vs j = omega arith

  -- the values of an entry that follows the first
  later_values : (j : ℕ) → take k (drop (j * k) (drop k ml)) ≡ take k (drop (suc j * k) ml)
  later_values j = let e : k + j * k ≡ suc j * k = omega (arith, suc-mul j k) in rw (drop-drop (j * k) k ml, e)

pub entries_mean : {k : ℕ} {fs : List (List ℕ)} {places ml : List ℕ} {ss : List Spot} {left : List ℕ} → SpotsRead k fs places ml ss left
    → (n : ℕ) (whole : List ℕ) → drop n whole ≡ places → Entries-mean k fs n whole ml (calls_in ss) left
entries_mean {k} (no_entry {places = places} {ml = ml}) n whole e =
    rw (← append-nil (map bare places), calls_bare places []) (record {
      as_many = refl;
      within = λ j h. let z : ⊥ = omega arith in absurd z;
      places = λ j h. let z : ⊥ = omega arith in absurd z;
      values = λ j h. let z : ⊥ = omega arith in absurd z;
      enough = omega arith;
      rest = let z : 0 * k ≡ 0 = omega arith in rw z;
      numbers = refl;
    })
entries_mean {k} (an_entry {f = f} {fs = fs} {places = places} {ml = ml} {p = p} {rest = rest} {ss = ss} {left = left} num e l r) n whole h =
    let there : drop (n + value f) whole ≡ p ∷ rest = sym (drop-drop (value f) n whole) ∙ ap (drop (value f)) h ∙ e in
    let ih = entries_mean r (suc (n + value f)) whole (drop_step (n + value f) whole there) in
    rw (calls_bare (take (value f) places) (call p (take k ml) ∷ ss))
    (with_first k f fs n whole ml p (calls_in ss) left num (drop_more (n + value f) whole there) (get_d_step (n + value f) whole 0 there) (leb-true k (length ml) l) ih)
  where
    with_first : (k : ℕ) (f : List ℕ) (fs : List (List ℕ)) (n : ℕ) (whole ml : List ℕ) (p : ℕ) (cs : List Call) (left : List ℕ)
        → is_number f ≡ true → n + value f < length whole → get_or whole (n + value f) 0 ≡ p → k ≤ length ml
        → Entries-mean k fs (suc (n + value f)) whole (drop k ml) cs left
        → Entries-mean k (f ∷ fs) n whole ml (record { place = p; values = take k ml } ∷ cs) left
    with_first k f fs n whole ml p cs left num inside at long ih = record {
      as_many = ap suc ih.as_many;
      within = λ j h. within_at j h;
      places = λ j h. place_at j h;
      values = λ j h. values_at j h;
      enough = omega (arith, suc-mul (length fs) k, ih.enough, length-drop k ml);
      rest = ih.rest ∙ rest_is;
      numbers = and_true (is_number f) (every is_number fs) num ih.numbers;
    }
      where
        within_at : (j : ℕ) → j < length (f ∷ fs) → n + ordinal (value f ∷ map value fs) j < length whole
        within_at zero h = rw (first_ordinal k (value f) n ml (map value fs)) inside
        within_at (suc j) h = rw (later_ordinal k (value f) n ml (map value fs) j) (ih.within j (omega arith))

        place_at : (j : ℕ) → j < length (f ∷ fs)
            → (get_or (record { place = p; values = take k ml } ∷ cs) j no_call).place ≡ get_or whole (n + ordinal (value f ∷ map value fs) j) 0
        place_at zero h = rw (first_ordinal k (value f) n ml (map value fs)) (sym at)
        place_at (suc j) h = rw (later_ordinal k (value f) n ml (map value fs) j) (ih.places j (omega arith))

        values_at : (j : ℕ) → j < length (f ∷ fs) → (get_or (record { place = p; values = take k ml } ∷ cs) j no_call).values ≡ take k (drop (j * k) ml)
        values_at zero h = let z : 0 * k ≡ 0 = omega arith in rw z
        values_at (suc j) h = ih.values j (omega arith) ∙ later_values k (value f) n ml j

        rest_is : drop (length fs * k) (drop k ml) ≡ drop (suc (length fs) * k) ml
        rest_is = let e : k + length fs * k ≡ suc (length fs) * k = omega (arith, suc-mul (length fs) k) in rw (drop-drop (length fs * k) k ml, e)

-- what the entries of a group on an upper-case SEQ mean
pub group_means : {k : ℕ} {fs : List (List ℕ)} {ml : List ℕ} {cs : List Call} {left : List ℕ} (h seq : List ℕ)
    → Entries-mean k fs 0 (tracked (base_of h) seq) ml cs left → upper_case seq ≡ true → eqb (base_of h) letter_u ≡ false
    → GroupMeans seq ml (record { base = base_of h; per = k; skips = map value fs }) cs
group_means {k} {fs} {ml} {cs} h seq m u nu = record {
  as_many_of = m.as_many ∙ sym (length-map fs value);
  names = λ j l. name j (rw (length-map fs value) at l);
  values = λ j l. m.values j (rw (length-map fs value) at l);
}
  where
    name : (j : ℕ) → j < length fs → Names (base_of h) seq (ordinal (map value fs) j) (get_or cs j no_call).place
    name j l =
        let z : 0 + ordinal (map value fs) j ≡ ordinal (map value fs) j = omega arith in
        let at : (get_or cs j no_call).place ≡ get_or (tracked (base_of h) seq) (ordinal (map value fs) j) 0 = m.places j l ∙ ap (λ (o : ℕ). get_or (tracked (base_of h) seq) o 0) z in
        rw at (tracked_names (base_of h) (base_upper h) nu seq u (ordinal (map value fs) j) (omega (arith, m.within j l)))

-- ---- the text is spelled by its pieces

abbrev pub piece_in : List ℕ → Piece
piece_in g = record { header = up_to comma g; skips = led_by comma g }

piece_spells : (g : List ℕ) → up_to comma g ++ led_by_commas (led_by comma g) ≡ g
piece_spells [] = refl
piece_spells (x ∷ xs) =
    by-test (eqb x comma)
    (λ e. rw (e, piece_spells xs) (ap (λ (y : ℕ). y ∷ xs) (sym (eqb-true x comma e))))
    (λ e. rw (e, piece_spells xs))

closing : List ℕ → List ℕ
closing g = g ++ semicolon ∷ []

push_spells : (x : ℕ) (ps : List (List ℕ)) → is_empty ps ≡ false → concat_map closing (push x ps) ≡ x ∷ concat_map closing ps
unfolding closing
push_spells x [] e = let z : ◌≡◌ {A = ℕ} 0 1 = cc in absurd (omega arith)
push_spells x (p ∷ ps) e = refl

closed_spells : (x : ℕ) (xs : List ℕ) → eqb (last_or x xs) semicolon ≡ true → concat_map closing (closed_by semicolon (x ∷ xs)) ≡ x ∷ xs
unfolding closing
closed_spells x [] e = rw e (ap (λ (y : ℕ). y ∷ []) (sym (eqb-true x semicolon e)))
closed_spells x (y ∷ ys) e =
    let ih = closed_spells y ys e in
    by-test (eqb x semicolon)
    (λ t. rw (t, ih) (ap (λ (z : ℕ). z ∷ y ∷ ys) (sym (eqb-true x semicolon t))))
    (λ t. rw (t, push_spells x (closed_by semicolon (y ∷ ys)) (closed_by_some (y ∷ ys) e), ih))

pieces_spell : (gs : List (List ℕ)) → spelled (map piece_in gs) ≡ concat_map closing gs
unfolding closing
pieces_spell [] = refl
pieces_spell (g ∷ gs) = rw (piece_spells g, pieces_spell gs)

text_spells : (text : List ℕ) → eqb (last_or 0 text) semicolon ≡ true → spelled (map piece_in (closed_by semicolon text)) ≡ text
text_spells [] e = let z : ◌≡◌ {A = ℕ} 0 1 = cc in absurd (omega arith)
text_spells (x ∷ xs) e = pieces_spell (closed_by semicolon (x ∷ xs)) ∙ closed_spells x xs e

-- ---- the whole tag

-- no group is on U
abbrev pub no_u : List Listing → Bool
no_u ls = every (λ (l : Listing). not (eqb (base_of l.header) letter_u)) ls

abbrev pub calls_of : List Listing → List (List Call)
calls_of ls = map (λ (l : Listing). l.calls) ls

-- what the text of a group means to the reader
abbrev pub read_entries : Bool → List ℕ → Entries
read_entries ml? g = entries_of base_of (values_if ml?) (piece_in g)

groups_mean : {ml? : Bool} {seq : List ℕ} {ps : List (List ℕ)} {ml : List ℕ} {gs : List Group} → GroupsRead ml? seq ps ml gs
    → upper_case seq ≡ true → no_u (map listing gs) ≡ true → TagMeans seq ml (map (read_entries ml?) ps) (calls_of (map listing gs))
groups_mean no_group_lem u n = no_group
groups_mean {ml?} {seq} (a_group_lem {g = g} {gs = ps} {ml = ml} {left = left} {ss = ss} {rest = rest} long r rs) u n =
    let h = up_to comma g in
    let fs = led_by comma g in
    let k = values_if ml? h in
    let m = entries_mean r 0 (tracked (base_of h) seq) refl in
    let here = not-true (eqb (base_of h) letter_u) (and_true_l (not (eqb (base_of h) letter_u)) (no_u (map listing rest)) n) in
    let size : length (map value fs) ≡ length fs = length-map fs value in
    a_group {gs = map (read_entries ml?) ps} {rest = calls_of (map listing rest)}
    (group_means h seq m u here)
    (rw size (le-leb (length fs * k) (length ml) m.enough))
    (rw (size, ← m.rest) (groups_mean rs u (and_true_r (not (eqb (base_of h) letter_u)) (no_u (map listing rest)) n)))

groups_headers : {ml? : Bool} {seq : List ℕ} {ps : List (List ℕ)} {ml : List ℕ} {gs : List Group} → GroupsRead ml? seq ps ml gs
    → map (λ (l : Listing). l.header) (map listing gs) ≡ map (λ (p : Piece). p.header) (map piece_in ps)
groups_headers no_group_lem = refl
groups_headers (a_group_lem {g = g} long r rs) = ap (λ (x : List (List ℕ)). up_to comma g ∷ x) (groups_headers rs)

groups_numbers : {ml? : Bool} {seq : List ℕ} {ps : List (List ℕ)} {ml : List ℕ} {gs : List Group} → GroupsRead ml? seq ps ml gs
    → every (λ (p : Piece). every is_number p.skips) (map piece_in ps) ≡ true
groups_numbers no_group_lem = refl
groups_numbers {ml?} {seq} (a_group_lem {g = g} long r rs) =
    and_true _ _ (entries_mean r 0 (tracked (base_of (up_to comma g)) seq) refl).numbers (groups_numbers rs)

-- the calls of a tag that is read, over the pieces of its text
pub tag_means : (ml? : Bool) (seq text ml : List ℕ) (ls : List Listing) → lists ml? seq text ml ≡ Ok ls → upper_case seq ≡ true → no_u ls ≡ true
    → TagMeans seq (cond ml? ml []) (map (read_entries ml?) (closed_by semicolon text)) (calls_of ls)
unfolding lists
tag_means ml? seq text ml ls e u n =
    let i = and_then_inv (read ml? nowhere seq text ml) _ ls e in
    let same : map listing i.0 ≡ ls = done_inj i.2 in
    subst (λ (l : List Listing). TagMeans seq (cond ml? ml []) (map (read_entries ml?) (closed_by semicolon text)) (calls_of l)) same
    (groups_mean (tag_read ml? nowhere seq text ml i.0 i.1).groups u (rw same n))

-- the headers of a tag that is read are those of the pieces of its text
pub listed_headers : (ml? : Bool) (seq text ml : List ℕ) (ls : List Listing) → lists ml? seq text ml ≡ Ok ls
    → map (λ (l : Listing). l.header) ls ≡ map (λ (p : Piece). p.header) (map piece_in (closed_by semicolon text))
unfolding lists
listed_headers ml? seq text ml ls e =
    let i = and_then_inv (read ml? nowhere seq text ml) _ ls e in
    rw (← done_inj i.2) (groups_headers (tag_read ml? nowhere seq text ml i.0 i.1).groups)

-- A tag that is read: some pieces spell its text, and its listings are what SAMtags says of these pieces. The meaning of a header is the reader's:
-- its base in upper case, and its values per base.
pub record Read-means (ml? : Bool) (seq text ml : List ℕ) (ls : List Listing) : Type 0 where
  pub pieces : List Piece
  pub spells : spelled pieces ≡ text
  pub numbers : every (λ (p : Piece). every is_number p.skips) pieces ≡ true
  pub headers : map (λ (l : Listing). l.header) ls ≡ map (λ (p : Piece). p.header) pieces
  pub means : TagMeans seq (cond ml? ml []) (map (entries_of base_of (values_if ml?)) pieces) (calls_of ls)

-- A tag that the reader accepts, on an upper-case SEQ and with no group on U, lists exactly the calls that SAMtags gives.
pub reading_means : (ml? : Bool) (seq text ml : List ℕ) (ls : List Listing) → lists ml? seq text ml ≡ Ok ls
    → upper_case seq ≡ true → no_u ls ≡ true → Read-means ml? seq text ml ls
unfolding lists
reading_means ml? seq text ml ls e u n =
    let i = and_then_inv (read ml? nowhere seq text ml) _ ls e in
    let t = tag_read ml? nowhere seq text ml i.0 i.1 in
    let ps = closed_by semicolon text in
    record {
      pieces = map piece_in ps;
      spells = text_spells text t.ends;
      numbers = groups_numbers t.groups;
      headers = listed_headers ml? seq text ml ls e;
      means = rw (map-map (entries_of base_of (values_if ml?)) piece_in ps) (tag_means ml? seq text ml ls e u n);
    }

-- What SAMtags allows is not refused: a tag that is spelled as SAMtags says and means some calls is read, and lists exactly these calls.
-- Assumes nothing.
use Rattle.std.specs.Prelude.{Ok}
use mathlib.Core.Path.{◌≡◌, refl, sym, ap, ap₂, ◌∙◌}
use Prim.Native.Nat.{ℕ, suc, ◌+◌, ◌*◌, ◌≤◌, ◌<◌}
use native.Mathlib.Omega.{arith}
use native.Mathlib.Nat.{suc-mul}
use mathlib.Core.Bool.{Bool, true, false, cond, not, ◌&&◌, ◌||◌}
use mathlib.Core.List.{List, [], ◌∷◌, ◌++◌, map}
use mathlib.Core.Logic.{◌⊎◌, inl, inr, ⊎_elim}
use lib.ListN.{length, get_or, take, drop, length-drop, length-map}
use lib.Seq.{drop-drop, drop-cons, ext_get_or}
use lib.Dec.{leb, eqb, lit<}
use borrow.Author.Tests.{leb-true, le-leb, eqb-true, ne_eqb, not-true}
use Rattle.lent.specs.Lists.{every, is_empty, among, last_or}
use Rattle.lent.proofs.Tests.{by-test, and_true, and_true_l, and_true_r}
use Rattle.lent.proofs.Lists.{every_append, every_imp, last_or_append}
use Rattle.pattern.specs.Case.{upper}
use Rattle.samtags.specs.Bytes.{ascii, comma, semicolon, is_digit, is_mark, is_ascii}
use Rattle.samtags.specs.Decimal.{is_number, value}
use Rattle.samtags.specs.Text.{closed_by, base_of, glue, without_marks, codes_of, values_per}
use Rattle.samtags.specs.Spots.{Spot, bare, call, Group, Call, Listing, calls_in, listing, tracked}
use Rattle.samtags.specs.Reading.{nowhere, read_spots, values_if, read_group, read_groups, read, lists, in_domain, read_tag}
use Rattle.samtags.specs.Samtags.{letter_u, ordinal, no_call, GroupMeans, TagMeans, no_group, a_group, Piece, led_by_commas, piece_text, spelled, Header, is_code_letter, is_mark_text, is_header, header_text, code_count, Spelled, is_spelling, piece_of, meaning_of}
use Rattle.samtags.proofs.Text.{among_every, lacks, header_of, fields_of, group_of, group_ascii}
use Rattle.samtags.proofs.Read.{spots_read}
use Rattle.samtags.proofs.Names.{upper_case, base_upper, names_tracked}
use Rattle.samtags.proofs.OneMeaning.{call_ext}
use Rattle.samtags.proofs.ReadMeans.{entries_mean, no_u, calls_of, listed_headers, piece_in, read_entries, tag_means}

-- ---- SAMtags' headers can be read

-- a byte from lo to hi, neither of which c lies between
range_not : (lo hi c x : ℕ) → (c < lo) ⊎ (hi < c) → leb lo x && leb x hi ≡ true → not (eqb x c) ≡ true
range_not lo hi c x o e =
    let l : lo ≤ x = leb-true lo x (and_true_l (leb lo x) (leb x hi) e) in
    let h : x ≤ hi = leb-true x hi (and_true_r (leb lo x) (leb x hi) e) in
    rw (ne_eqb x c (λ q. ⊎_elim (λ w. omega arith) (λ w. omega arith) o))

-- neither ',' nor ';' nor a mark, and ASCII
abbrev plain : ℕ → Bool
unfolding is_mark
plain x = not (eqb x comma) && not (eqb x semicolon) && not (is_mark x) && is_ascii x

lower_plain : (x : ℕ) → leb 97 x && leb x 122 ≡ true → plain x ≡ true
unfolding is_mark
lower_plain x e =
    rw (
      not-true (eqb x 44) (range_not 97 122 44 x (inl (lit< tt)) e),
      not-true (eqb x 59) (range_not 97 122 59 x (inl (lit< tt)) e),
      not-true (eqb x 46) (range_not 97 122 46 x (inl (lit< tt)) e),
      not-true (eqb x 63) (range_not 97 122 63 x (inl (lit< tt)) e),
      le-leb x 127 (omega (arith, leb-true x 122 (and_true_r (leb 97 x) (leb x 122) e))),
    )

letter_plain : (x : ℕ) → is_code_letter x ≡ true → plain x ≡ true
unfolding is_mark
letter_plain x e =
    by-test (leb 97 x && leb x 122)
    (λ low. lower_plain x low)
    (λ high. among_every plain (ascii "ACGTUN") x refl (rw high at e))

digit_plain : (x : ℕ) → is_digit x ≡ true → plain x ≡ true
unfolding is_mark is_digit
digit_plain x e =
    rw (
      not-true (eqb x 44) (range_not 48 57 44 x (inl (lit< tt)) e),
      not-true (eqb x 59) (range_not 48 57 59 x (inr (lit< tt)) e),
      not-true (eqb x 46) (range_not 48 57 46 x (inl (lit< tt)) e),
      not-true (eqb x 63) (range_not 48 57 63 x (inr (lit< tt)) e),
      le-leb x 127 (omega (arith, leb-true x 57 (and_true_r (leb 48 x) (leb x 57) e))),
    )

codes_plain : (cs : List ℕ) → every is_code_letter cs || every is_digit cs ≡ true → every plain cs ≡ true
codes_plain cs e =
    by-test (every is_code_letter cs)
    (λ l. every_imp is_code_letter plain letter_plain cs l)
    (λ l. every_imp is_digit plain digit_plain cs (rw l at e))

-- what a header's text has to be
pub record Readable (h : Header) : Type 0 where
  pub no_comma : lacks comma (header_text h) ≡ true
  pub no_semi : lacks semicolon (header_text h) ≡ true
  pub low : every is_ascii (header_text h) ≡ true
  pub base_is : base_of (header_text h) ≡ h.base
  pub codes_are : codes_of (header_text h) ≡ h.codes
  pub per_is : values_per (header_text h) ≡ code_count h

mark_bytes : every is_mark (ascii ".?") ≡ true
unfolding is_mark
mark_bytes = refl

marks_go : (m : List ℕ) → is_mark_text m ≡ true → without_marks m ≡ []
unfolding without_marks
marks_go [] e = refl
marks_go (x ∷ []) e = rw (among_every is_mark (ascii ".?") x mark_bytes (and_true_l (among (ascii ".?") x) _ e))
marks_go (x ∷ y ∷ ys) e = let z : ◌≡◌ {A = Bool} false true = and_true_r (among (ascii ".?") x) false e in cc

glue_stays : (c : ℕ) (cs : List ℕ) → is_mark c ≡ false → glue c cs ≡ c ∷ cs
unfolding is_mark glue
glue_stays c [] u = rw u
glue_stays c (d ∷ ds) u = refl

codes_stay : (cs m : List ℕ) → every (λ x. not (is_mark x)) cs ≡ true → without_marks m ≡ [] → without_marks (cs ++ m) ≡ cs
unfolding without_marks
codes_stay [] m h e = e
codes_stay (c ∷ cs) m h e =
    rw (codes_stay cs m (and_true_r (not (is_mark c)) (every (λ x. not (is_mark x)) cs) h) e)
    (glue_stays c cs (not-true (is_mark c) (and_true_l (not (is_mark c)) (every (λ x. not (is_mark x)) cs) h)))

-- what a header is made of
record Parts (h : Header) : Type 0 where
  base_in : among (ascii "ACGTUN") h.base ≡ true
  sign_in : among (ascii "+-") h.sign ≡ true
  codes_in : every plain h.codes ≡ true
  mark_in : is_mark_text h.mark ≡ true

header_parts : (h : Header) → is_header h ≡ true → Parts h
unfolding is_header
header_parts h e =
    let letters = among (ascii "ACGTUN") h.base in
    let signs = among (ascii "+-") h.sign in
    let codes = not (is_empty h.codes) && (every is_code_letter h.codes || every is_digit h.codes) in
    let e₃ = and_true_l (letters && signs && codes) (is_mark_text h.mark) e in
    let e₂ = and_true_l (letters && signs) codes e₃ in
    record {
      base_in = and_true_l letters signs e₂;
      sign_in = and_true_r letters signs e₂;
      codes_in = codes_plain h.codes (and_true_r (not (is_empty h.codes)) _ (and_true_r (letters && signs) codes e₃));
      mark_in = and_true_r (letters && signs && codes) (is_mark_text h.mark) e;
    }

-- what holds of the letters, the signs, plain bytes and marks holds of each byte of a header
header_every : (t : ℕ → Bool) (h : Header) → Parts h
    → every t (ascii "ACGTUN") ≡ true → every t (ascii "+-") ≡ true → every t (ascii ".?") ≡ true → ((x : ℕ) → plain x ≡ true → t x ≡ true)
    → every t (header_text h) ≡ true
header_every t h p letters signs marks plains =
    and_true (t h.base) _ (among_every t (ascii "ACGTUN") h.base letters p.base_in)
    (and_true (t h.sign) _ (among_every t (ascii "+-") h.sign signs p.sign_in)
    (every_append t h.codes h.mark
    ∙ and_true (every t h.codes) (every t h.mark) (every_imp plain t plains h.codes p.codes_in) (mark_every h.mark p.mark_in)))
  where
    mark_every : (m : List ℕ) → is_mark_text m ≡ true → every t m ≡ true
    mark_every [] e = refl
    mark_every (x ∷ []) e = and_true (t x) true (among_every t (ascii ".?") x marks (and_true_l (among (ascii ".?") x) _ e)) refl
    mark_every (x ∷ y ∷ ys) e = let z : ◌≡◌ {A = Bool} false true = and_true_r (among (ascii ".?") x) false e in cc

base_bytes : every (λ b. eqb (upper b) b) (ascii "ACGTUN") ≡ true
unfolding upper
base_bytes = refl

pub readable : (h : Header) → is_header h ≡ true → Readable h
unfolding is_mark base_of codes_of values_per code_count
readable h e =
    let p = header_parts h e in
    let plain-comma : (x : ℕ) → plain x ≡ true → not (eqb x comma) ≡ true =
    λ x q. and_true_l _ _ (and_true_l _ _ (and_true_l (not (eqb x comma) && not (eqb x semicolon) && not (is_mark x)) (is_ascii x) q)) in
    let plain-semi : (x : ℕ) → plain x ≡ true → not (eqb x semicolon) ≡ true =
    λ x q. and_true_r (not (eqb x comma)) _ (and_true_l _ _ (and_true_l (not (eqb x comma) && not (eqb x semicolon) && not (is_mark x)) (is_ascii x) q)) in
    let plain-mark : (x : ℕ) → plain x ≡ true → not (is_mark x) ≡ true =
    λ x q. and_true_r (not (eqb x comma) && not (eqb x semicolon)) _ (and_true_l (not (eqb x comma) && not (eqb x semicolon) && not (is_mark x)) (is_ascii x) q) in
    let codes : without_marks (h.codes ++ h.mark) ≡ h.codes =
    codes_stay h.codes h.mark (every_imp plain (λ x. not (is_mark x)) plain-mark h.codes p.codes_in) (marks_go h.mark p.mark_in) in
    record {
      no_comma = header_every (λ x. not (eqb x comma)) h p refl refl refl plain-comma;
      no_semi = header_every (λ x. not (eqb x semicolon)) h p refl refl refl plain-semi;
      low = header_every is_ascii h p refl refl refl (λ x q. and_true_r (not (eqb x comma) && not (eqb x semicolon) && not (is_mark x)) (is_ascii x) q);
      base_is = eqb-true (upper h.base) h.base (among_every (λ b. eqb (upper b) b) (ascii "ACGTUN") h.base base_bytes p.base_in);
      codes_are = codes;
      per_is = rw codes;
    }

-- ---- entries that each name a base are read

one_read : (k : ℕ) (f : List ℕ) (fs : List (List ℕ)) (places ml : List ℕ) {p : ℕ} {rest : List ℕ} → is_number f ≡ true
    → drop (value f) places ≡ p ∷ rest → leb k (length ml) ≡ true
    → (r : List Spot × List ℕ) → read_spots k nowhere fs rest (drop k ml) ≡ Ok r
    → read_spots k nowhere (f ∷ fs) places ml ≡ Ok (map bare (take (value f) places) ++ call p (take k ml) ∷ r.0, r.1)
unfolding read_spots
one_read k f fs places ml num hop enough r e = rw (num, hop, enough, e)

-- with n of the places passed, entries that point at places are read
entries_read : (k : ℕ) (fs : List (List ℕ)) (whole ml : List ℕ) (n : ℕ) → every is_number fs ≡ true → length fs * k ≤ length ml
    → ((j : ℕ) → j < length fs → n + ordinal (map value fs) j < length whole)
    → (r : List Spot × List ℕ) × (read_spots k nowhere fs (drop n whole) ml ≡ Ok r)
unfolding read_spots
entries_read k [] whole ml n num long at = ((map bare (drop n whole), ml), refl)
entries_read k (f ∷ fs) whole ml n num long at =
    let v = value f in
    let here : n + v < length whole = omega (arith, at 0 (omega arith)) in
    let hop : drop v (drop n whole) ≡ get_or whole (n + v) 0 ∷ drop (suc (n + v)) whole = drop-drop v n whole ∙ drop-cons whole (n + v) 0 here in
    let enough : leb k (length ml) ≡ true = le-leb k (length ml) (omega (arith, suc-mul (length fs) k)) in
    let more = entries_read k fs whole (drop k ml) (suc (n + v)) (and_true_r (is_number f) (every is_number fs) num)
    (omega (arith, suc-mul (length fs) k, length-drop k ml)) (λ j h. omega (arith, at (suc j) (omega arith))) in (
      (map bare (take v (drop n whole)) ++ call (get_or whole (n + v) 0) (take k ml) ∷ more.0.0, more.0.1),
      one_read k f fs (drop n whole) ml (and_true_l (is_number f) (every is_number fs) num) hop enough more.0 more.1,
    )

-- ---- one group

-- the entries of a group that means these calls are read as them
calls_read : (b k : ℕ) (fs : List (List ℕ)) (seq ml : List ℕ) (cs : List Call) → upper b ≡ b → eqb b letter_u ≡ false → upper_case seq ≡ true
    → every is_number fs ≡ true → length fs * k ≤ length ml → GroupMeans seq ml (record { base = b; per = k; skips = map value fs }) cs
    → (ss : List Spot) × (read_spots k nowhere fs (tracked b seq) ml ≡ Ok (ss, drop (length fs * k) ml)) × (calls_in ss ≡ cs)
calls_read b k fs seq ml cs ub nu u num long g =
    let size : length (map value fs) ≡ length fs = length-map fs value in
    let whole = tracked b seq in
    let there : (j : ℕ) → j < length fs → (ordinal (map value fs) j < length whole) × (get_or whole (ordinal (map value fs) j) 0 ≡ (get_or cs j no_call).place) =
    λ j h. names_tracked b ub nu seq u (ordinal (map value fs) j) (get_or cs j no_call).place (g.names j (rw size h)) in
    let r = entries_read k fs whole ml 0 num long (λ j h. omega (arith, (there j h).0)) in
    let m = entries_mean (spots_read k nowhere fs whole ml r.0 r.1) 0 whole refl in
    let many : length (calls_in r.0.0) ≡ length cs = m.as_many ∙ sym size ∙ sym g.as_many_of in (
      r.0.0,
      r.1 ∙ ap (λ (l : List ℕ). Ok (r.0.0, l)) m.rest,
      ext_get_or no_call (calls_in r.0.0) cs many (λ j h.
          let j-lt : j < length fs = omega (arith, m.as_many) in
          let z : 0 + ordinal (map value fs) j ≡ ordinal (map value fs) j = omega arith in
          call_ext (get_or (calls_in r.0.0) j no_call) (get_or cs j no_call)
          (m.places j j-lt ∙ ap (λ (o : ℕ). get_or whole o 0) z ∙ (there j j-lt).1)
          (m.values j j-lt ∙ sym (g.values j (rw size j-lt)))),
    )

-- the listing of a group with this spelling and these calls
abbrev pub listing_of : Spelled → List Call → Listing
listing_of s cs = record { header = header_text s.header; calls = cs }

abbrev taken : Bool → Spelled → ℕ
taken ml? s = length s.skips * cond ml? (code_count s.header) 0

group_read : (ml? : Bool) (seq : List ℕ) (s : Spelled) (ml : List ℕ) (cs : List Call) → is_spelling s ≡ true → eqb s.header.base letter_u ≡ false
    → upper_case seq ≡ true → taken ml? s ≤ length ml → GroupMeans seq ml (meaning_of ml? s) cs
    → (g : Group) × (read_group ml? nowhere seq (header_text s.header ++ led_by_commas s.skips) ml ≡ Ok (g, drop (taken ml? s) ml)) × (listing g ≡ listing_of s cs)
unfolding read_group is_spelling meaning_of values_if
group_read ml? seq s ml cs ok nu u long means =
    let h = header_text s.header in
    let fs = s.skips in
    let k = cond ml? (code_count s.header) 0 in
    let num = and_true_r (is_header s.header) (every is_number fs) ok in
    let p = readable s.header (and_true_l (is_header s.header) (every is_number fs) ok) in
    let ub : upper s.header.base ≡ s.header.base = rw p.base_is at (base_upper h) in
    let c = calls_read s.header.base k fs seq ml cs ub nu u num long means in
    let two : leb 2 (length h) ≡ true = le-leb 2 (length h) (omega arith) in (
      record { header = h; spots = c.0 },
      rw (header_of h fs num p.no_comma, fields_of h fs num p.no_comma, two, p.per_is, p.base_is, c.1),
      ap (listing_of s) c.2,
    )

-- ---- the whole tag

abbrev pub listings_of : List Spelled → List (List Call) → List Listing
listings_of [] css = []
listings_of (s ∷ ss) [] = []
listings_of (s ∷ ss) (cs ∷ css) = listing_of s cs ∷ listings_of ss css

-- no group is on U
abbrev pub none_on_u : List Spelled → Bool
none_on_u ss = every (λ (s : Spelled). not (eqb s.header.base letter_u)) ss

abbrev pub spelling : List Spelled → List ℕ
spelling ss = spelled (map piece_of ss)

taken_is : (ml? : Bool) (s : Spelled) → length (meaning_of ml? s).skips * (meaning_of ml? s).per ≡ taken ml? s
unfolding meaning_of
taken_is ml? s = rw (length-map s.skips value)

-- the text of a group in front of the others
pub spelled_closed : (s : Spelled) (ss : List Spelled) → is_spelling s ≡ true
    → closed_by semicolon (spelling (s ∷ ss)) ≡ (header_text s.header ++ led_by_commas s.skips) ∷ closed_by semicolon (spelling ss)
unfolding is_spelling
spelled_closed s ss ok =
    let num = and_true_r (is_header s.header) (every is_number s.skips) ok in
    let p = readable s.header (and_true_l (is_header s.header) (every is_number s.skips) ok) in
    group_of (header_text s.header) s.skips num (spelling ss) p.no_semi

group_and_rest : (ml? : Bool) (seq : List ℕ) (s : Spelled) (ss : List Spelled) (ml : List ℕ) → is_spelling s ≡ true → (g : Group) {left : List ℕ}
    → read_group ml? nowhere seq (header_text s.header ++ led_by_commas s.skips) ml ≡ Ok (g, left)
    → (gs : List Group) → read_groups ml? nowhere seq (closed_by semicolon (spelling ss)) left ≡ Ok gs
    → read_groups ml? nowhere seq (closed_by semicolon (spelling (s ∷ ss))) ml ≡ Ok (g ∷ gs)
unfolding read_groups
group_and_rest ml? seq s ss ml ok g e gs f = rw (spelled_closed s ss ok, e, f)

groups_read : (ml? : Bool) (seq : List ℕ) (ss : List Spelled) (ml : List ℕ) (css : List (List Call)) → every is_spelling ss ≡ true → none_on_u ss ≡ true
    → upper_case seq ≡ true → TagMeans seq ml (map (meaning_of ml?) ss) css
    → (gs : List Group) × (read_groups ml? nowhere seq (closed_by semicolon (spelling ss)) ml ≡ Ok gs) × (map listing gs ≡ listings_of ss css)
unfolding read_groups
groups_read ml? seq [] ml css ok nu u no_group = ([], refl, refl)
groups_read ml? seq (s ∷ ss) ml css ok nu u (a_group {calls = cs} {rest = rest} here long more) =
    let fits : taken ml? s ≤ length ml = rw (taken_is ml? s) at (leb-true _ (length ml) long) in
    let one = group_read ml? seq s ml cs (and_true_l (is_spelling s) (every is_spelling ss) ok) (not-true _ (and_true_l (not (eqb s.header.base letter_u)) (none_on_u ss) nu)) u fits here in
    let others = groups_read ml? seq ss (drop (taken ml? s) ml) rest (and_true_r (is_spelling s) (every is_spelling ss) ok) (and_true_r (not (eqb s.header.base letter_u)) (none_on_u ss) nu) u (rw (taken_is ml? s) at more) in (
      one.0 ∷ others.0,
      group_and_rest ml? seq s ss ml (and_true_l (is_spelling s) (every is_spelling ss) ok) one.0 one.1 others.0 others.1,
      ap₂ (λ (l : Listing) (ls : List Listing). l ∷ ls) one.2 others.2,
    )

spelled_low : (ss : List Spelled) → every is_spelling ss ≡ true → every is_ascii (spelling ss) ≡ true
unfolding is_spelling
spelled_low [] ok = refl
spelled_low (s ∷ ss) ok =
    let one = and_true_l (is_spelling s) (every is_spelling ss) ok in
    let num = and_true_r (is_header s.header) (every is_number s.skips) one in
    let p = readable s.header (and_true_l (is_header s.header) (every is_number s.skips) one) in
    every_append is_ascii (piece_text (piece_of s)) (spelling ss)
    ∙ and_true _ _ (group_ascii (header_text s.header) s.skips num p.low) (spelled_low ss (and_true_r (is_spelling s) (every is_spelling ss) ok))

spelled_last : (d : ℕ) (s : Spelled) (ss : List Spelled) → last_or d (spelling (s ∷ ss)) ≡ semicolon
spelled_last d s ss =
    last_or_append d (piece_text (piece_of s)) (spelling ss)
    ∙ ap (λ (c : ℕ). last_or c (spelling ss)) (last_or_append d (header_text s.header ++ led_by_commas s.skips) (semicolon ∷ []))
    ∙ rest ss
  where
    rest : (ss : List Spelled) → last_or semicolon (spelling ss) ≡ semicolon
    rest [] = refl
    rest (t ∷ ts) =
        last_or_append semicolon (piece_text (piece_of t)) (spelling ts)
        ∙ ap (λ (c : ℕ). last_or c (spelling ts)) (last_or_append semicolon (header_text t.header ++ led_by_commas t.skips) (semicolon ∷ []))
        ∙ rest ts

-- What SAMtags allows is read. Take a tag of one group or more (SAMtags also allows no group), spelled as SAMtags says and with no group on U. If it means
-- these calls on an upper-case SEQ, it is accepted and lists exactly these calls.
pub meant_is_read : (ml? : Bool) (seq : List ℕ) (s : Spelled) (ss : List Spelled) (ml : List ℕ) (css : List (List Call))
    → every is_spelling (s ∷ ss) ≡ true → none_on_u (s ∷ ss) ≡ true → upper_case seq ≡ true
    → TagMeans seq (cond ml? ml []) (map (meaning_of ml?) (s ∷ ss)) css
    → lists ml? seq (spelled (map piece_of (s ∷ ss))) ml ≡ Ok (listings_of (s ∷ ss) css)
unfolding lists read
meant_is_read ml? seq s ss ml css ok nu u means =
    let r = groups_read ml? seq (s ∷ ss) (cond ml? ml []) css ok nu u means in
    rw (spelled_low (s ∷ ss) ok, spelled_last 0 s ss, r.1) (ap Ok r.2)

-- Within the domain, the public reader accepts it too.
pub meant_is_accepted : (ml? : Bool) (seq : List ℕ) (s : Spelled) (ss : List Spelled) (ml : List ℕ) (css : List (List Call))
    → every is_spelling (s ∷ ss) ≡ true → none_on_u (s ∷ ss) ≡ true → upper_case seq ≡ true
    → TagMeans seq (cond ml? ml []) (map (meaning_of ml?) (s ∷ ss)) css → in_domain ml? seq (spelled (map piece_of (s ∷ ss))) ml ≡ true
    → read_tag ml? seq (spelled (map piece_of (s ∷ ss))) ml ≡ Ok (listings_of (s ∷ ss) css)
unfolding read_tag
meant_is_accepted ml? seq s ss ml css ok nu u means fits = rw fits (meant_is_read ml? seq s ss ml css ok nu u means)

-- ---- and what is so spelled and is read means what SAMtags says

spelled_entries : (ml? : Bool) (ss : List Spelled) → every is_spelling ss ≡ true
    → map (read_entries ml?) (closed_by semicolon (spelling ss)) ≡ map (meaning_of ml?) ss
unfolding is_spelling meaning_of values_if
spelled_entries ml? [] ok = refl
spelled_entries ml? (s ∷ ss) ok =
    let one = and_true_l (is_spelling s) (every is_spelling ss) ok in
    let h = header_text s.header in
    let num = and_true_r (is_header s.header) (every is_number s.skips) one in
    let p = readable s.header (and_true_l (is_header s.header) (every is_number s.skips) one) in
    rw (
      spelled_closed s ss one,
      header_of h s.skips num p.no_comma,
      fields_of h s.skips num p.no_comma,
      p.base_is,
      p.per_is,
      spelled_entries ml? ss (and_true_r (is_spelling s) (every is_spelling ss) ok),
    )

-- For a tag spelled as SAMtags says, on an upper-case SEQ and with no group on U, the reader lists exactly the calls that SAMtags gives its groups.
pub read_is_meant : (ml? : Bool) (seq : List ℕ) (ss : List Spelled) (ml : List ℕ) (ls : List Listing) → every is_spelling ss ≡ true
    → upper_case seq ≡ true → no_u ls ≡ true → lists ml? seq (spelled (map piece_of ss)) ml ≡ Ok ls
    → TagMeans seq (cond ml? ml []) (map (meaning_of ml?) ss) (calls_of ls)
read_is_meant ml? seq ss ml ls ok u n e = rw (← spelled_entries ml? ss ok) (tag_means ml? seq (spelling ss) ml ls e u n)

-- its listings have the headers as they are spelled
spelled_headers : (ss : List Spelled) → every is_spelling ss ≡ true
    → map (λ (p : Piece). p.header) (map piece_in (closed_by semicolon (spelling ss))) ≡ map (λ (s : Spelled). header_text s.header) ss
unfolding is_spelling
spelled_headers [] ok = refl
spelled_headers (s ∷ ss) ok =
    let one = and_true_l (is_spelling s) (every is_spelling ss) ok in
    let num = and_true_r (is_header s.header) (every is_number s.skips) one in
    let p = readable s.header (and_true_l (is_header s.header) (every is_number s.skips) one) in
    rw (
      spelled_closed s ss one,
      header_of (header_text s.header) s.skips num p.no_comma,
      spelled_headers ss (and_true_r (is_spelling s) (every is_spelling ss) ok),
    )

by_headers : (ss : List Spelled) (ls : List Listing) → map (λ (l : Listing). l.header) ls ≡ map (λ (s : Spelled). header_text s.header) ss
    → ls ≡ listings_of ss (calls_of ls)
by_headers [] [] e = refl
by_headers [] (l ∷ ls) e = let z : ◌≡◌ {A = ℕ} 0 1 = cc in absurd (omega arith)
by_headers (s ∷ ss) [] e = let z : ◌≡◌ {A = ℕ} 0 1 = cc in absurd (omega arith)
by_headers (s ∷ ss) (l ∷ ls) e =
    let here : l.header ≡ header_text s.header = cc in
    let more : map (λ (l : Listing). l.header) ls ≡ map (λ (s : Spelled). header_text s.header) ss = cc in
    ap₂ (λ (x : Listing) (xs : List Listing). x ∷ xs) (λ i. record { header = here i; calls = l.calls }) (by_headers ss ls more)

none_on_u_lem : (ss : List Spelled) (css : List (List Call)) → every is_spelling ss ≡ true → none_on_u ss ≡ true → no_u (listings_of ss css) ≡ true
unfolding is_spelling
none_on_u_lem [] css ok nu = refl
none_on_u_lem (s ∷ ss) [] ok nu = refl
none_on_u_lem (s ∷ ss) (cs ∷ css) ok nu =
    let one = and_true_l (is_spelling s) (every is_spelling ss) ok in
    let p = readable s.header (and_true_l (is_header s.header) (every is_number s.skips) one) in
    rw p.base_is
    (and_true (not (eqb s.header.base letter_u)) _ (and_true_l (not (eqb s.header.base letter_u)) (none_on_u ss) nu)
    (none_on_u_lem ss css (and_true_r (is_spelling s) (every is_spelling ss) ok) (and_true_r (not (eqb s.header.base letter_u)) (none_on_u ss) nu)))

-- The same with nothing asked of the listings: spelled as SAMtags says, none on U, on an upper-case SEQ. Each listing has its group's header as
-- spelled.
pub spelled_is_meant : (ml? : Bool) (seq : List ℕ) (ss : List Spelled) (ml : List ℕ) (ls : List Listing) → every is_spelling ss ≡ true
    → none_on_u ss ≡ true → upper_case seq ≡ true → lists ml? seq (spelled (map piece_of ss)) ml ≡ Ok ls
    → (ls ≡ listings_of ss (calls_of ls)) × TagMeans seq (cond ml? ml []) (map (meaning_of ml?) ss) (calls_of ls)
spelled_is_meant ml? seq ss ml ls ok nu u e =
    let are = by_headers ss ls (listed_headers ml? seq (spelling ss) ml ls e ∙ spelled_headers ss ok) in
    (are, read_is_meant ml? seq ss ml ls ok u (ap no_u are ∙ none_on_u_lem ss (calls_of ls) ok nu) e)

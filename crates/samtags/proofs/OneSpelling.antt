-- A text is spelled as SAMtags says in at most one way, so the text determines what it means.
-- Assumes nothing.
use mathlib.Core.Path.{◌≡◌, refl, sym, ap, subst, ◌∙◌}
use Prim.Native.Nat.{ℕ}
use mathlib.Core.Bool.{Bool, true, cond}
use mathlib.Core.List.{List, [], ◌∷◌, ◌++◌, map}
use lib.ListN.{length, get_or, drop}
use lib.Seq.{drop-append_seam}
use Rattle.lent.specs.Lists.{every}
use Rattle.lent.proofs.Tests.{and_true_l, and_true_r}
use Rattle.samtags.specs.Bytes.{comma, semicolon}
use Rattle.samtags.specs.Decimal.{is_number}
use Rattle.samtags.specs.Text.{closed_by, codes_of, led_by, up_to}
use Rattle.samtags.specs.Spots.{Call}
use Rattle.samtags.specs.Samtags.{Header, Spelled, TagMeans, TextMeans, header_text, is_header, is_spelling, meaning_of, piece_of, spelled}
use Rattle.samtags.proofs.MeantIsRead.{readable, spelled_closed}
use Rattle.samtags.proofs.OneMeaning.{tag_means_one}
use Rattle.samtags.proofs.Text.{fields_of, header_of}

-- the parts of a header's text
abbrev pub header_in : List ℕ → Header
header_in h = record {
  base = get_or h 0 0;
  sign = get_or h 1 0;
  codes = codes_of h;
  mark = drop (length (codes_of h)) (drop 2 h);
}

-- the groups of a text
abbrev pub spelled_in : List ℕ → Spelled
spelled_in g = record { header = header_in (up_to comma g); skips = led_by comma g }

-- a header's text has its parts
pub header_back : (h : Header) → is_header h ≡ true → header_in (header_text h) ≡ h
header_back h e =
    let codes = (readable h e).codes_are in
    let mark : drop (length (codes_of (header_text h))) (h.codes ++ h.mark) ≡ h.mark =
    ap (λ (c : List ℕ). drop (length c) (h.codes ++ h.mark)) codes ∙ drop-append_seam h.codes h.mark in
    λ i. record { base = h.base; sign = h.sign; codes = codes i; mark = mark i }

spelled_back : (ss : List Spelled) → every is_spelling ss ≡ true → map spelled_in (closed_by semicolon (spelled (map piece_of ss))) ≡ ss
unfolding is_spelling
spelled_back [] ok = refl
spelled_back (s ∷ ss) ok =
    let one = and_true_l (is_spelling s) (every is_spelling ss) ok in
    let head = and_true_l (is_header s.header) (every is_number s.skips) one in
    let num = and_true_r (is_header s.header) (every is_number s.skips) one in
    let p = readable s.header head in
    rw (
      spelled_closed s ss one,
      header_of (header_text s.header) s.skips num p.no_comma,
      fields_of (header_text s.header) s.skips num p.no_comma,
      spelled_back ss (and_true_r (is_spelling s) (every is_spelling ss) ok),
    )
    (ap (λ (h : Header). record { header = h; skips = s.skips } ∷ ss) (header_back s.header head))

-- Two spellings of one text are the same.
pub one_spelling : (ss ts : List Spelled) → every is_spelling ss ≡ true → every is_spelling ts ≡ true
    → spelled (map piece_of ss) ≡ spelled (map piece_of ts) → ss ≡ ts
one_spelling ss ts p q e = sym (spelled_back ss p) ∙ ap (λ (t : List ℕ). map spelled_in (closed_by semicolon t)) e ∙ spelled_back ts q

-- A text means at most one list of calls.
pub text_means_one : {ml? : Bool} {seq text ml : List ℕ} {css dss : List (List Call)} → TextMeans ml? seq text ml css → TextMeans ml? seq text ml dss
    → css ≡ dss
text_means_one {ml?} {seq} {text} {ml} {css} m n =
    let same : m.spelling ≡ n.spelling = one_spelling m.spelling n.spelling m.spelled_so n.spelled_so (m.spells ∙ sym n.spells) in
    tag_means_one (subst (λ (ss : List Spelled). TagMeans seq (cond ml? ml []) (map (meaning_of ml?) ss) css) same m.means) n.means

-- The meaning of a tag as SAMtags gives it, by itself: nothing here reads or writes a tag. Entry j of a group, after the skips k₀ .. kⱼ, names a base
-- of the group's kind: the one that has k₀ + .. + kⱼ + j bases of that kind before it. Its values are the next ones in ML.
-- Assumes nothing.
use Rattle.std.specs.Prelude.{◌≡◌, ℕ, suc, ◌+◌, ◌*◌, ◌<◌, Bool, true, cond, not, ◌&&◌, ◌||◌, List, [], ◌∷◌, ◌++◌, map, length, get_or, take, drop, leb, eqb}
use Rattle.lent.specs.Lists.{every, filter, is_empty, concat_map, among, sum}
use Rattle.pattern.specs.Case.{same_in_any_case}
use Rattle.samtags.specs.Bytes.{ascii, comma, semicolon, letter_n, is_digit}
use Rattle.samtags.specs.Decimal.{is_number, value}
use Rattle.samtags.specs.Spots.{Call}

-- ---- the bases of a kind

-- 'U'
abbrev pub letter_u : ℕ
letter_u = 85

-- A base x of SEQ is of the kind b. N is any base; U is for RNA, which SEQ may show as T. By SAM v1 nothing may be assumed about a letter's case, so
-- a 'c' is a C.
unfoldable pub of_kind : ℕ → ℕ → Bool
unfolding same_in_any_case
of_kind b x = eqb b letter_n || cond (eqb b letter_u) (same_in_any_case x 84 || same_in_any_case x letter_u) (same_in_any_case x b)

-- how many bases of the kind are before place p
unfoldable pub kind_before : ℕ → List ℕ → ℕ → ℕ
unfolding of_kind
kind_before b seq p = length (filter (of_kind b) (take p seq))

-- p is the place of a base of the kind b, and m bases of that kind are before it
pub record Names (b : ℕ) (seq : List ℕ) (m p : ℕ) : Type 0 where
  pub there : p < length seq
  pub kind : of_kind b (get_or seq p 0) ≡ true
  pub before : kind_before b seq p ≡ m

-- ---- a group and its calls

-- k₀ + .. + kⱼ + j
abbrev pub ordinal : List ℕ → ℕ → ℕ
ordinal ks j = sum (take (suc j) ks) + j

abbrev pub no_call : Call
no_call = record { place = 0; values = [] }

-- A group: its kind of base, the number of ML values per listed base, its skips.
pub record Entries : Type 0 where
  pub base : ℕ
  pub per : ℕ
  pub skips : List ℕ

-- these are the group's calls; ml is the part of ML that the groups before it have left
pub record GroupMeans (seq ml : List ℕ) (g : Entries) (calls : List Call) : Type 0 where
  pub as_many_of : length calls ≡ length g.skips
  pub names : (j : ℕ) → j < length g.skips → Names g.base seq (ordinal g.skips j) (get_or calls j no_call).place
  pub values : (j : ℕ) → j < length g.skips → (get_or calls j no_call).values ≡ take g.per (drop (j * g.per) ml)

-- these are the calls of each group, and ML has exactly the values that they take
pub data TagMeans (seq : List ℕ) : List ℕ → List Entries → List (List Call) → Type 0 where
  no_group : TagMeans seq [] [] []
  a_group : {ml : List ℕ} {g : Entries} {gs : List Entries} {calls : List Call} {rest : List (List Call)}
      → GroupMeans seq ml g calls
      → leb (length g.skips * g.per) (length ml) ≡ true
      → TagMeans seq (drop (length g.skips * g.per) ml) gs rest
      → TagMeans seq ml (g ∷ gs) (calls ∷ rest)

-- ---- how a tag is spelled

-- a group in the text: its header, and its skips as they are spelled
pub record Piece : Type 0 where
  pub header : List ℕ
  pub skips : List (List ℕ)

abbrev pub led_by_commas : List (List ℕ) → List ℕ
led_by_commas fs = concat_map (λ f. comma ∷ f) fs

abbrev pub piece_text : Piece → List ℕ
piece_text p = p.header ++ led_by_commas p.skips ++ semicolon ∷ []

abbrev pub spelled : List Piece → List ℕ
spelled ps = concat_map piece_text ps

-- the meaning of a piece of text; `base` and `per` give the meaning of a header
abbrev pub entries_of : (List ℕ → ℕ) → (List ℕ → ℕ) → Piece → Entries
entries_of base per p = record { base = base p.header; per = per p.header; skips = map value p.skips }

-- ---- SAMtags' own headers: [ACGTUN][-+]([a-z]+|[0-9]+)[.?]?; its table of codes has six more letters, ACGTUN, each for any change of that base

pub record Header : Type 0 where
  pub base : ℕ
  pub sign : ℕ
  pub codes : List ℕ
  pub mark : List ℕ

-- 'a' to 'z', or one of the table's upper-case letters
abbrev pub is_code_letter : ℕ → Bool
is_code_letter x = leb 97 x && leb x 122 || among (ascii "ACGTUN") x

-- no mark, '.' or '?'
abbrev pub is_mark_text : List ℕ → Bool
is_mark_text [] = true
is_mark_text (x ∷ xs) = among (ascii ".?") x && is_empty xs

unfoldable pub is_header : Header → Bool
unfolding is_digit
is_header h =
    among (ascii "ACGTUN") h.base && among (ascii "+-") h.sign
    && (not (is_empty h.codes) && (every is_code_letter h.codes || every is_digit h.codes))
    && is_mark_text h.mark

abbrev pub header_text : Header → List ℕ
header_text h = h.base ∷ h.sign ∷ h.codes ++ h.mark

-- the number of codes: a number is one code, else each letter is one
unfoldable pub code_count : Header → ℕ
unfolding is_digit
code_count h = cond (every is_digit h.codes) 1 (length h.codes)

-- a group with a header of this form
pub record Spelled : Type 0 where
  pub header : Header
  pub skips : List (List ℕ)

unfoldable pub is_spelling : Spelled → Bool
unfolding is_header is_number
is_spelling s = is_header s.header && every is_number s.skips

abbrev pub piece_of : Spelled → Piece
piece_of s = record { header = header_text s.header; skips = s.skips }

-- the meaning of the group; without ML a listed base has no values
unfoldable pub meaning_of : Bool → Spelled → Entries
unfolding code_count value
meaning_of ml? s = record { base = s.header.base; per = cond ml? (code_count s.header) 0; skips = map value s.skips }

-- The text, spelled as SAMtags says, means these calls of its groups. Without ML the values are ignored.
pub record TextMeans (ml? : Bool) (seq text ml : List ℕ) (css : List (List Call)) : Type 0 where
  pub spelling : List Spelled
  pub spelled_so : every is_spelling spelling ≡ true
  pub spells : spelled (map piece_of spelling) ≡ text
  pub means : TagMeans seq (cond ml? ml []) (map (meaning_of ml?) spelling) css

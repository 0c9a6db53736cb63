-- A built tag, in SAMtags' words alone: its text is spelled as SAMtags says, and its groups mean exactly the calls of the evidence.
-- Assumes nothing.
use Rattle.std.specs.Prelude.{Ok}
use mathlib.Core.Path.{◌≡◌, refl, ap, subst}
use Prim.Native.Nat.{ℕ}
use mathlib.Core.Bool.{Bool, true, false, cond}
use mathlib.Core.List.{List, [], ◌∷◌, ◌++◌, map}
use lib.ListN.{get_or}
use Rattle.lent.specs.Lists.{every, filter, is_empty}
use Rattle.lent.proofs.Tests.{by-test}
use Rattle.pattern.specs.Patterns.{is_enabled}
use Rattle.pattern.specs.declared.ConversionPattern.{ConversionPattern}
use Rattle.pattern.specs.declared.ConversionPattern.TheVariants.{CToT, GToA}
use Rattle.pattern.specs.declared.MethylationMode.{MethylationMode}
use Rattle.samtags.specs.Bytes.{ascii, semicolon}
use Rattle.samtags.specs.Decimal.{digits}
use Rattle.samtags.specs.Spots.{Group, Listing, listing}
use Rattle.samtags.specs.Reading.{lists}
use Rattle.samtags.specs.Writing.{Tag, skips_from, text_of, written}
use Rattle.samtags.specs.Building.{Evidence, strand_group, has_calls, build_tag, Strand, in_join_order, group_of, joined_groups, joined_tag}
use Rattle.samtags.specs.Samtags.{TagMeans, led_by_commas, spelled, is_header, header_text, Spelled, is_spelling, piece_of, meaning_of}
use Rattle.samtags.proofs.Text.{entries_fields, digits_numbers}
use Rattle.samtags.proofs.Names.{upper_case}
use Rattle.samtags.proofs.ReadMeans.{no_u, calls_of}
use Rattle.samtags.proofs.MeantIsRead.{read_is_meant}
use Rattle.samtags.proofs.Building.{evidence_listing, joined_listings, valued_group, strand_lists, no_u_lem, joined_list, joined_no_u, built_tag_lem, built_is_read, joined_is_read}

-- A tag says these listings if there are groups, spelled as SAMtags says, whose spelling is the text. The groups have the headers of the listings and mean
-- the calls of the listings.
pub record Says (ml? : Bool) (seq text ml : List ℕ) (ls : List Listing) : Type 0 where
  pub groups : List Spelled
  pub spelling : every is_spelling groups ≡ true
  pub spells : spelled (map piece_of groups) ≡ text
  pub headers : map (λ (s : Spelled). header_text s.header) groups ≡ map (λ (l : Listing). l.header) ls
  pub means : TagMeans seq (cond ml? ml []) (map (meaning_of ml?) groups) (calls_of ls)

-- ---- a group of a strand as SAMtags spells it

abbrev spelled_of : Group → Spelled
spelled_of g = record {
  header = record { base = get_or g.header 0 0; sign = get_or g.header 1 0; codes = ascii "m"; mark = ascii "?" };
  skips = map digits (skips_from 0 g.spots);
}

-- the group's header is one of SAMtags', with the code m and the mark '?'
abbrev Strandlike : Group → Type 0
Strandlike g = (is_header (spelled_of g).header ≡ true) × (header_text (spelled_of g).header ≡ g.header)

abbrev AllStrandlike : List Group → Type 0
AllStrandlike [] = Unit {0}
AllStrandlike (g ∷ gs) = Strandlike g × AllStrandlike gs

strand_is : (mode : MethylationMode) (p : ConversionPattern) (ev : Evidence) (seq : List ℕ) → Strandlike (strand_group mode p ev seq)
unfolding strand_group is_header
strand_is mode CToT ev seq = (refl, refl)
strand_is mode GToA ev seq = (refl, refl)

strandlike_filter : (t : Group → Bool) (gs : List Group) → AllStrandlike gs → AllStrandlike (filter t gs)
strandlike_filter t [] a = tt
strandlike_filter t (g ∷ gs) a = by-test (t g) (λ e. rw e (a.0, strandlike_filter t gs a.1)) (λ e. rw e (strandlike_filter t gs a.1))

all_spelled : (gs : List Group) → AllStrandlike gs → every is_spelling (map spelled_of gs) ≡ true
unfolding is_spelling
all_spelled [] a = refl
all_spelled (g ∷ gs) a = rw (a.0.0, digits_numbers (skips_from 0 g.spots), all_spelled gs a.1)

text_spelled : (gs : List Group) → AllStrandlike gs → spelled (map piece_of (map spelled_of gs)) ≡ text_of gs
unfolding text_of
text_spelled [] a = refl
text_spelled (g ∷ gs) a =
    rw (entries_fields (skips_from 0 g.spots), text_spelled gs a.1)
    (ap (λ (h : List ℕ). h ++ led_by_commas (map digits (skips_from 0 g.spots)) ++ semicolon ∷ [] ++ text_of gs) a.0.1)

headers_spelled : (ml? : Bool) (gs : List Group) → AllStrandlike gs
    → map (λ (s : Spelled). header_text s.header) (map spelled_of gs) ≡ map (λ (l : Listing). l.header) (map listing (map (valued_group ml?) gs))
headers_spelled ml? [] a = refl
headers_spelled ml? (g ∷ gs) a = rw (headers_spelled ml? gs a.1) (ap (λ (h : List ℕ). h ∷ map (λ (l : Listing). l.header) (map listing (map (valued_group ml?) gs))) a.0.1)

-- strands' groups that are read say what they list
groups_say : (ml? : Bool) (seq : List ℕ) (gs : List Group) (ml : List ℕ) (ls : List Listing) → AllStrandlike gs
    → map listing (map (valued_group ml?) gs) ≡ ls → upper_case seq ≡ true → no_u ls ≡ true → lists ml? seq (written gs).text ml ≡ Ok ls
    → Says ml? seq (written gs).text ml ls
unfolding written
groups_say ml? seq gs ml ls a same u n e = record {
  groups = map spelled_of gs;
  spelling = all_spelled gs a;
  spells = text_spelled gs a;
  headers = rw (← same) (headers_spelled ml? gs a);
  means = read_is_meant ml? seq (map spelled_of gs) ml ls (all_spelled gs a) u n (rw (text_spelled gs a) e);
}

-- ---- the theorems

-- A tag built for one strand, with or without ML, says exactly the calls of the evidence.
pub built_says : (ml? : Bool) (mode : MethylationMode) (p : ConversionPattern) (ev : Evidence) (seq : List ℕ) (t m : ℕ) (r : Tag) (lent : List ℕ)
    → upper_case seq ≡ true → build_tag ml? mode p ev seq t m ≡ Ok r
    → Says ml? seq r.text (cond ml? r.ml lent) (evidence_listing ml? mode p ev seq ∷ [])
built_says ml? mode p ev seq t m r lent u e =
    let g = strand_group mode p ev seq in
    let same = built_tag_lem ml? mode p ev seq t m r e in
    let reads = built_is_read ml? mode p ev seq t m r lent u e in
    subst (λ (x : List ℕ). Says ml? seq x (cond ml? r.ml lent) (evidence_listing ml? mode p ev seq ∷ [])) (ap (λ (q : Tag). q.text) same)
    (groups_say ml? seq (g ∷ []) (cond ml? r.ml lent) (evidence_listing ml? mode p ev seq ∷ []) (strand_is mode p ev seq, tt)
    (ap (λ (l : Listing). l ∷ []) (strand_lists ml? mode p ev seq u)) u (rw (no_u_lem ml? mode p ev seq))
    (rw same reads))

module _ (ml? : Bool) (mode : MethylationMode) (seq : List ℕ) (u : upper_case seq ≡ true) where
  all_strands : (strands : List Strand) → AllStrandlike (map (group_of mode seq) strands)
  all_strands [] = tt
  all_strands (s ∷ ss) = (strand_is mode s.pattern s.evidence seq, all_strands ss)

  joined_strands : (strands : List Strand) → AllStrandlike (joined_groups mode strands seq)
  unfolding joined_groups
  joined_strands strands =
      by-test (is_enabled mode)
      (λ e. rw e (strandlike_filter has_calls (map (group_of mode seq) (in_join_order strands)) (all_strands (in_join_order strands))))
      (λ e. rw e tt)

  -- A tag built for a list of strands, if it has a call, says exactly the calls of all of them, C to T first.
  pub joined_says : (strands : List Strand) (lent : List ℕ) → is_empty (joined_groups mode strands seq) ≡ false
      → Says ml? seq (joined_tag mode strands seq).text (cond ml? (joined_tag mode strands seq).ml lent) (joined_listings ml? mode strands seq)
  unfolding joined_tag
  joined_says strands lent e =
      groups_say ml? seq (joined_groups mode strands seq) (cond ml? (joined_tag mode strands seq).ml lent) (joined_listings ml? mode strands seq)
      (joined_strands strands) (joined_list ml? mode seq u strands) u (joined_no_u ml? mode strands seq) (joined_is_read ml? mode seq u strands lent e)

-- The session of the scope's program, by computation. Then a dozen worked values: SAMtags' own examples, and the smaller definitions. The scope's examples
-- (a) to (l) are in the crate `edges`.
-- Assumes nothing.
use Rattle.std.specs.Prelude.{Ok, None}
use mathlib.Core.Path.{◌≡◌, refl, sym, ap, ◌∙◌}
use Prim.Native.Nat.{ℕ}
use Prim.Native.String.{String}
use mathlib.Core.Bool.{true, false}
use mathlib.Core.List.{List, [], ◌∷◌, map}
use lib.ListN.{replicate}
use Rattle.samtags.specs.Bytes.{ascii}
use Rattle.samtags.specs.Decimal.{digits, value}
use Rattle.samtags.specs.Text.{codes_of, values_per, ends_in_question}
use Rattle.lent.specs.Outcome.{Outcome, refuse, and_then}
use Rattle.samtags.specs.Spots.{Call, Listing}
use Rattle.samtags.specs.Reading.{read_tag, call_list}
use Rattle.samtags.specs.Samtags.{Header, header_text, is_header}
use Rattle.samtags.specs.Writing.{Tag}
use Rattle.samtags.specs.Edits.{mask_tag, drop_from_tag, cut_tag}
use Rattle.samtags.specs.Session.{Step, mask, drop_calls, cut, Held, run, answers}
use Rattle.pattern.specs.declared.ConversionPattern.TheVariants.{CToT, GToA}
use Rattle.pattern.specs.declared.MethylationMode.TheVariants.{EmSeq}
use Rattle.samtags.specs.Building.{Evidence, joined_tag, ml_value}
use Rattle.lent.proofs.Tests.{by-test}
use Rattle.samtags.proofs.OneSpelling.{header_back, header_in}

-- the calls of each group: places and values
unfoldable pub calls : List ℕ → String → List ℕ → Outcome (List (List Call))
unfolding read_tag
calls seq text ml = and_then (read_tag true seq (ascii text) ml) (λ ls. Ok (map (λ (l : Listing). l.calls) ls))

abbrev pub at : ℕ → List ℕ → Call
at p vs = record { place = p; values = vs }

abbrev pub tag : String → List ℕ → Outcome Tag
tag text ml = Ok (record { text = ascii text; ml = ml })

-- the session of the scope's program
abbrev pub opened : Held
opened = record { seq = ascii "ACCGTCC"; text = ascii "C+m?,0,1,0;"; ml = 200 ∷ 90 ∷ 30 ∷ [] }

abbrev pub steps : List Step
steps = mask (1 ∷ []) ∷ drop_calls (5 ∷ []) ∷ cut 3 0 ∷ []

pub session_example :
    (run true steps opened ≡ record { seq = ascii "GTCC"; text = ascii "C+m?,1;"; ml = 30 ∷ [] })
    × (answers true steps opened ≡ 0 ∷ 0 ∷ 0 ∷ [])
unfolding run answers
session_example = (refl, refl)

-- ---- a dozen more

-- SAMtags: `C+m,5,12,0;` lists the 6th, the 19th and the 20th C; `G-m,14;` the 15th G; `C+mh,5,12;` two codes at the 6th and the 19th C, each
-- with its two values one after the other
abbrev pub cs : List ℕ
cs = replicate 20 67

pub samtags_examples :
    (calls cs "C+m,5,12,0;" (1 ∷ 2 ∷ 3 ∷ []) ≡ Ok ((at 5 (1 ∷ []) ∷ at 18 (2 ∷ []) ∷ at 19 (3 ∷ []) ∷ []) ∷ []))
    × (calls (replicate 20 71) "G-m,14;" (1 ∷ []) ≡ Ok ((at 14 (1 ∷ []) ∷ []) ∷ []))
    × (calls cs "C+mh,5,12;" (1 ∷ 2 ∷ 3 ∷ 4 ∷ []) ≡ Ok ((at 5 (1 ∷ 2 ∷ []) ∷ at 18 (3 ∷ 4 ∷ []) ∷ []) ∷ []))
unfolding calls
samtags_examples = (refl, refl, refl)

-- values per base; which mark is the last; decimals; a mask that changes nothing respells, and a cut of nothing leaves the tag unread
pub worked_values :
    (map (λ h. values_per (ascii h)) ("C+" ∷ "C?" ∷ "C+m?.?" ∷ "C+00" ∷ "C+7m" ∷ "C+.m" ∷ "C+m?x" ∷ []) ≡ 1 ∷ 1 ∷ 1 ∷ 1 ∷ 2 ∷ 2 ∷ 3 ∷ [])
    × (map (λ h. ends_in_question (ascii h)) ("C?" ∷ "C+m.?" ∷ "C+m?." ∷ []) ≡ true ∷ true ∷ false ∷ [])
    × (digits 16000 ≡ ascii "16000")
    × (value (ascii "00016000") ≡ 16000)
    × (mask_tag true (ascii "C") (ascii "C") (ascii "C+m?,00;") (7 ∷ []) 100 100 ≡ tag "C+m?,0;" (7 ∷ []))
    × (cut_tag true None (ascii "ACGT") (ascii "ACGT") [] [] 0 0 ≡ refuse 21)
unfolding values_per ends_in_question digits value mask_tag cut_tag
worked_values = (refl, refl, refl, refl, refl, refl)

-- which number comes first: 8 before 10 at one entry, an entry's 10 before a later group's 5, 7 before a later entry's 6, and a group's 5 before
-- the 9 that is asked after the last group; a skip past 2^64 is 7
pub order_of_refusals :
    (drop_from_tag true (ascii "C") (0 ∷ []) (ascii "C+m,0;") [] 100 100 ≡ refuse 8)
    × (drop_from_tag true (ascii "C") (0 ∷ []) (ascii "C+m,0;;") (7 ∷ []) 100 100 ≡ refuse 10)
    × (calls (ascii "C") "C+m?,9,x;" (7 ∷ []) ≡ refuse 7)
    × (calls (ascii "C") "C+m?,0;C;" (1 ∷ 2 ∷ []) ≡ refuse 5)
    × (calls (ascii "CC") "C+m?,18446744073709551616;" (7 ∷ []) ≡ refuse 7)
unfolding drop_from_tag calls
order_of_refusals = (refl, refl, refl, refl, refl)

-- the call list: groups from 1, and where each call's values start
pub call_list_example :
    and_then (read_tag true (ascii "CGC") (ascii "C+mh?,0,0;G-m?;N+n?,2;") (1 ∷ 2 ∷ 3 ∷ 4 ∷ 5 ∷ [])) (λ ls. Ok (call_list ls))
    ≡ Ok (
    record { group = 1; place = 0; start = 0 }
    ∷ record { group = 1; place = 2; start = 2 }
    ∷ record { group = 3; place = 2; start = 4 }
    ∷ [])
unfolding read_tag call_list
call_list_example = refl

-- two strands on CG, the G to A one given first: C to T comes first in the joined tag
abbrev pub seen : List ℕ → Evidence
seen informative = record { informative = informative; unconverted = 2 ∷ 2 ∷ []; converted = 1 ∷ 0 ∷ [] }

pub join_example :
    joined_tag EmSeq (record { pattern = GToA; evidence = seen (0 ∷ 1 ∷ []) } ∷ record { pattern = CToT; evidence = seen (1 ∷ 0 ∷ []) } ∷ []) (ascii "CG")
    ≡ record { text = ascii "C+m?,0;G-m?,0;"; ml = 170 ∷ 255 ∷ [] }
unfolding joined_tag
join_example = refl

-- ML's values: of 1 in 2 reads, of 1 in 1, of 1 in 3 and of 0 in 5
pub ml_values : ml_value 1 2 ∷ ml_value 1 1 ∷ ml_value 1 3 ∷ ml_value 0 5 ∷ [] ≡ 128 ∷ 255 ∷ 85 ∷ 0 ∷ []
unfolding ml_value
ml_values = refl

-- SAMtags' headers: its codes are lower-case letters, or the six upper-case ones of its table, or a number
pub header_examples :
    map (λ h. is_header (header_in (ascii h))) ("C+C?" ∷ "N+n?" ∷ "C+mh." ∷ "C-76792" ∷ "C+Q?" ∷ "C+" ∷ [])
    ≡ true ∷ true ∷ true ∷ true ∷ false ∷ false ∷ []
unfolding is_header codes_of
header_examples = refl

-- however `C+Q?` is taken apart, it is none
pub no_header_with_q : (h : Header) → header_text h ≡ ascii "C+Q?" → is_header h ≡ false
unfolding is_header codes_of
no_header_with_q h e = by-test (is_header h) (λ t. ap is_header (sym (header_back h t) ∙ ap header_in e)) (λ t. t)

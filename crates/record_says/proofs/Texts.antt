-- An edited text has no NUL if the text had none: its headers are parts of the text, and everything else in it is digits, commas and semicolons. Support
-- for the theorems of this crate.
-- Assumes nothing.
use Rattle.std.specs.Prelude.{Ok}
use mathlib.Core.Path.{◌≡◌, refl, ap, ◌∙◌, subst}
use Prim.Native.Nat.{ℕ, ◌-◌}
use native.Mathlib.Omega.{arith}
use mathlib.Core.Bool.{Bool, true, false, not}
use mathlib.Core.List.{List, [], ◌∷◌, ◌++◌, map}
use lib.Dec.{leb, eqb}
use lib.ListN.{length, get_or, take, drop}
use lib.Seq.{drop_at, length-take-le, take-append_seam}
use borrow.Author.Tests.{eqb-true, leb-true, ne_eqb}
use Rattle.lent.proofs.Lists.{every_append, every_imp}
use Rattle.lent.proofs.Outcome.{and_then_inv, done_inj}
use Rattle.lent.proofs.Tests.{and_true, and_true_l, and_true_r}
use Rattle.lent.specs.Lists.{among, every, is_empty}
use Rattle.record_fields.proofs.Kept.{text_field}
use Rattle.record_fields.specs.Fields.{Field, is_field}
use Rattle.record_tags.specs.Values.{is_text}
use Rattle.record_tags.specs.Values as values
use Rattle.samtags.proofs.Decimal.{digits_number}
use Rattle.samtags.proofs.Read.{GroupsRead, no_group_lem, a_group_lem, tag_read}
use Rattle.samtags.proofs.Text.{closed_by_every, head_lacks, lacks, tail_lacks, up_to_every, up_to_lacks}
use Rattle.samtags.specs.Bytes.{comma, is_digit, semicolon}
use Rattle.samtags.specs.Decimal.{digits, is_number}
use Rattle.samtags.specs.Edits.{Edit, changed, edited}
use Rattle.samtags.specs.Reading.{read}
use Rattle.samtags.specs.Spots.{Group}
use Rattle.samtags.specs.Text.{up_to}
use Rattle.samtags.specs.Writing.{Tag, entries_text, group_text, skips_from, text_of, written}

-- ---- an edited text

no_nuls : (xs : List ℕ) → lacks 0 xs ≡ true → among xs 0 ≡ false
no_nuls [] h = refl
no_nuls (x ∷ xs) h = rw (head_lacks 0 x xs h) (no_nuls xs (tail_lacks 0 x xs h))

headers_lack : {ml? : Bool} {seq : List ℕ} {ps : List (List ℕ)} {ml : List ℕ} {gs : List Group} → GroupsRead ml? seq ps ml gs → every (lacks 0) ps ≡ true
    → every (λ (g : Group). lacks 0 g.header) gs ≡ true
headers_lack no_group_lem h = refl
headers_lack (a_group_lem {g = g} {gs = ps} {rest = rest} long r rs) h =
    and_true (lacks 0 (up_to comma g)) (every (λ (g : Group). lacks 0 g.header) rest)
    (up_to_every _ comma g (and_true_l (lacks 0 g) (every (lacks 0) ps) h)) (headers_lack rs (and_true_r (lacks 0 g) (every (lacks 0) ps) h))

digit_lacks : (x : ℕ) → is_digit x ≡ true → not (eqb x 0) ≡ true
unfolding is_digit
digit_lacks x h = let low = leb-true 48 x (and_true_l (leb 48 x) (leb x 57) h) in rw (ne_eqb x 0 (λ e. omega (arith, e)))

digits_lack : (n : ℕ) → lacks 0 (digits n) ≡ true
unfolding is_number
digits_lack n =
    every_imp is_digit (λ x. not (eqb x 0)) digit_lacks (digits n) (and_true_r (not (is_empty (digits n))) (every is_digit (digits n)) (digits_number n))

entries_lack : (ns : List ℕ) → lacks 0 (entries_text ns) ≡ true
entries_lack [] = refl
entries_lack (n ∷ ns) = rw (every_append (λ (x : ℕ). not (eqb x 0)) (digits n) (entries_text ns), digits_lack n) (entries_lack ns)

group_lacks : (g : Group) → lacks 0 g.header ≡ true → lacks 0 (group_text g) ≡ true
unfolding group_text
group_lacks g h =
    let entries = entries_text (skips_from 0 g.spots) in
    let t : ℕ → Bool = λ x. not (eqb x 0) in
    every_append t (g.header ++ entries) (semicolon ∷ [])
    ∙ rw (every_append t g.header entries, h, entries_lack (skips_from 0 g.spots))

text_lacks : (e : Edit) (gs : List Group) → every (λ (g : Group). lacks 0 g.header) gs ≡ true → lacks 0 (text_of (map (changed e) gs)) ≡ true
unfolding text_of changed
text_lacks e [] h = refl
text_lacks e (g ∷ gs) h =
    every_append (λ (x : ℕ). not (eqb x 0)) (group_text (changed e g)) (text_of (map (changed e) gs))
    ∙ and_true (lacks 0 (group_text (changed e g))) (lacks 0 (text_of (map (changed e) gs)))
    (group_lacks (changed e g) (and_true_l (lacks 0 g.header) (every (λ (g : Group). lacks 0 g.header) gs) h))
    (text_lacks e gs (and_true_r (lacks 0 g.header) (every (λ (g : Group). lacks 0 g.header) gs) h))

-- an edit of a text without a NUL gives none
pub edited_lacks : (e : Edit) (ml? : Bool) (seq text ml : List ℕ) (r : Tag) → edited e ml? seq text ml ≡ Ok r → lacks 0 text ≡ true → among r.text 0 ≡ false
unfolding edited written
edited_lacks e ml? seq text ml r o h =
    let (gs, reads, is) = and_then_inv (read ml? e.dropped seq text ml) _ r o in
    let headers = headers_lack (tag_read ml? e.dropped seq text ml gs reads).groups (closed_by_every (λ (x : ℕ). not (eqb x 0)) semicolon text h) in
    subst (λ (t : Tag). among t.text 0 ≡ false) (done_inj is) (no_nuls (text_of (map (changed e) gs)) (text_lacks e gs headers))

-- ---- the text of a field

-- it has no NUL
pub field_text_lacks : (f : Field) → is_field f ≡ true → is_text f ≡ true → lacks 0 (values.text_of f) ≡ true
field_text_lacks f h t =
    let text = up_to 0 (drop 3 f) in
    let is = text_field f h (eqb-true (get_or f 2 0) 90 t) in
    let four : length f - 4 ≡ length text = omega (arith, is.1) in
    let rest : drop 3 f ≡ text ++ 0 ∷ [] =
    ap (drop 3) is.2 ∙ drop_at (take 3 f) (text ++ 0 ∷ []) 3 (length-take-le 3 f (omega (arith, is.0))) in
    let same : values.text_of f ≡ text =
    (λ j. take (four j) (rest j)) ∙ take-append_seam text (0 ∷ []) in
    rw same (up_to_lacks 0 (drop 3 f))

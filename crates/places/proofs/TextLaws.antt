-- Laws of walking a text from the left: the fields of a group from a separator on, the groups from a group's first byte on, and what is read with one more
-- entry or one more group.
-- Assumes nothing.
use Rattle.std.specs.Prelude.{Ok, Err}
use mathlib.Core.Path.{◌≡◌, refl, ◌∙◌, ap, sym}
use Prim.Native.Nat.{◌+◌, ◌-◌, ◌<◌, ◌≤◌, suc, zero, ℕ}
use native.Mathlib.Numerals.{add-one}
use native.Mathlib.Omega.{arith}
use mathlib.Core.Bool.{Bool, false, not, true}
use mathlib.Core.List.{List, [], ◌++◌, ◌∷◌, map}
use lib.Dec.{eqb, leb}
use lib.ListN.{drop, drop_of_length-le, get_or, length, length-drop, take}
use lib.Seq.{drop-drop, drop-nil, get_or-drop}
use borrow.Author.Tests.{eqb-false, eqb-true, le-leb, lt-leb}
use Rattle.lent.proofs.Lists.{drop_here}
use Rattle.lent.proofs.Outcome.{done_inj, need_rest, need_test, with_first_inv}
use Rattle.lent.proofs.Tests.{by-test}
use Rattle.lent.specs.Lists.{last_or}
use Rattle.lent.specs.Outcome.{and_then, need, refusal, refuse, with_first, Outcome}
use Rattle.lent.specs.declared.Refusal.{Refusal}
use Rattle.samtags.specs.Decimal.{is_number, value}
use Rattle.samtags.specs.Reading.{denied_to, read_entry, read_group, read_groups, read_spots, values_if}
use Rattle.samtags.specs.Spots.{bare, call, calls_in, holds, places_from, tracked}
use Rattle.samtags.specs.Text.{base_of, closed_by, led_by, up_to}
use Rattle.fields.proofs.FieldLaws.{field_on, last_at}
use Rattle.fields.specs.Fields.{field_of}
use Rattle.places.specs.Walk.{entry_at, tracked_from}

-- ---- fields

module _ (t : List ℕ) (e : ℕ) (l : e < length t) where
  led_comma : get_or t e 0 ≡ 44 → led_by 44 (up_to 59 (drop e t)) ≡ field_of (drop (e + 1) t) ∷ led_by 44 (up_to 59 (drop (e + 1) t))
  led_comma h = rw (drop_here t e 0 l, h)

  led_semicolon : get_or t e 0 ≡ 59 → led_by 44 (up_to 59 (drop e t)) ≡ []
  led_semicolon h = rw (drop_here t e 0 l, h)

  rest_comma : get_or t e 0 ≡ 44 → length (up_to 59 (drop e t)) ≡ suc (length (up_to 59 (drop (e + 1) t)))
  rest_comma h = rw (drop_here t e 0 l, h)

  pub rest_semicolon : get_or t e 0 ≡ 59 → length (up_to 59 (drop e t)) ≡ 0
  rest_semicolon h = rw (drop_here t e 0 l, h)

  -- a byte at which a field ends, and that is no comma, is a semicolon
  pub ends_semicolon : length (field_of (drop e t)) ≡ 0 → (get_or t e 0 ≡ 44 → ⊥) → get_or t e 0 ≡ 59
  ends_semicolon z n =
      by-test (eqb (get_or t e 0) 59) (eqb-true (get_or t e 0) 59) (λ p. absurd (omega (arith, field_on t e l n (eqb-false (get_or t e 0) 59 p))))

led_past : (xs : List ℕ) → led_by 44 (up_to 59 xs) ≡ led_by 44 (up_to 59 (drop (length (field_of xs)) xs))
led_past [] = refl
led_past (x ∷ xs) = by-test (eqb x 59) (λ p. simp p) (λ p. by-test (eqb x 44) (λ q. simp (p, q)) (λ q. simp (p, q) (led_past xs)))

rest_past : (xs : List ℕ) → length (up_to 59 xs) ≡ length (field_of xs) + length (up_to 59 (drop (length (field_of xs)) xs))
rest_past [] = refl
rest_past (x ∷ xs) =
    by-test (eqb x 59) (λ p. rw (p, p)) (λ p. by-test (eqb x 44) (λ q. rw (p, q, p) (omega arith)) (λ q. rw (p, q) (omega (arith, rest_past xs))))

field_past : (xs : List ℕ) → length (field_of (drop (length (field_of xs)) xs)) ≡ 0
field_past [] = refl
field_past (x ∷ xs) = by-test (eqb x 59) (λ p. rw (p, p)) (λ p. by-test (eqb x 44) (λ q. rw (p, q, p, q)) (λ q. rw (p, q) (field_past xs)))

-- the field at a is n long
module _ (t : List ℕ) (a n : ℕ) (q : length (field_of (drop a t)) ≡ n) where
  pub led_from : led_by 44 (up_to 59 (drop a t)) ≡ led_by 44 (up_to 59 (drop (a + n) t))
  led_from = led_past (drop a t) ∙ rw (q, drop-drop n a t)

  pub rest_from : length (up_to 59 (drop a t)) ≡ n + length (up_to 59 (drop (a + n) t))
  rest_from = rest_past (drop a t) ∙ rw (q, drop-drop n a t)

  pub field_from : length (field_of (drop (a + n) t)) ≡ 0
  field_from = rw (← drop-drop n a t, ← q) (field_past (drop a t))

-- ---- groups

-- the first group, and the groups after its ';'
closed_first : (xs : List ℕ) → length (up_to 59 xs) < length xs → closed_by 59 xs ≡ up_to 59 xs ∷ closed_by 59 (drop (suc (length (up_to 59 xs))) xs)
closed_first [] h = absurd (omega arith)
closed_first (x ∷ xs) h = by-test (eqb x 59) (λ p. simp p) (λ p. simp (p, closed_first xs (omega (arith, rw p at h))))

-- a text that ends in ';' has one ahead
ahead_in : (xs : List ℕ) (n : ℕ) → length xs ≡ suc n → get_or xs n 0 ≡ 59 → length (up_to 59 xs) ≤ n
ahead_in [] n h e = absurd (omega arith)
ahead_in (x ∷ xs) zero h e = rw e (omega arith)
ahead_in (x ∷ xs) (suc n) h e = by-test (eqb x 59) (λ p. rw p (omega arith)) (λ p. rw p (omega (arith, ahead_in xs n (omega arith) e)))

module _ (t : List ℕ) (at : ℕ) (l : at < length t) (last : last_or 0 t ≡ 59) where
  pub ahead : at + length (up_to 59 (drop at t)) < length t
  ahead =
      let n = length t - 1 - at in
      let q : at + n ≡ length t - 1 = omega arith in
      let e : get_or t (length t - 1) 0 ≡ 59 = sym (last_at 0 t (length t - 1) (omega arith)) ∙ last in
      omega (arith, ahead_in (drop at t) n (omega (arith, length-drop at t)) (rw (get_or-drop at t n 0, q) e))

  pub closed_at : closed_by 59 (drop at t) ≡ up_to 59 (drop at t) ∷ closed_by 59 (drop (at + length (up_to 59 (drop at t)) + 1) t)
  closed_at =
      let n = length (up_to 59 (drop at t)) in
      let q : at + suc n ≡ at + n + 1 = omega arith in
      closed_first (drop at t) (omega (arith, ahead, length-drop at t)) ∙ rw (drop-drop (suc n) at t, q)

-- ---- one entry: what is read of it, by the place that its field lists

-- the places after a tracked place are those from the next place on
rest_of : (xs : List ℕ) (i b n p : ℕ) (rest : List ℕ) → drop n (places_from (holds b) i xs) ≡ p ∷ rest
    → (j : ℕ) × (p ≡ i + j) × (j < length xs) × (rest ≡ places_from (holds b) (suc p) (drop (suc j) xs))
rest_of [] i b n p rest e = let z : ◌≡◌ {A = ℕ} 0 1 = cc (drop-nil {A = ℕ} n) in absurd (omega arith)
rest_of (x ∷ xs) i b zero p rest e =
    by-test (holds b x)
    (λ h.
    let q : ◌≡◌ {A = List ℕ} (i ∷ places_from (holds b) (suc i) xs) (p ∷ rest) = rw h at e in
    let at : i ≡ p = cc in
    let more : places_from (holds b) (suc i) xs ≡ rest = cc in
    (0, omega arith, omega arith, sym more ∙ ap (λ (m : ℕ). places_from (holds b) (suc m) xs) at))
    (λ h. let r = rest_of xs (suc i) b zero p rest (rw h at e) in (suc r.0, omega arith, omega arith, r.3))
rest_of (x ∷ xs) i b (suc m) p rest e =
    by-test (holds b x)
    (λ h. let r = rest_of xs (suc i) b m p rest (rw h at e) in (suc r.0, omega arith, omega arith, r.3))
    (λ h. let r = rest_of xs (suc i) b (suc m) p rest (rw h at e) in (suc r.0, omega arith, omega arith, r.3))

entry_known : (f places : List ℕ) (p : ℕ) → Ok p ≡ entry_at f places → (is_number f ≡ true) × (rest : List ℕ) × (drop (value f) places ≡ p ∷ rest)
unfolding entry_at
entry_known f places p e =
    let hop = with_first_inv (drop (value f) places) 7 _ p (need_rest (is_number f) 6 _ p (sym e)) in
    (need_test (is_number f) 6 _ p (sym e), hop.1, hop.2 ∙ ap (λ (q : ℕ). q ∷ hop.1) (done_inj hop.3))

module _ (k : ℕ) (denied : ℕ → Bool) (f places : List ℕ) (n : ℕ) where
  pub entry_refused : (r : Refusal) → Err r ≡ entry_at f places → read_entry k denied f places n ≡ Err r
  unfolding entry_at read_entry
  entry_refused r e = go (is_number f) (drop (value f) places) e
    where
      go : (t : Bool) (l : List ℕ) → ◌≡◌ {A = Outcome ℕ} (Err r) (need t 6 (with_first l 7 (λ p rest. Ok p)))
          → need {A = ℕ × List ℕ} t 6 (with_first l 7 (λ p rest. need (leb k n) 8 (need (not (denied p)) 10 (Ok (p, rest))))) ≡ Err r
      go false l e = let q : r ≡ refusal 6 = cc in rw q
      go true [] e = let q : r ≡ refusal 7 = cc in rw q
      go true (p ∷ rest) e = let z : ◌≡◌ {A = ℕ} 0 1 = cc in absurd (omega arith)

  module _ (p : ℕ) (e : Ok p ≡ entry_at f places) where
    pub entry_eight : n < k → read_entry k denied f places n ≡ refuse 8
    unfolding read_entry
    entry_eight l = let w = entry_known f places p e in rw (w.0, w.2, lt-leb k n l)

    pub entry_ten : k ≤ n → denied p ≡ true → read_entry k denied f places n ≡ refuse 10
    unfolding read_entry
    entry_ten l d = let w = entry_known f places p e in rw (w.0, w.2, le-leb k n l, d)

-- an entry that is read: its place lies in SEQ, and the places after it are those from the next place on
pub entry_went : (k : ℕ) (denied : ℕ → Bool) (f : List ℕ) (i b : ℕ) (s : List ℕ) (n p : ℕ) → Ok p ≡ entry_at f (tracked_from b i s) → k ≤ n
    → denied p ≡ false → (read_entry k denied f (tracked_from b i s) n ≡ Ok (p, tracked_from b (p + 1) s)) × (p < length s)
unfolding read_entry tracked_from
entry_went k denied f i b s n p e l d =
    let w = entry_known f (tracked_from b i s) p e in
    let r = rest_of (drop i s) i b (value f) p w.1 w.2 in
    let sum : i + suc r.0 ≡ suc p = omega arith in
    let rest : w.1 ≡ places_from (holds b) (p + 1) (drop (p + 1) s) = r.3 ∙ rw (drop-drop (suc r.0) i s, sum, add-one p) in
    (rw (w.0, w.2, le-leb k n l, d, rest), omega (arith, length-drop i s))

-- ---- one turn over entries: the entry that the comma at `at` leads, and those after it

module _ (k : ℕ) (denied : ℕ → Bool) (t : List ℕ) (at : ℕ) (l : at < length t) (comma : get_or t at 0 ≡ 44)
    (f : List ℕ) (q : f ≡ field_of (drop (at + 1) t)) (places ml : List ℕ) (used : ℕ) where
  pub turn_refused : (r : Refusal) → read_entry k denied f places (length ml - used) ≡ Err r
      → read_spots k denied (led_by 44 (up_to 59 (drop at t))) places (drop used ml) ≡ Err r
  unfolding read_spots
  turn_refused r h = rw (led_comma t at l comma, ← q, length-drop used ml, h)

  pub turn_on : (p : ℕ) (rest : List ℕ) → read_entry k denied f places (length ml - used) ≡ Ok (p, rest)
      → read_spots k denied (led_by 44 (up_to 59 (drop at t))) places (drop used ml)
      ≡ and_then (read_spots k denied (led_by 44 (up_to 59 (drop (at + 1 + length f) t))) rest (drop (used + k) ml)) (λ r.
      Ok (map bare (take (value f) places) ++ call p (take k (drop used ml)) ∷ r.0, r.1))
  unfolding read_spots
  turn_on p rest h = rw (led_comma t at l comma, ← q, length-drop used ml, h, led_from t (at + 1) (length f) (ap length (sym q)), drop-drop k used ml)

  pub turn_rest : length (up_to 59 (drop at t)) ≡ suc (length f + length (up_to 59 (drop (at + 1 + length f) t)))
  turn_rest = omega (arith, rest_comma t at l comma, rest_from t (at + 1) (length f) (ap length (sym q)))

  pub turn_field : length (field_of (drop (at + 1 + length f) t)) ≡ 0
  turn_field = field_from t (at + 1) (length f) (ap length (sym q))

pub turn_end : (k : ℕ) (denied : ℕ → Bool) (t : List ℕ) (at : ℕ) → at < length t → get_or t at 0 ≡ 59 → (places ml : List ℕ)
    → read_spots k denied (led_by 44 (up_to 59 (drop at t))) places ml ≡ Ok (map bare places, ml)
unfolding read_spots
turn_end k denied t at l h places ml = rw (led_semicolon t at l h)

-- bare spots are no calls
pub calls_none : (ps : List ℕ) → calls_in (map bare ps) ≡ []
calls_none [] = refl
calls_none (p ∷ ps) = calls_none ps

-- ---- one group: the one that begins at `at`, whose header is h

module _ (ml? : Bool) (named : ℕ → Bool) (seq t : List ℕ) (at : ℕ) (h : List ℕ) (q : h ≡ field_of (drop at t)) (ml : List ℕ) where
  pub group_short : length h < 2 → read_group ml? named seq (up_to 59 (drop at t)) ml ≡ refuse 5
  unfolding read_group
  group_short s = rw (← q, lt-leb 2 (length h) s)

  pub group_on : 2 ≤ length h → read_group ml? named seq (up_to 59 (drop at t)) ml
      ≡ and_then (read_spots (values_if ml? h) (denied_to h named) (led_by 44 (up_to 59 (drop (at + length h) t))) (tracked (base_of h) seq) ml) (λ r.
      Ok (record { header = h; spots = r.0 }, r.1))
  unfolding read_group
  group_on s = rw (← q, le-leb 2 (length h) s, led_from t at (length h) (ap length (sym q)))

-- the groups from `at` on: the first, and those after its ';'
pub groups_at : (ml? : Bool) (named : ℕ → Bool) (seq t : List ℕ) (at : ℕ) → at < length t → last_or 0 t ≡ 59 → (ml : List ℕ)
    → read_groups ml? named seq (closed_by 59 (drop at t)) ml
    ≡ and_then (read_group ml? named seq (up_to 59 (drop at t)) ml) (λ r.
    and_then (read_groups ml? named seq (closed_by 59 (drop (at + length (up_to 59 (drop at t)) + 1) t)) r.1) (λ rest.
    Ok (r.0 ∷ rest)))
unfolding read_groups
groups_at ml? named seq t at l last ml = rw (closed_at t at l last)

pub groups_over : (ml? : Bool) (named : ℕ → Bool) (seq t : List ℕ) (at : ℕ) → length t ≤ at → (ml : List ℕ) (used : ℕ) → used < length ml
    → read_groups ml? named seq (closed_by 59 (drop at t)) (drop used ml) ≡ refuse 9
unfolding read_groups
groups_over ml? named seq t at l ml used h = rw (drop_of_length-le t l, drop_here ml used 0 h)

pub groups_done : (ml? : Bool) (named : ℕ → Bool) (seq t : List ℕ) (at : ℕ) → length t ≤ at → (ml : List ℕ) (used : ℕ) → length ml ≤ used
    → read_groups ml? named seq (closed_by 59 (drop at t)) (drop used ml) ≡ Ok []
unfolding read_groups
groups_done ml? named seq t at l ml used h = rw (drop_of_length-le t l, drop_of_length-le ml h)

-- Laws of an entry: what an edit says of a place, one more base among those that the entry passes, and the whole entry from the answers of its parts.
-- Assumes nothing.
use Rattle.std.specs.Prelude.{Ok, Err, None}
use mathlib.Core.Path.{◌≡◌, refl, sym, ap, ◌∙◌}
use Prim.Native.Nat.{ℕ, suc, ◌+◌, ◌-◌, ◌≤◌, ◌<◌, min}
use native.Mathlib.Nat.{add-zero, sub-zero}
use native.Mathlib.Omega.{arith}
use mathlib.Core.Bool.{Bool, true, false, cond, not, ◌||◌}
use mathlib.Core.List.{List, [], ◌∷◌, ◌++◌}
use lib.Dec.{leb}
use lib.ListN.{length, get_or, take, drop, length-append, length-drop, length-take}
use lib.Seq.{take_all}
use borrow.Author.Tests.{le-leb, le-ltb, leb-false, leb-true, lt-leb, lt-ltb, not-true}
use Rattle.lent.proofs.Lists.{filter_append, filter_length}
use Rattle.lent.proofs.Outcome.{done_inj, need_rest, need_test, on_done_inv, on_done_refused, with_first_inv}
use Rattle.lent.proofs.Tests.{by-test}
use Rattle.lent.specs.Lists.{filter}
use Rattle.lent.specs.Outcome.{Outcome, need, refusal, refuse, with_first}
use Rattle.lent.specs.declared.Refusal.{Refusal}
use Rattle.samtags.specs.Decimal.{is_number, value}
use Rattle.samtags.specs.Reading.{read_entry}
use Rattle.samtags.specs.Spots.{holds}
use Rattle.strides.proofs.StrideLaws.{between_rest}
use Rattle.strides.specs.Counts.{Told, between, held_between}
use Rattle.strides.specs.declared.Window.{Window}
use Rattle.places.proofs.TextLaws.{entry_eight, entry_refused, entry_ten, entry_went}
use Rattle.places.proofs.WalkLaws.{behind_passed, entry_on, entry_seven, entry_six, found_at, found_end, found_miss, tracked_few}
use Rattle.places.specs.Walk.{entry_at, first_of, tracked_from}
use Rattle.changing.specs.Drafts.{passing, with_passed}
use Rattle.changing.specs.Windows.{denied_in, held_in, is_marked}

-- ---- a place

module _ (lo : ℕ) (after : List ℕ) (b p : ℕ) where
  pub held_before : p < lo → held_in lo after b p ≡ false
  unfolding held_in
  held_before h = rw (lt-leb lo p h)

  pub held_past : lo ≤ p → length after ≤ p - lo → held_in lo after b p ≡ false
  unfolding held_in
  held_past h k = rw (le-leb lo p h, le-ltb p (lo + length after) (omega arith))

  pub held_inside : lo ≤ p → p - lo < length after → held_in lo after b p ≡ holds b (get_or after (p - lo) 0)
  unfolding held_in
  held_inside h k = rw (le-leb lo p h, lt-ltb p (lo + length after) (omega arith))

-- if `after` is SEQ itself, every base of SEQ is still held
pub held_anyway : (w : Window) (after seq : List ℕ) (b p : ℕ) → Told w after seq → p < length seq → holds b (get_or seq p 0) ≡ true
    → w.same || held_in w.lo after b p ≡ held_in w.lo after b p
held_anyway w after seq b p told l h = go w.same refl
  where
    go : (s : Bool) → w.same ≡ s → s || held_in w.lo after b p ≡ held_in w.lo after b p
    go true e =
        let start = (told e).0 in
        let row = (told e).1 in
        let low : p - 0 < length seq = omega arith in
        sym ((λ j. held_in (start j) (row j) b p) ∙ held_inside 0 seq b p (omega arith) low ∙ rw (sub-zero p) h)
    go false e = refl

module _ (marks : List ℕ) (may_drop_lem : Bool) (p : ℕ) where
  pub denied_open : may_drop_lem ≡ true → denied_in marks may_drop_lem p ≡ false
  denied_open e = rw e (by-test (is_marked marks p) (λ t. rw t) (λ t. rw t))

  pub denied_closed : may_drop_lem ≡ false → denied_in marks may_drop_lem p ≡ is_marked marks p
  denied_closed e = rw e (by-test (is_marked marks p) (λ t. rw t) (λ t. rw t))

-- ---- the bases that an entry passes

take_append_add : (xs ys : List ℕ) (n : ℕ) → take (length xs + n) (xs ++ ys) ≡ xs ++ take n ys
take_append_add [] ys n = let z : 0 + n ≡ n = omega arith in rw z
take_append_add (x ∷ xs) ys n = let z : suc (length xs) + n ≡ suc (length xs + n) = omega arith in rw z (ap (λ (r : List ℕ). x ∷ r) (take_append_add xs ys n))

pub one_at_most : (t : Bool) → cond t 1 0 ≤ 1
one_at_most true = omega arith
one_at_most false = omega arith

module _ (held : ℕ → Bool) (b : ℕ) (s : List ℕ) (i m n : ℕ) where
  pub passing_end : length s ≤ i → passing held m n (tracked_from b i s) ≡ refuse 7
  passing_end h = rw (found_end b s i n h)

  module _ (l : i < length s) where
    pub passing_at : holds b (get_or s i 0) ≡ true → n ≡ 0 → passing held m n (tracked_from b i s) ≡ Ok (i, m)
    passing_at h z = rw (z, found_at b s i 0 l h refl) (ap (λ (k : ℕ). Ok (i, k)) (add-zero m))

    pub passing_on : holds b (get_or s i 0) ≡ true → (k : ℕ) → n ≡ suc k
        → passing held m n (tracked_from b i s) ≡ passing held (m + cond (held i) 1 0) k (tracked_from b (i + 1) s)
    passing_on h k z = rw (z, found_at b s i 0 l h refl) (go (drop k (tracked_from b (i + 1) s)))
      where
        rest : List ℕ
        rest = filter held (take k (tracked_from b (i + 1) s))

        sum : m + length (cond (held i) (i ∷ rest) rest) ≡ m + cond (held i) 1 0 + length rest
        sum = by-test (held i) (λ e. rw e (omega arith)) (λ e. rw e (omega arith))

        go : (ps : List ℕ)
            → with_first {B = ℕ × ℕ} ps 7 (λ p more. Ok (p, m + length (cond (held i) (i ∷ rest) rest)))
            ≡ with_first {B = ℕ × ℕ} ps 7 (λ p more. Ok (p, m + cond (held i) 1 0 + length rest))
        go [] = refl
        go (p ∷ ps) = ap (λ (c : ℕ). Ok (p, c)) sum

    pub passing_miss : holds b (get_or s i 0) ≡ false → passing held m n (tracked_from b i s) ≡ passing held m n (tracked_from b (i + 1) s)
    passing_miss h = ap (λ (ps : List ℕ). passing held m n ps) (found_miss b s i 0 l h)

-- behind a part of SEQ that was passed as a whole
module _ (lo : ℕ) (after : List ℕ) (b : ℕ) (s : List ℕ) (from place n passed m : ℕ) (l : from ≤ place) (u : place ≤ length s) (few : passed ≤ n)
    (e : passed ≡ length (between b s from place)) (held : m ≡ held_between lo after b s from place) where
  parts : take n (tracked_from b from s) ≡ between b s from place ++ take (n - passed) (tracked_from b place s)
  unfolding tracked_from
  parts =
      let sum : n ≡ length (between b s from place) + (n - passed) = omega arith in
      ap (take n) (between_rest b s from place l u) ∙ ap (λ (k : ℕ). take k (between b s from place ++ tracked_from b place s)) sum
      ∙ take_append_add (between b s from place) (tracked_from b place s) (n - passed)

  counted : 0 + length (filter (held_in lo after b) (take n (tracked_from b from s))) ≡ m + length (filter (held_in lo after b) (take (n - passed) (tracked_from b place s)))
  unfolding held_in
  counted =
      omega (
        arith,
        held,
        ap (λ (ps : List ℕ). length (filter (held_in lo after b) ps)) parts,
        ap length (filter_append (held_in lo after b) (between b s from place) (take (n - passed) (tracked_from b place s))),
        length-append (filter (held_in lo after b) (between b s from place)) (filter (held_in lo after b) (take (n - passed) (tracked_from b place s))),
      )

  pub passing_behind : passing (held_in lo after b) 0 n (tracked_from b from s) ≡ passing (held_in lo after b) m (n - passed) (tracked_from b place s)
  passing_behind =
      ap (λ (ps : List ℕ). with_first {B = ℕ × ℕ} ps 7 (λ p rest. Ok (p, 0 + length (filter (held_in lo after b) (take n (tracked_from b from s))))))
      (behind_passed b s from place n passed l u few e)
      ∙ ap (λ (k : ℕ). with_first {B = ℕ × ℕ} (drop (n - passed) (tracked_from b place s)) 7 (λ p rest. Ok (p, k))) counted

-- ---- an entry, by what the skip reader and the walk answer

bounded_take : (most n : ℕ) (ps : List ℕ) → length ps < most → take (min most n) ps ≡ take n ps
bounded_take most n ps h =
    by-test (leb n most)
    (λ e. let small : n ≤ most = leb-true n most e in let q : min most n ≡ n = omega arith in rw q)
    (λ e.
    let large : most < n = leb-false n most e in
    take_all (min most n) ps (omega arith) ∙ sym (take_all n ps (omega arith)))

module _ (held denied : ℕ → Bool) (k : ℕ) (f places : List ℕ) (left : ℕ) where
  abbrev read_here : Outcome (ℕ × ℕ)
  read_here = with_passed held (value f) places (read_entry k denied f places left)

  pub read_six : (n : ℕ) (r : Refusal) → Err r ≡ need (is_number f) 6 (Ok n) → Err r ≡ read_here
  read_six n r e = rw (entry_refused k denied f places left r (entry_six f places n r e))

  module _ (few : length places ≤ 16000) (n : ℕ) (e : Ok n ≡ need (is_number f) 6 (Ok (min 16001 (value f)))) where
    pub read_seven : (r : Refusal) → Err r ≡ passing held 0 n places → Err r ≡ read_here
    read_seven r h =
        let w = go (drop n places) h in
        rw (w.0, entry_refused k denied f places left (refusal 7) (entry_seven f places 16001 (omega arith) n e w.1))
      where
        go : (l : List ℕ) → Err r ≡ with_first {B = ℕ × ℕ} l 7 (λ p rest. Ok (p, 0 + length (filter held (take n places))))
            → (r ≡ refusal 7) × (None ≡ first_of l)
        go [] h = (cc, refl)
        go (x ∷ xs) h = let z : ◌≡◌ {A = ℕ} 0 1 = cc in absurd (omega arith)

    module _ (p c : ℕ) (h : Ok (p, c) ≡ passing held 0 n places) where
      found : Ok p ≡ entry_at f places
      found =
          let w = with_first_inv (drop n places) 7 _ (p, c) (sym h) in
          let same : w.0 ≡ p = ap (λ (x : ℕ × ℕ). x.0) (done_inj w.3) in
          entry_on f places 16001 (omega arith) n e p (rw (w.2, same))

      count : length (filter held (take (value f) places)) ≡ c
      count =
          let w = with_first_inv (drop n places) 7 _ (p, c) (sym h) in
          let same : 0 + length (filter held (take n places)) ≡ c = ap (λ (x : ℕ × ℕ). x.1) (done_inj w.3) in
          let q : min 16001 (value f) ≡ n = done_inj (need_rest (is_number f) 6 (Ok (min 16001 (value f))) n (sym e)) in
          ap (λ (l : List ℕ). length (filter held l)) (sym (bounded_take 16001 (value f) places (omega arith)) ∙ ap (λ (x : ℕ). take x places) q)
          ∙ omega (arith, same)

      pub read_eight : left < k → refuse 8 ≡ read_here
      read_eight l = rw (entry_eight k denied f places left p found l)

      pub read_ten : k ≤ left → denied p ≡ true → refuse 10 ≡ read_here
      read_ten l d = rw (entry_ten k denied f places left p found l d)

pub read_on : (held denied : ℕ → Bool) (k : ℕ) (f : List ℕ) (b i : ℕ) (s : List ℕ) (left : ℕ) → length s ≤ 16000
    → (n : ℕ) → Ok n ≡ need (is_number f) 6 (Ok (min 16001 (value f)))
    → (p c : ℕ) → Ok (p, c) ≡ passing held 0 n (tracked_from b i s) → k ≤ left → denied p ≡ false
    → Ok (p, c) ≡ with_passed held (value f) (tracked_from b i s) (read_entry k denied f (tracked_from b i s) left)
read_on held denied k f b i s left short n e p c h l d =
    let places = tracked_from b i s in
    let few : length places ≤ 16000 = omega (arith, tracked_few b i s) in
    rw ((entry_went k denied f i b s left p (found held denied k f places left few n e p c h) l d).0, count held denied k f places left few n e p c h)

-- ---- an entry that was read, as the walk over the entries takes it

pub reached_refused : (held denied : ℕ → Bool) (k : ℕ) (f places : List ℕ) (left : ℕ) (r : Refusal)
    → Err r ≡ with_passed held (value f) places (read_entry k denied f places left) → read_entry k denied f places left ≡ Err r
reached_refused held denied k f places left r h = on_done_refused _ (read_entry k denied f places left) r (sym h)

-- what is known of an entry that lists the place p
pub record Went (held denied : ℕ → Bool) (k : ℕ) (f : List ℕ) (b i : ℕ) (s : List ℕ) (left p c : ℕ) : Type 0 where
  pub goes : read_entry k denied f (tracked_from b i s) left ≡ Ok (p, tracked_from b (p + 1) s)
  pub inside : p < length s
  pub enough : k ≤ left
  pub passed : c ≡ length (filter held (take (value f) (tracked_from b i s)))
  pub number : is_number f ≡ true
  pub few : c ≤ value f
  pub fewer : c + 1 + length (tracked_from b (p + 1) s) ≤ length (tracked_from b i s)

pub reached_went : (held denied : ℕ → Bool) (k : ℕ) (f : List ℕ) (b i : ℕ) (s : List ℕ) (left p c : ℕ)
    → Ok (p, c) ≡ with_passed held (value f) (tracked_from b i s) (read_entry k denied f (tracked_from b i s) left) → Went held denied k f b i s left p c
unfolding read_entry entry_at
reached_went held denied k f b i s left p c h =
    let places = tracked_from b i s in
    let o = on_done_inv _ (read_entry k denied f places left) (p, c) (sym h) in
    let e = o.0 in
    let number = need_test (is_number f) 6 _ e o.1 in
    let first = with_first_inv (drop (value f) places) 7 _ e (need_rest (is_number f) 6 _ e o.1) in
    let enough = need_test (leb k left) 8 _ e first.3 in
    let allowed = need_test (not (denied first.0)) 10 _ e (need_rest (leb k left) 8 _ e first.3) in
    let same : (first.0, first.1) ≡ e = done_inj (need_rest (not (denied first.0)) 10 _ e (need_rest (leb k left) 8 _ e first.3)) in
    let at : first.0 ≡ p = ap (λ (x : ℕ × List ℕ). x.0) same ∙ ap (λ (x : ℕ × ℕ). x.0) o.2 in
    let lists : Ok p ≡ entry_at f places = rw (number, first.2, at) in
    let went = entry_went k denied f i b s left p lists (leb-true k left enough) (ap denied (sym at) ∙ not-true (denied first.0) allowed) in
    let rest : (p, tracked_from b (p + 1) s) ≡ e = done_inj (sym went.0 ∙ o.1) in
    let tail : length first.1 ≡ length (tracked_from b (p + 1) s) = ap (λ (x : ℕ × List ℕ). length x.1) (same ∙ sym rest) in
    let size : length places - value f ≡ suc (length first.1) = sym (length-drop (value f) places) ∙ ap length first.2 in
    let passed : c ≡ length (filter held (take (value f) places)) = sym (ap (λ (x : ℕ × ℕ). x.1) o.2) in
    let few : c ≤ value f = omega (arith, filter_length held (take (value f) places), length-take (value f) places) in
    record {
      goes = went.0;
      inside = went.1;
      enough = leb-true k left enough;
      passed = passed;
      number = number;
      few = few;
      fewer = omega (arith, size, tail);
    }

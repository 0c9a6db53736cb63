-- One field of the new record: the runs of bytes that the code writes one after the other are the field's bytes, by each number of a plan.
-- Assumes nothing.
use Rattle.std.specs.Prelude.{Ok, Err}
use mathlib.Core.Path.{◌≡◌, refl, sym, ap, ◌∙◌, subst}
use Prim.Native.Nat.{ℕ, suc, ◌+◌, ◌-◌, ◌≤◌}
use native.Mathlib.Omega.{arith}
use mathlib.Core.Bool.{true, false}
use mathlib.Core.List.{List, [], ◌∷◌, ◌++◌, append-nil}
use lib.Dec.{leb}
use lib.ListN.{length, length-append, length-drop, length-take, get_or, set, take, drop}
use lib.Seq.{drop-drop, get_or-drop, get_or-take, length-sets, length-take-le, set_comm, sets, take-take}
use borrow.Author.Tests.{leb-true, ne_eqb}
use Rattle.changing.specs.Windows.{window_edit}
use Rattle.lent.proofs.Filled.{over_front, over_stored}
use Rattle.lent.proofs.Lists.{drop_take}
use Rattle.lent.proofs.Stores.{sets_append}
use Rattle.lent.proofs.Tests.{and_true_l, and_true_r}
use Rattle.lent.specs.Answers.{is_done}
use Rattle.lent.specs.Outcome.{Outcome}
use Rattle.record_fields.specs.Bam.{word_bytes}
use Rattle.record_fields.specs.Fields.{Field}
use Rattle.record_fields.specs.Spots.{part}
use Rattle.record_tags.specs.Changes.{TagEdit, applied, length_set, or_goes}
use Rattle.record_tags.specs.Plans.{Means, by_window, is_ready, means, queue_by}
use Rattle.record_tags.specs.Values.{is_integer, text_of, type_of, with_integer, with_text, with_values}
use Rattle.record_pieces.specs.Pens.{Waits, Wrote, text_in, values_in}
use Rattle.samtags.proofs.Length.{never_longer}
use Rattle.samtags.specs.Writing.{Tag}

-- ---- runs of stores

three_runs : (out : List ℕ) (n : ℕ) (xs ys zs : List ℕ)
    → sets out n (xs ++ (ys ++ zs)) ≡ sets (sets (sets out n xs) (n + length xs) ys) (n + length xs + length ys) zs
three_runs out n xs ys zs = sets_append out n xs (ys ++ zs) ∙ sets_append (sets out n xs) (n + length xs) ys zs

-- a store and a run before it
set_sets : (l : List ℕ) (i j : ℕ) (v : ℕ) (ws : List ℕ) → i + length ws ≤ j → set (sets l i ws) j v ≡ sets (set l j v) i ws
set_sets l i j v [] h = refl
set_sets l i j v (w ∷ ws) h =
    set_sets (set l i w) (suc i) j v ws (omega arith)
    ∙ ap (λ (k : List ℕ). sets k (suc i) ws) (set_comm l i j w v (λ e. absurd (omega (arith, e))))

-- two runs at different places, in either order
sets_sets : (l : List ℕ) (i j : ℕ) (ws vs : List ℕ) → i + length ws ≤ j → sets (sets l i ws) j vs ≡ sets (sets l j vs) i ws
sets_sets l i j ws [] h = refl
sets_sets l i j ws (v ∷ vs) h =
    ap (λ (k : List ℕ). sets k (suc j) vs) (set_sets l i j v ws h) ∙ sets_sets (set l j v) i (suc j) ws vs (omega arith)

-- ---- the front of a field

module _ (bam : List ℕ) (at size k s : ℕ) (e : s ≡ k) (h : k ≤ size) where
  front : take s (drop at bam) ≡ take k (part bam at size)
  front = rw e (sym (take-take k size (drop at bam) h))

  length_front : at + k ≤ length bam → length (take k (part bam at size)) ≡ k
  length_front l = ap length (take-take k size (drop at bam) h) ∙ length-take-le k (drop at bam) (omega (arith, length-drop at bam))

pub length_part : (bam : List ℕ) (at size : ℕ) → at + size ≤ length bam → length (part bam at size) ≡ size
length_part bam at size l = length-take-le size (drop at bam) (omega (arith, length-drop at bam))

-- the text of a field
pub text_part : (bam : List ℕ) (at size s n : ℕ) → at + size ≤ length bam → 4 ≤ size → s ≡ at + 3 → n ≡ size - 4
    → take n (drop s bam) ≡ text_of (part bam at size)
text_part bam at size s n l h e q =
    let long = length_part bam at size l in
    let less : size - 4 ≤ size - 3 = omega arith in
    rw (long, drop_take 3 size (drop at bam), drop-drop 3 at bam, take-take (size - 4) (size - 3) (drop (at + 3) bam) less, e, q)

-- the type of a field
pub type_part : (bam : List ℕ) (at size : ℕ) → 4 ≤ size → type_of (part bam at size) ≡ get_or bam (at + 2) 0
type_part bam at size h = get_or-take size (drop at bam) 2 0 (omega arith) ∙ get_or-drop at bam 2 0

-- ---- one field

-- one field is written if its bytes are
wrote : (f : Field) (at r : ℕ) (out out' : List ℕ) → r ≡ at + length f → out' ≡ sets out at f → Wrote (f ∷ []) at out r out'
wrote f at r out out' p q = rw (append-nil f) (p, q)

-- no field
pub wrote_none : (fs : List Field) (at : ℕ) (out : List ℕ) → fs ≡ [] → Wrote fs at out at out
wrote_none fs at out e = rw e (omega arith, refl)

pub wrote_as : (fs gs : List Field) (at r : ℕ) (out out' : List ℕ) → fs ≡ gs → Wrote gs at out r out' → Wrote fs at out r out'
wrote_as fs gs at r out out' e w = subst (λ (hs : List Field). Wrote hs at out r out') (sym e) w

-- a field as it came
pub kept_written : (bam out out' : List ℕ) (at size end r s : ℕ) → s ≡ size → r ≡ end + length (take s (drop at bam))
    → out' ≡ sets out end (take s (drop at bam)) → Wrote (part bam at size ∷ []) end out r out'
kept_written bam out out' at size end r s e p q = wrote (part bam at size) end r out out' (p ∙ rw e) (q ∙ rw e)

module _ (bam out out1 out2 out3 : List ℕ) (at size end from s : ℕ) (h : 4 ≤ size) (l : at + 4 ≤ length bam)
    (put : from ≡ end + length (take s (drop at bam))) (put-out : out1 ≡ sets out end (take s (drop at bam))) where
  -- a text
  pub text_written : (text : List ℕ) (n r : ℕ) → s ≡ 3 → n ≡ length text → out2 ≡ sets out1 from text → out3 ≡ set out2 (from + n) 0 → r ≡ from + n + 1
      → Wrote (with_text text (part bam at size) ∷ []) end out r out3
  text_written text n r e q put2 put3 er =
      let name = front bam at size 3 s e (omega arith) in
      let three = length_front bam at size 3 s e (omega arith) (omega arith) in
      let f = take 3 (part bam at size) in
      let long : length (with_text text (part bam at size)) ≡ length f + length (text ++ 0 ∷ []) = length-append f (text ++ 0 ∷ []) in
      let start : from ≡ end + length f = put ∙ ap (λ (x : List ℕ). end + length x) name in
      wrote (with_text text (part bam at size)) end r out out3
      (omega (arith, long, length-append text (0 ∷ []), start))
      (put3 ∙ rw (put2, put-out, name, q, start) (sym (three_runs out end f text (0 ∷ []))))

  -- values, after their count
  pub values_written : (vs : List ℕ) (n r : ℕ) → s ≡ 4 → n ≡ length vs → out2 ≡ sets out1 from (word_bytes n) → out3 ≡ sets out2 (from + 4) vs
      → r ≡ from + 4 + length vs → Wrote (with_values vs (part bam at size) ∷ []) end out r out3
  values_written vs n r e q put2 put3 er =
      let name = front bam at size 4 s e h in
      let f = take 4 (part bam at size) in
      let long : length (with_values vs (part bam at size)) ≡ length f + length (word_bytes (length vs) ++ vs) = length-append f (word_bytes (length vs) ++ vs) in
      let start : from ≡ end + length f = put ∙ ap (λ (x : List ℕ). end + length x) name in
      wrote (with_values vs (part bam at size)) end r out out3
      (omega (arith, long, start))
      (put3 ∙ rw (put2, put-out, name, q, start) (sym (three_runs out end f (word_bytes (length vs)) vs)))

  -- values, before their count
  pub values_first : (vs : List ℕ) (n r : ℕ) → s ≡ 4 → n ≡ length vs → out2 ≡ sets out1 (from + 4) vs → out3 ≡ sets out2 from (word_bytes n)
      → r ≡ from + 4 + length vs → Wrote (with_values vs (part bam at size) ∷ []) end out r out3
  values_first vs n r e q put2 put3 er =
      let name = front bam at size 4 s e h in
      let f = take 4 (part bam at size) in
      let long : length (with_values vs (part bam at size)) ≡ length f + length (word_bytes (length vs) ++ vs) = length-append f (word_bytes (length vs) ++ vs) in
      let start : from ≡ end + length f = put ∙ ap (λ (x : List ℕ). end + length x) name in
      let turned : out3 ≡ sets (sets out1 from (word_bytes n)) (from + 4) vs =
      put3 ∙ ap (λ (o : List ℕ). sets o from (word_bytes n)) put2 ∙ sym (sets_sets out1 from (from + 4) (word_bytes n) vs (omega arith)) in
      wrote (with_values vs (part bam at size)) end r out out3
      (omega (arith, long, start))
      (turned ∙ rw (put-out, name, q, start) (sym (three_runs out end f (word_bytes (length vs)) vs)))

  -- an integer
  pub integer_written : (n r : ℕ) → s ≡ 2 → out2 ≡ set out1 from 105 → out3 ≡ sets out2 (from + 1) (word_bytes n) → r ≡ from + 5
      → Wrote (with_integer n (part bam at size) ∷ []) end out r out3
  integer_written n r e put2 put3 er =
      let name = front bam at size 2 s e (omega arith) in
      let f = take 2 (part bam at size) in
      let long : length (with_integer n (part bam at size)) ≡ length f + 5 = length-append f (105 ∷ word_bytes n) in
      let start : from ≡ end + length f = put ∙ ap (λ (x : List ℕ). end + length x) name in
      wrote (with_integer n (part bam at size)) end r out out3
      (omega (arith, long, start))
      (put3 ∙ rw (put2, put-out, name, start) (sym (three_runs out end f (105 ∷ []) (word_bytes n))))

-- ---- an edited tag

-- a tag whose edit is done
pub done_in : (o : Outcome Tag) → is_done o ≡ true → o ≡ Ok (record { text = text_in o; ml = values_in o })
done_in (Err r) d = let z : ◌≡◌ {A = ℕ} 0 1 = cc in absurd (omega arith)
done_in (Ok t) d = refl

-- a list that was written into a row waits there, if the row is long enough
pub now_waits : (xs work work' : List ℕ) (n : ℕ) → work' ≡ sets work 0 xs → n ≡ length xs → Waits (leb n (length work')) xs n work'
now_waits xs work work' n e q h =
    let fits = leb-true n (length work') h in
    let same = ap length e ∙ length-sets work 0 xs in
    (q, rw (e, q) (ap (take (length xs)) (over_stored xs work (omega (arith, fits, same, q))) ∙ over_front xs work))

-- and else nothing does
pub none_waits : (xs work : List ℕ) (n : ℕ) → Waits false xs n work
none_waits xs work n h = let z : ◌≡◌ {A = ℕ} 0 1 = cc in absurd (omega arith)

-- a list that waits is within its row
pub waiting_fits : (xs work : List ℕ) (n : ℕ) → n ≡ length xs → take n work ≡ xs → n ≤ length work
waiting_fits xs work n q e = let t = ap length e in omega (arith, length-take n work, t)

-- an edited tag has no longer a text and no more values than it had
pub no_longer : (lo : ℕ) (after marks seq mm ml : List ℕ)
    → let o = by_window lo after marks seq true mm ml in (length (text_in o) ≤ length mm) × (length (values_in o) ≤ length ml)
no_longer lo after marks seq mm ml = go (by_window lo after marks seq true mm ml) refl
  where
    go : (o : Outcome Tag) → by_window lo after marks seq true mm ml ≡ o → (length (text_in o) ≤ length mm) × (length (values_in o) ≤ length ml)
    go (Err r) e = (omega arith, omega arith)
    go (Ok t) e = never_longer (window_edit lo after marks) true seq mm ml t e

-- ---- by the numbers of a plan

one_text : (o : Outcome Tag) (f : Field) → is_done o ≡ true → or_goes (λ (t : Tag). with_text t.text f) o ≡ with_text (text_in o) f ∷ []
one_text (Err r) f d = let z : ◌≡◌ {A = ℕ} 0 1 = cc in absurd (omega arith)
one_text (Ok t) f d = refl

one_values : (o : Outcome Tag) (f : Field) → is_done o ≡ true → or_goes (λ (t : Tag). with_values t.ml f) o ≡ with_values (values_in o) f ∷ []
one_values (Err r) f d = let z : ◌≡◌ {A = ℕ} 0 1 = cc in absurd (omega arith)
one_values (Ok t) f d = refl

module _ (m : Means) (a : ℕ) (f : Field) where
  pub by_goes : a ≡ 1 → applied (queue_by m a) f ≡ []
  unfolding queue_by
  by_goes e = rw e

  pub by_goes_once : a ≡ 6 → applied (queue_by m a) f ≡ []
  unfolding queue_by
  by_goes_once e = rw e

  pub by_length : a ≡ 5 → applied (queue_by m a) f ≡ length_set m.bases f
  unfolding queue_by
  by_length e = rw e

  pub by_none : (a ≡ 1 → ⊥) → (a ≡ 2 → ⊥) → (a ≡ 3 → ⊥) → (a ≡ 4 → ⊥) → (a ≡ 5 → ⊥) → (a ≡ 6 → ⊥) → applied (queue_by m a) f ≡ f ∷ []
  unfolding queue_by
  by_none n1 n2 n3 n4 n5 n6 = rw (ne_eqb a 1 n1, ne_eqb a 2 n2, ne_eqb a 3 n3, ne_eqb a 4 n4, ne_eqb a 5 n5, ne_eqb a 6 n6)

  module _ (r : is_ready m a f ≡ true) where
    pub ready_alone : a ≡ 2 → (is_done (m.edit false (text_of f) []) ≡ true) × (length (text_of f) ≤ 65536)
    unfolding is_ready
    ready_alone e =
        let t : is_ready m 2 f ≡ true = subst (λ (n : ℕ). is_ready m n f ≡ true) e r in
        let d = is_done (m.edit false (text_of f) []) in
        let b = leb (length (text_of f)) 65536 in
        (and_true_l d b t, leb-true (length (text_of f)) 65536 (and_true_r d b t))

    pub ready_paired : a ≡ 3 → (is_done (m.edit true m.mm m.ml) ≡ true) × (length m.mm + 4 ≤ length f)
    unfolding is_ready
    ready_paired e =
        let t : is_ready m 3 f ≡ true = subst (λ (n : ℕ). is_ready m n f ≡ true) e r in
        let d = is_done (m.edit true m.mm m.ml) in
        let b = leb (length m.mm + 4) (length f) in
        (and_true_l d b t, leb-true (length m.mm + 4) (length f) (and_true_r d b t))

    pub ready_values : a ≡ 4 → (is_done (m.edit true m.mm m.ml) ≡ true) × (length m.ml + 8 ≤ length f)
    unfolding is_ready
    ready_values e =
        let t : is_ready m 4 f ≡ true = subst (λ (n : ℕ). is_ready m n f ≡ true) e r in
        let d = is_done (m.edit true m.mm m.ml) in
        let b = leb (length m.ml + 8) (length f) in
        (and_true_l d b t, leb-true (length m.ml + 8) (length f) (and_true_r d b t))

    pub by_alone : a ≡ 2 → applied (queue_by m a) f ≡ with_text (text_in (m.edit false (text_of f) [])) f ∷ []
    unfolding queue_by
    by_alone e = rw e (one_text (m.edit false (text_of f) []) f (ready_alone e).0)

    pub by_paired : a ≡ 3 → applied (queue_by m a) f ≡ with_text (text_in (m.edit true m.mm m.ml)) f ∷ []
    unfolding queue_by
    by_paired e = rw e (one_text (m.edit true m.mm m.ml) f (ready_paired e).0)

    pub by_values : a ≡ 4 → applied (queue_by m a) f ≡ with_values (values_in (m.edit true m.mm m.ml)) f ∷ []
    unfolding queue_by
    by_values e = rw e (one_values (m.edit true m.mm m.ml) f (ready_values e).0)

-- MM and ML matter for 3 and 4 alone
module _ (edit : TagEdit) (mm ml : List ℕ) (bases a : ℕ) (f : Field) (n3 : a ≡ 3 → ⊥) (n4 : a ≡ 4 → ⊥) where
  pub ready_other : is_ready (means edit [] [] bases) a f ≡ is_ready (means edit mm ml bases) a f
  unfolding is_ready
  ready_other = rw (ne_eqb a 3 n3, ne_eqb a 4 n4)

  pub applied_other : applied (queue_by (means edit mm ml bases) a) f ≡ applied (queue_by (means edit [] [] bases) a) f
  unfolding queue_by
  applied_other = rw (ne_eqb a 3 n3, ne_eqb a 4 n4)

-- MN that is an integer, and one that is not
pub length_set_integer : (n : ℕ) (f : Field) → is_integer f ≡ true → length_set n f ≡ with_integer n f ∷ []
length_set_integer n f e = rw e

pub length_set_kept : (n : ℕ) (f : Field) → is_integer f ≡ false → length_set n f ≡ f ∷ []
length_set_kept n f e = rw e

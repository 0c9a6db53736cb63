-- Demand 3: the result of a session, for any list of steps.
-- Assumes nothing.
use Rattle.std.specs.Prelude.{Ok}
use mathlib.Core.Path.{◌≡◌, refl, sym, ap, ◌∙◌, subst}
use Prim.Native.Nat.{ℕ, zero, suc, ◌+◌, ◌-◌, ◌≤◌, ◌<◌}
use native.Mathlib.Omega.{arith}
use mathlib.Core.Bool.{Bool, true, false, cond, ◌||◌, or-true, and-true as and_true_right}
use mathlib.Core.List.{List, [], ◌∷◌, ◌++◌, map, map-map}
use lib.ListN.{length, take, drop, length-drop}
use lib.Seq.{drop-drop, take-take, length-take-le, take-length}
use lib.Dec.{ltb, eqb}
use borrow.Author.Tests.{eqb-true, le-leb, lt-leb, le-ltb, ltb-true, ltb-false}
use Rattle.lent.specs.Lists.{filter, among}
use Rattle.lent.proofs.Tests.{by-test}
use Rattle.lent.proofs.Lists.{filter_ext, filter_all, map_ext, drop_take}
use Rattle.samtags.specs.Bytes.{letter_n}
use Rattle.samtags.specs.Text.{base_of}
use Rattle.lent.specs.Outcome.{Outcome, number_of}
use Rattle.samtags.specs.Spots.{Spot, bare, call, place_of, Group, Listing, listing}
use Rattle.samtags.specs.Reading.{nowhere, read, lists}
use Rattle.samtags.specs.Session.{Step, mask, drop_calls, cut, Held, mask_from, masked, window, stepped, after_step, run, answers}
use Rattle.samtags.specs.Meaning.{Sofar, opening, inside, base_stays, left_of_listing, left_of_seq, in_opening, refuses, taken, reason, cuts_nothing, next, answer_to, after_steps, answers_to, refused_steps, is_refusal}
use Rattle.lent.proofs.Outcome.{done_inj, and_then_inv}
use Rattle.samtags.proofs.ReadWritten.{Fits}
use Rattle.samtags.proofs.Read.{tag_read, tag_fits}
use Rattle.samtags.proofs.Places.{tracked_inside}
use Rattle.samtags.proofs.Steps.{moved, mask_group, drop_group, cut_group, unlist_none, at_places, all_same, mask_answers, mask_reads, drop_answers, drop_reads, cut_answers, cut_reads}
use Rattle.samtags.proofs.Left.{left_of_group, left_mask, left_drop, left_cut, among_append, among_shift}
use Rattle.samtags.proofs.Listings.{all_left, not_refused}

-- ---- SEQ

pub mask_length : (i : ℕ) (t : ℕ → Bool) (xs : List ℕ) → length (mask_from i t xs) ≡ length xs
mask_length i t [] = refl
mask_length i t (x ∷ xs) = ap suc (mask_length (suc i) t xs)

mask_take : (n i : ℕ) (t : ℕ → Bool) (xs : List ℕ) → take n (mask_from i t xs) ≡ mask_from i t (take n xs)
mask_take zero i t xs = refl
mask_take (suc n) i t [] = refl
mask_take (suc n) i t (x ∷ xs) = ap (λ (r : List ℕ). cond (t i) letter_n x ∷ r) (mask_take n (suc i) t xs)

mask_drop : (a i : ℕ) (t : ℕ → Bool) (xs : List ℕ) → drop a (mask_from i t xs) ≡ mask_from (i + a) t (drop a xs)
mask_drop zero i t xs = ap (λ (k : ℕ). mask_from k t xs) (omega arith)
mask_drop (suc a) i t [] = refl
mask_drop (suc a) i t (x ∷ xs) = mask_drop a (suc i) t xs ∙ ap (λ (k : ℕ). mask_from k t (drop a xs)) (omega arith)

mask_shift : (a i : ℕ) (t u : ℕ → Bool) → ((p : ℕ) → t (a + p) ≡ u p) → (xs : List ℕ) → mask_from (a + i) t xs ≡ mask_from i u xs
mask_shift a i t u h [] = refl
mask_shift a i t u h (x ∷ xs) =
    let e : suc (a + i) ≡ a + suc i = omega arith in
    rw (h i, e, mask_shift a (suc i) t u h xs)

mask_mask : (i : ℕ) (t u v : ℕ → Bool) → ((p : ℕ) → v p ≡ u p || t p) → (xs : List ℕ) → mask_from i t (mask_from i u xs) ≡ mask_from i v xs
mask_mask i t u v h [] = refl
mask_mask i t u v h (x ∷ xs) =
    rw (h i, mask_mask (suc i) t u v h xs) (by-test (u i) (λ e. rw e (by-test (t i) (λ f. rw f) (λ f. rw f))) (λ e. rw e))

seq_mask : (σ : Sofar) (ps seq : List ℕ) → masked (among ps) (left_of_seq σ seq) ≡ left_of_seq (taken (mask ps) σ) seq
unfolding left_of_seq
seq_mask σ ps seq =
    let a = σ.front in
    let n = σ.size in
    let there = among (in_opening σ ps) in
    let before = masked (among σ.masks) seq in
    let z : 0 + a ≡ a + 0 = omega arith in
    sym (
    ap (window a n) (sym (mask_mask 0 there (among σ.masks) (among (σ.masks ++ in_opening σ ps)) (among_append σ.masks (in_opening σ ps)) seq))
    ∙ ap (take n) (mask_drop a 0 there before)
    ∙ mask_take n (0 + a) there (drop a before)
    ∙ ap (λ (k : ℕ). mask_from k there (window a n before)) z
    ∙ mask_shift a 0 there (among ps) (among_shift a ps) (window a n before))

window_window : (a n f m : ℕ) (xs : List ℕ) → f + m ≤ n → window f m (window a n xs) ≡ window (a + f) m xs
window_window a n f m xs h = rw (drop_take f n (drop a xs), drop-drop f a xs) (take-take m (n - f) (drop (a + f) xs) (omega arith))

seq_cut : (σ : Sofar) (f b : ℕ) (seq : List ℕ) → f + b ≤ σ.size → window f (σ.size - (f + b)) (left_of_seq σ seq) ≡ left_of_seq (taken (cut f b) σ) seq
unfolding left_of_seq
seq_cut σ f b seq h = window_window σ.front σ.size f (σ.size - (f + b)) (masked (among σ.masks) seq) (omega arith)

seq_length : (σ : Sofar) (seq : List ℕ) → σ.front + σ.size ≤ length seq → length (left_of_seq σ seq) ≡ σ.size
unfolding left_of_seq
seq_length σ seq h =
    length-take-le σ.size (drop σ.front (masked (among σ.masks) seq))
    (omega (arith, length-drop σ.front (masked (among σ.masks) seq), mask_length 0 (among σ.masks) seq))

-- ---- step by step

-- what a session holds is what the steps so far leave of the opening SEQ and of the opening groups
record Comes-to (ml? : Bool) (seq : List ℕ) (gs : List Group) (σ : Sofar) (s : Held) : Type 0 where
  seq_left : s.seq ≡ left_of_seq σ seq
  tag_left : read ml? nowhere s.seq s.text s.ml ≡ Ok (map (left_of_group σ) gs)
  in_seq : σ.front + σ.size ≤ length seq

module _ (ml? : Bool) (seq : List ℕ) (gs : List Group) where
  opened : List Listing
  opened = map listing gs

  -- groups that a step makes of those that are left
  made : (σ σ' : Sofar) (F : Group → Group) → ((g : Group) → F (left_of_group σ g) ≡ left_of_group σ' g) → map F (map (left_of_group σ) gs) ≡ map (left_of_group σ') gs
  made σ σ' F h = map-map F (left_of_group σ) gs ∙ map_ext (λ g. F (left_of_group σ g)) (left_of_group σ') h gs

  -- a step's outcome is the one that the meaning says
  record As-meant (t : Step) (σ : Sofar) (s : Held) (o : Outcome Held) : Type 0 where
    comes : Comes-to ml? seq gs (next opened t σ) (after_step s o)
    answered : number_of o ≡ answer_to opened t σ

  module _ (σ : Sofar) (s : Held) (c : Comes-to ml? seq gs σ s) where
    old : List Group
    old = map (left_of_group σ) gs

    size_left : length s.seq ≡ σ.size
    size_left = ap length c.seq_left ∙ seq_length σ seq c.in_seq

    mask_step : (ps : List ℕ) → As-meant (mask ps) σ s (stepped ml? (mask ps) s)
    unfolding stepped next answer_to refuses old opened
    mask_step ps =
        rw (mask_answers ml? s.seq s.text s.ml old c.tag_left (among ps)) (record {
          comes = record {
            seq_left = ap (masked (among ps)) c.seq_left ∙ seq_mask σ ps seq;
            tag_left =
                mask_reads ml? s.seq s.text s.ml old c.tag_left (among ps) s.ml
                ∙ ap Ok (made σ (taken (mask ps) σ) (mask_group (among ps)) (left_mask σ ps));
            in_seq = c.in_seq;
          };
          answered = refl;
        })

    drop_step : (ps : List ℕ) → As-meant (drop_calls ps) σ s (stepped ml? (drop_calls ps) s)
    unfolding stepped next answer_to old opened left_of_seq
    drop_step ps =
        rw (drop_answers ml? s.seq s.text s.ml old c.tag_left ps, not_refused ps σ gs)
        (by-test (refuses opened (drop_calls ps) σ)
        (λ e. rw e (record { comes = rw e c; answered = rw e }))
        (λ e. rw e (record {
          comes = rw e (record {
            seq_left = c.seq_left;
            tag_left =
                drop_reads ml? s.seq s.text s.ml old c.tag_left (among ps) s.ml
                ∙ ap Ok (made σ (taken (drop_calls ps) σ) (drop_group (among ps)) (left_drop σ ps));
            in_seq = c.in_seq;
          });
          answered = rw e;
        })))

    cut_step : (f b : ℕ) → As-meant (cut f b) σ s (stepped ml? (cut f b) s)
    unfolding stepped next answer_to refuses old opened
    cut_step f b =
        rw size_left
        (by-test (eqb (f + b) 0)
        (λ z.
        let f0 : f + b ≡ 0 = eqb-true (f + b) 0 z in
        let fits : ltb σ.size (f + b) ≡ false = le-ltb σ.size (f + b) (omega arith) in
        let fr : σ.front ≡ σ.front + f = omega arith in
        let sz : σ.size ≡ σ.size - (f + b) = omega arith in
        rw z (record {
          comes = rw fits (subst (λ (τ : Sofar). Comes-to ml? seq gs τ s) (λ i. record { front = fr i; size = sz i; masks = σ.masks; drops = σ.drops }) c);
          answered = rw (fits, z);
        }))
        (λ z. rw z (by-test (ltb σ.size (f + b))
        (λ e.
        let l : σ.size < f + b = ltb-true σ.size (f + b) e in
        rw (lt-leb (f + b) σ.size l) (record { comes = rw e c; answered = rw e }))
        (λ e.
        let l : f + b ≤ σ.size = ltb-false σ.size (f + b) e in
        rw (le-leb (f + b) σ.size l, cut_answers ml? s.seq s.text s.ml old c.tag_left f (σ.size - (f + b)) (omega (arith, size_left))) (record {
          comes = rw e (record {
            seq_left = ap (window f (σ.size - (f + b))) c.seq_left ∙ seq_cut σ f b seq l;
            tag_left =
                cut_reads ml? s.seq s.text s.ml old c.tag_left f (σ.size - (f + b)) s.ml
                ∙ ap Ok (made σ (taken (cut f b) σ) (cut_group f (σ.size - (f + b))) (λ g. left_cut σ f b g l));
            in_seq = omega (arith, c.in_seq);
          });
          answered = rw (e, z);
        })))))

    one_step : (t : Step) → As-meant t σ s (stepped ml? t s)
    one_step (mask ps) = mask_step ps
    one_step (drop_calls ps) = drop_step ps
    one_step (cut f b) = cut_step f b

  all_steps : (ts : List Step) (σ : Sofar) (s : Held) → Comes-to ml? seq gs σ s
      → Comes-to ml? seq gs (after_steps opened ts σ) (run ml? ts s) × (answers ml? ts s ≡ answers_to opened ts σ)
  unfolding run answers after_steps answers_to
  all_steps [] σ s c = (c, refl)
  all_steps (t ∷ ts) σ s c =
      let o = one_step σ s c t in
      let rest = all_steps ts (next opened t σ) (after_step s (stepped ml? t s)) o.comes in
      (rest.0, rw (o.answered, rest.1))

-- ---- at the opening

mask_none : (i : ℕ) (xs : List ℕ) → mask_from i nowhere xs ≡ xs
mask_none i [] = refl
mask_none i (x ∷ xs) = ap (λ (r : List ℕ). x ∷ r) (mask_none (suc i) xs)

moved_none : (ss : List Spot) → map (moved 0) ss ≡ ss
moved_none [] = refl
moved_none (bare p ∷ ss) = let e : p - 0 ≡ p = omega arith in rw (e, moved_none ss)
moved_none (call p vs ∷ ss) = let e : p - 0 ≡ p = omega arith in rw (e, moved_none ss)

left_opening : (ml? : Bool) (seq : List ℕ) (g : Group) → Fits ml? seq g → left_of_group (opening seq) g ≡ g
unfolding left_of_group
left_opening ml? seq g f =
    let b = base_of g.header in
    ap (λ (ss : List Spot). record { header = g.header; spots = ss })
    (rw (unlist_none g.spots, moved_none (filter (λ s. base_stays (opening seq) b (place_of s)) g.spots))
    (filter_ext (λ s. base_stays (opening seq) b (place_of s)) (λ s. inside 0 (length seq) (place_of s)) (λ s. same b (place_of s)) g.spots
    ∙ at_places (inside 0 (length seq)) (λ p. true) g.spots (rw f.places (tracked_inside b seq))
    ∙ filter_all g.spots))
  where
    same : (b p : ℕ) → base_stays (opening seq) b p ≡ inside 0 (length seq) p
    same b p = rw (or-true (eqb b letter_n), and_true_right (inside 0 (length seq) p))

comes_opening : (ml? : Bool) (seq text ml : List ℕ) (gs : List Group) → read ml? nowhere seq text ml ≡ Ok gs
    → Comes-to ml? seq gs (opening seq) (record { seq = seq; text = text; ml = ml })
unfolding left_of_seq
comes_opening ml? seq text ml gs e = record {
  seq_left = sym (ap (take (length seq)) (mask_none 0 seq) ∙ take-length seq);
  tag_left =
      e ∙ ap Ok (sym (all_same ml? seq (left_of_group (opening seq)) (λ g. g) (left_opening ml? seq) gs (tag_fits (tag_read ml? nowhere seq text ml gs e)) ∙ map_same gs));
  in_seq = omega arith;
}
  where
    map_same : (hs : List Group) → map (λ g. g) hs ≡ hs
    map_same [] = refl
    map_same (h ∷ hs) = ap (λ (r : List Group). h ∷ r) (map_same hs)

-- ---- the theorem

-- What is held at the end, and the answers, are what the opening and the steps give.
pub record Session-means (ml? : Bool) (opened : Held) (ls : List Listing) (ts : List Step) : Type 0 where
  pub seq_then : (run ml? ts opened).seq ≡ left_of_seq (after_steps ls ts (opening opened.seq)) opened.seq
  pub lists_then : lists ml? (run ml? ts opened).seq (run ml? ts opened).text (run ml? ts opened).ml
      ≡ Ok (map (left_of_listing (after_steps ls ts (opening opened.seq))) ls)
  pub answers_then : answers ml? ts opened ≡ answers_to ls ts (opening opened.seq)

-- A session that is opened on a SEQ and a tag that lists ls, with or without ML, results in what it means, whatever its steps.
pub session_meaning : (ml? : Bool) (opened : Held) (ls : List Listing) → lists ml? opened.seq opened.text opened.ml ≡ Ok ls
    → (ts : List Step) → Session-means ml? opened ls ts
unfolding lists opened
session_meaning ml? h ls₀ e ts =
    let i = and_then_inv (read ml? nowhere h.seq h.text h.ml) _ ls₀ e in
    let gs = i.0 in
    let r = all_steps ml? h.seq gs ts (opening h.seq) h (comes_opening ml? h.seq h.text h.ml gs i.1) in
    subst (λ (l : List Listing). Session-means ml? h l ts)
    (done_inj i.2) (record {
      seq_then = r.0.seq_left;
      lists_then = rw r.0.tag_left (ap Ok (all_left (after_steps (map listing gs) ts (opening h.seq)) gs));
      answers_then = r.1;
    })

-- ---- refused exactly so

mask_never : (ls : List Listing) (ps : List ℕ) (σ : Sofar) → refuses ls (mask ps) σ ≡ false
unfolding refuses
mask_never ls ps σ = refl

-- the answer to a step is a refusal exactly when the step is refused
refused_exactly : (ls : List Listing) (t : Step) (σ : Sofar) → is_refusal (answer_to ls t σ) ≡ refuses ls t σ
unfolding answer_to
refused_exactly ls t σ = by_kind t (refuses ls t σ) refl
  where
    by_kind : (t : Step) (r : Bool) → refuses ls t σ ≡ r → is_refusal (cond r (reason t) (cond (cuts_nothing t) 21 0)) ≡ r
    by_kind (mask ps) true e = sym (mask_never ls ps σ) ∙ e
    by_kind (mask ps) false e = refl
    by_kind (drop_calls ps) true e = refl
    by_kind (drop_calls ps) false e = refl
    by_kind (cut f b) true e = refl
    by_kind (cut f b) false e = by-test (eqb (f + b) 0) (λ z. rw z) (λ z. rw z)

pub refused_steps_lem : (ls : List Listing) (ts : List Step) (σ : Sofar) → map is_refusal (answers_to ls ts σ) ≡ refused_steps ls ts σ
unfolding answers_to refused_steps
refused_steps_lem ls [] σ = refl
refused_steps_lem ls (t ∷ ts) σ = rw (refused_exactly ls t σ, refused_steps_lem ls ts (next ls t σ))

-- The walk over the fields, one turn at a time: from the start ≡ from here. And the whole record: it fits, and its two parts are written as one.
-- Assumes nothing.
use Rattle.std.specs.Prelude.{Ok}
use mathlib.Core.Path.{◌≡◌, refl, sym, ap, ◌∙◌, subst}
use Prim.Native.Nat.{ℕ, ◌+◌, ◌*◌, ◌≤◌, ◌<◌}
use native.Mathlib.Omega.{arith}
use mathlib.Core.Bool.{true}
use mathlib.Core.List.{List, [], ◌∷◌, ◌++◌}
use lib.Dec.{leb}
use lib.ListN.{length, length-append, length-drop, get_or, set, take, drop}
use lib.Seq.{length-take-le, sets}
use borrow.Author.Tests.{le-leb, lt-leb}
use Rattle.changing.specs.Windows.{window_edit}
use Rattle.lent.proofs.Filled.{over_stored}
use Rattle.lent.proofs.Lists.{every_imp}
use Rattle.lent.proofs.Stores.{sets_append}
use Rattle.lent.proofs.Tests.{cond_at_most}
use Rattle.lent.specs.Answers.{is_done}
use Rattle.lent.specs.Filled.{over}
use Rattle.lent.specs.Lists.{every}
use Rattle.lent.specs.Outcome.{refuse}
use Rattle.record_fields.proofs.FieldsLaws.{done_some, done_step, fields_done, fields_of_end, fields_of_step, size_fits, step_fits}
use Rattle.record_fields.proofs.Inverse.{fields_each, joined_fields}
use Rattle.record_fields.proofs.LocalLaws.{is_field_size}
use Rattle.record_fields.proofs.SpotLaws.{name_at}
use Rattle.record_fields.specs.Fields.{Field, field_size, fields, fields_of, is_field, joined, name_by, name_of}
use Rattle.record_fields.specs.Spots.{part}
use Rattle.record_pieces.specs.Pens.{Wrote}
use Rattle.record_tags.proofs.GrowthLaws.{Shrinks, changed_fits, joined_append, piece_fits}
use Rattle.record_tags.proofs.PlanLaws.{planned_next, ready_here, ready_next}
use Rattle.record_tags.specs.Changes.{Changes, after, applied, changed}
use Rattle.record_tags.specs.Plans.{Means, Ready, by_window, growth, is_ready, next_of, planned, queue_by}
use Rattle.record_tags.specs.Records.{Finished, in_room}
use Rattle.record_writing.specs.Answers.{left, leaves_record}
use Rattle.samtags.proofs.Length.{never_longer}

-- the fields that are still to be written, joined
abbrev pub ahead : Means → List ℕ → List ℕ → ℕ → List ℕ
ahead m plan bam at = joined (changed (planned m plan) (fields_of (drop at bam)))

-- what is written from the start on is what is written from here on
abbrev pub Onward : List ℕ → ℕ → List ℕ → List ℕ → ℕ → List ℕ → Type 0
Onward all from out₀ rest end out = (from + length all ≡ end + length rest) × (sets out₀ from all ≡ sets out end rest)

-- the edit by a window makes no tag longer
pub window_shrinks : (lo : ℕ) (after marks seq : List ℕ) → Shrinks (by_window lo after marks seq)
window_shrinks lo after marks seq ml? text ml t e = never_longer (window_edit lo after marks) ml? seq text ml t e

-- the field at a byte before the end is there
pub field_fits : (bam : List ℕ) (at size : ℕ) → at < length bam → is_done (fields (drop at bam)) ≡ true → size ≡ field_size (drop at bam)
    → (4 ≤ size) × (at + size ≤ length bam)
field_fits bam at size h d e = step_fits bam at size h e (λ z. done_some bam at h d (sym e ∙ z))

-- ---- one turn

first_changed : (c : Changes) (f : Field) (fs : List Field) → changed c (f ∷ fs) ≡ applied (c (name_of f)) f ++ changed (after (name_of f) c) fs
unfolding changed
first_changed c f fs = refl

module _ (m : Means) (bam plan : List ℕ) (at size name number next : ℕ) (h : at < length bam) (d : is_done (fields (drop at bam)) ≡ true)
    (e : size ≡ field_size (drop at bam)) (w : name ≡ name_by (get_or bam at 0) (get_or bam (at + 1) 0)) (n : number ≡ get_or plan name 0) (v : next ≡ next_of number)
    (l : 6 ≡ length plan) (small : name < 6) (r : Ready m plan (fields_of (drop at bam))) where
  some : size ≡ 0 → ⊥
  some z = done_some bam at h d (sym e ∙ z)

  first : fields_of (drop at bam) ≡ part bam at size ∷ fields_of (drop (at + size) bam)
  first = fields_of_step bam at size h e some d

  named : name_of (part bam at size) ≡ name
  named = let fits = field_fits bam at size h d e in name_at bam at size (omega (arith, fits.0)) ∙ sym w

  ready : Ready m plan (part bam at size ∷ fields_of (drop (at + size) bam))
  ready = subst (Ready m plan) first r

  -- its number can be carried out
  pub turn_ready : is_ready m number (part bam at size) ≡ true
  turn_ready =
      subst (λ (k : ℕ). is_ready m k (part bam at size) ≡ true) (ap (λ (k : ℕ). get_or plan k 0) named ∙ sym n)
      (ready_here m plan (part bam at size) (fields_of (drop (at + size) bam)) ready)

  -- the fields after it parse, and their numbers can be carried out
  pub turn_done : is_done (fields (drop (at + size) bam)) ≡ true
  turn_done = sym (done_step bam at size h e some) ∙ d

  next_is : set plan (name_of (part bam at size)) (next_of (get_or plan (name_of (part bam at size)) 0)) ≡ set plan name next
  next_is =
      ap (λ (k : ℕ). set plan k (next_of (get_or plan k 0))) named ∙ ap (λ (a : ℕ). set plan name (next_of a)) (sym n)
      ∙ ap (set plan name) (sym v)

  pub turn_next : Ready m (set plan name next) (fields_of (drop (at + size) bam))
  turn_next =
      subst (λ (p : List ℕ). Ready m p (fields_of (drop (at + size) bam))) next_is
      (ready_next m plan (part bam at size) (fields_of (drop (at + size) bam)) (let q = named in omega (arith, q)) ready)

  -- what becomes of it, and of the fields after it
  turn_changed : changed (planned m plan) (fields_of (drop at bam))
      ≡ applied (queue_by m number) (part bam at size) ++ changed (planned m (set plan name next)) (fields_of (drop (at + size) bam))
  unfolding planned
  turn_changed =
      let f = part bam at size in
      let fs = fields_of (drop (at + size) bam) in
      let later : after name (planned m plan) ≡ planned m (set plan name next) =
      sym (planned_next m plan name (omega arith)) ∙ ap (λ (a : ℕ). planned m (set plan name (next_of a))) (sym n)
      ∙ ap (λ (a : ℕ). planned m (set plan name a)) (sym v) in
      ap (changed (planned m plan)) first
      ∙ first_changed (planned m plan) f fs
      ∙ ap (λ (k : ℕ). applied (planned m plan k) f ++ changed (after k (planned m plan)) fs) named
      ∙ ap (λ (c : Changes). applied (planned m plan name) f ++ changed c fs) later
      ∙ ap (λ (a : ℕ). applied (queue_by m a) f ++ changed (planned m (set plan name next)) fs) (sym n)

  module _ (out out' : List ℕ) (end end' : ℕ) (put : Wrote (applied (queue_by m number) (part bam at size)) end out end' out') where
    pub turn_onward : (all out₀ : List ℕ) (from : ℕ) → Onward all from out₀ (ahead m plan bam at) end out
        → Onward all from out₀ (ahead m (set plan name next) bam (at + size)) end' out'
    turn_onward all out₀ from on =
        let p = joined (applied (queue_by m number) (part bam at size)) in
        let q = ahead m (set plan name next) bam (at + size) in
        let both : ahead m plan bam at ≡ p ++ q =
        ap joined turn_changed
        ∙ joined_append (applied (queue_by m number) (part bam at size))
        (changed (planned m (set plan name next)) (fields_of (drop (at + size) bam))) in
        let long = ap length both ∙ length-append p q in (
          omega (arith, on.0, long, put.0),
          on.1 ∙ ap (sets out end) both ∙ sets_append out end p q ∙ rw (put.1, put.0),
        )

    -- how far the pen is
    pub turn_end : Shrinks m.edit → end ≤ 2 * at → end' ≤ 2 * (at + size)
    turn_end shrinks low =
        let fits = field_fits bam at size h d e in
        let long : length (part bam at size) ≡ size = length-take-le size (drop at bam) (omega (arith, length-drop at bam, fits.1)) in
        let piece = piece_fits m (part bam at size) shrinks (omega (arith, long, fits.0)) number turn_ready in
        let few = cond_at_most (leb 5 number) 3 in
        omega (arith, piece, few, long, fits.0, put.0)

-- ---- the end

pub onward_end : (m : Means) (plan bam all out₀ out : List ℕ) (from at end : ℕ) → length bam ≤ at
    → Onward all from out₀ (ahead m plan bam at) end out → (end ≡ from + length all) × (out ≡ sets out₀ from all)
unfolding changed
onward_end m plan bam all out₀ out from at end h on =
    let none : ahead m plan bam at ≡ [] = ap (λ (fs : List Field). joined (changed (planned m plan) fs)) (fields_of_end bam at h) in
    let long = ap length none in
    (omega (arith, on.0, long), sym (on.1 ∙ ap (sets out end) none))

-- ---- the whole record

each_long : (fs : List Field) → every is_field fs ≡ true → every (λ (f : Field). leb 4 (length f)) fs ≡ true
each_long fs h =
    every_imp is_field (λ f. leb 4 (length f))
    (λ f t.
    let s = is_field_size f t in
    let fits = size_fits f s.0 in
    le-leb 4 (length f) (omega (arith, fits.0, s.1)))
    fs h

pub whole_long : (bam rest : List ℕ) (from : ℕ) → from ≤ length bam → length (take from bam ++ rest) ≡ from + length rest
whole_long bam rest from low = length-append (take from bam) rest ∙ ap (λ (k : ℕ). k + length rest) (length-take-le from bam low)

module _ (m : Means) (shrinks : Shrinks m.edit) (bam plan : List ℕ) (from : ℕ) (l : 6 ≡ length plan) (low : from ≤ length bam)
    (d : is_done (fields (drop from bam)) ≡ true) (r : Ready m plan (fields_of (drop from bam))) where
  -- the new record is no longer than the old one and its growth
  pub whole_fits : length (take from bam ++ ahead m plan bam from) ≤ length bam + growth plan
  whole_fits =
      let parsed = fields_done (drop from bam) d in
      let same : joined (fields_of (drop from bam)) ≡ drop from bam = joined_fields (drop from bam) (fields_of (drop from bam)) parsed in
      let old = ap length same ∙ length-drop from bam in
      let new = changed_fits m shrinks plan (fields_of (drop from bam)) l (each_long (fields_of (drop from bam)) (fields_each (drop from bam) (fields_of (drop from bam)) parsed)) r in
      omega (arith, whole_long bam (ahead m plan bam from) from low, old, new)

-- the head at 0 and the fields behind it are the whole record
pub whole_written : (bam rest out out1 out2 : List ℕ) (from s : ℕ) → from ≤ length bam → s ≡ from → out1 ≡ sets out 0 (take s bam)
    → out2 ≡ sets out1 from rest → length (take from bam ++ rest) ≤ length out → out2 ≡ over (take from bam ++ rest) out
whole_written bam rest out out1 out2 from s low e p q fits =
    let head = take from bam in
    let z : 0 + length head ≡ from = omega (arith, length-take-le from bam low) in
    let run : sets out 0 (head ++ rest) ≡ sets (sets out 0 head) from rest = sets_append out 0 head rest ∙ ap (λ (k : ℕ). sets (sets out 0 head) k rest) z in
    q ∙ rw (p, e) (sym run) ∙ over_stored (head ++ rest) out fits

-- ---- how much a record may grow

pub grown : (plan : List ℕ) → 5 ≤ get_or plan 2 0 → 3 ≡ growth plan
unfolding growth
grown plan h = rw (le-leb 5 (get_or plan 2 0) h)

pub not_grown : (plan : List ℕ) → get_or plan 2 0 < 5 → 0 ≡ growth plan
unfolding growth
not_grown plan h = rw (lt-leb 5 (get_or plan 2 0) h)

pub growth_small : (plan : List ℕ) → growth plan ≤ 3
unfolding growth
growth_small plan = cond_at_most (leb 5 (get_or plan 2 0)) 3

-- ---- the answer, and the row

pub no_room : (f : Finished) (out : List ℕ) → length out < length f.bytes → left (refuse 12) out ≡ leaves_record (in_room (length out) f) out
unfolding leaves_record
no_room f out h = rw (lt-leb (length f.bytes) (length out) h)

pub in_room_lem : (f : Finished) (out out' : List ℕ) (n : ℕ) → length f.bytes ≤ length out → n ≡ length f.bytes → out' ≡ over f.bytes out
    → left (Ok (n, f.went)) out' ≡ leaves_record (in_room (length out) f) out
unfolding leaves_record
in_room_lem f out out' n h e q = rw (le-leb (length f.bytes) (length out) h, e, q)

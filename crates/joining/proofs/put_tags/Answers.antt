-- `put_tags` writes each strand's text to the front of its own row, and its values where the joined tag has them.
-- Assumes nothing.
use mathlib.Core.Path.{◌∙◌, ◌≡◌, ap, refl}
use Prim.Native.Nat.{◌+◌, ◌-◌, ◌≤◌, ℕ}
use native.Mathlib.Omega.{arith}
use mathlib.Core.Bool.{Bool, cond, not, true}
use mathlib.Core.List.{List}
use lib.ListN.{length}
use lib.Seq.{length-sets, sets}
use borrow.Rule.Slice.PartMut.{put_mid}
use Rattle.joining.proofs.Parts.{starts_fit, values_placed}
use Rattle.joining.specs.Order.{second_first, second_tag}
use Rattle.lent.proofs.Filled.{over_stored}
use Rattle.lent.proofs.Stores.{part_stored}
use Rattle.samtags.specs.Building.{columns, own_tag}
use Rattle.joining.proofs.put_tags.Goals as goal

pub slice_bounds-put_tag-count : goal.slice_bounds-put_tag-count
slice_bounds-put_tag-count c =
    let starts : let n = length c.args.ml.now in (c.start_of-first_start.result ≡ cond (second_first c.args.first c.args.second) c.args.second_calls 0) × (c.start_of-second_start.result ≡ cond (not (second_first c.args.first c.args.second)) c.args.first_calls 0) × (c.start_of-first_start.result + c.args.first_calls ≤ n) × (c.start_of-second_start.result + c.args.second_calls ≤ n) = (let n = length c.args.ml.now in
    let s : c.start_of-first_start.result ≡ cond (second_first c.args.first c.args.second) c.args.second_calls 0 =
    c.start_of-first_start.ensures ∙ ap (λ (t : Bool). cond t c.args.second_calls 0) c.second_first-swapped.ensures in
    let t : c.start_of-second_start.result ≡ cond (not (second_first c.args.first c.args.second)) c.args.first_calls 0 =
    c.start_of-second_start.ensures ∙ ap (λ (t : Bool). cond (not t) c.args.first_calls 0) c.second_first-swapped.ensures in
    let fit = starts_fit (second_first c.args.first c.args.second) c.args.first_calls c.args.second_calls n c.requires.fact.2 in
    (s, t, rw s fit.0, rw t fit.1)) in
    omega (arith, starts)

pub slice_bounds-put_tag-start : goal.slice_bounds-put_tag-start
slice_bounds-put_tag-start c =
    let starts : let n = length c.args.ml.now in (c.start_of-first_start.result ≡ cond (second_first c.args.first c.args.second) c.args.second_calls 0) × (c.start_of-second_start.result ≡ cond (not (second_first c.args.first c.args.second)) c.args.first_calls 0) × (c.start_of-first_start.result + c.args.first_calls ≤ n) × (c.start_of-second_start.result + c.args.second_calls ≤ n) = (let n = length c.args.ml.now in
    let s : c.start_of-first_start.result ≡ cond (second_first c.args.first c.args.second) c.args.second_calls 0 =
    c.start_of-first_start.ensures ∙ ap (λ (t : Bool). cond t c.args.second_calls 0) c.second_first-swapped.ensures in
    let t : c.start_of-second_start.result ≡ cond (not (second_first c.args.first c.args.second)) c.args.first_calls 0 =
    c.start_of-second_start.ensures ∙ ap (λ (t : Bool). cond (not t) c.args.first_calls 0) c.second_first-swapped.ensures in
    let fit = starts_fit (second_first c.args.first c.args.second) c.args.first_calls c.args.second_calls n c.requires.fact.2 in
    (s, t, rw s fit.0, rw t fit.1)) in
    omega (arith, starts)

pub slice_bounds-put_second-count : goal.slice_bounds-put_second-count
slice_bounds-put_second-count c =
    let starts : let n = length c.args.ml.now in (c.start_of-first_start.result ≡ cond (second_first c.args.first c.args.second) c.args.second_calls 0) × (c.start_of-second_start.result ≡ cond (not (second_first c.args.first c.args.second)) c.args.first_calls 0) × (c.start_of-first_start.result + c.args.first_calls ≤ n) × (c.start_of-second_start.result + c.args.second_calls ≤ n) = (let n = length c.args.ml.now in
    let s : c.start_of-first_start.result ≡ cond (second_first c.args.first c.args.second) c.args.second_calls 0 =
    c.start_of-first_start.ensures ∙ ap (λ (t : Bool). cond t c.args.second_calls 0) c.second_first-swapped.ensures in
    let t : c.start_of-second_start.result ≡ cond (not (second_first c.args.first c.args.second)) c.args.first_calls 0 =
    c.start_of-second_start.ensures ∙ ap (λ (t : Bool). cond (not t) c.args.first_calls 0) c.second_first-swapped.ensures in
    let fit = starts_fit (second_first c.args.first c.args.second) c.args.first_calls c.args.second_calls n c.requires.fact.2 in
    (s, t, rw s fit.0, rw t fit.1)) in
    let placed : let own = own_tag c.args.mode c.args.first (columns c.args.first_informative.now c.args.first_unconverted.now c.args.first_converted.now) c.args.seq.now in let start = c.start_of-first_start.result in put_mid start (length c.args.ml.now - start) c.args.ml.now c.put_tag.new.ml ≡ sets c.args.ml.now start own.ml = (let own = own_tag c.args.mode c.args.first (columns c.args.first_informative.now c.args.first_unconverted.now c.args.first_converted.now) c.args.seq.now in
    let start = c.start_of-first_start.result in
    rw c.put_tag.ensures.1
    (part_stored c.args.ml.now own.ml start (length c.args.ml.now - start) refl (omega (arith, (starts).2, c.requires.fact.0)))) in
    let own = own_tag c.args.mode c.args.first (columns c.args.first_informative.now c.args.first_unconverted.now c.args.first_converted.now) c.args.seq.now in
    let start = c.start_of-first_start.result in
    let long = ap (λ (l : List ℕ). length l) (placed) ∙ length-sets c.args.ml.now start own.ml in
    omega (arith, long, (starts).3)

pub slice_bounds-put_second-start : goal.slice_bounds-put_second-start
slice_bounds-put_second-start c =
    let starts : let n = length c.args.ml.now in (c.start_of-first_start.result ≡ cond (second_first c.args.first c.args.second) c.args.second_calls 0) × (c.start_of-second_start.result ≡ cond (not (second_first c.args.first c.args.second)) c.args.first_calls 0) × (c.start_of-first_start.result + c.args.first_calls ≤ n) × (c.start_of-second_start.result + c.args.second_calls ≤ n) = (let n = length c.args.ml.now in
    let s : c.start_of-first_start.result ≡ cond (second_first c.args.first c.args.second) c.args.second_calls 0 =
    c.start_of-first_start.ensures ∙ ap (λ (t : Bool). cond t c.args.second_calls 0) c.second_first-swapped.ensures in
    let t : c.start_of-second_start.result ≡ cond (not (second_first c.args.first c.args.second)) c.args.first_calls 0 =
    c.start_of-second_start.ensures ∙ ap (λ (t : Bool). cond (not t) c.args.first_calls 0) c.second_first-swapped.ensures in
    let fit = starts_fit (second_first c.args.first c.args.second) c.args.first_calls c.args.second_calls n c.requires.fact.2 in
    (s, t, rw s fit.0, rw t fit.1)) in
    let placed : let own = own_tag c.args.mode c.args.first (columns c.args.first_informative.now c.args.first_unconverted.now c.args.first_converted.now) c.args.seq.now in let start = c.start_of-first_start.result in put_mid start (length c.args.ml.now - start) c.args.ml.now c.put_tag.new.ml ≡ sets c.args.ml.now start own.ml = (let own = own_tag c.args.mode c.args.first (columns c.args.first_informative.now c.args.first_unconverted.now c.args.first_converted.now) c.args.seq.now in
    let start = c.start_of-first_start.result in
    rw c.put_tag.ensures.1
    (part_stored c.args.ml.now own.ml start (length c.args.ml.now - start) refl (omega (arith, (starts).2, c.requires.fact.0)))) in
    let own = own_tag c.args.mode c.args.first (columns c.args.first_informative.now c.args.first_unconverted.now c.args.first_converted.now) c.args.seq.now in
    let start = c.start_of-first_start.result in
    let long = ap (λ (l : List ℕ). length l) (placed) ∙ length-sets c.args.ml.now start own.ml in
    omega (arith, long, (starts).3)

pub put_second-requires : goal.put_second-requires
put_second-requires c =
    record { seq_len_bound = (λ (t : c.args.two ≡ true). (c.requires.seq_len_bound.0, (c.requires.second_informative_len t).0, (c.requires.second_informative_len t).1, (c.requires.second_informative_len t).2)); calls_value = c.requires.fact.1 }

pub returns : goal.returns
returns c =
    let starts : let n = length c.args.ml.now in (c.start_of-first_start.result ≡ cond (second_first c.args.first c.args.second) c.args.second_calls 0) × (c.start_of-second_start.result ≡ cond (not (second_first c.args.first c.args.second)) c.args.first_calls 0) × (c.start_of-first_start.result + c.args.first_calls ≤ n) × (c.start_of-second_start.result + c.args.second_calls ≤ n) = (let n = length c.args.ml.now in
    let s : c.start_of-first_start.result ≡ cond (second_first c.args.first c.args.second) c.args.second_calls 0 =
    c.start_of-first_start.ensures ∙ ap (λ (t : Bool). cond t c.args.second_calls 0) c.second_first-swapped.ensures in
    let t : c.start_of-second_start.result ≡ cond (not (second_first c.args.first c.args.second)) c.args.first_calls 0 =
    c.start_of-second_start.ensures ∙ ap (λ (t : Bool). cond (not t) c.args.first_calls 0) c.second_first-swapped.ensures in
    let fit = starts_fit (second_first c.args.first c.args.second) c.args.first_calls c.args.second_calls n c.requires.fact.2 in
    (s, t, rw s fit.0, rw t fit.1)) in
    let placed : let own = own_tag c.args.mode c.args.first (columns c.args.first_informative.now c.args.first_unconverted.now c.args.first_converted.now) c.args.seq.now in let start = c.start_of-first_start.result in put_mid start (length c.args.ml.now - start) c.args.ml.now c.put_tag.new.ml ≡ sets c.args.ml.now start own.ml = (let own = own_tag c.args.mode c.args.first (columns c.args.first_informative.now c.args.first_unconverted.now c.args.first_converted.now) c.args.seq.now in
    let start = c.start_of-first_start.result in
    rw c.put_tag.ensures.1
    (part_stored c.args.ml.now own.ml start (length c.args.ml.now - start) refl (omega (arith, (starts).2, c.requires.fact.0)))) in
    let own = own_tag c.args.mode c.args.first (columns c.args.first_informative.now c.args.first_unconverted.now c.args.first_converted.now) c.args.seq.now in
    let other = second_tag c.args.two c.args.mode c.args.second (columns c.args.second_informative.now c.args.second_unconverted.now c.args.second_converted.now) c.args.seq.now in
    let swapped = second_first c.args.first c.args.second in
    let s = c.start_of-first_start.result in
    let t = c.start_of-second_start.result in
    let st = starts in
    let s-is : s ≡ cond swapped (length other.ml) 0 = st.0 ∙ ap (λ (n : ℕ). cond swapped n 0) c.requires.fact.1 in
    let t-is : t ≡ cond (not swapped) (length own.ml) 0 = st.1 ∙ ap (λ (n : ℕ). cond (not swapped) n 0) c.requires.fact.0 in
    let first = placed in
    let row = put_mid s (length c.args.ml.now - s) c.args.ml.now c.put_tag.new.ml in
    let long : length row ≡ length c.args.ml.now = ap (λ (l : List ℕ). length l) first ∙ length-sets c.args.ml.now s own.ml in (
      c.put_tag.ensures.0 ∙ over_stored own.text c.args.first_mm.now c.requires.fact.3,
      c.put_second.ensures.0 ∙ over_stored other.text c.args.second_mm.now c.requires.fact.4,
      rw c.put_second.ensures.1
          (part_stored row other.ml t (length row - t) refl (omega (arith, long, st.3, c.requires.fact.1))
          ∙ ap (λ (l : List ℕ). sets l t other.ml) first
          ∙ (λ j. sets (sets c.args.ml.now (s-is j) own.ml) (t-is j) other.ml)
          ∙ values_placed c.args.first c.args.second own.ml other.ml c.args.ml.now (omega (arith, c.requires.fact))),
    )

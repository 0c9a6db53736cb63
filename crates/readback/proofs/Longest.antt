-- The duplex call reaches the bound on a built tag: two C to T strands that list every one of 16,000 C take 64,010 bytes of text, and with enough room the
-- call answers so.
-- Assumes nothing.
use Rattle.std.specs.Prelude.{Ok}
use mathlib.Core.Path.{◌≡◌, refl, sym, ap, ◌∙◌}
use Prim.Native.Nat.{ℕ, zero, suc, ◌+◌, ◌*◌, ◌<◌, ◌≤◌}
use native.Mathlib.Omega.{arith}
use mathlib.Core.Bool.{true, false}
use mathlib.Core.List.{List, [], ◌∷◌}
use lib.Dec.{leb}
use lib.ListN.{length, length-replicate, replicate}
use borrow.Author.Tests.{eq-eqb, le-leb}
use Rattle.lent.specs.Filled.{leaves}
use Rattle.lent.specs.Outcome.{on_done}
use Rattle.pattern.specs.Case.{upper, same_in_any_case}
use Rattle.pattern.specs.Patterns.{is_enabled}
use Rattle.pattern.specs.declared.ConversionPattern.TheVariants.{CToT}
use Rattle.pattern.specs.declared.MethylationMode.{MethylationMode}
use Rattle.columns.specs.Columns.{restored}
use Rattle.samtags.specs.Building.{Strand, evidence_agrees, evidence_in_domain, joined_tag}
use Rattle.samtags.proofs.Longest.{all_seen, two_strands_length}
use Rattle.duplex.specs.Duplex.{Duplexed, admitted, duplex_tags, duplexed, lengths_of, restored_by, within}
use Rattle.duplex.specs.declared.Lengths.{Lengths}
use Rattle.duplex.specs.PublicContracts.{Duplexes, Rows, eleven_rows, lengths_lent}
use Rattle.readback.proofs.Joined.{came_to}

-- if SEQ shows C, there is nothing to restore
c_is_not_t : same_in_any_case 67 84 ≡ false
unfolding same_in_any_case upper
c_is_not_t = refl

nothing_restored : (n : ℕ) → restored CToT (replicate n 1) (replicate n 67) ≡ replicate n 67
nothing_restored zero = refl
nothing_restored (suc n) = rw (c_is_not_t, nothing_restored n)

abbrev pub seen_strand : ℕ → Strand
seen_strand n = record { pattern = CToT; evidence = all_seen n }

longest : (mode : MethylationMode) (n : ℕ) (lent : Rows) (f : Lengths) (l : Rows) → is_enabled mode ≡ true → 0 < n
    → Duplexes 2 mode (replicate n 67) (seen_strand n) (seen_strand n) lent (Ok f) l → (f.mm ≡ 4 * n + 10) × (f.ml ≡ 2 * n)
unfolding duplexed
longest mode n lent f l e h c =
    let s = seen_strand n in
    let sizes = (came_to 2 mode (replicate n 67) s s lent f l c).1 in
    let kept : restored_by (s ∷ s ∷ []) (replicate n 67) ≡ replicate n 67 =
    ap (restored CToT (replicate n 1)) (nothing_restored n) ∙ nothing_restored n in
    let both = two_strands_length mode n e h in (
      sym (ap (λ (k : Lengths). k.mm) sizes) ∙ ap (λ (q : List ℕ). length (joined_tag mode (s ∷ s ∷ []) q).text) kept ∙ both.0,
      sym (ap (λ (k : Lengths). k.ml) sizes) ∙ ap (λ (q : List ℕ). length (joined_tag mode (s ∷ s ∷ []) q).ml) kept ∙ both.1,
    )

pub longest_duplex : (mode : MethylationMode) (lent : Rows) (f : Lengths) (l : Rows) → is_enabled mode ≡ true
    → Duplexes 2 mode (replicate 16000 67) (seen_strand 16000) (seen_strand 16000) lent (Ok f) l → (f.mm ≡ 64010) × (f.ml ≡ 32000)
longest_duplex mode lent f l e c = longest mode 16000 lent f l e (omega arith) c

-- ---- and there are rows with which it answers Ok: those that are just as long as their parts

within_itself : (l : Lengths) → within l l ≡ true
within_itself l =
    let leb-itself : (n : ℕ) → leb n n ≡ true = λ n. le-leb n n (omega arith) in
    rw (leb-itself l.seq, leb-itself l.mm, leb-itself l.ml, leb-itself l.unconverted, leb-itself l.converted, leb-itself l.first_mm, leb-itself l.first_unconverted, leb-itself l.first_converted, leb-itself l.second_mm, leb-itself l.second_unconverted, leb-itself l.second_converted)

seen_passes : (n : ℕ) → n ≤ 16000
    → (evidence_in_domain (all_seen n) (replicate n 67) ≡ true) × (evidence_agrees (all_seen n) (replicate n 67) ≡ true)
seen_passes n h = (
  rw (length-replicate {A = ℕ} n 67, length-replicate {A = ℕ} n 1, length-replicate {A = ℕ} n 0, le-leb n 16000 h),
  rw (length-replicate {A = ℕ} n 67, length-replicate {A = ℕ} n 1, length-replicate {A = ℕ} n 0, eq-eqb n n refl),
)

-- the parts of an answer as rows
abbrev parts_of : Duplexed → Rows
parts_of d =
    eleven_rows d.seq d.joined.text d.joined.ml d.unconverted d.converted d.first.text d.first.unconverted d.first.converted d.second.text
    d.second.unconverted d.second.converted

comes_to : (mode : MethylationMode) (n : ℕ) → n ≤ 16000
    → let d = duplexed true mode (replicate n 67) (seen_strand n) (seen_strand n) in
    duplex_tags 2 mode (replicate n 67) (seen_strand n) (seen_strand n) (lengths_lent (parts_of d)) ≡ Ok d
unfolding duplex_tags admitted
comes_to mode n h =
    let (short, same) = seen_passes n h in
    rw (short, same, within_itself (lengths_of (duplexed true mode (replicate n 67) (seen_strand n) (seen_strand n))))

pub longest_is_met : (mode : MethylationMode) (n : ℕ) → n ≤ 16000
    → (lent : Rows) × (f : Lengths) × (left : Rows) × Duplexes 2 mode (replicate n 67) (seen_strand n) (seen_strand n) lent (Ok f) left
longest_is_met mode n h =
    let s = seen_strand n in
    let d = duplexed true mode (replicate n 67) s s in
    let lent = parts_of d in
    let o = duplex_tags 2 mode (replicate n 67) s s (lengths_lent lent) in
    let is : o ≡ Ok d = comes_to mode n h in (
      lent,
      lengths_of d,
      eleven_rows
          (leaves (λ (d : Duplexed). d.seq) o d.seq)
          (leaves (λ (d : Duplexed). d.joined.text) o d.joined.text)
          (leaves (λ (d : Duplexed). d.joined.ml) o d.joined.ml)
          (leaves (λ (d : Duplexed). d.unconverted) o d.unconverted)
          (leaves (λ (d : Duplexed). d.converted) o d.converted)
          (leaves (λ (d : Duplexed). d.first.text) o d.first.text)
          (leaves (λ (d : Duplexed). d.first.unconverted) o d.first.unconverted)
          (leaves (λ (d : Duplexed). d.first.converted) o d.first.converted)
          (leaves (λ (d : Duplexed). d.second.text) o d.second.text)
          (leaves (λ (d : Duplexed). d.second.unconverted) o d.second.unconverted)
          (leaves (λ (d : Duplexed). d.second.converted) o d.second.converted),
      (ap (on_done lengths_of) (sym is), refl, refl, refl, refl, refl, refl, refl, refl, refl, refl, refl),
    )

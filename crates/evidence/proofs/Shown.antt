-- Counting a base that shows the unconverted base, the converted base, or neither.
-- Assumes nothing.
use mathlib.Core.Path.{◌≡◌, refl, sym, ◌∙◌}
use Prim.Native.Nat.{ℕ, ◌+◌}
use native.Mathlib.Omega.{arith}
use mathlib.Core.Bool.{true, false}
use lib.Dec.{eqb}
use borrow.Author.Tests.{eqb-true, ne_eqb}
use Rattle.pattern.specs.Case.{same_in_any_case, upper}
use Rattle.pattern.specs.Patterns.{bases_of}
use Rattle.pattern.specs.declared.ConversionPattern.{ConversionPattern}
use Rattle.pattern.specs.declared.ConversionPattern.TheVariants.{CToT, GToA}
use Rattle.evidence.specs.Position.{capped, counted}
use Rattle.evidence.specs.declared.MethylationEvidence.{MethylationEvidence}

-- the bases of a pattern are upper-case letters
shows_unconverted : (p : ConversionPattern) (base : ℕ) → same_in_any_case base (bases_of p).unconverted ≡ eqb (upper base) (bases_of p).unconverted
unfolding same_in_any_case upper
shows_unconverted CToT base = refl
shows_unconverted GToA base = refl

shows_converted : (p : ConversionPattern) (base : ℕ) → same_in_any_case base (bases_of p).converted ≡ eqb (upper base) (bases_of p).converted
unfolding same_in_any_case upper
shows_converted CToT base = refl
shows_converted GToA base = refl

-- no base is both
not_both : (p : ConversionPattern) (b : ℕ) → eqb b (bases_of p).unconverted ≡ true → eqb b (bases_of p).converted ≡ false
not_both CToT b t = let e : b ≡ 67 = eqb-true b 67 t in ne_eqb b 84 (λ f. omega arith)
not_both GToA b t = let e : b ≡ 71 = eqb-true b 71 t in ne_eqb b 65 (λ f. omega arith)

module _ (e : MethylationEvidence) (base : ℕ) (p : ConversionPattern) where
  pub counted_unconverted : same_in_any_case base (bases_of p).unconverted ≡ true
      → counted e base p ≡ record { informative = e.informative; unconverted = capped (e.unconverted + 1); converted = e.converted }
  counted_unconverted t =
      let is : eqb (upper base) (bases_of p).unconverted ≡ true = sym (shows_unconverted p base) ∙ t in
      rw (is, not_both p (upper base) is)

  pub counted_converted : same_in_any_case base (bases_of p).unconverted ≡ false → same_in_any_case base (bases_of p).converted ≡ true
      → counted e base p ≡ record { informative = e.informative; unconverted = e.unconverted; converted = capped (e.converted + 1) }
  counted_converted f t = rw (sym (shows_unconverted p base) ∙ f, sym (shows_converted p base) ∙ t)

  pub counted_neither : same_in_any_case base (bases_of p).unconverted ≡ false → same_in_any_case base (bases_of p).converted ≡ false
      → counted e base p ≡ e
  counted_neither f g = rw (sym (shows_unconverted p base) ∙ f, sym (shows_converted p base) ∙ g)

-- The checks of the first pass, in order: the refusal of each check that fails, and what is known when all of them pass.
-- Assumes nothing.
use Rattle.std.specs.Prelude.{Ok, Err}
use mathlib.Core.Path.{◌≡◌, ap, refl}
use Prim.Native.Nat.{ℕ}
use mathlib.Core.Bool.{Bool, ◌&&◌, ◌||◌, cond, false, true}
use mathlib.Core.List.{List}
use lib.Dec.{eqb}
use Rattle.duplex.specs.Duplex.{admitted, strands_of}
use Rattle.lent.proofs.Outcome.{done_inj, need_rest, need_test}
use Rattle.lent.specs.Lists.{every}
use Rattle.lent.specs.Outcome.{Outcome, need, refusal, refuse}
use Rattle.lent.specs.declared.Refusal.{Refusal}
use Rattle.samtags.specs.Building.{Strand, evidence_agrees, evidence_in_domain}

and_one : (s : Bool) → s && true ≡ s
and_one true = refl
and_one false = refl

-- both strands pass, where there are two
pub every_strand : (t : Strand → Bool) (two? : Bool) (a b : Strand) → every t (strands_of two? a b) ≡ t a && cond two? (t b) true
every_strand t true a b = rw (and_one (t b))
every_strand t false a b = refl

module _ {A : Type 0} (count : ℕ) (bases : List ℕ) (a b : Strand) (x : A) where
  abbrev two? : Bool
  two? = eqb count 2

  abbrev short : Strand → Bool
  short s = evidence_in_domain s.evidence bases

  abbrev same : Strand → Bool
  same s = evidence_agrees s.evidence bases

  pub not_counted : (eqb count 1 || eqb count 2) ≡ false → admitted count bases a b x ≡ refuse 13
  unfolding admitted
  not_counted k = rw k

  module _ (k : (eqb count 1 || eqb count 2) ≡ true) where
    pub first_long : short a ≡ false → admitted count bases a b x ≡ refuse 1
    unfolding admitted
    first_long p = rw (k, every_strand short two? a b, p)

    pub second_long : short a ≡ true → cond two? (short b) true ≡ false → admitted count bases a b x ≡ refuse 1
    unfolding admitted
    second_long p q = rw (k, every_strand short two? a b, p, q)

    module _ (p : short a ≡ true) (q : cond two? (short b) true ≡ true) where
      pub first_differs : same a ≡ false → admitted count bases a b x ≡ refuse 2
      unfolding admitted
      first_differs r = rw (k, every_strand short two? a b, p, q, every_strand same two? a b, r)

      pub second_differs : same a ≡ true → cond two? (same b) true ≡ false → admitted count bases a b x ≡ refuse 2
      unfolding admitted
      second_differs r s = rw (k, every_strand short two? a b, p, q, every_strand same two? a b, r, s)

      pub all_pass : same a ≡ true → cond two? (same b) true ≡ true → admitted count bases a b x ≡ Ok x
      unfolding admitted
      all_pass r s = rw (k, every_strand short two? a b, p, q, every_strand same two? a b, r, s)

  -- where all checks passed
  pub record Passed (y : A) : Type 0 where
    pub is : x ≡ y
    pub counted : (eqb count 1 || eqb count 2) ≡ true
    pub all_short : every short (strands_of two? a b) ≡ true
    pub all_same : every same (strands_of two? a b) ≡ true

  pub passed : (y : A) → admitted count bases a b x ≡ Ok y → Passed y
  unfolding admitted
  passed y e =
      let rest₁ = need_rest (eqb count 1 || eqb count 2) 13 _ y e in
      let rest₂ = need_rest (every short (strands_of two? a b)) 1 _ y rest₁ in
      record {
        is = done_inj (need_rest (every same (strands_of two? a b)) 2 (Ok x) y rest₂);
        counted = need_test (eqb count 1 || eqb count 2) 13 _ y e;
        all_short = need_test (every short (strands_of two? a b)) 1 _ y rest₁;
        all_same = need_test (every same (strands_of two? a b)) 2 (Ok x) y rest₂;
      }

-- what passes passes whatever the answer is
pub passes_too : {A B : Type 0} (count : ℕ) (bases : List ℕ) (a b : Strand) (x y : A) (z : B) → Passed count bases a b x y
    → admitted count bases a b z ≡ Ok z
unfolding admitted
passes_too count bases a b x y z p = rw (p.counted, p.all_short, p.all_same)

-- what is refused is refused whatever the answer would be
pub refused_anyway : {A B : Type 0} (count : ℕ) (bases : List ℕ) (a b : Strand) (x : A) (y : B) (r : Refusal)
    → admitted count bases a b x ≡ Err r → admitted count bases a b y ≡ Err r
unfolding admitted
refused_anyway count bases a b x y r e =
    need_on (eqb count 1 || eqb count 2) 13 _ _
    (need_on (every (λ s. evidence_in_domain s.evidence bases) (strands_of (eqb count 2) a b)) 1 _ _
    (need_on (every (λ s. evidence_agrees s.evidence bases) (strands_of (eqb count 2) a b)) 2 (Ok x) (Ok y) (λ (z : Ok x ≡ Err r). cc))) e
  where
    need_on : {A B : Type 0} (t : Bool) (n : ℕ) (o : Outcome A) (q : Outcome B) → (o ≡ Err r → q ≡ Err r) → need t n o ≡ Err r
        → need t n q ≡ Err r
    need_on true n o q f z = f z
    need_on false n o q f z = let same : refusal n ≡ r = cc in ap Err same

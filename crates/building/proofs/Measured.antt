-- The result of the first pass. If it refuses, so does the call. If it is done, the tag, its lengths, and the lengths of consensus and columns are known.
-- Assumes nothing.
use Rattle.std.specs.Prelude.{Ok, Err}
use mathlib.Core.Path.{◌∙◌, ◌≡◌, ap, sym}
use Prim.Native.Nat.{ℕ}
use mathlib.Core.Bool.{Bool, ◌&&◌}
use mathlib.Core.List.{List, [], ◌∷◌}
use lib.ListN.{length}
use Rattle.lent.proofs.Outcome.{done_inj, need_rest, need_test, on_done_inv, on_done_refused}
use Rattle.lent.proofs.Tests.{and_true_l, and_true_r}
use Rattle.lent.specs.Outcome.{on_done}
use Rattle.lent.specs.declared.Refusal.{Refusal}
use Rattle.pattern.specs.Patterns.{is_enabled}
use Rattle.pattern.specs.declared.ConversionPattern.{ConversionPattern}
use Rattle.pattern.specs.declared.MethylationMode.{MethylationMode}
use Rattle.samtags.proofs.OwnTag.{own_called}
use Rattle.samtags.specs.Building.{Evidence, build_tag, built_tag, evidence_agrees, evidence_in_domain, has_calls, own_tag, strand_group}
use Rattle.samtags.specs.Edits.{in_room}
use Rattle.samtags.specs.Writing.{Tag, sizes_of, written}
use Rattle.strand.proofs.Lengths.{Lengths, lengths_known}

module _ (mode : MethylationMode) (p : ConversionPattern) (ev : Evidence) (seq : List ℕ) where
  pub record Measured (t m : ℕ) : Type 0 where
    pub built : built_tag mode p ev seq ≡ Ok (own_tag mode p ev seq)
    pub text : t ≡ length (own_tag mode p ev seq).text
    pub values : m ≡ length (own_tag mode p ev seq).ml
    pub lengths : Lengths ev seq

  pub measured : (t m : ℕ) → on_done sizes_of (built_tag mode p ev seq) ≡ Ok (t, m) → Measured t m
  unfolding built_tag
  measured t m e =
      let g = strand_group mode p ev seq in
      let (tag, built, sizes) = on_done_inv sizes_of (built_tag mode p ev seq) (t, m) e in
      let inside = need_test (evidence_in_domain ev seq) 1 _ tag built in
      let e₂ = need_rest (evidence_in_domain ev seq) 1 _ tag built in
      let agreed = need_test (evidence_agrees ev seq) 2 _ tag e₂ in
      let e₃ = need_rest (evidence_agrees ev seq) 2 _ tag e₂ in
      let has = need_test (is_enabled mode && has_calls g) 20 (Ok (written (g ∷ []))) tag e₃ in
      let is : written (g ∷ []) ≡ tag = done_inj (need_rest (is_enabled mode && has_calls g) 20 (Ok (written (g ∷ []))) tag e₃) in
      let own : own_tag mode p ev seq ≡ tag =
      own_called mode p ev seq (and_true_l (is_enabled mode) (has_calls g) has) (and_true_r (is_enabled mode) (has_calls g) has) ∙ is in
      record {
        built = built ∙ ap Ok (sym own);
        text = ap (λ (s : ℕ × ℕ). s.0) (sym sizes) ∙ ap (λ (r : Tag). length r.text) (sym own);
        values = ap (λ (s : ℕ × ℕ). s.1) (sym sizes) ∙ ap (λ (r : Tag). length r.ml) (sym own);
        lengths = lengths_known ev seq inside agreed;
      }

  pub not_built : (ml? : Bool) (t m : ℕ) (r : Refusal) → on_done sizes_of (built_tag mode p ev seq) ≡ Err r → build_tag ml? mode p ev seq t m ≡ Err r
  unfolding build_tag
  not_built ml? t m r e = ap (in_room ml? t m) (on_done_refused sizes_of (built_tag mode p ev seq) r e)

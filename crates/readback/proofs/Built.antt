-- One strand: over upper-case bases the reader accepts what the build calls leave in the lent rows, and lists exactly the calls of the evidence.
-- Assumes nothing.
use Rattle.std.specs.Prelude.{Ok}
use mathlib.Core.Path.{◌≡◌, sym, ap, ◌∙◌}
use Prim.Native.Nat.{ℕ}
use mathlib.Core.Bool.{Bool, true, false}
use mathlib.Core.List.{List, [], ◌∷◌}
use lib.ListN.{length, take}
use Rattle.lent.specs.Outcome.{Outcome, on_done}
use Rattle.lent.proofs.Leaves.{front_is_part}
use Rattle.lent.proofs.Outcome.{on_done_inv}
use Rattle.pattern.specs.declared.ConversionPattern.{ConversionPattern}
use Rattle.pattern.specs.declared.MethylationMode.{MethylationMode}
use Rattle.samtags.specs.Spots.{Listing}
use Rattle.samtags.specs.Reading.{read_tag}
use Rattle.samtags.specs.Writing.{Tag, sizes_of}
use Rattle.samtags.specs.Building.{Evidence, build_tag}
use Rattle.samtags.proofs.Names.{upper_case}
use Rattle.samtags.proofs.Building.{evidence_listing, built_is_accepted}
use Rattle.samtags.proofs.BuiltSays.{Says, built_says}
use Rattle.building.specs.PublicContracts.{Built, BuiltAlone}
use Rattle.reading.specs.Calls.{counts_of}
use Rattle.reading.specs.PublicContracts.{ChecksTag, ReadsCalls}
use Rattle.reading.proofs.Promises.{Listed, Room, read_calls_with_room}

-- What reading these rows gives: the reader accepts them and lists ls, which they also say in SAMtags' words. `check_tag` answers with the counts of ls and,
-- if its columns have room, `read_calls` lists ls.
pub record ReadsBack (ml? : Bool) (seq text ml : List ℕ) (ls : List Listing) : Type 0 where
  pub accepted : read_tag ml? seq text ml ≡ Ok ls
  pub says : Says ml? seq text ml ls
  pub checked : (r : Outcome (ℕ × ℕ)) → ChecksTag ml? seq text ml r → r ≡ Ok (counts_of ls)
  pub listed : (gs ps ts : List ℕ) → Room ls gs ps ts → (r : Outcome (ℕ × ℕ)) (gs' ps' ts' : List ℕ) → ReadsCalls ml? seq text ml gs ps ts r gs' ps' ts'
      → Listed ls gs ps ts r gs' ps' ts'

pub reads_back : (ml? : Bool) (seq text ml : List ℕ) (ls : List Listing) → read_tag ml? seq text ml ≡ Ok ls → Says ml? seq text ml ls
    → ReadsBack ml? seq text ml ls
reads_back ml? seq text ml ls e s = record {
  accepted = e;
  says = s;
  checked = λ (r : Outcome (ℕ × ℕ)) (c : ChecksTag ml? seq text ml r). c ∙ ap (on_done counts_of) e;
  listed = read_calls_with_room ml? seq text ml ls e;
}

module _ (mode : MethylationMode) (p : ConversionPattern) (ev : Evidence) (seq mm ml : List ℕ) (u : upper_case seq ≡ true) where
  -- `build_mm_ml_tags` answered Ok
  pub built_reads_back : (t m : ℕ) (mm' ml' : List ℕ) → Built mode p ev seq mm ml (Ok (t, m)) mm' ml'
      → ReadsBack true seq (take t mm') (take m ml') (evidence_listing true mode p ev seq ∷ [])
  built_reads_back t m mm' ml' b =
      let o = build_tag true mode p ev seq (length mm) (length ml) in
      let (tag, is, sizes) = on_done_inv sizes_of o (t, m) (sym b.0) in
      let text = front_is_part (λ (r : Tag). r.text) o tag mm mm' t is b.1 (sym (ap (λ (s : ℕ × ℕ). s.0) sizes)) in
      let values = front_is_part (λ (r : Tag). r.ml) o tag ml ml' m is b.2 (sym (ap (λ (s : ℕ × ℕ). s.1) sizes)) in
      rw (text, values)
      (reads_back true seq tag.text tag.ml (evidence_listing true mode p ev seq ∷ [])
      (built_is_accepted true mode p ev seq (length mm) (length ml) tag [] u is)
      (built_says true mode p ev seq (length mm) (length ml) tag [] u is))

  -- `build_mm_tag_no_ml` answered Ok: the same calls, without values since there is no ML
  pub built_alone_reads_back : (t : ℕ) (mm' lent : List ℕ) → BuiltAlone mode p ev seq mm (Ok t) mm'
      → ReadsBack false seq (take t mm') lent (evidence_listing false mode p ev seq ∷ [])
  built_alone_reads_back t mm' lent b =
      let o = build_tag false mode p ev seq (length mm) 0 in
      let (tag, is, size) = on_done_inv (λ (r : Tag). length r.text) o t (sym b.0) in
      let text = front_is_part (λ (r : Tag). r.text) o tag mm mm' t is b.1 (sym size) in
      rw text
      (reads_back false seq tag.text lent (evidence_listing false mode p ev seq ∷ [])
      (built_is_accepted false mode p ev seq (length mm) 0 tag lent u is)
      (built_says false mode p ev seq (length mm) 0 tag lent u is))

-- The promises of the code about records, from its contracts: a call that answered Ok with the length n and w, whether a field went, has written the new
-- record to the front of the row.
-- Assumes nothing.
use Rattle.std.specs.Prelude.{Ok, Some, Option}
use mathlib.Core.Path.{◌≡◌, ◌∙◌, ap, subst, sym}
use Prim.Native.Nat.{ℕ}
use mathlib.Core.Bool.{Bool, false, true}
use mathlib.Core.List.{List}
use lib.ListN.{length, take}
use Rattle.lent.specs.Answers.{is_done}
use Rattle.lent.specs.Lists.{any, is_empty}
use Rattle.lent.specs.Outcome.{Outcome}
use Rattle.record_fields.specs.Bam.{is_reverse, is_whole}
use Rattle.record_fields.specs.Fields.{MM, fields}
use Rattle.record_rows.specs.Letters.{turned_letters}
use Rattle.record_says.proofs.Accepted as says
use Rattle.record_says.proofs.Parses as parse
use Rattle.record_says.proofs.Untouched.{the_rest_stays}
use Rattle.record_says.proofs.Went.{went_is_gone}
use Rattle.record_says.specs.Says.{Remade, Rewritten, Untouched, begins_at, cut, dropped, fields_in, five_names, is_gone, keeps, masked, mm_of, none_twice, read_places, read_seq, stored_seq, tail}
use Rattle.record_tags.specs.Records.{Finished}
use Rattle.record_tags.specs.Values.{is_text}
use Rattle.record.proofs.Made.{Made, cut_made, drop_made, mask_made}
use Rattle.record.specs.PublicContracts.{CutsRecord, DropsRecord, MasksRecord}
use Rattle.samtags.proofs.Kept.{calls_held_in, without_calls_at}
use Rattle.samtags.proofs.Masking.{differs_by_n, unmasked_calls}
use Rattle.samtags.specs.Edits.{same_bytes_of}

-- The new record parses; what is none of the five names is as it was; and with no name twice, w says whether one of the five is gone.
pub record Kept (bam new : List ℕ) (w : Bool) : Type 0 where
  pub whole : is_whole new ≡ true
  pub parses : is_done (fields (tail new)) ≡ true
  pub rest : Untouched bam new
  pub went : none_twice (fields_in bam) ≡ true → w ≡ any (is_gone (fields_in bam) (fields_in new)) five_names

kept : {bam : List ℕ} {o : Outcome Finished} {n : ℕ} {w : Bool} {out' : List ℕ} {r : Finished} → Made o n w out' r → Remade bam r
    → is_whole r.bytes ≡ true → is_done (fields (tail r.bytes)) ≡ true → Kept bam (take n out') w
kept {bam} {o} {n} {w} {out'} {r} m again whole parses =
    subst (λ (new : List ℕ). Kept bam new w) (sym m.bytes)
    (record { whole = whole; parses = parses; rest = the_rest_stays again; went = λ one. m.went ∙ went_is_gone again one })

module _ (bam out out' : List ℕ) (n : ℕ) (w : Bool) where
  -- ---- every call

  pub mask_keeps_the_rest : (before : List ℕ) → MasksRecord bam before out (Ok (n, w)) out' → Kept bam (take n out') w
  mask_keeps_the_rest before h =
      let (r, m) = mask_made bam out out' n w before h in
      let p = parse.mask_parses bam before (length out) r m.came in
      kept m (masked before (length out) m.came) p.whole (ap is_done p.parsed)

  pub drop_keeps_the_rest : (places : List ℕ) → DropsRecord bam places out (Ok (n, w)) out' → Kept bam (take n out') w
  drop_keeps_the_rest places h =
      let (r, m) = drop_made bam out out' n w places h in
      let p = parse.drop_parses bam places (length out) r m.came in
      kept m (dropped places (length out) m.came) p.whole (ap is_done p.parsed)

  pub cut_keeps_the_rest : (before : List ℕ) (before-reverse : Bool) (start : Option ℕ) → CutsRecord bam before before-reverse start out (Ok (n, w)) out'
      → Kept bam (take n out') w
  cut_keeps_the_rest before before-reverse start h =
      let (r, m) = cut_made bam out out' n w before before-reverse start h in
      let p = parse.cut_parses bam before before-reverse start (length out) r m.came in
      kept m (cut before before-reverse start (length out) m.came) p.whole (ap is_done p.parsed)

  -- ---- a tag that was edited: MM is a text, and stayed. The reader accepted it over SEQ as it was, and accepts what it became over SEQ as it is now; it lists
  -- what it listed, without the calls that went.

  module _ (text : is_text (mm_of bam) ≡ true) (stays : keeps MM bam (take n out') ≡ true) where
    pub drop_accepted : (places : List ℕ) → DropsRecord bam places out (Ok (n, w)) out' → is_empty places ≡ false
        → Rewritten (read_seq bam) bam (take n out') (without_calls_at (read_places bam places))
    drop_accepted places h some-place =
        let (r, m) = drop_made bam out out' n w places h in
        let same = m.bytes in
        subst (λ (new : List ℕ). Rewritten (read_seq bam) bam new (without_calls_at (read_places bam places))) (sym same)
        (says.drop_accepted bam places (length out) r m.came text (subst (λ (new : List ℕ). keeps MM bam new ≡ true) same stays) some-place)

    pub mask_accepted : (before : List ℕ) → MasksRecord bam before out (Ok (n, w)) out' → same_bytes_of before (stored_seq bam) ≡ false
        → differs_by_n (turned_letters (is_reverse bam) before) (read_seq bam) ≡ true
        → Rewritten (turned_letters (is_reverse bam) before) bam (take n out') (unmasked_calls (read_seq bam))
    mask_accepted before h differs only-n =
        let (r, m) = mask_made bam out out' n w before h in
        let same = m.bytes in
        subst (λ (new : List ℕ). Rewritten (turned_letters (is_reverse bam) before) bam new (unmasked_calls (read_seq bam))) (sym same)
        (says.mask_accepted bam before (length out) r m.came text (subst (λ (new : List ℕ). keeps MM bam new ≡ true) same stays) differs only-n)

    pub cut_accepted : (before : List ℕ) (before-reverse : Bool) (start : Option ℕ) → CutsRecord bam before before-reverse start out (Ok (n, w)) out'
        → same_bytes_of (turned_letters before-reverse before) (read_seq bam) ≡ false
        → (lo : ℕ) × (begins_at bam before before-reverse start ≡ Some lo)
        × Rewritten (turned_letters before-reverse before) bam (take n out') (calls_held_in lo (read_seq bam))
    cut_accepted before before-reverse start h differs =
        let (r, m) = cut_made bam out out' n w before before-reverse start h in
        let same = m.bytes in
        let (lo, begins, now) =
        says.cut_accepted bam before before-reverse start (length out) r m.came text (subst (λ (new : List ℕ). keeps MM bam new ≡ true) same stays) differs in
        (lo, begins, subst (λ (new : List ℕ). Rewritten (turned_letters before-reverse before) bam new (calls_held_in lo (read_seq bam))) (sym same) now)

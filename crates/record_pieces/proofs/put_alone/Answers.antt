-- `put_alone`: the name and the type, the edited text, and a NUL.
-- Assumes nothing.
use mathlib.Core.Path.{◌∙◌, ap, refl}
use Prim.Native.Nat.{ℕ, ◌+◌, ◌-◌, ◌≤◌}
use mathlib.Core.Bool.{false}
use mathlib.Core.List.{List, []}
use native.Mathlib.Omega.{arith}
use lib.ListN.{drop, length, take}
use Rattle.lent.specs.Answers.{is_done}
use Rattle.record_fields.specs.Spots.{part}
use Rattle.record_pieces.proofs.PieceLaws.{done_in, text_part, text_written}
use Rattle.record_pieces.specs.Pens.{text_in}
use Rattle.record_tags.specs.Plans.{by_window}
use Rattle.record_tags.specs.Values.{text_of}
use Rattle.record_pieces.proofs.put_alone.Goals as goal

pub put_tag-put-requires : goal.put_tag-put-requires
put_tag-put-requires c =
    let text = text_part c.args.bam.now c.args.at c.args.size _ (c.args.at + c.args.size - 1 - (c.args.at + 3)) (omega arith) (omega arith) refl (omega arith) in
    let short : length (take (c.args.at + c.args.size - 1 - (c.args.at + 3)) (drop (c.args.at + 3) c.args.bam.now)) ≤ 65536 = omega (arith, ap length text, c.requires.size_value.1) in record { seq_len_bound = (c.requires.size_in_bounds.3, short, omega arith, refl); ml_value = ap (λ (x : List ℕ). is_done (by_window c.args.lo c.args.after.now c.args.marks.now c.args.seq.now false x [])) text ∙ c.requires.size_value.0 }

pub returns : goal.returns
returns c =
    let text = text_part c.args.bam.now c.args.at c.args.size _ (c.args.at + c.args.size - 1 - (c.args.at + 3)) (omega arith) (omega arith) refl (omega arith) in
    let o = by_window c.args.lo c.args.after.now c.args.marks.now c.args.seq.now false (text_of (part c.args.bam.now c.args.at c.args.size)) [] in
    let same = ap (λ (x : List ℕ). by_window c.args.lo c.args.after.now c.args.marks.now c.args.seq.now false x []) text in
    let t = c.put_tag-put.ensures.text_value _ (same ∙ done_in o c.requires.size_value.0) in
    text_written c.args.bam.now c.args.out.now c.put_bytes-from.new.out c.put_tag-put.new.out c.put.new.out c.args.at c.args.size c.args.end c.put_bytes-from.result (c.args.at + 3 - c.args.at) (omega arith) (omega arith)
    c.put_bytes-from.ensures.0 c.put_bytes-from.ensures.1 (text_in o) c.put_tag-put.result.text (c.put_bytes-from.result + c.put_tag-put.result.text + 1) (omega arith) t.0 t.2 c.put.ensures refl

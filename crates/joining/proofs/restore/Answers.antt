-- `restore` copies the bases to the front of the row, and each strand restores them in turn.
-- Assumes nothing.
use mathlib.Core.Path.{◌∙◌, ◌≡◌, ap, refl, sym}
use Prim.Native.Nat.{◌-◌, ℕ}
use mathlib.Core.List.{List}
use lib.ListN.{length}
use borrow.Rule.Slice.PartMut.{put_mid}
use Rattle.columns.specs.Columns.{restored}
use Rattle.joining.proofs.Parts.{front_changed, front_held}
use Rattle.lent.proofs.Tabulate.{length_zip}
use Rattle.lent.specs.Filled.{over}
use Rattle.joining.proofs.restore.Goals as goal

pub restore-requires-then-two : goal.restore-requires-then-two
restore-requires-then-two c =
    let once : let n = length c.args.bases.now in let one = restored c.args.first c.args.first_informative.now c.args.bases.now in (put_mid 0 (n - 0) c.copy.new.out c.restore.new.bases ≡ over one c.args.seq.now) × (length one ≡ n) = (let n = length c.args.bases.now in
    let one = restored c.args.first c.args.first_informative.now c.args.bases.now in
    let held = front_held c.args.bases.now c.args.seq.now c.copy.new.out n c.copy.ensures refl in
    let is : c.restore.new.bases ≡ one = c.restore.ensures ∙ ap (restored c.args.first c.args.first_informative.now) held in
    let long : length one ≡ n = length_zip _ c.args.first_informative.now c.args.bases.now c.requires.0 in
    (rw is (front_changed c.args.bases.now one c.args.seq.now c.copy.new.out n c.copy.ensures refl long), long)) in
    let o = once in
    let one = restored c.args.first c.args.first_informative.now c.args.bases.now in
    let held = front_held one c.args.seq.now _ (length c.args.bases.now) o.0 o.1 in
    c.requires.1 c.if-two.true ∙ sym o.1 ∙ sym (ap (λ (l : List ℕ). length l) held)

pub returns-then-two : goal.returns-then-two
returns-then-two c =
    let once : let n = length c.args.bases.now in let one = restored c.args.first c.args.first_informative.now c.args.bases.now in (put_mid 0 (n - 0) c.copy.new.out c.restore.new.bases ≡ over one c.args.seq.now) × (length one ≡ n) = (let n = length c.args.bases.now in
    let one = restored c.args.first c.args.first_informative.now c.args.bases.now in
    let held = front_held c.args.bases.now c.args.seq.now c.copy.new.out n c.copy.ensures refl in
    let is : c.restore.new.bases ≡ one = c.restore.ensures ∙ ap (restored c.args.first c.args.first_informative.now) held in
    let long : length one ≡ n = length_zip _ c.args.first_informative.now c.args.bases.now c.requires.0 in
    (rw is (front_changed c.args.bases.now one c.args.seq.now c.copy.new.out n c.copy.ensures refl long), long)) in
    let n = length c.args.bases.now in
    let o = once in
    let one = restored c.args.first c.args.first_informative.now c.args.bases.now in
    let both = restored c.args.second c.args.second_informative.now one in
    let on = c.if-two.true in
    let held = front_held one c.args.seq.now _ n o.0 o.1 in
    let is : c.restore-then-two.new.bases ≡ both = c.restore-then-two.ensures ∙ ap (restored c.args.second c.args.second_informative.now) held in
    let long : length both ≡ n = length_zip _ c.args.second_informative.now one (c.requires.1 on ∙ sym o.1) ∙ o.1 in
    rw (on, is) (front_changed one both c.args.seq.now _ n o.0 o.1 long)

pub returns-else-two : goal.returns-else-two
returns-else-two c =
    let once : let n = length c.args.bases.now in let one = restored c.args.first c.args.first_informative.now c.args.bases.now in (put_mid 0 (n - 0) c.copy.new.out c.restore.new.bases ≡ over one c.args.seq.now) × (length one ≡ n) = (let n = length c.args.bases.now in
    let one = restored c.args.first c.args.first_informative.now c.args.bases.now in
    let held = front_held c.args.bases.now c.args.seq.now c.copy.new.out n c.copy.ensures refl in
    let is : c.restore.new.bases ≡ one = c.restore.ensures ∙ ap (restored c.args.first c.args.first_informative.now) held in
    let long : length one ≡ n = length_zip _ c.args.first_informative.now c.args.bases.now c.requires.0 in
    (rw is (front_changed c.args.bases.now one c.args.seq.now c.copy.new.out n c.copy.ensures refl long), long)) in
    rw c.if-two.false (once).0

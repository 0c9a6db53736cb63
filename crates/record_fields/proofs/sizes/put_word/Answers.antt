-- `put_word`: four stores, one after the other.
-- Assumes nothing.
use Rattle.record_fields.proofs.SizeLaws.{four_stores}
use Rattle.record_fields.proofs.sizes.put_word.Goals as goal

pub returns : goal.returns
returns c =
    let a = c.args in
    four_stores a.out.now c.put.new.out c.put-2.new.out c.put-3.new.out c.put-4.new.out a.at a.n
    c.put.ensures c.put-2.ensures c.put-3.ensures c.put-4.ensures

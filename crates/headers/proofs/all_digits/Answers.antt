-- `all_digits`: yes exactly if each byte is a digit.
-- Assumes nothing.
use Rattle.std.proofs.Common.{◌≡◌, ◌↔◌, EachIndex, IsTrue, get_or, rules, true}
use Rattle.samtags.specs.Bytes.{is_digit}
use Rattle.headers.proofs.HeaderLaws.{every_by}
use Rattle.headers.proofs.all_digits.Goals as goal

pub returns : goal.returns
returns c =
    let l = c.args.codes.now in
    let each : IsTrue c.all.result ↔ EachIndex l (λ k. is_digit (get_or l k 0) ≡ true) = search rules in
    every_by is_digit l c.all.result each

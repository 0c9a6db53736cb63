use Rattle.std.proofs.Common.{◌≡◌, ◌+◌, ◌≤◌, ◌<◌, ◌/◌, ◌%◌, ℕ, List, set, arith, ap, sym, ◌∙◌}
use lib.Seq.{sets}
use Rattle.samtags.proofs.Decimal.{digits_few}
use Rattle.samtags.specs.Decimal.{digits}
use Rattle.numbers.proofs.SkipLaws.{digits_more, digits_small, length_more, length_small, sets_snoc}
use Rattle.numbers.proofs.+put_digits.Goals as goal

pub returns-then-n-lt10 : goal.returns-then-n-lt10
returns-then-n-lt10 t c =
    let a = c.args in
    let small : a.n < 10 = omega arith in
    (omega (arith, length_small a.n small), c.put.ensures ∙ ap (sets a.out.now a.at) (sym (digits_small a.n small)))

pub overflow_add-result-2 : goal.overflow_add-result-2
overflow_add-result-2 t c = omega (arith, digits_few (c.args.n / 10), c.put_digits-next.ensures)

pub returns : goal.returns
returns t c =
    let a = c.args in
    let first = c.put_digits-next in
    let last = c.put-2 in
    let digit : last.new.out ≡ set first.new.out first.result (48 + a.n % 10) = last.ensures in
    let big : 10 ≤ a.n = omega arith in (
      omega (arith, length_more a.n big, first.ensures),
      digit
          ∙ ap (λ (m : List ℕ). set m first.result (48 + a.n % 10)) first.ensures.1
          ∙ sets_snoc a.out.now a.at (digits (a.n / 10)) (48 + a.n % 10) first.result first.ensures.0
          ∙ ap (sets a.out.now a.at) (sym (digits_more a.n big)),
    )

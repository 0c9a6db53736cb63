-- `two_in_order` checks the second length for 1, then all that the first read has, then the bytes of the second for 2.
-- Assumes nothing.
use Rattle.std.specs.Prelude.{Ok}
use mathlib.Core.Bool.{Bool}
use lib.Dec.{eqb, leb}
use Rattle.packed.specs.Packed.{bytes_for}
use Rattle.lent.specs.Outcome.{need}
use Rattle.stored_rows.proofs.OrderLaws.{two_first, two_second, two_too_long}
use Rattle.stored_rows.specs.Orders.{numbers_in_domain}
use mathlib.Core.Path.{◌∙◌, ap, sym}
use native.Mathlib.Omega.{arith}
use borrow.Author.Tests.{eq-eqb, le-leb, lt-leb, ne_eqb}
use Rattle.lent.proofs.Outcome.{passed_on}
use Rattle.stored_rows.proofs.order.two_in_order.Goals as goal

pub returns-then-after_bases-gt16000 : goal.returns-then-after_bases-gt16000
returns-then-after_bases-gt16000 c =
    sym (two_too_long (numbers_in_domain c.args.has_ml c.args.before_bases c.args.mm c.args.ml) (eqb c.args.before (bytes_for c.args.before_bases)) (leb c.args.after_bases 16000) (eqb c.args.after (bytes_for c.args.after_bases)) (lt-leb c.args.after_bases 16000 (omega arith)))

pub returns-in_err-stored_in_order : goal.returns-in_err-stored_in_order
returns-in_err-stored_in_order c =
    passed_on _ _ c.from_residual.ensures.1
    ∙ sym (two_first (numbers_in_domain c.args.has_ml c.args.before_bases c.args.mm c.args.ml) (eqb c.args.before (bytes_for c.args.before_bases)) (leb c.args.after_bases 16000) (eqb c.args.after (bytes_for c.args.after_bases)) c.in_err-stored_in_order.field-0.0
    (le-leb c.args.after_bases 16000 (omega arith)) (sym c.stored_in_order.ensures ∙ c.in_err-stored_in_order.was))

pub returns-then-after-bytes_for : goal.returns-then-after-bytes_for
returns-then-after-bytes_for c =
    let kept = sym c.stored_in_order.ensures ∙ c.in_ok-stored_in_order.was in
    sym (two_second (numbers_in_domain c.args.has_ml c.args.before_bases c.args.mm c.args.ml) (eqb c.args.before (bytes_for c.args.before_bases)) (leb c.args.after_bases 16000) (eqb c.args.after (bytes_for c.args.after_bases))
    (le-leb c.args.after_bases 16000 (omega arith)) kept
    ∙ ap (λ (t : Bool). need t 2 (Ok tt)) (ne_eqb c.args.after (bytes_for c.args.after_bases) (λ e. omega (arith, e))))

pub returns : goal.returns
returns c =
    let kept = sym c.stored_in_order.ensures ∙ c.in_ok-stored_in_order.was in
    sym (two_second (numbers_in_domain c.args.has_ml c.args.before_bases c.args.mm c.args.ml) (eqb c.args.before (bytes_for c.args.before_bases)) (leb c.args.after_bases 16000) (eqb c.args.after (bytes_for c.args.after_bases))
    (le-leb c.args.after_bases 16000 (omega arith)) kept
    ∙ ap (λ (t : Bool). need t 2 (Ok tt)) (eq-eqb c.args.after (bytes_for c.args.after_bases) (omega arith)))

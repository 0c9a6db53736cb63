-- `put_entry`, by cases: a base that is gone leaves the rows unchanged, a dropped call counts as one more passed base, and any other call is written.
-- Assumes nothing.
use mathlib.Core.Path.{◌∙◌, refl, sym}
use Rattle.entries.proofs.PutLaws.{entry_stored}
use Rattle.entries.proofs.put_entry.Goals as goal

pub returns-then-not-held : goal.returns-then-not-held
returns-then-not-held c = rw (sym c.still_held-held.ensures ∙ c.if-not-held.true)

pub returns-then-named : goal.returns-then-named
returns-then-named c = rw (
  sym c.still_held-held.ensures ∙ c.if-not-held.false,
  sym
      c.is_named-named.ensures ∙ c.if-named.true,
) refl

pub returns : goal.returns
returns c =
    let a =
    c.args in
    rw (
      sym c.still_held-held.ensures ∙ c.if-not-held.false,
      sym
          c.is_named-named.ensures ∙
          c.if-named.false,
    )
    (entry_stored a.out.now a.pen.end a.ml_out.now a.pen.kept a.pen.gap a.values.now _ _ _ _ c.put_skip-next_end.ensures.0 c.put_skip-next_end.ensures.1 c.put_all-next_kept.ensures.0 c.put_all-next_kept.ensures.1)

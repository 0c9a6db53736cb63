-- `measure` makes the checks in order, and then measures the strand's own tag.
-- Assumes nothing.
use Rattle.std.specs.Prelude.{Ok}
use mathlib.Core.Path.{◌∙◌, ◌≡◌, ap, sym}
use Prim.Native.Nat.{◌<◌}
use native.Mathlib.Omega.{arith}
use mathlib.Core.Bool.{false, true}
use lib.ListN.{length}
use Rattle.samtags.proofs.OwnTag.{own_full, own_none, own_some}
use Rattle.samtags.specs.Building.{Evidence, built_tag, columns, evidence_agrees, evidence_in_domain, own_tag}
use Rattle.samtags.specs.Writing.{Tag}
use Rattle.strand.proofs.Lengths.{lengths_known}
use Rattle.building.proofs.measure.Goals as goal

pub returns-then-not-short : goal.returns-then-not-short
unfolding built_tag
returns-then-not-short c =
    let ev : Evidence = columns c.args.informative.now c.args.unconverted.now c.args.converted.now in
    let off : evidence_in_domain ev c.args.consensus_bases.now ≡ false = sym c.in_domain-short.ensures ∙ c.if-not-short.true in
    rw off

pub returns-then-not-agree : goal.returns-then-not-agree
unfolding built_tag
returns-then-not-agree c =
    let ev : Evidence = columns c.args.informative.now c.args.unconverted.now c.args.converted.now in
    let inside : evidence_in_domain ev c.args.consensus_bases.now ≡ true = sym c.in_domain-short.ensures ∙ c.if-not-short.false in
    let off : evidence_agrees ev c.args.consensus_bases.now ≡ false = sym c.agree-agree.ensures ∙ c.if-not-agree.true in
    rw (inside, off)

pub measure-own-requires : goal.measure-own-requires
measure-own-requires c =
    let ev : Evidence = columns c.args.informative.now c.args.unconverted.now c.args.converted.now in
    let l = lengths_known ev c.args.consensus_bases.now
    (sym c.in_domain-short.ensures ∙ c.if-not-short.false)
    (sym c.agree-agree.ensures ∙ c.if-not-agree.false) in
    (l.short, l.inf, l.unc, l.con)

pub returns-then-own-eq0 : goal.returns-then-own-eq0
unfolding built_tag
returns-then-own-eq0 c =
    let ev : Evidence = columns c.args.informative.now c.args.unconverted.now c.args.converted.now in
    let inside : evidence_in_domain ev c.args.consensus_bases.now ≡ true = sym c.in_domain-short.ensures ∙ c.if-not-short.false in
    let same : evidence_agrees ev c.args.consensus_bases.now ≡ true = sym c.agree-agree.ensures ∙ c.if-not-agree.false in
    let no_call = own_none c.args.methylation_mode c.args.pattern ev c.args.consensus_bases.now (omega (arith, c.measure-own.ensures.1)) in
    rw (inside, same, no_call)

pub returns : goal.returns
unfolding built_tag
returns c =
    let ev : Evidence = columns c.args.informative.now c.args.unconverted.now c.args.converted.now in
    let inside : evidence_in_domain ev c.args.consensus_bases.now ≡ true = sym c.in_domain-short.ensures ∙ c.if-not-short.false in
    let same : evidence_agrees ev c.args.consensus_bases.now ≡ true = sym c.agree-agree.ensures ∙ c.if-not-agree.false in
    let some-value : 0 < length (own_tag c.args.methylation_mode c.args.pattern ev c.args.consensus_bases.now).ml = omega (arith, c.measure-own.ensures.1) in
    let calls = own_some c.args.methylation_mode c.args.pattern ev c.args.consensus_bases.now some-value in
    let own = own_full c.args.methylation_mode c.args.pattern ev c.args.consensus_bases.now some-value in
    let own-size = c.measure-own.ensures in
    let text = own-size.0 ∙ ap (λ (t : Tag). length t.text) own in
    let values = own-size.1 ∙ ap (λ (t : Tag). length t.ml) own in
    rw (inside, same, calls) (λ j. Ok (text j, values j))

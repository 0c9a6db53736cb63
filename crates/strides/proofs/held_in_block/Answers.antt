-- `held_in_block`: all bases if the window is SEQ itself. Otherwise none before or behind the window, and inside it those that both rows hold.
-- Assumes nothing.
use mathlib.Core.Path.{◌∙◌, sym}
use mathlib.Core.Logic.{◌⊎◌, ⊎_elim}
use Prim.Native.Nat.{◌+◌, ◌-◌, ◌≤◌}
use native.Mathlib.Omega.{arith}
use lib.ListN.{length}
use Rattle.strides.proofs.StrideLaws.{all_held, both_inside, none_before, none_past, undivided}
use Rattle.strides.proofs.held_in_block.Goals as goal

pub returns-then-window : goal.returns-then-window
returns-then-window c =
    let a = c.args in
    c.requires.4 ∙ sym (all_held a.window a.after.now a.base a.seq.now a.place c.requires.2 c.if-window.true c.requires.0)

pub returns-then-place-window : goal.returns-then-place-window
returns-then-place-window c =
    let apart : let a = c.args in (a.place + 32 ≤ a.window.lo) ⊎ ((a.window.lo ≤ a.place) × ((length a.after.now ≤ a.place - a.window.lo) ⊎ (a.place - a.window.lo + 32 ≤ length a.after.now))) = undivided c.args.window (length c.args.after.now) c.args.place c.if-window.false c.requires.3 in
    let a = c.args in
    let early : a.place + 32 ≤ a.window.lo = ⊎_elim (λ e. e) (λ e. omega (arith, e.0)) (apart) in
    sym (none_before a.window.lo a.after.now a.base a.seq.now a.place c.requires.0 early)

pub returns-then-after-there : goal.returns-then-after-there
returns-then-after-there c =
    let a = c.args in
    sym (none_past a.window.lo a.after.now a.base a.seq.now a.place c.requires.0 (omega arith) (omega arith))

pub both_in_block-requires : goal.both_in_block-requires
both_in_block-requires c =
    let apart : let a = c.args in (a.place + 32 ≤ a.window.lo) ⊎ ((a.window.lo ≤ a.place) × ((length a.after.now ≤ a.place - a.window.lo) ⊎ (a.place - a.window.lo + 32 ≤ length a.after.now))) = undivided c.args.window (length c.args.after.now) c.args.place c.if-window.false c.requires.3 in
    let inside : let a = c.args in a.place - a.window.lo + 32 ≤ length a.after.now = ⊎_elim (λ e. absurd (omega arith)) (λ e. ⊎_elim (λ f. absurd (omega arith)) (λ f. f) e.1) (apart) in
    (c.requires.0, inside, c.requires.1)

pub returns : goal.returns
returns c =
    let apart : let a = c.args in (a.place + 32 ≤ a.window.lo) ⊎ ((a.window.lo ≤ a.place) × ((length a.after.now ≤ a.place - a.window.lo) ⊎ (a.place - a.window.lo + 32 ≤ length a.after.now))) = undivided c.args.window (length c.args.after.now) c.args.place c.if-window.false c.requires.3 in
    let inside : let a = c.args in a.place - a.window.lo + 32 ≤ length a.after.now = ⊎_elim (λ e. absurd (omega arith)) (λ e. ⊎_elim (λ f. absurd (omega arith)) (λ f. f) e.1) (apart) in
    let a = c.args in
    c.both_in_block.ensures
    ∙ sym (both_inside a.window.lo a.after.now a.base a.seq.now a.place c.requires.0 (omega arith) (inside))

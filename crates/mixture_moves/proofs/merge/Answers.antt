use mathlib.Core.Path.{◌≡◌, ◌∙◌, ap}
use native.Mathlib.Omega.{arith}
use borrow.Author.Tests.{eq-eqb, ne_eqb}
use Rattle.mixture_moves.proofs.Moves.{stored-none, joining, joining_next, joining_all, mark-is, unchanged}
use Rattle.mixture_moves.proofs.merge.Goals as goal

pub returns-then-immutable-taker-ne0 : goal.returns-then-immutable-taker-ne0
returns-then-immutable-taker-ne0 c = λ b i e.
    let a = c.args in
    unchanged b a.taker _ a.gas.now (mark-is b a.taker _ _ i (ne_eqb _ _ c.if-immutable-taker-ne0.true))

pub loop-i-init : goal.loop-i-init
loop-i-init c = stored-none _ _ _ _

pub loop-i-preserved : goal.loop-i-preserved
loop-i-preserved c =
    let a = c.args in
    let held = c.requires.holds_gas in
    joining_next a.gas.now a.gases a.giver a.goes a.taker held.0 held.1 c.loop-i.gas c.loop-i.i c.loop-i-test.true c.loop-i.invariant

pub returns : goal.returns
returns c = λ b i e.
    let a = c.args in
    let held = c.requires.holds_gas in
    let n : c.loop-i.i ≡ a.gases = omega arith in
    c.loop-i.invariant
    ∙ ap (joining a.gas.now a.gases a.giver a.goes a.taker) n
    ∙ joining_all a.gas.now a.gases a.giver a.goes a.taker held.0 held.1 b e (mark-is b a.taker _ _ i (eq-eqb _ _ c.if-immutable-taker-ne0.false))

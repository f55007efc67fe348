use Prim.Native.Nat.{◌-◌, ◌+◌, ◌*◌}
use mathlib.Core.Path.{refl}
use native.Mathlib.Omega.{arith}
use borrow.Author.Tests.{eq-eqb, ne_eqb}
use Rattle.rules_mixture.specs.Mixture.{scale}
use Rattle.mixture_moves.proofs.Moves.{scaled, scaled_next, mark-is, unchanged}
use Rattle.mixture_moves.proofs.remove.Goals as goal

pub returns-then-immutable-giver-ne0 : goal.returns-then-immutable-giver-ne0
returns-then-immutable-giver-ne0 c = λ b i e.
    let a = c.args in
    unchanged b a.giver _ a.gas.now (mark-is b a.giver _ _ i (ne_eqb _ _ c.if-immutable-giver-ne0.true))

pub loop-x-init : goal.loop-x-init
unfolding scale
loop-x-init c = refl

pub loop-x-preserved : goal.loop-x-preserved
loop-x-preserved c = scaled_next _ _ c.loop-x.x-items c.loop-x.x-index c.loop-x-test.true c.loop-x.invariant

pub returns : goal.returns
returns c = λ b i e.
    let a = c.args in
    scaled b a.giver a.gas.now _ a.gases (a.giver * a.gases + a.gases - a.giver * a.gases) c.loop-x.x-index c.loop-x.x-items e
    (mark-is b a.giver _ _ i (eq-eqb _ _ c.if-immutable-giver-ne0.false))
    (omega arith) c.loop-x-test.false c.loop-x.invariant

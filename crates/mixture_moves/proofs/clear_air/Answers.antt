-- The mixture's part comes back as zeros, and an immutable one is left. Assumes nothing.
use Prim.Native.Nat.{◌+◌, ◌-◌, ◌*◌}
use native.Mathlib.Omega.{arith}
use borrow.Author.Tests.{eq-eqb, ne_eqb}
use Rattle.rules_mixture.specs.Mixture.{clear_air}
use Rattle.mixture_moves.proofs.Moves.{cleared, mark-is, unchanged}
use Rattle.mixture_moves.proofs.clear_air.Goals as goal

pub returns-then-immutable-mix-ne0 : goal.returns-then-immutable-mix-ne0
unfolding clear_air
returns-then-immutable-mix-ne0 c = λ b i e.
    let a = c.args in
    unchanged b a.mix _ a.gas.now (mark-is b a.mix _ _ i (ne_eqb _ _ c.if-immutable-mix-ne0.true))

pub returns : goal.returns
returns c = λ b i e.
    let a = c.args in
    cleared b a.mix a.gas.now a.gases (a.mix * a.gases + a.gases - a.mix * a.gases) c.clear_floats.new.floats e
    (mark-is b a.mix _ _ i (eq-eqb _ _ c.if-immutable-mix-ne0.false))
    c.requires.1 (omega arith) c.clear_floats.ensures

-- A vector takes some room, and there is a place behind this one. Assumes nothing.
use mathlib.Core.Path.{refl}
use borrow.Author.Tests.{eq-eqb, ne_eqb}
use Rattle.vectors.specs.Vectors.{onward, behind}
use borrow.Author.Rules.{rules}
use native.Mathlib.Omega.{arith}
use Rattle.vectors.proofs.past.Goals as goal

pub returns-then-count-eq0 : goal.returns-then-count-eq0
unfolding behind
returns-then-count-eq0 c = (rw (eq-eqb _ _ c.if-count-eq0.true) refl, search rules)

pub returns : goal.returns
unfolding onward behind
returns c = (rw (ne_eqb _ _ c.if-count-eq0.false) c.further.ensures.0, omega (arith, c.further.ensures.0))

use mathlib.Core.Path.{◌∙◌, sym}
use lib.Dec.{eqb}
use lib.ListN.{get_or}
use borrow.Author.Tests.{eq-eqb, ne_eqb}
use Rattle.basics.proofs.Loops.{first-here, first_on, first-end}
use Rattle.reverse_links.proofs.look_back.Goals as goal

pub returns-then-neighbours-k : goal.returns-then-neighbours-k
returns-then-neighbours-k c = sym (first-here (λ j. eqb (get_or c.args.neighbours.now j 0) c.args.r) c.loop-k.k c.args.to c.loop-k-test.true (eq-eqb _ _ c.if-neighbours-k.true)) ∙ c.loop-k.invariant

pub loop-k-preserved : goal.loop-k-preserved
loop-k-preserved c = first_on (λ j. eqb (get_or c.args.neighbours.now j 0) c.args.r) c.loop-k.k c.args.to c.loop-k-test.true (ne_eqb _ _ c.if-neighbours-k.false) ∙ c.loop-k.invariant

pub returns : goal.returns
returns c = sym (first-end (λ j. eqb (get_or c.args.neighbours.now j 0) c.args.r) c.loop-k.k c.args.to c.loop-k-test.false) ∙ c.loop-k.invariant

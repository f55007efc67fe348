-- The loop's invariant is what is promised, for the links up to here; a link that has something to trade leaves all as it is. Assumes nothing.
use Rattle.plan_state.specs.Held.{area}
use Rattle.plan_search.proofs.Passes.{PassUpTo}
use Rattle.plan_search.proofs.pass_links.Given as goal

abbrev pub invariant-loop-k : goal.invariant-loop-k
invariant-loop-k l = PassUpTo l.hand.side l.r l.neighbours l.hand.z l.hand.layout.turfs l.hand.layout.links l.at l.to l.initial.c l.k l.c (area l.initial.words l.initial.floats) (area l.words l.floats)

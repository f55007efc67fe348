-- Each turn passes over one link more. Assumes nothing.
use Rattle.plan_search.proofs.Passes.{passes_start, passes_next}
use Rattle.plan_search.proofs.pass_links.Goals as goal

pub loop-k-init : goal.loop-k-init
loop-k-init c = passes_start _ _ _ _ _ _ _ _ _ c.requires.searching.seeking

pub loop-k-preserved : goal.loop-k-preserved
loop-k-preserved c = passes_next _ _ _ _ _ _ _ _ _ _ c.loop-k.auto.k c.loop-k-test.true c.loop-k.invariant c.in-Some.ensures.fact

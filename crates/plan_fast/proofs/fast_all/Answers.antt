-- What is left of the nodes starts as all of them and ends as none. Assumes nothing.
use Rattle.plan_state.proofs.Nodes.{onto_next, onto_end, onto_frame, now_below, walk-next, walk_end}
use Rattle.plan_fast.proofs.fast_all.Goals as goal

pub fast_turf-requires-clause-r_lt_n : goal.fast_turf-requires-clause-r_lt_n
fast_turf-requires-clause-r_lt_n c = now_below c.requires.nodes (onto_frame c.loop-i.invariant) c.loop-i.auto.words _ c.loop-i-test.true

pub loop-i-preserved : goal.loop-i-preserved
loop-i-preserved c =
    let loop = c.loop-i in
    onto_next _ _ loop.invariant c.fast_turf.ensures (λ o p. walk-next c.requires.nodes (onto_frame loop.invariant) loop.auto.words _ c.loop-i-test.true _ p)

pub returns : goal.returns
returns c =
    let loop = c.loop-i in
    onto_end loop.invariant (λ o p. walk_end c.requires.nodes (onto_frame loop.invariant) loop.auto.words _ c.loop-i-test.false _ p)

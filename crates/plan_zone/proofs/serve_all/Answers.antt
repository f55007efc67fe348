-- What is left of the list starts as the whole list and ends as none of it. Assumes nothing.
use Rattle.plan_zone.proofs.Lists.{along-next, along-end, list-below, list-next, list-end}
use Rattle.plan_zone.proofs.serve_all.Goals as goal

pub serve-requires-clause-g_lt_n : goal.serve-requires-clause-g_lt_n
serve-requires-clause-g_lt_n c = list-below c.requires.listed_le_n c.requires.below c.loop-i.invariant _ c.list_at-list.ensures _ c.loop-i-test.true

pub loop-i-preserved : goal.loop-i-preserved
loop-i-preserved c =
    let inv = c.loop-i.invariant in
    along-next _ _ inv c.serve.ensures (λ o p. list-next c.requires.listed_le_n c.requires.below inv _ c.list_at-list.ensures _ c.loop-i-test.true _ p)

pub returns : goal.returns
returns c =
    let inv = c.loop-i.invariant in
    along-end inv (λ o p. list-end c.requires.listed_le_n c.requires.below inv _ c.list_at-list.ensures _ c.loop-i-test.false _ p)

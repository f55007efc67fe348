-- The push, and then what is asked unless the zone is ignored. Assumes nothing.
use Rattle.fill_links.proofs.Asks.{found-ignored, found-asks}
use Rattle.fill_links.proofs.discover.Goals as goal

pub returns-then-t : goal.returns-then-t
returns-then-t c = found-ignored _ _ c.push-t.ensures _ c.requires.used_in_bounds c.if-t.true

pub returns : goal.returns
returns c =
    let by-push = c.push-t in
    let by-if1 = c.if-t in
    let by-ask-space = c.ask_space-u in
    found-asks _ _ by-push.ensures _ c.requires.used_in_bounds by-if1.false by-ask-space.ensures c.ask_planet.ensures

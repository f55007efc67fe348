-- By the size and the turns that are read. Assumes nothing.
use Rattle.finish_live.proofs.Starts.{settles_none, settles_out}
use Rattle.finish_live.proofs.settle.Goals as goal

pub returns-then-turns_of-size_of : goal.returns-then-turns_of-size_of
returns-then-turns_of-size_of c = settles_none _ _ _ _ _ _ c.requires.laid c.requires.p_lt_count _ _ c.turns_of.ensures c.size_of.ensures c.if-turns_of-size_of.true

pub returns : goal.returns
returns c =
    let turns-of = c.turns_of in
    let size-of = c.size_of in
    let if1 = c.if-turns_of-size_of in
    let live_in-at = c.live_at in
    let take_out = c.take_out in
    settles_out _ _ _ _ _ _ c.requires.laid c.requires.p_lt_count _ _ turns-of.ensures size-of.ensures _ _ live_in-at.ensures if1.false take_out.ensures

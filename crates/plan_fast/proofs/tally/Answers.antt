-- By the ways out: not the zone's link, a marked turf, one more. Assumes nothing.
use Rattle.plan_fast.proofs.Moves.{tally_foreign, tally_marked, tally_more}
use Rattle.plan_fast.proofs.tally.Goals.{else-words-k-via-then-words-k+else-words-fast_at-eq0, else-words-k-via-else-words-k}
use Rattle.plan_fast.proofs.tally.Goals as goal

pub returns-then-words-fast_at-eq0 : goal.returns-then-words-fast_at-eq0
returns-then-words-fast_at-eq0 c = tally_more _ _ _ _ _ _ _ c.requires.link c.requires.end c.if-words-k.true _ c.fast_at.ensures c.if-words-fast_at-eq0.true

pub returns-else-words-k : goal.returns-else-words-k
returns-else-words-k c =
    elim c.else-words-k.branch [
      | else-words-k-via-then-words-k+else-words-fast_at-eq0 w ↦ tally_marked _ _ _ _ _ _ _ c.requires.link c.requires.end w.if-words-k.true _ w.fast_at.ensures w.if-words-fast_at-eq0.false
      | else-words-k-via-else-words-k w ↦ tally_foreign _ _ _ _ _ _ _ c.requires.link c.requires.end w.if-words-k.false
    ]

-- The turf's planetary byte. Assumes nothing.
use Rattle.rules_board.specs.Board.{planetary}
use Rattle.walk_first.proofs.met.Goals as goal

pub returns-else-before : goal.returns-else-before
unfolding planetary
returns-else-before c = λ b p. rw (c.if-before.false, p)

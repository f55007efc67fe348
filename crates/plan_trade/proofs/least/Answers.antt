-- By the test. Assumes nothing.
use Rattle.plan_trade.proofs.Lessers.{lesser-first, lesser-second}
use Rattle.plan_trade.proofs.least.Goals as goal

pub returns-then-a-b : goal.returns-then-a-b
returns-then-a-b c = lesser-first _ _ c.if-a-b.true

pub returns-else-a-b : goal.returns-else-a-b
returns-else-a-b c = lesser-second _ _ c.if-a-b.false

-- By the test. Assumes nothing.
use borrow.Author.Tests.{lt-ltb, le-ltb}
use Rattle.plan_tests.proofs.side_of.Goals as goal

pub returns-then-givers-takers : goal.returns-then-givers-takers
returns-then-givers-takers c = rw (lt-ltb _ _ c.if-givers-takers.true)

pub returns-else-givers-takers : goal.returns-else-givers-takers
returns-else-givers-takers c = rw (le-ltb _ _ c.if-givers-takers.false)

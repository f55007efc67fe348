-- By the case of the side. Assumes nothing.
use Rattle.plan_tests.proofs.given.Goals as goal

pub returns-in-Taking : goal.returns-in-Taking
returns-in-Taking c = rw c.in-Taking.is

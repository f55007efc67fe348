-- By the case of the side. Assumes nothing.
use Rattle.plan_tests.proofs.picks.Goals as goal

pub returns-in-Giving : goal.returns-in-Giving
returns-in-Giving c = rw c.in-Giving.is

pub returns-in-Taking : goal.returns-in-Taking
returns-in-Taking c = rw c.in-Taking.is

use Rattle.turfs.proofs.Order.{rising-answer}
use Rattle.turfs.proofs.refuse.rising.Goals as goal

pub returns : goal.returns
returns c = rising-answer _ _ c.is_sorted.ensures.cases

-- A place only grows. Assumes nothing.
use Rattle.vectors.proofs.Places.{spans}
use Rattle.vectors.proofs.span_at.Goals as goal

pub returns : goal.returns
returns c = (spans c.args.numbers.now c.args.at c.further-from.ensures.0 c.number_at.ensures c.further-to.ensures.0, c.further-to.ensures.1)

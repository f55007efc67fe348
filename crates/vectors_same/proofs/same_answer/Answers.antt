-- Equal as a list. Assumes nothing.
use Rattle.std.proofs.Common.{◌∙◌}
use Rattle.vectors_same.specs.Same.{same_answer}
use Rattle.vectors_same.proofs.Tests.{point-below}
use Rattle.vectors_same.proofs.same_answer.Goals as goal

pub returns : goal.returns
unfolding same_answer
returns c = c.eq.ensures ∙ point-below c.args.expected.now c.args.answer.now

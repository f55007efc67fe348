-- The number is the refusal of what is lent. Assumes nothing.
use mathlib.Core.List.{[]}
use Rattle.fill_all.proofs.Asked.{number_is}
use Rattle.stages.proofs.accept.Goals as goal

pub returns : goal.returns
returns c = λ limit allowance. number_is _ _ [] _ _ c.extra_tests-extra.ensures c.accept.ensures

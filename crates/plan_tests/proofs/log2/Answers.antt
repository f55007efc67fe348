-- A number above 0 has at most 31 leading zeros. Assumes nothing.
use Rattle.plan_tests.proofs.Logs.{leading_pos}
use Rattle.plan_tests.proofs.log2.Goals as goal

pub overflow_sub-result : goal.overflow_sub-result
overflow_sub-result c = leading_pos 31 _ c.requires

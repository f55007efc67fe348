-- Below the infinity a value has a pattern, and its highest bit is the sign. Assumes nothing.
use mathlib.Core.Path.{sym, ◌∙◌}
use lib.Ieee.{of_bits}
use Rattle.mixture.proofs.Signs.{below_inf, not_below_inf, sign_clear}
use Rattle.mixture.proofs.finite_sign_clear.Goals as goal

pub returns-then-x : goal.returns-then-x
unfolding of_bits
returns-then-x c = sign_clear c.args.x c.well_formed.0.1 (below_inf c.args.x c.if-x.true)

pub returns-else-x : goal.returns-else-x
unfolding of_bits
returns-else-x c = c.if-x.false ∙ sym (not_below_inf c.args.x c.if-x.false)

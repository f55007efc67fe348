-- It reads patterns that are no NaN's. Assumes nothing.
use mathlib.Core.Path.{◌∙◌, sym, refl}
use borrow.Author.Tests.{ltb-false}
use lib.Ieee.{div, of_bits}
use Rattle.vectors.specs.Amounts.{amount}
use Rattle.vectors.proofs.Patterns.{pattern}
use Rattle.vectors.proofs.amount_of.Goals as goal

pub returns-then-nan_bits : goal.returns-then-nan_bits
unfolding amount div of_bits
returns-then-nan_bits c = rw (sym c.nan_bits.ensures ∙ c.if-nan_bits.true) refl

pub float_from_bits-result : goal.float_from_bits-result
float_from_bits-result c = pattern _ (ltb-false _ _ (sym c.nan_bits.ensures ∙ c.if-nan_bits.false))

pub returns-else-nan_bits : goal.returns-else-nan_bits
unfolding amount
returns-else-nan_bits c = rw (sym c.nan_bits.ensures ∙ c.if-nan_bits.false) refl

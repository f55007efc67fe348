-- What equals itself is no NaN. Assumes nothing.
use mathlib.Core.Path.{refl}
use Rattle.vectors.specs.Amounts.{same_bits}
use Rattle.vectors_same.proofs.Tests.{itself}
use Rattle.vectors_same.proofs.has_bits.Goals as goal

pub float_to_bits-result : goal.float_to_bits-result
float_to_bits-result c = itself _ c.if-x.true

pub returns-then-x : goal.returns-then-x
unfolding same_bits
returns-then-x c = rw c.if-x.true refl

pub returns-else-x : goal.returns-else-x
unfolding same_bits
returns-else-x c = rw c.if-x.false c.nan_bits.ensures

-- The number at a place that was found. Assumes nothing.
use mathlib.Core.Path.{◌∙◌, ap}
use Rattle.vectors.specs.Vectors.{number}
use Rattle.vectors.proofs.gases_of.Goals as goal

pub returns : goal.returns
returns c = c.number_at.ensures ∙ ap (number c.args.numbers.now) c.table_at.ensures

-- The gas goes from one place to another. Assumes nothing.
use mathlib.Core.Path.{◌∙◌, ap}
use Prim.Native.Nat.{◌-◌}
use Rattle.vectors.specs.Vectors.{fitted}
use Rattle.vectors.specs.declared.Span.{Span}
use Rattle.vectors.proofs.gas_size.Goals as goal

pub returns : goal.returns
returns c = (c.fitting.ensures.0 ∙ ap (λ (s : Span). fitted (s.to - s.from) c.args.most) c.gas_of-gas.ensures.0, c.fitting.ensures.1)

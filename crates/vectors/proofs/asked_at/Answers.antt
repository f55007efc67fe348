-- Three numbers stand behind the gas. Assumes nothing.
use mathlib.Core.Path.{◌∙◌, ap}
use Rattle.vectors.specs.Vectors.{onward}
use Rattle.vectors.specs.declared.Span.{Span}
use Rattle.vectors.proofs.asked_at.Goals as goal

pub returns : goal.returns
returns c = c.further.ensures.0 ∙ ap (λ (s : Span). onward s.to 3) c.gas_of.ensures.0

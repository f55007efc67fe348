-- The list behind a number. Assumes nothing.
use mathlib.Core.Path.{◌∙◌, ap}
use Prim.Native.Nat.{ℕ}
use Rattle.vectors.specs.Vectors.{onward, span_at}
use Rattle.vectors.proofs.gas_of.Goals as goal

pub returns : goal.returns
returns c =
    let ns = c.args.numbers.now in
    (c.span_at.ensures.0 ∙ ap (span_at ns) (c.further.ensures.0 ∙ ap (λ (x : ℕ). onward x 1) c.table_at.ensures), c.span_at.ensures.1)

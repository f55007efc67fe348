-- The lengths stand behind the gas. Assumes nothing.
use mathlib.Core.Path.{◌∙◌, ap}
use Prim.Native.Nat.{ℕ}
use Rattle.vectors.specs.Vectors.{onward, number, fitted}
use Rattle.vectors.specs.declared.Span.{Span}
use Rattle.vectors.proofs.area_size.Goals as goal

pub returns : goal.returns
returns c =
    let asked = c.args in
    let from = ap (λ (s : Span). onward s.to asked.by) c.gas_of.ensures.0 in
    let length = c.number_at.ensures ∙ ap (number asked.numbers.now) (c.further-at.ensures.0 ∙ from) in
    (c.fitting.ensures.0 ∙ ap (λ (n : ℕ). fitted n asked.most) length, c.fitting.ensures.1)

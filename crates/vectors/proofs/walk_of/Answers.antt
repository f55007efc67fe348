-- Two numbers. Assumes nothing.
use mathlib.Core.Path.{◌∙◌, ap}
use Prim.Native.Nat.{ℕ}
use Rattle.vectors.specs.Vectors.{onward, number}
use Rattle.vectors.proofs.walk_of.Goals as goal

pub returns : goal.returns
returns c =
    let asked = c.asked_at-at in
    let ns = c.args.numbers.now in
    record {
      gases = c.gases_of.ensures;
      id = c.number_at.ensures ∙ ap (number ns) asked.ensures;
      limit = c.number_at-2.ensures ∙ ap (number ns) (c.further.ensures.0 ∙ ap (λ (x : ℕ). onward x 1) asked.ensures);
      due = c.further-2.ensures.0 ∙ ap (λ (x : ℕ). onward x 2) asked.ensures;
    }

-- The lists stand one behind the other. Assumes nothing.
use mathlib.Core.Path.{◌∙◌, ap}
use Rattle.vectors.specs.Vectors.{number}
use Rattle.vectors_same.proofs.due_at.Goals as goal

pub returns : goal.returns
returns c =
    let ns = c.args.numbers.now in
    record {
      answer = c.span_at-answer.ensures.0;
      gas = c.span_at-gas.ensures.0;
      events = c.span_at-events.ensures.0;
      words = c.number_at.ensures;
      floats = c.number_at-2.ensures ∙ ap (number ns) c.further.ensures.0;
      next = c.further-2.ensures.0;
      whole = c.further-2.ensures.1;
    }

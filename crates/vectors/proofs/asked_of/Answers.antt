-- The lists stand one behind the other, and the settings behind them. Assumes nothing.
use mathlib.Core.Path.{◌∙◌, ap}
use Rattle.vectors.specs.Vectors.{number, span_at}
use Rattle.vectors.specs.Amounts.{amount}
use Rattle.vectors.proofs.asked_of.Goals as goal

pub returns : goal.returns
returns c =
    let ns = c.args.numbers.now in
    record {
      gases = c.gases_of.ensures;
      hot = c.span_at-hot.ensures.0 ∙ ap (span_at ns) c.asked_at.ensures;
      turns = c.span_at-turns.ensures.0;
      threshold = c.amount_of.ensures ∙ ap amount c.number_at.ensures;
      limit = c.number_at-2.ensures ∙ ap (number ns) c.further.ensures.0;
      allowance = c.number_at-3.ensures ∙ ap (number ns) c.further-2.ensures.0;
      due = c.further-3.ensures.0;
    }

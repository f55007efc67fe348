-- A merge and then a removal are the move. Assumes nothing.
use mathlib.Core.Path.{◌∙◌, ap}
use Rattle.rules_mixture.specs.Mixture.{ratio}
use Rattle.mixture_moves.proofs.Moves.{moved}
use Rattle.mixture_moves.proofs.move_air.Goals as goal

pub returns : goal.returns
returns c =
    λ b i e.
    let share = c.ratio-goes in
    let a = c.args in
    let p = c.requires in
    moved b a.giver a.taker p.fact a.gas.now a.gases e p.holds_gas.0 p.holds_gas.1 a.amount share.result
    (share.ensures ∙ ap (ratio a.amount) (p.total_value b e))
    _ _ (c.merge.ensures b i e) (c.remove.ensures b i e)

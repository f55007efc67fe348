-- The two changes of a move of air, each on its own. Of the giver's amounts the share `goes` goes, the rest stays.
use Rattle.std.specs.Prelude.{List, ℕ, Float}
use Rattle.basics.specs.Floats.{1f, ◌-f◌}
use Rattle.rules_board.specs.Board.{Board}
use Rattle.rules_mixture.specs.Mixture.{scale, plus, amounts, change}

module _ (b : Board) where
  -- what goes of the giver is merged into the taker
  abbrev pub merged : ℕ → ℕ → Float → List Float → List Float
  merged giver taker goes gas = change b taker (plus (amounts b gas taker) (scale goes (amounts b gas giver))) gas

  -- what goes of the giver is gone
  abbrev pub removed : ℕ → Float → List Float → List Float
  removed giver goes gas = change b giver (scale (1f -f goes) (amounts b gas giver)) gas

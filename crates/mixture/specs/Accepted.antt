-- The tables and amounts that a call goes on with.
use Rattle.std.specs.Prelude.{List, true, ◌≡◌, ◌*◌, length, Float}
use Rattle.basics.specs.Loops.{every}
use Rattle.rules_board.specs.Board.{Board, mixture_count}
use Rattle.turfs.specs.Tables.{Tables}
use Rattle.rules_mixture.specs.Mixture.{amount_fits}

-- the refusals 1 to 5 let them pass
pub record GasAccepted (b : Board) (gas : List Float) : Type 0 where
  pub tables : Tables b
  pub count : length gas ≡ mixture_count b * b.gases
  pub amounts : every amount_fits gas ≡ true

-- What the turf has is its mixture's total. Assumes nothing.
use Rattle.turfs.specs.Tables.{board_at}
use Rattle.finish_send.proofs.Edge.{has_total}
use Rattle.finish_send.proofs.move_between.Goals as goal

pub move_air-requires-clause-total_value : goal.move_air-requires-clause-total_value
move_air-requires-clause-total_value c = λ other e.
    has_total (board_at c.args.tables c.args.turf.gases) other c.args.turf.row _ _ e c.requires.has_value

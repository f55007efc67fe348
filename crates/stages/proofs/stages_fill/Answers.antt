-- Filling's own promise; its counts are small. Assumes nothing.
use Rattle.rules_board.specs.Board.{board}
use Rattle.lent.specs.Given.{lent}
use Rattle.rules_equalize.specs.Equalize.{ask_of}
use Rattle.stages.proofs.Calls.{few}
use Rattle.stages.proofs.stages_fill.Goals as goal

pub write-requires : goal.write-requires
write-requires c =
    let a = c.args in
    let b = board a.ids.now a.flags.now a.planetary.now a.mixtures.now a.starts.now a.neighbours.now a.link_flags.now a.immutable.now a.gases in
    few b (ask_of a.hot.now a.threshold a.limit a.allowance) (lent a.amounts.now a.events.now a.words.now a.floats.now) c.fill-a.ensures

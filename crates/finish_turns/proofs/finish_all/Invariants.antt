-- At the loop's head the turns and the zones up to z are done. Assumes nothing.
use Rattle.finish_turns.proofs.Zoning.{Ending}
use Rattle.turfs.specs.Tables.{board_of}
use Rattle.finish_send.specs.Areas.{finish_areas}
use Rattle.finish_turns.proofs.finish_all.Given as goal

abbrev pub invariant-loop-z : goal.invariant-loop-z
invariant-loop-z l =
    Ending (board_of l.tables l.gases) l.zones l.initial.words (finish_areas l.initial.gas l.initial.floats l.initial.events l.initial.now) l.z l.words (finish_areas l.gas l.floats l.events l.now)

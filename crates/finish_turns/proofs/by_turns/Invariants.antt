-- At the loop's head the words hold the definition's unfinished zones after the turns so far. Assumes nothing.
use Rattle.finish_turns.proofs.Taking.{Taking}
use Rattle.turfs.specs.Tables.{board_of}
use Rattle.finish_send.specs.Areas.{finish_areas}
use Rattle.finish_turns.proofs.by_turns.Given as goal

abbrev pub invariant-loop-c : goal.invariant-loop-c
invariant-loop-c l =
    Taking (board_of l.tables l.gases) l.zones l.turns l.initial.words (finish_areas l.initial.gas l.initial.floats l.initial.events l.initial.left.used) l.c-index l.left.live l.words (finish_areas l.gas l.floats l.events l.left.used)

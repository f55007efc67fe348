-- At the loop's head i nodes of the zone had their turn. Assumes nothing.
use Rattle.finish_turns.proofs.Zoning.{Zoning}
use Rattle.turfs.specs.Tables.{board_of}
use Rattle.finish_send.specs.Areas.{finish_areas}
use Rattle.finish_turns.proofs.finish_zone.Given as goal

abbrev pub invariant-loop : goal.invariant-loop
invariant-loop l =
    Zoning (board_of l.tables l.gases) l.zone l.initial.words (finish_areas l.initial.gas l.initial.floats l.initial.events l.initial.now) l.counter l.words (finish_areas l.gas l.floats l.events l.now)

-- The loop's invariant: the zones left, from here on, come to all zones from the start. Assumes nothing.
use lib.ListN.{length}
use Rattle.turfs.specs.Tables.{board_of}
use Rattle.plan_state.specs.Held.{area}
use Rattle.plan_all.proofs.Plans.{Going}
use Rattle.plan_all.proofs.plan_zones.Given as goal

abbrev pub invariant-loop-z : goal.invariant-loop-z
invariant-loop-z l = Going (length l.tables.ids.now) (length l.tables.neighbours.now) l.zones (board_of l.tables l.gases) l.gas (area l.initial.words l.initial.floats) (area l.words l.floats) l.z

-- At the head of the loop k is the first link that has something to send, and all before it were gone through; the measure is what is left of the links. Assumes nothing.
use Prim.Native.Nat.{◌-◌}
use Rattle.turfs.specs.Tables.{board_of}
use Rattle.finish_send.specs.Areas.{finish_areas}
use Rattle.finish_send.proofs.Passing.{At}
use Rattle.finish_send.proofs.send_edges.Given as goal

abbrev pub invariant-loop-k : goal.invariant-loop-k
invariant-loop-k l =
    At (board_of l.tables l.turf.gases) l.words l.stop l.turf.zone.number l.turf.row l.up l.from l.to (finish_areas l.initial.gas l.initial.floats l.initial.events l.used) l.k (finish_areas l.gas l.floats l.events l.now)

abbrev pub decreases-loop-k : goal.decreases-loop-k
decreases-loop-k l =
    l.to - l.k

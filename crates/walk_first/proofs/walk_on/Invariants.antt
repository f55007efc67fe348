-- As many turns are left as turfs that aren't visited. Assumes nothing.
use Prim.Native.Nat.{◌-◌}
use Rattle.basics.specs.Loops.{times}
use Rattle.rules_board.specs.Board.{turf_count}
use Rattle.turfs.specs.Tables.{board_of}
use Rattle.rules_walk.specs.Walk.{walk_next}
use Rattle.rules_walk.specs.Visit.{visit}
use Rattle.walk_links.specs.Reached.{walk_at, walking}
use Rattle.walk_links.proofs.Does.{Going}
use Rattle.walk_first.proofs.walk_on.Given as goal

abbrev pub invariant-loop-kind : goal.invariant-loop-kind
invariant-loop-kind l =
    let b = board_of l.tables 0 in
    let n = turf_count b in
    let step = walk_next b (visit b l.kind l.limit) in
    Going (walking n) (times step (n - l.t.walked)) (times step n) (walk_at l.initial.t l.initial.words l.initial.events) (walk_at l.t l.words l.events)

abbrev pub decreases-loop-kind : goal.decreases-loop-kind
decreases-loop-kind l = turf_count (board_of l.tables 0) - l.t.walked

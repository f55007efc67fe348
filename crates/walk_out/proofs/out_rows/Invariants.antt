-- As many turns are left as turfs that aren't passed. Assumes nothing.
use Prim.Native.Nat.{◌-◌}
use Rattle.basics.specs.Loops.{times}
use Rattle.rules_board.specs.Board.{turf_count}
use Rattle.turfs.specs.Tables.{board_of}
use Rattle.walk_links.proofs.Does.{Going}
use Rattle.rules_out.specs.Out.{out_next}
use Rattle.walk_out.specs.Outed.{out_at, outing}
use Rattle.walk_out.proofs.out_rows.Given as goal

abbrev pub invariant-loop-t : goal.invariant-loop-t
invariant-loop-t l =
    let b = board_of l.tables 0 in
    let n = turf_count b in
    Going (outing n) (times (out_next b l.limit) (n - l.t.place)) (times (out_next b l.limit) n) (out_at l.initial.t l.initial.words l.initial.events) (out_at l.t l.words l.events)

abbrev pub decreases-loop-t : goal.decreases-loop-t
decreases-loop-t l = turf_count (board_of l.tables 0) - l.t.place

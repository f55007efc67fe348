-- A loop over the turf's part of the link list: what is left of it, and each turn one link. Assumes nothing.
use Prim.Native.Nat.{◌+◌, ◌-◌}
use lib.ListN.{length}
use Rattle.basics.specs.Loops.{run, up_from}
use Rattle.rules_board.specs.Board.{turf_count, links_of}
use Rattle.turfs.specs.Tables.{board_of}
use Rattle.rules_walk.specs.Walk.{walk_link}
use Rattle.walk_links.specs.Reached.{walk_at, walking}
use Rattle.walk_links.proofs.Does.{Going}
use Rattle.walk_links.proofs.walk_links.Given as goal

abbrev pub invariant-loop-i : goal.invariant-loop-i
invariant-loop-i l =
    let b = board_of l.tables 0 in
    Going (walking (turf_count b)) (run (walk_link b l.row) (up_from (l.from + l.i) (length l.near - l.i))) (run (walk_link b l.row) (links_of b l.row)) (walk_at l.initial.t l.initial.words l.initial.events) (walk_at l.t l.words l.events)

-- A loop over the turf's part of the link list: what is left of it, and each turn one link. Assumes nothing.
use Prim.Native.Nat.{◌+◌, ◌-◌}
use lib.ListN.{length, get_or}
use Rattle.basics.specs.Loops.{run, up_from}
use Rattle.rules_board.specs.Board.{turf_count, links_of}
use Rattle.turfs.specs.Tables.{board_of}
use Rattle.walk_links.proofs.Does.{Going}
use Rattle.rules_out.specs.Out.{out_link}
use Rattle.walk_out.specs.Outed.{out_at, outing}
use Rattle.walk_out.proofs.out_links.Given as goal

abbrev pub invariant-loop-a : goal.invariant-loop-a
invariant-loop-a l =
    let b = board_of l.tables 0 in
    Going (outing (turf_count b)) (run (out_link b l.row) (up_from (get_or b.starts l.row 0 + l.a-index) (length l.near - l.a-index))) (run (out_link b l.row) (links_of b l.row)) (out_at l.initial.t l.initial.words l.initial.events) (out_at l.t l.words l.events)

-- The turfs left, and then nothing, come to all turfs from the end; and each has room for a rip. Assumes nothing.
use Prim.Native.Nat.{◌+◌, ◌≤◌}
use lib.ListN.{take}
use mathlib.Core.List.{reverse}
use Rattle.basics.specs.Loops.{run}
use Rattle.basics.specs.Regions.{region}
use Rattle.rules_board.specs.Board.{turf_count}
use Rattle.turfs.specs.Tables.{board_of}
use Rattle.scratch.specs.Layout.{out_sizes}
use Rattle.walk_links.proofs.Does.{Going}
use Rattle.rules_back.specs.Back.{back}
use Rattle.walk_back.specs.Backed.{back_state_at, backing, directions}
use Rattle.walk_back.proofs.back_all.Given as goal

abbrev pub invariant-loop-left : goal.invariant-loop-left
invariant-loop-left l =
    let b = board_of l.tables l.gases in
    let order = region (out_sizes (turf_count b)) 2 l.initial.words in
    let step = back b l.arrows (directions (turf_count b) l.initial.words) in
    Going (backing b) (run step (reverse (take l.left order))) (run step (reverse (take l.count order))) (back_state_at l.initial.t l.initial.gas l.initial.words l.initial.floats l.initial.events) (back_state_at l.t l.gas l.words l.floats l.events)
    × (l.t.rips + l.left ≤ turf_count b)

-- Each turf that passes leaves the test of the turfs after it, and stamps of rows so far. Assumes nothing.
use Prim.Native.Nat.{◌-◌}
use mathlib.Core.Path.{◌≡◌}
use mathlib.Core.List.{[]}
use Rattle.basics.specs.Loops.{every, up_from}
use Rattle.rules_board.specs.Board.{turf_count}
use Rattle.rules_board.specs.Refuse.{row_fits}
use Rattle.turf_stamps.specs.Stamps.{AtMost}
use Rattle.turfs.specs.Tables.{board_of}
use Rattle.turfs.proofs.refuse.rows_stamped.Given as goal

abbrev pub invariant-loop-row : goal.invariant-loop-row
invariant-loop-row l =
    let b = board_of l.tables 0 in
    let n = turf_count b in
    AtMost l.row l.stamps × (every (row_fits b) (up_from l.row (n - l.row)) ≡ every (row_fits b) (up_from 0 n))

-- Each neighbour without the row's stamp leaves the test of those behind it. Assumes nothing.
use Prim.Native.Nat.{◌+◌}
use mathlib.Core.Path.{◌≡◌}
use mathlib.Core.Bool.{not, ◌&&◌}
use lib.ListN.{drop}
use Rattle.basics.specs.Loops.{member}
use Rattle.rules_board.specs.Refuse.{distinct}
use Rattle.turf_stamps.specs.Stamps.{AtMost}
use Rattle.turf_stamps.proofs.Stamping.{rest_fits}
use Rattle.turf_stamps.proofs.row_fits.Given as goal

abbrev pub invariant-loop-a : goal.invariant-loop-a
invariant-loop-a l =
    (rest_fits (l.row + 1) l.stamps (drop l.a-index l.near) ≡ (not (member l.row l.near) && distinct l.near)) × AtMost (l.row + 1) l.stamps

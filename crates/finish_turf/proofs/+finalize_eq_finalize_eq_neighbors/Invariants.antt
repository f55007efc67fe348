-- The measures: twice the unfinished nodes of the zone, and one more for the givers, which come after an unfinished node was lifted. Assumes nothing.
use Rattle.turfs.specs.declared.LentTables.{LentTables}
use Rattle.turfs.specs.Tables.{board_of}
use Rattle.finish_send.specs.declared.Turf.{Turf}
use Rattle.finish_send.specs.Areas.{finish_areas, unfinished_on}
use Rattle.finish_turf.proofs.Givers.{Giving}
use Prim.Native.Nat.{ℕ, ◌+◌, ◌-◌}
use mathlib.Core.List.{List}
use lib.Ieee.{Float}
use Rattle.finish_turf.proofs.+finalize_eq_finalize_eq_neighbors.Given as goal

-- twice the unfinished nodes of the turf's zone
abbrev pub twice : LentTables → List ℕ → List Float → Turf → ℕ
twice tables words floats t = let n = unfinished_on (board_of tables t.gases) words t.zone.number floats in n + n

abbrev pub decreases-finalize_eq : goal.decreases-finalize_eq
decreases-finalize_eq l = twice l.tables.now l.words.now l.floats.now l.turf

abbrev pub decreases-finalize_eq_neighbors : goal.decreases-finalize_eq_neighbors
decreases-finalize_eq_neighbors l = twice l.tables.now l.words.now l.floats.now l.turf + 1

abbrev pub invariant-finalize_eq_neighbors-loop-k : goal.invariant-finalize_eq_neighbors-loop-k
invariant-finalize_eq_neighbors-loop-k l =
    Giving (board_of l.tables l.turf.gases) l.words l.turf.zone.number l.up l.from l.to (finish_areas l.initial.gas l.initial.floats l.initial.events l.used) l.k (finish_areas l.gas l.floats l.events l.now)

abbrev pub decreases-finalize_eq_neighbors-loop-k : goal.decreases-finalize_eq_neighbors-loop-k
decreases-finalize_eq_neighbors-loop-k l =
    l.to - l.k

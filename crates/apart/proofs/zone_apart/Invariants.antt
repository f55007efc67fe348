-- The loop's invariant: the marks of the nodes that were gone through. Assumes nothing.
use Rattle.turfs.specs.Tables.{board_of}
use Rattle.rules_board.specs.Board.{mixture_count}
use Prim.Native.Nat.{◌+◌}
use mathlib.Core.List.{List}
use Rattle.reverse_links.specs.Words.{But}
use Rattle.rules_finish.specs.Turns.{Zone}
use Rattle.apart.proofs.Pass.{Going}
use Rattle.apart.proofs.zone_apart.Given as goal

abbrev pub invariant-loop-i : goal.invariant-loop-i
invariant-loop-i l =
    let b = board_of l.tables 0 in
    (But l.at (l.at + mixture_count b) l.initial.words l.words) × ((zs : List Zone) → Going b zs l.zone l.from l.to l.at l.i l.initial.words l.words)

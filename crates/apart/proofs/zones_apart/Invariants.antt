-- The loop's invariant: the marks of the zones that were gone through. Assumes nothing.
use Rattle.apart.specs.Marks.{ZonesStand, Marks}
use Rattle.turfs.specs.Tables.{board_of}
use Rattle.rules_board.specs.Board.{mixture_count}
use Prim.Native.Nat.{◌+◌}
use mathlib.Core.Path.{◌≡◌}
use mathlib.Core.List.{List}
use lib.ListN.{length}
use Rattle.reverse_links.specs.Words.{But}
use Rattle.rules_finish.specs.Turns.{Zone}
use Rattle.apart.proofs.zones_apart.Given as goal

abbrev pub invariant-loop-z : goal.invariant-loop-z
invariant-loop-z l =
    let b = board_of l.tables 0 in
    (But l.at (l.at + mixture_count b) l.initial.words l.words) × ((zs : List Zone) → length zs ≡ l.zones → ZonesStand l.first l.nodes zs l.initial.words → Marks b zs l.z 0 l.at l.words)

-- The loop's invariant: the links so far are walked, and those that are left have no owner. Assumes nothing.
use Prim.Native.Nat.{◌+◌}
use lib.ListN.{length}
use Rattle.turfs.specs.Tables.{board_of}
use Rattle.fill_links.proofs.Links.{reach_by, Walked}
use Rattle.fill_links.proofs.reach_near.Given as goal

abbrev pub invariant-loop-i : goal.invariant-loop-i
invariant-loop-i l =
    Walked (length l.tables.ids.now) (length l.tables.neighbours.now) l.slot.z l.slot.kept (reach_by (board_of l.tables 0) l.slot.z l.id) l.from (l.from + length l.near) (l.from + l.i) l.initial.s l.s l.initial.words l.words l.initial.events l.events

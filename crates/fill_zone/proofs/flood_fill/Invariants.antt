-- The loop's invariant: the pops left, from here on, come to all pops from the start. Assumes nothing.
use Rattle.turfs.specs.Tables.{board_of}
use Rattle.fill_zone.proofs.Zones.{Popping}
use lib.ListN.{length}
use Prim.Native.Nat.{◌-◌}
use Rattle.fill_zone.proofs.flood_fill.Given as goal

abbrev pub invariant-loop-settings : goal.invariant-loop-settings
invariant-loop-settings l =
    Popping (board_of l.tables l.gases) l.gas l.settings.limit l.settings.allowance l.slot.z l.slot.kept l.initial.t l.t l.initial.words l.words l.initial.events l.events

abbrev pub decreases-loop-settings : goal.decreases-loop-settings
decreases-loop-settings l = length l.tables.ids.now - l.t.popped

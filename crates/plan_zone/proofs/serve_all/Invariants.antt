-- The loop's invariant: the turfs left, from here on, come to all turfs from the start. Assumes nothing.
use lib.ListN.{take, drop}
use Rattle.basics.specs.Loops.{run}
use Rattle.turfs.specs.Tables.{board_of}
use Rattle.rules_plan.specs.Plan.{serve}
use Rattle.plan_state.specs.Held.{area, plan_view}
use Rattle.plan_zone.proofs.Lists.{Along}
use Rattle.plan_zone.proofs.serve_all.Given as goal

abbrev pub invariant-loop-i : goal.invariant-loop-i
invariant-loop-i l = Along l.layout.turfs l.layout.links (λ o p. run (serve (board_of l.tables l.gases) o l.z l.side) (drop l.i (take l.listed (plan_view l.layout.turfs l.layout.links (area l.initial.words l.initial.floats)).list)) p)
    (λ o p. run (serve (board_of l.tables l.gases) o l.z l.side) (take l.listed (plan_view l.layout.turfs l.layout.links (area l.initial.words l.initial.floats)).list) p) (area l.initial.words l.initial.floats) (area l.words l.floats)

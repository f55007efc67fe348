-- The loop's invariant: the turns left, from here on, come to all turns from the start; n turns are enough, as no row joins twice. Assumes nothing.
use Prim.Native.Nat.{◌-◌}
use Rattle.turfs.specs.Tables.{board_of}
use Rattle.rules_plan.specs.Plan.{seek_next}
use Rattle.plan_state.specs.Held.{area, plan_view}
use Rattle.plan_trade.specs.Search.{AllMet, Idle}
use Rattle.plan_search.proofs.Search.{Trail}
use Rattle.plan_search.proofs.seek.Given as goal

abbrev pub invariant-loop-looked : goal.invariant-loop-looked
invariant-loop-looked l = Trail l.hand.layout.turfs l.hand.layout.links (λ o s. seek_next (board_of l.tables l.gases) o l.hand.z l.hand.side l.hand.g s) 1 l.reach.count l.looked (area l.initial.words l.initial.floats) (area l.words l.floats)
    × (AllMet l.hand.layout.turfs l.hand.z l.tables.starts.now l.tables.neighbours.now (plan_view l.hand.layout.turfs l.hand.layout.links (area l.words l.floats)) l.reach.count × Idle (plan_view l.hand.layout.turfs l.hand.layout.links (area l.words l.floats)) l.reach.count l.reach.first)

abbrev pub decreases-loop-looked : goal.decreases-loop-looked
decreases-loop-looked l = l.hand.layout.turfs - l.looked

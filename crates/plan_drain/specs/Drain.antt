-- What the way back is asked: the turfs that it comes through were met over links of the zone.
use Rattle.std.specs.Prelude.{ℕ, ◌≤◌, ◌<◌}
use Rattle.plan_state.specs.Held.{Area, plan_view, PlanFits}
use Rattle.plan_trade.specs.Search.{Within, AllWithin}

-- one turf
pub record DrainTurfFits (r z n e : ℕ) (a : Area) : Type 0 where
  pub fit : PlanFits n e a
  pub zone : z < 4096
  pub row : r < n
  pub within : Within n e (plan_view n e a) r

-- those in the queue's first places
pub record DrainFits (to z n e : ℕ) (a : Area) : Type 0 where
  pub fit : PlanFits n e a
  pub zone : z < 4096
  pub few : to ≤ n
  pub within : AllWithin n e (plan_view n e a) to

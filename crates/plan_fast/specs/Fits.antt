-- What the steps of the fast pass are asked.
use Rattle.std.specs.Prelude.{ℕ, ◌+◌, ◌≤◌, ◌<◌, ◌≡◌, List, length, get_or}
use Rattle.scratch.specs.Layout.{Sizes, queue_at}
use Rattle.plan_state.specs.Held.{Area, plan_view, PlanFits, Ends}
use Rattle.plan_fast.specs.declared.Share.{Share}

-- the link k, which ends at the row a, counted
pub record TallyFits (k a z n e c : ℕ) (words : List ℕ) : Type 0 where
  pub room : queue_at n e ≤ length words
  pub link : k < e
  pub end : a < n
  pub zone : z < 4096
  pub count : c < 24576
  pub sizes : Sizes n e

-- the links of a turf, counted
pub record EligibleFits (from to z n e : ℕ) (neighbours words : List ℕ) : Type 0 where
  pub room : queue_at n e ≤ length words
  pub zone : z < 4096
  pub sizes : Sizes n e
  pub rise : from ≤ to
  pub within : to ≤ e
  pub all : length neighbours ≡ e
  pub ends : (k : ℕ) → k < e → get_or neighbours k 0 < n

-- a giver's share over its link k
pub record FastLinkFits (share : Share) (k : ℕ) (neighbours : List ℕ) (a : Area) : Type 0 where
  pub fit : PlanFits share.layout.turfs share.layout.links a
  pub zone : share.z < 4096
  pub ends : Ends share.layout.turfs share.layout.links share.r (k + 1) neighbours
  pub back : get_or (plan_view share.layout.turfs share.layout.links a).reverse k 0 ≤ share.layout.links

-- the same over its links from one up to another
pub record FastRowFits (share : Share) (from to : ℕ) (neighbours : List ℕ) (a : Area) : Type 0 where
  pub fit : PlanFits share.layout.turfs share.layout.links a
  pub zone : share.z < 4096
  pub ends : Ends share.layout.turfs share.layout.links share.r to neighbours
  pub rise : from ≤ to
  pub back : (k : ℕ) → from ≤ k → k < to → get_or (plan_view share.layout.turfs share.layout.links a).reverse k 0 ≤ share.layout.links

-- A search with a turf in hand: what its steps rely on, and what they promise.
use Rattle.std.specs.Prelude.{ℕ, ◌+◌, ◌-◌, ◌<◌, ◌≡◌, false, List, get_or}
use Rattle.std.specs.Float.{nan}
use Rattle.basics.specs.Loops.{run, up_from}
use Rattle.scratch.specs.Layout.{delta_at}
use Rattle.rules_plan.specs.Plan.{Seek, settled}
use Rattle.plan_state.specs.Held.{Area}
use Rattle.plan_trade.specs.Search.{Seeking, Sought, KeepsMet, KeepsIdle, Passes}
use Rattle.plan_trade.specs.Steps.{along}
use Rattle.plan_trade.specs.declared.Hand.{Hand}

-- the queue has `count` rows, the zone is a zone's number, the turf in hand a turf
pub record Searching (h : Hand) (count : ℕ) (a : Area) : Type 0 where
  pub seeking : Seeking h.layout.turfs h.layout.links count a
  pub zone : h.z < 4096
  pub row : h.g < h.layout.turfs

-- the turf in hand has something left to give, or to take
abbrev pub Unsettled : Hand → Area → Type 0
Unsettled h a = settled h.side (get_or a.floats (delta_at h.g h.layout.links) nan) ≡ false

-- the links of the turf r from one up to another
abbrev pub along_all : Hand → ℕ → List ℕ → ℕ → ℕ → List ℕ → Seek → Seek
along_all h r neighbours from to o s = run (along h.side h.g r neighbours h.z o) (up_from from (to - from)) s

-- from a to a' by the step f of the search, over links of the turf r from one up to another; the queue grows, and the first place that traded is kept
pub record SearchGoes (h : Hand) (r from to : ℕ) (neighbours : List ℕ) (f : List ℕ → Seek → Seek) (count first count' first' : ℕ) (a a' : Area) : Type 0 where
  pub sought : Sought h.layout.turfs h.layout.links f count count' a a'
  pub met : KeepsMet h.layout.turfs h.layout.links h.z r from to neighbours count count' a a'
  pub idle : KeepsIdle h.layout.turfs h.layout.links count first count' first' a a'

-- the same over all links of the turf r
abbrev pub GoesTurf : Hand → ℕ → List ℕ → List ℕ → ℕ → ℕ → ℕ → ℕ → Area → Area → Type 0
GoesTurf h r starts neighbours count first count' first' a a' =
    SearchGoes h r (get_or starts r 0) (get_or starts (r + 1) 0) neighbours (along_all h r neighbours (get_or starts r 0) (get_or starts (r + 1) 0)) count first count' first' a a'

-- links without a trade, by the zone and the side of the turf in hand
abbrev pub PassesBy : Hand → (ℕ → List ℕ → Seek → Seek) → ℕ → ℕ → ℕ → List ℕ → ℕ → ℕ → Area → Area → Type 0
PassesBy h f r from to neighbours count count' a a' = Passes h.side h.layout.turfs h.layout.links f h.z r from to neighbours count count' a a'

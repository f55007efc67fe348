-- What holds in a search, and what a step of it promises.
use Rattle.std.specs.Prelude.{ℕ, ◌+◌, ◌≤◌, ◌<◌, ◌≡◌, false, List, get_or, take}
use Rattle.std.specs.Float.{nan}
use Rattle.std.specs.Float.Ieee.{ne}
use Rattle.basics.specs.Floats.{0f}
use Rattle.scratch.specs.Layout.{delta_at}
use Rattle.rules_plan.specs.Plan.{Seek, settled}
use Rattle.rules_plan.specs.declared.Side.{Side}
use Rattle.index_set.specs.Line.{Line}
use Rattle.reverse_links.specs.Reverse.{InRow}
use Rattle.plan_state.specs.Held.{Area, PlanView, plan_view, PlanFits, Frame}

-- the queue has `count` rows
pub record Seeking (n e count : ℕ) (a : Area) : Type 0 where
  pub fit : PlanFits n e a
  pub line : Line n count (plan_view n e a).queue (plan_view n e a).places

-- the search that the areas hold
abbrev pub seek_of : PlanView → ℕ → ℕ → Seek
seek_of v count looked = record { queue = take count v.queue; looked = looked; plan = v.plan }

-- what a search leaves as it was
pub record Leaves (n e : ℕ) (a a' : Area) : Type 0 where
  pub frame : Frame n e a a'
  pub list : (plan_view n e a').list ≡ (plan_view n e a).list

-- from a to a' by the step f of the search, wherever it has looked up to; all else is as it was
pub record Sought (n e : ℕ) (f : List ℕ → Seek → Seek) (count count' : ℕ) (a a' : Area) : Type 0 where
  pub seeking : Seeking n e count' a'
  pub rest : Leaves n e a a'
  pub same : (looked : ℕ) → seek_of (plan_view n e a') count' looked ≡ f (plan_view n e a).owner (seek_of (plan_view n e a) count looked)

-- from a to a' by the whole search f, which has looked nowhere yet
pub record Searched (n e : ℕ) (f : List ℕ → Seek → Seek) (count count' seen : ℕ) (a a' : Area) : Type 0 where
  pub seeking : Seeking n e count' a'
  pub rest : Leaves n e a a'
  pub queue : take count' (plan_view n e a').queue ≡ (f (plan_view n e a).owner (seek_of (plan_view n e a) count 0)).queue
  pub plan : (plan_view n e a').plan ≡ (f (plan_view n e a).owner (seek_of (plan_view n e a) count 0)).plan
  pub looked : seen ≡ (f (plan_view n e a).owner (seek_of (plan_view n e a) count 0)).looked

-- ---- rows that didn't trade

-- of `count` rows those before the place `first` have nothing to hand on
abbrev pub Idle : PlanView → ℕ → ℕ → Type 0
Idle v count first = (i : ℕ) → i < count → i < first → ne (get_or v.plan.amount (get_or v.queue i 0) nan) 0f ≡ false

-- a step keeps that so
pub record KeepsIdle (n e count first count' first' : ℕ) (a a' : Area) : Type 0 where
  pub keeps : Idle (plan_view n e a) count first → Idle (plan_view n e a') count' first'

-- ---- the links over which turfs were met

-- the link k of the turf r ends at the turf a
pub record LeadsOver (n : ℕ) (starts neighbours : List ℕ) (r k a : ℕ) : Type 0 where
  pub row : r < n
  pub link : InRow starts r k
  pub ends : get_or neighbours k 0 ≡ a

-- a turf that points at d was met from there, over the link of zone z that `via` has
pub record MetOver (n z : ℕ) (starts neighbours : List ℕ) (v : PlanView) (a : ℕ) : Type 0 where
  pub over : (d : ℕ) → get_or v.plan.direction a 0 ≡ d + 1 → LeadsOver n starts neighbours d (get_or v.via a 0) a × (get_or v.owner (get_or v.via a 0) 0 ≡ z + 1)

-- each row of the queue was met so
abbrev pub AllMet : ℕ → ℕ → List ℕ → List ℕ → PlanView → ℕ → Type 0
AllMet n z starts neighbours v count = (i : ℕ) → i < count → MetOver n z starts neighbours v (get_or v.queue i 0)

-- a step over links of the turf r, some of those from `from` up to `to`, keeps that so
pub record KeepsMet (n e z r from to : ℕ) (neighbours : List ℕ) (count count' : ℕ) (a a' : Area) : Type 0 where
  pub keeps : (starts : List ℕ) → ((k : ℕ) → from ≤ k → k < to → LeadsOver n starts neighbours r k (get_or neighbours k 0))
      → AllMet n z starts neighbours (plan_view n e a) count → AllMet n z starts neighbours (plan_view n e a') count'

-- over such links without a trade: from a to a' by the step f g, whichever turf g is in hand, as long as it isn't settled
pub record Passes (side : Side) (n e : ℕ) (f : ℕ → List ℕ → Seek → Seek) (z r from to : ℕ) (neighbours : List ℕ) (count count' : ℕ) (a a' : Area) : Type 0 where
  pub seeking : Seeking n e count' a'
  pub sought : (g : ℕ) → g < n → settled side (get_or a.floats (delta_at g e) nan) ≡ false → Sought n e (f g) count count' a a'
  pub met : KeepsMet n e z r from to neighbours count count' a a'
  pub idle : (first : ℕ) → KeepsIdle n e count first count' first a a'
  pub deltas : (g : ℕ) → g < n → get_or a'.floats (delta_at g e) nan ≡ get_or a.floats (delta_at g e) nan

-- what the way back reads is within the areas
pub record Within (n e : ℕ) (v : PlanView) (a : ℕ) : Type 0 where
  pub at : (d : ℕ) → get_or v.plan.direction a 0 ≡ d + 1 → (d < n) × ((get_or v.via a 0 < e) × (get_or v.reverse (get_or v.via a 0) 0 ≤ e))

-- and so for the first `to` rows of the queue, which are turfs
abbrev pub AllWithin : ℕ → ℕ → PlanView → ℕ → Type 0
AllWithin n e v to = (i : ℕ) → i < to → (get_or v.queue i 0 < n) × Within n e v (get_or v.queue i 0)

-- what a turf that is met is asked: it, the turf in hand and the one that it is met from are turfs
pub record MeetFits (g r x n e : ℕ) (a : Area) : Type 0 where
  pub fit : PlanFits n e a
  pub hand : g < n
  pub met : x < n
  pub row : r < n

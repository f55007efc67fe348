-- What `process_zone` promises of a zone whose nodes stand in the words.
use Rattle.std.specs.Prelude.{ℕ, ◌+◌, ◌*◌, ◌≤◌, ◌<◌, ◌≡◌, List, length, get_or, take, Float}
use Rattle.basics.specs.Floats.{◌/f◌, of_count}
use Rattle.rules_plan.specs.Plan.{Plan}
use Rattle.plan_state.specs.Held.{Area, plan_view, PlanFits, Frame}
use Rattle.plan_state.specs.declared.ZoneAt.{ZoneAt}
use Rattle.scratch.specs.Layout.{Sizes, delta_at}

-- every turf's mixture lies in the gas
pub record Gassed (n : ℕ) (mixtures : List ℕ) (gases : ℕ) (gas : List Float) : Type 0 where
  pub mixtures_n : length mixtures ≡ n
  pub within : (r : ℕ) → r < n → get_or mixtures r 0 * gases + gases ≤ length gas

-- the list has the rows xs in its first k words; the queue, the places and `via` may be anything, and all else is as it was
pub record Picked (n e : ℕ) (xs : List ℕ) (k : ℕ) (a a' : Area) : Type 0 where
  pub fit : PlanFits n e a'
  pub few : k ≤ n
  pub frame : Frame n e a a'
  pub plan : (plan_view n e a').plan ≡ (plan_view n e a).plan
  pub list : take k (plan_view n e a').list ≡ xs

-- from a to a' by the step h of the plan; what searches work with may be anything afterwards
pub record Plans (n e : ℕ) (h : List ℕ → Plan → Plan) (a a' : Area) : Type 0 where
  pub fit : PlanFits n e a'
  pub frame : Frame n e a a'
  pub plan : (plan_view n e a').plan ≡ h (plan_view n e a).owner (plan_view n e a).plan

-- what each node of the zone in hand would have, if all had the same
abbrev pub average_of : ZoneAt → Float
average_of zone = zone.moles /f of_count zone.count

-- what it takes to look at the delta of the turf r, with c turfs counted before it
pub record CountFits (r c : ℕ) (zone : ZoneAt) (floats : List Float) : Type 0 where
  pub room : delta_at r zone.layout.links < length floats
  pub count : c < 4096
  pub row : r < zone.layout.turfs
  pub sizes : Sizes zone.layout.turfs zone.layout.links

-- and to put it into the list
pub record ChooseFits (r c list : ℕ) (zone : ZoneAt) (words : List ℕ) (floats : List Float) : Type 0 where
  pub listed : list + c < length words
  pub counted : CountFits r c zone floats

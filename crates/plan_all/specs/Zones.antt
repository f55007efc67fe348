-- The zones as filling leaves them in the work areas, and what planning them all promises.
use Rattle.std.specs.Prelude.{ℕ, ◌+◌, ◌≤◌, ◌<◌, ◌≡◌, List, [], map, false, length, get_or, drop, replicate, Float}
use Rattle.basics.specs.Floats.{0f}
use Rattle.basics.specs.Loops.{run, up_from}
use Rattle.scratch.specs.Layout.{Sizes, found_at, marks_at, lifted_at, floats_end, most_nodes}
use Rattle.scratch.specs.View.{owner_in, reverse_in, starts_in, nodes_in, moles_in}
use Rattle.rules_board.specs.Board.{Board, turf_count, link_count}
use Rattle.index_set.specs.Line.{Below}
use Rattle.rules_plan.specs.Plan.{Plan, planned_zone}
use Rattle.rules_finish.specs.Turns.{Zone}
use Rattle.rules_equalize.specs.Equalize.{Filled, planned_all}
use Rattle.fill_all.specs.Held.{zone_in}
use Rattle.reverse_links.specs.Reverse.{Linked, Reverses}
use Rattle.reverse_links.specs.Words.{But}
use Rattle.plan_state.specs.Held.{Area, area, plan_view, PlanFits, Frame}
use Rattle.plan_zone.specs.Zone.{Gassed}

-- ---- the zones

-- zone z: the starts say where its nodes and those of the next one start
abbrev pub zone_of : ℕ → ℕ → List ℕ → List Float → ℕ → Zone
zone_of n e w f = zone_in (starts_in n e w) (nodes_in n e w) (moles_in n e f)

-- the same of a board's areas
abbrev pub zone_held : Board → Area → ℕ → Zone
zone_held b a = zone_of (turf_count b) (link_count b) a.words a.floats

-- where the nodes of zone z start
abbrev pub nodes_from : ℕ → ℕ → List ℕ → ℕ → ℕ
nodes_from n e w z = get_or (starts_in n e w) z 0

-- as many zones, and the owners of their links
abbrev pub filled_of : ℕ → ℕ → ℕ → List ℕ → List Float → Filled
filled_of n e zones w f = record {
  found = [];
  owner = owner_in e w;
  zones = map (zone_of n e w f) (up_from 0 zones);
  tests = 0;
  events = [];
  cancelled = false;
}

-- what planning relies on of the tables: links as refusal 4 leaves them, and every turf's mixture in the gas
pub record Plannable (b : Board) (gas : List Float) : Type 0 where
  pub linked : Linked (turf_count b) b.starts b.neighbours
  pub gassed : Gassed (turf_count b) b.mixtures b.gases gas

-- the areas are long enough, and the sizes within their limits
pub record PlanRoom (n e : ℕ) (w : List ℕ) (f : List Float) : Type 0 where
  pub sizes : Sizes n e
  pub words : marks_at n e ≤ length w
  pub floats : floats_end n e ≤ length f

-- zone z has nodes, at most n, which are rows
pub record ZoneReady (n e z : ℕ) (w : List ℕ) (f : List Float) : Type 0 where
  pub some : nodes_from n e w z < nodes_from n e w (z + 1)
  pub few : nodes_from n e w (z + 1) ≤ nodes_from n e w z + n
  pub within : nodes_from n e w (z + 1) ≤ most_nodes n e
  pub rows : Below n (zone_of n e w f z).nodes

-- what filling leaves
pub record Zoned (n e zones : ℕ) (w : List ℕ) (f : List Float) : Type 0 where
  pub room : PlanRoom n e w f
  pub few : zones ≤ n
  pub each : (z : ℕ) → z < zones → ZoneReady n e z w f

-- ---- planning

-- nothing planned yet
abbrev pub blank : ℕ → ℕ → Plan
blank n e = record { weight = replicate e 0f; delta = replicate n 0f; amount = replicate n 0f; direction = replicate n 0; fast = replicate n 0 }

-- the plan is blank, and what planning leaves is as it was
pub record Blanks (n e : ℕ) (a a' : Area) : Type 0 where
  pub fit : PlanFits n e a'
  pub frame : Frame n e a a'
  pub plan : (plan_view n e a').plan ≡ blank n e

-- the zones zs one after the other
abbrev pub plan_zones : Board → List Float → (ℕ → Zone) → List ℕ → List ℕ → Plan → Plan
plan_zones b gas zone zs o p = run (λ z q. planned_zone b o z gas (zone z).nodes (zone z).moles q) zs p

-- All zones are planned, as `planned_all` says. Every word but the reverses and those that planning works with is as it was, and every float past the plan's.
pub record PlansAll (n e zones : ℕ) (b : Board) (gas : List Float) (w w' : List ℕ) (f f' : List Float) : Type 0 where
  pub words : But e (found_at n e) w w'
  pub floats : (length f' ≡ length f) × (drop (lifted_at n e) f' ≡ drop (lifted_at n e) f)
  pub reverses : Reverses b n (reverse_in e w')
  pub plan : (plan_view n e (area w' f')).plan ≡ planned_all b gas (filled_of n e zones w f)

-- what planning the zone z is asked
pub record ZoneAtFits (b : Board) (z : ℕ) (gas : List Float) (a : Area) : Type 0 where
  pub tables : Plannable b gas
  pub room : PlanRoom (turf_count b) (link_count b) a.words a.floats
  pub zone : z < turf_count b
  pub reverses : Reverses b (turf_count b) (plan_view (turf_count b) (link_count b) a).reverse
  pub ready : ZoneReady (turf_count b) (link_count b) z a.words a.floats

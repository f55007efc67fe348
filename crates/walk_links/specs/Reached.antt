-- How the scratch holds a walk: the queue, each row's place in it and the space list, as many words each as there are turfs.
use Rattle.std.specs.Prelude.{◌≡◌, List, [], ℕ, ◌+◌, ◌*◌, ◌≤◌, ◌<◌, length, get_or, take}
use Rattle.basics.specs.Regions.{cut, region}
use Rattle.rules_board.specs.Board.{Board, turf_count, link_count, mixture_count, mix_of, end}
use Rattle.turfs.specs.Tables.{Parts, Small}
use Rattle.rules_events.specs.Events.{encode_all}
use Rattle.events.specs.Area.{Wrote}
use Rattle.rules_events.specs.declared.Event.{Event}
use Rattle.index_set.specs.Line.{Line}
use Rattle.scratch.specs.Layout.{walk_sizes, walk_room}
use Rattle.rules_walk.specs.Walk.{Walk, advance, walk}
use Rattle.rules_walk.specs.Visit.{visit}
use Rattle.walk_links.specs.Does.{Walker}
use Rattle.rules_walk.specs.declared.Kind.{Kind}
use Rattle.rules_walk.specs.declared.Kind.TheVariants.{Planet, Space}
use Rattle.walk_links.specs.declared.Reach.{Reach}

-- what a function of the walk may change
pub record WalkState : Type 0 where
  pub reach : Reach
  pub words : List ℕ
  pub area : List ℕ

-- the state of these
abbrev pub walk_at : Reach → List ℕ → List ℕ → WalkState
walk_at reach words area = record { reach = reach; words = words; area = area }

-- the walk that arrays and a reach hold, once these events are written
abbrev pub walk_in : List (List ℕ) → Reach → List Event → Walk
walk_in arrays g es = record {
  queue = take g.count (get_or arrays 0 []);
  walked = g.walked;
  space = take g.spaces (get_or arrays 2 []);
  planet = g.planet;
  ended = g.ended;
  events = es;
}

-- the walk that the state holds
unfoldable pub walk_of : ℕ → WalkState → List Event → Walk
walk_of n a es = walk_in (cut (walk_sizes n) a.words) a.reach es

-- what a step leaves as it is
pub record WalkRest : Type 0 where
  pub words : ℕ
  pub beyond : List ℕ

-- what holds between steps
pub record WalkFits (n : ℕ) (a : WalkState) : Type 0 where
  pub small : n ≤ 4096
  pub words : walk_room n ≤ length a.words
  pub bytes : 12 * (n + a.reach.spaces) ≤ length a.area
  pub written : a.reach.used ≤ 12 * (a.reach.count + a.reach.spaces)
  pub few : a.reach.spaces ≤ a.reach.walked
  pub past : a.reach.walked ≤ a.reach.count
  pub line : Line n a.reach.count (region (walk_sizes n) 0 a.words) (region (walk_sizes n) 1 a.words)

-- a walk over n turfs
abbrev pub walking : ℕ → Walker WalkState Walk WalkRest
walking n = record {
  used = λ a. a.reach.used;
  area = λ a. a.area;
  view = walk_of n;
  frame = λ a. record { words = length a.words; beyond = region (walk_sizes n) 3 a.words };
  Fit = WalkFits n;
}

-- what a walk needs of the tables
pub record Ground (b : Board) : Type 0 where
  pub small : Small b
  pub flags : length b.flags ≡ turf_count b
  pub planetary : length b.planetary ≡ turf_count b
  pub mixtures : length b.mixtures ≡ turf_count b
  pub link_flags : length b.link_flags ≡ link_count b
  pub parts : Parts (turf_count b) b.starts b.neighbours
  pub neighbour : (k : ℕ) → k < link_count b → end b k < turf_count b
  pub mixture : (r : ℕ) → r < turf_count b → mix_of b r < mixture_count b

-- a walk between steps, at the turf `row`
pub record WalkStands (b : Board) (row : ℕ) (a : WalkState) : Type 0 where
  pub ground : Ground b
  pub fit : WalkFits (turf_count b) a
  pub inside : row < turf_count b

-- the link number k leads to the turf `a`
pub record Leads (b : Board) (k a : ℕ) : Type 0 where
  pub inside : k < link_count b
  pub end : a ≡ end b k

-- how many event bytes for each turf a walk may write
abbrev pub bytes_per_turf : Kind → ℕ
bytes_per_turf Planet = 12
bytes_per_turf Space = 24

-- a turf is visited: it is counted already
pub record Visits (kind : Kind) (b : Board) (a : WalkState) : Type 0 where
  pub counted : a.reach.spaces < a.reach.walked
  pub room : bytes_per_turf kind * turf_count b ≤ length a.area

-- a walk between visits
pub record Queued (kind : Kind) (b : Board) (a : WalkState) : Type 0 where
  pub ground : Ground b
  pub fit : WalkFits (turf_count b) a
  pub room : bytes_per_turf kind * turf_count b ≤ length a.area

-- `walk_next` where there is a turf to visit
abbrev pub visit_next : Board → Kind → ℕ → Walk → Walk
visit_next b kind limit s = visit b kind limit (get_or s.queue s.walked 0) (advance s)

-- a walk from r can start: the areas are w and e
pub record WalkStarts (kind : Kind) (b : Board) (r : ℕ) (w e : List ℕ) : Type 0 where
  pub ground : Ground b
  pub inside : r < turf_count b
  pub words : walk_room (turf_count b) ≤ length w
  pub room : bytes_per_turf kind * turf_count b ≤ length e

-- the walk from r is done: from w and e it came to w' and e'
pub record Walked (kind : Kind) (b : Board) (limit r : ℕ) (g : Reach) (w w' e e' : List ℕ) : Type 0 where
  pub fit : WalkFits (turf_count b) (walk_at g w' e')
  pub words : length w' ≡ length w
  pub beyond : region (walk_sizes (turf_count b)) 3 w' ≡ region (walk_sizes (turf_count b)) 3 w
  pub events : List Event
  pub wrote : Wrote (encode_all events) 0 g.used e e'
  pub same : walk_of (turf_count b) (walk_at g w' e') events ≡ walk b (visit b kind limit) r

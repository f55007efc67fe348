-- How the two work areas hold the planning state, and what a function of planning promises of them.
use Rattle.std.specs.Prelude.{ℕ, ◌+◌, ◌-◌, ◌≤◌, ◌<◌, ◌≡◌, List, [], length, get_or, take, drop, Float, Option}
use Rattle.std.specs.Borrow.{Bor}
use Rattle.basics.specs.Regions.{cut}
use Rattle.scratch.specs.Layout.{plan_words, plan_floats, found_at, lifted_at}
use Rattle.rules_board.specs.Board.{Board, turf_count, link_count}
use Rattle.rules_plan.specs.Plan.{Plan}
use Rattle.index_set.specs.Line.{Below}
use Rattle.reverse_links.specs.Reverse.{Linked, Reverses}
use Rattle.plan_state.specs.Pairs.{firsts, seconds}
use Rattle.plan_state.specs.declared.ZoneAt.{ZoneAt}
use Rattle.basics.specs.Lists.{Found}

-- everything that a function of planning may change, before or after it
pub record Area : Type 0 where
  pub words : List ℕ
  pub floats : List Float

abbrev pub area : List ℕ → List Float → Area
area w f = record { words = w; floats = f }

-- the same of references to them, as contracts have it
abbrev pub area_at : Bor (List ℕ) → Bor (List Float) → Area
area_at words floats = area words.now floats.now

-- all that the two areas hold
pub record PlanView : Type 0 where
  pub owner : List ℕ
  pub reverse : List ℕ
  pub plan : Plan
  pub via : List ℕ
  pub queue : List ℕ
  pub places : List ℕ
  pub list : List ℕ
  pub rest_w : List ℕ
  pub rest_f : List Float

abbrev pub plan_view_in : List (List ℕ) → List (List Float) → PlanView
plan_view_in ws rs = record {
  owner = get_or ws 0 [];
  reverse = get_or ws 1 [];
  plan = record { weight = get_or rs 0 []; delta = firsts (get_or rs 1 []); amount = seconds (get_or rs 1 []); direction = firsts (get_or ws 2 []); fast = get_or ws 3 [] };
  via = seconds (get_or ws 2 []);
  queue = get_or ws 4 [];
  places = get_or ws 5 [];
  list = get_or ws 6 [];
  rest_w = get_or ws 7 [];
  rest_f = get_or rs 2 [];
}

unfoldable pub plan_view : ℕ → ℕ → Area → PlanView
plan_view n e a = plan_view_in (cut (plan_words n e) a.words) (cut (plan_floats n e) a.floats)

-- the areas are long enough, and the sizes within their limits
pub record PlanFits (n e : ℕ) (a : Area) : Type 0 where
  pub words : found_at n e ≤ length a.words
  pub floats : lifted_at n e ≤ length a.floats
  pub turfs : n ≤ 4096
  pub links : e ≤ 24576

-- n and e are the board's turfs and links, and its links are as refusal 4 leaves them
pub record Sized (b : Board) (n e : ℕ) : Type 0 where
  pub turfs : turf_count b ≡ n
  pub links : link_count b ≡ e
  pub linked : Linked n b.starts b.neighbours

-- the links up to `to` are the board's and end at turfs, and r is a turf
pub record Ends (n e r to : ℕ) (neighbours : List ℕ) : Type 0 where
  pub row : r < n
  pub all : length neighbours ≡ e
  pub within : to ≤ e
  pub ends : (k : ℕ) → k < e → get_or neighbours k 0 < n

-- what every function of planning relies on, of a zone z: the sizes, areas that fit, the reverse of each link
pub record Planning (b : Board) (n e z : ℕ) (a : Area) : Type 0 where
  pub sized : Sized b n e
  pub fit : PlanFits n e a
  pub zone : z < 4096
  pub reverses : Reverses b n (plan_view n e a).reverse

-- a step of the plan that may look at the links' owners; all else stays
abbrev pub on_plan : (List ℕ → Plan → Plan) → PlanView → PlanView
on_plan h v = record {
  owner = v.owner;
  reverse = v.reverse;
  plan = h v.owner v.plan;
  via = v.via;
  queue = v.queue;
  places = v.places;
  list = v.list;
  rest_w = v.rest_w;
  rest_f = v.rest_f;
}

-- from a to a' by the step h of the plan, and all else is as it was
pub record PlanDoes (n e : ℕ) (h : List ℕ → Plan → Plan) (a a' : Area) : Type 0 where
  pub fit : PlanFits n e a'
  pub same : plan_view n e a' ≡ on_plan h (plan_view n e a)

-- what planning leaves as it was
pub record Frame (n e : ℕ) (a a' : Area) : Type 0 where
  pub owner : (plan_view n e a').owner ≡ (plan_view n e a).owner
  pub reverse : (plan_view n e a').reverse ≡ (plan_view n e a).reverse
  pub rest_w : (plan_view n e a').rest_w ≡ (plan_view n e a).rest_w
  pub rest_f : (plan_view n e a').rest_f ≡ (plan_view n e a).rest_f

-- the same, but that what a search works with may be anything afterwards
pub record Serves (n e : ℕ) (h : List ℕ → Plan → Plan) (a a' : Area) : Type 0 where
  pub fit : PlanFits n e a'
  pub frame : Frame n e a a'
  pub list : (plan_view n e a').list ≡ (plan_view n e a).list
  pub plan : (plan_view n e a').plan ≡ h (plan_view n e a).owner (plan_view n e a).plan

-- ---- the nodes of a zone: `count` words from `first` on, past those that planning changes

abbrev pub nodes_of : ℕ → ℕ → PlanView → ℕ → ℕ → List ℕ
nodes_of n e v first count = take count (drop (first - found_at n e) v.rest_w)

-- there are some, at most one for each turf
pub record Nodes (n e first count : ℕ) (a : Area) : Type 0 where
  pub some : 0 < count
  pub few : count ≤ n
  pub past : found_at n e ≤ first
  pub room : first + count ≤ length a.words
  pub rows : Below n (nodes_of n e (plan_view n e a) first count)

-- the nodes of the zone in hand
abbrev pub nodes_in_hand : ZoneAt → Area → List ℕ
nodes_in_hand zone a = nodes_of zone.layout.turfs zone.layout.links (plan_view zone.layout.turfs zone.layout.links a) zone.first zone.count

-- what a move from the turf r to the turf d is asked, over the edge there and the one back
pub record EdgeMoveFits (n e r d : ℕ) (s t : Option ℕ) (a : Area) : Type 0 where
  pub fit : PlanFits n e a
  pub row : r < n
  pub to : d < n
  pub there : Found (λ k. k < e) s
  pub back : Found (λ k. k < e) t

-- `equalize`: fill from the hot turfs, plan every zone, finish by turns.
use Rattle.std.specs.Prelude.{List, [], map, Bool, true, false, not, ◌||◌, ℕ, ◌+◌, eqb, ltb, length, get_or, replicate, Float, if◌then◌else◌, Option, Some, None}
use Rattle.std.specs.Float.Ieee.{lt, of_bits}
use Rattle.std.specs.Float.{binary32}
use Rattle.basics.specs.Loops.{run, keep, every, up_from, member, snoc}
use Rattle.basics.specs.Floats.{0f, ◌-f◌, abs}
use Rattle.rules_board.specs.Board.{Board, turf_count, link_count, mixture_count, mix_of, end, enabled, immutable_mix, links_of, row_of}
use Rattle.rules_mixture.specs.Mixture.{total}
use Rattle.rules_fill.specs.Fill.{Fill, is_over, fill}
use Rattle.rules_plan.specs.Plan.{Plan, planned_zone}
use Rattle.rules_finish.specs.Finish.{Done}
use Rattle.rules_finish.specs.Turns.{Zone, zone_at, nodes_at, node_count, finish_all}
use Rattle.rules_events.specs.declared.Event.{Event}

-- what equalize alone is lent, beside the turns
pub record Ask : Type 0 where
  pub hot : List ℕ
  pub threshold : Float  -- MINIMUM_MOLES_DELTA_TO_MOVE
  pub limit : ℕ  -- `equalize_hard_turf_limit`
  pub allowance : ℕ  -- test k is over when k exceeds it

-- the same of its parts
abbrev pub ask_of : List ℕ → Float → ℕ → ℕ → Ask
ask_of hot threshold limit allowance = record { hot = hot; threshold = threshold; limit = limit; allowance = allowance }

-- what filling has come to
pub record Filled : Type 0 where
  pub found : List ℕ
  pub owner : List ℕ
  pub zones : List Zone  -- `zoned_turfs`
  pub tests : ℕ
  pub events : List Event
  pub cancelled : Bool

-- where filling starts
abbrev pub start_filled : Board → Filled
start_filled b = record {
  found = replicate (turf_count b) 0;
  owner = replicate (link_count b) 0;
  zones = [];
  tests = 0;
  events = [];
  cancelled = false;
}

-- `our_moles < 10.0`
abbrev pub 10f : Float
10f = of_bits binary32 0x4120_0000

-- `match flood_fill_zones(..)`: a zone is kept unless it is ignored, when its links are owned as before; past the clock all is cancelled
unfoldable pub after_fill : Fill → Filled → Filled
after_fill t s =
    let r = t.reach in
    record {
      found = r.found;
      owner = if r.ignored then s.owner else r.owner;
      zones = if r.ignored then s.zones else snoc s.zones (record { nodes = r.nodes; moles = t.moles });
      tests = t.tests;
      events = r.events;
      cancelled = is_over t.state;
    }

module _ (b : Board) (gas : List Float) (q : Ask) where
  -- a neighbour's total is nearer than the threshold
  unfoldable pub near : ℕ → ℕ → Bool
  near r k = lt (abs (total b gas (end b k) -f total b gas r)) q.threshold

  -- found already, disabled, without links, or `is_unshareable`
  unfoldable pub passed_over : ℕ → List ℕ → Bool
  passed_over r found =
      not (eqb (get_or found r 0) 0) || (not (enabled b r) || (eqb (length (links_of b r)) 0 || (lt (total b gas r) 10f || every (near r) (links_of b r))))

  -- a zone from the turf r
  unfoldable pub fill_from : ℕ → Filled → Filled
  fill_from r s = after_fill (fill b gas q.limit q.allowance (length s.zones) r s.found s.owner s.events s.tests) s

  -- a hot id that no turf has is passed over
  unfoldable pub hot_row : Option ℕ → Filled → Filled
  hot_row None s = s
  hot_row (Some r) s = if passed_over r s.found then s else fill_from r s

  -- `for &cur_index_turf in high_pressure_turfs`
  unfoldable pub hot_id : ℕ → Filled → Filled
  hot_id i s = if s.cancelled then s else hot_row (row_of b i) s

  -- all hot ids, ascending
  unfoldable pub filled_all : Filled
  filled_all = run hot_id q.hot (start_filled b)

module _ (b : Board) (gas : List Float) where
  -- every zone's weights
  unfoldable pub planned_all : Filled → Plan
  planned_all s = run (λ z p. planned_zone b s.owner z gas (nodes_at s.zones z) (zone_at s.zones z).moles p) (up_from 0 (length s.zones))
      (record {
        weight = replicate (link_count b) 0f;
        delta = replicate (turf_count b) 0f;
        amount = replicate (turf_count b) 0f;
        direction = replicate (turf_count b) 0;
        fast = replicate (turf_count b) 0;
      })

-- ---- whether the kept zones are apart

module _ (b : Board) where
  -- the zone has a node whose mixture is m
  unfoldable pub has_mix : ℕ → Zone → Bool
  has_mix m z = member m (map (mix_of b) z.nodes)

  -- no changeable mixture is in two kept zones
  unfoldable pub apart : List Zone → Bool
  apart zones = every (λ m. immutable_mix b m || ltb (length (keep (has_mix m) zones)) 2) (up_from 0 (mixture_count b))

-- ---- the whole

-- what the operation comes to
pub record Equalized : Type 0 where
  pub cancelled : ℕ
  pub processed : ℕ
  pub tests : ℕ
  pub zones : ℕ
  pub apart : ℕ
  pub gas : List Float
  pub events : List Event

-- a mark as a number
abbrev pub bit : Bool → ℕ
bit true = 1
bit false = 0

module _ (b : Board) (gas : List Float) (q : Ask) where
  -- cancelled: gas unchanged, requests written stay
  unfoldable pub cancel : ℕ → ℕ → List Event → Equalized
  cancel processed tests events =
      record { cancelled = 1; processed = processed; tests = tests; zones = 0; apart = 0; gas = gas; events = events }

  -- what finishing starts from
  unfoldable pub planned : Filled → Done
  planned s = record { gas = gas; weight = (planned_all b gas s).weight; events = s.events }

  -- not cancelled
  unfoldable pub played : List ℕ → Filled → Equalized
  played turns s =
      let t = finish_all b s.owner s.zones turns (planned s) in
      record {
        cancelled = 0;
        processed = node_count s.zones;
        tests = s.tests + 2;
        zones = length s.zones;
        apart = bit (apart b s.zones);
        gas = t.gas;
        events = t.events;
      }

  -- after filling one clock test, then planning, one more test, then finishing
  unfoldable pub equalize : List ℕ → Equalized
  equalize turns =
      let s = filled_all b gas q in
      if s.cancelled then cancel 0 s.tests s.events
      else if ltb q.allowance (s.tests + 1) then cancel 0 (s.tests + 1) s.events
      else if ltb q.allowance (s.tests + 2) then cancel (node_count s.zones) (s.tests + 2) s.events
      else played turns s

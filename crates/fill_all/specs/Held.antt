-- How the work areas hold what filling has come to, and what a function of filling promises of them.
use Rattle.std.specs.Prelude.{ℕ, ◌+◌, ◌-◌, ◌*◌, ◌≤◌, ◌<◌, ◌≡◌, List, [], map, true, false, length, get_or, set, take, drop, replicate, Float}
use Rattle.std.specs.Float.{nan}
use Rattle.basics.specs.Loops.{up_from}
use Rattle.basics.specs.Regions.{cut}
use Rattle.scratch.specs.Layout.{word_sizes, float_sizes, starts_at, moles_at, Sizes, floats_end, words_end}
use Rattle.scratch.specs.View.{owner_in, found_in, starts_in}
use Rattle.rules_board.specs.Board.{Board, turf_count, link_count}
use Rattle.turfs.specs.Tables.{source}
use Rattle.events.specs.Area.{HoldsEvents}
use Rattle.rules_events.specs.declared.Event.{Event}
use Rattle.rules_fill.specs.Fill.{is_over}
use Rattle.rules_fill.specs.declared.Settings.{Settings}
use Rattle.fill_links.specs.Held.{zeros, FillDoes}
use Rattle.fill_zone.specs.declared.Flood.{Flood}
use Rattle.fill_ignored.specs.Held.{GaveBack}
use Rattle.rules_finish.specs.Turns.{Zone}
use Rattle.rules_equalize.specs.Equalize.{Ask, Filled, ask_of}
use Rattle.fill_all.specs.declared.Filling.{Filling}

-- what only equalize is asked, by the settings
abbrev pub asked : List ℕ → Settings → Ask
asked hot settings = ask_of hot settings.threshold settings.limit settings.allowance

-- ---- the areas

-- zone number i
abbrev pub zone_in : List ℕ → List ℕ → List Float → ℕ → Zone
zone_in starts nodes moles i = record { nodes = take (get_or starts (i + 1) 0 - get_or starts i 0) (drop (get_or starts i 0) nodes); moles = get_or moles i nan }

-- what filling leaves as it was
pub record Around : Type 0 where
  pub reverse : List ℕ
  pub met : List ℕ
  pub fast : List ℕ
  pub list : List ℕ
  pub cursor : List ℕ
  pub live : List ℕ
  pub rest_w : List ℕ
  pub weight : List Float
  pub states : List Float
  pub lifted : List Float
  pub rest_r : List Float

-- all that the areas hold
pub record FilledView : Type 0 where
  pub filled : Filled
  pub around : Around

-- those arrays
abbrev pub around_in : List (List ℕ) → List (List Float) → Around
around_in ws rs = record {
  reverse = get_or ws 1 [];
  met = get_or ws 2 [];
  fast = get_or ws 3 [];
  list = get_or ws 6 [];
  cursor = get_or ws 8 [];
  live = get_or ws 9 [];
  rest_w = get_or ws 12 [];
  weight = get_or rs 0 [];
  states = get_or rs 1 [];
  lifted = get_or rs 2 [];
  rest_r = get_or rs 4 [];
}

-- the arrays, where filling has come to s and the events es were written
abbrev pub filled_view_in : Filling → List Event → List (List ℕ) → List (List Float) → FilledView
filled_view_in s es ws rs = record {
  filled = record {
    found = get_or ws 7 [];
    owner = get_or ws 0 [];
    zones = map (zone_in (get_or ws 10 []) (get_or ws 11 []) (get_or rs 3 [])) (up_from 0 s.zones);
    tests = s.tests;
    events = es;
    cancelled = s.cancelled;
  };
  around = around_in ws rs;
}

-- the areas, cut into them
unfoldable pub filled_view : ℕ → ℕ → Filling → List ℕ → List Float → List Event → FilledView
filled_view n e s w f es = filled_view_in s es (cut (word_sizes n e) w) (cut (float_sizes n e) f)

-- a step of filling; all else stays
abbrev pub on_filled : (Filled → Filled) → FilledView → FilledView
on_filled g v = record { filled = g v.filled; around = v.around }

-- ---- what holds wherever filling stands

-- the areas are long enough, the zones' nodes stand one after the other, and there are at most as many nodes as zones and owned links
pub record Stored (n e : ℕ) (s : Filling) (w : List ℕ) (f : List Float) : Type 0 where
  pub sizes : Sizes n e
  pub words : words_end n e ≤ length w
  pub floats : floats_end n e ≤ length f
  pub zones : s.zones ≤ n
  pub first : get_or (starts_in n e w) 0 0 ≡ 0
  pub last : get_or (starts_in n e w) s.zones 0 ≡ s.nodes
  pub rise : (i : ℕ) → i < s.zones → get_or (starts_in n e w) i 0 ≤ get_or (starts_in n e w) (i + 1) 0
  pub below : (i : ℕ) → i ≤ s.zones → get_or (starts_in n e w) i 0 ≤ s.nodes
  pub nodes : s.nodes + zeros (owner_in e w) ≤ s.zones + e

-- what a fill from a turf that isn't found is asked: the links of such turfs have no owner; there is room for the zone and the requests; the clock has time
pub record FillOpen (b : Board) (allowance : ℕ) (s : Filling) (w area : List ℕ) : Type 0 where
  pub unowned : (k : ℕ) → get_or (found_in (turf_count b) (link_count b) w) (source b.starts k) 0 ≡ 0 → get_or (owner_in (link_count b) w) k 0 ≡ 0
  pub zones : s.zones + zeros (found_in (turf_count b) (link_count b) w) ≤ turf_count b
  pub bytes : s.used + 16 * zeros (found_in (turf_count b) (link_count b) w) ≤ length area
  pub tests : s.tests ≤ allowance

-- from s, w, f to s', w', f' by the step g of filling
pub record Fills (n e : ℕ) (g : Filled → Filled) (s s' : Filling) (w w' : List ℕ) (f f' : List Float) (area area' : List ℕ) : Type 0 where
  pub stored : Stored n e s' w' f'
  pub does : FillDoes (on_filled g) (filled_view n e s w f) (filled_view n e s' w' f') s.used s'.used area area'

-- ---- what a fill leaves

-- the zone is kept: where the next one starts, its total
pub record Keeps (n e : ℕ) (s : Filling) (t : Flood) (r : Filling) (w w' : List ℕ) (f f' : List Float) : Type 0 where
  pub answer : r ≡ record { zones = s.zones + 1; nodes = s.nodes + t.reach.nodes; tests = t.tests; used = t.reach.used; cancelled = is_over t.state }
  pub words : w' ≡ set w (starts_at n e + s.zones + 1) (s.nodes + t.reach.nodes)
  pub floats : f' ≡ set f (moles_at n e + s.zones) t.moles

-- the zone is ignored
pub record Drops (n e : ℕ) (starts : List ℕ) (s : Filling) (t : Flood) (r : Filling) (w w' : List ℕ) (f f' : List Float) : Type 0 where
  pub answer : r ≡ record { zones = s.zones; nodes = s.nodes; tests = t.tests; used = t.reach.used; cancelled = is_over t.state }
  pub words : GaveBack n e starts t.reach.queued w w'
  pub long : length w' ≡ length w
  pub floats : f' ≡ f

-- one or the other
pub record After (n e : ℕ) (starts : List ℕ) (s : Filling) (t : Flood) (r : Filling) (w w' : List ℕ) (f f' : List Float) : Type 0 where
  pub keeps : t.reach.ignored ≡ false → Keeps n e s t r w w' f f'
  pub drops : t.reach.ignored ≡ true → Drops n e starts s t r w w' f f'

-- ---- the start

-- nothing is found, owned or kept yet
abbrev pub start : Filling
start = record { zones = 0; nodes = 0; tests = 0; used = 0; cancelled = false }

-- the owners, the marks of what is found and the first start are cleared, and all else is as it was
abbrev pub Cleared : ℕ → ℕ → List ℕ → List ℕ → Type 0
Cleared n e w w' = cut (word_sizes n e) w' ≡ set (set (set (cut (word_sizes n e) w) 0 (replicate e 0)) 7 (replicate n 0)) 10 (set (starts_in n e w) 0 0)

-- what the hot loop starts from: nothing was found, owned or kept, and there is room for every request
pub record HotBegun (b : Board) (s : Filling) (w area : List ℕ) : Type 0 where
  pub answer : s ≡ start
  pub found : found_in (turf_count b) (link_count b) w ≡ replicate (turf_count b) 0
  pub owner : owner_in (link_count b) w ≡ replicate (link_count b) 0
  pub room : 16 * turf_count b ≤ length area

-- ---- the whole

-- Filling from nothing: the view at the end is the definition's `filled_all`, all else is as it was, and of the event area all but the bytes written.
pub record FillsAll (n e : ℕ) (all : Filled) (r : Filling) (w w' : List ℕ) (f f' : List Float) (area area' : List ℕ) : Type 0 where
  pub stored : Stored n e r w' f'
  pub same : filled_view n e r w' f' all.events ≡ record { filled = all; around = around_in (cut (word_sizes n e) w) (cut (float_sizes n e) f) }
  pub wrote : HoldsEvents all.events r.used area area'

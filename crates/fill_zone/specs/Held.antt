-- How the work area holds a whole fill, before it and while it goes on, and what a function of it promises.
use Rattle.std.specs.Prelude.{ℕ, ◌+◌, ◌*◌, ◌≤◌, ◌<◌, ◌≡◌, List, [], false, length, get_or}
use Rattle.scratch.specs.Layout.{queue_at, Sizes, most_nodes, words_end}
use Rattle.rules_board.specs.Board.{Board, turf_count, link_count}
use Rattle.turfs.specs.Tables.{source}
use Rattle.rules_events.specs.declared.Event.{Event}
use Rattle.rules_fill.specs.Fill.{Fill}
use Rattle.fill_links.specs.Held.{Still, ReachView, reach_view, ReachFits, Bounded, FillDoes, zeros}
use Rattle.fill_links.specs.Asked.{Free, Walking, TurfFits}
use Rattle.fill_links.specs.declared.Reached.{Reached}
use Rattle.fill_links.specs.declared.Slot.{Slot}
use Rattle.rules_fill.specs.declared.Going.TheVariants.{On}
use Rattle.fill_zone.specs.declared.Flood.{Flood}

-- what the words hold while a fill goes on
pub record FillView : Type 0 where
  pub fill : Fill
  pub still : Still

-- a fill that has come to t, over a view of its walk
abbrev pub fill_in : Flood → ReachView → FillView
fill_in t v = record {
  fill = record { reach = v.reach; popped = t.popped; moles = t.moles; planet = t.planet; tests = t.tests; state = t.state };
  still = v.still;
}

-- the same of the words
abbrev pub fill_view : ℕ → ℕ → ℕ → Flood → List ℕ → List Event → FillView
fill_view n e kept t w es = fill_in t (reach_view n e kept t.reach w es)

-- a step of the fill; all else stays
abbrev pub on_fill : (Fill → Fill) → FillView → FillView
on_fill f v = record { fill = f v.fill; still = v.still }

-- nothing is reached yet
abbrev pub none : ℕ → Reached
none used = record { queued = 0; nodes = 0; ignored = false; used = used }

-- a fill from what was found and owned before it
abbrev pub filled_from : (List ℕ → List ℕ → List Event → Fill) → ReachView → FillView
filled_from f v = record { fill = f v.reach.found v.reach.owner v.reach.events; still = v.still }

-- from t, w to t', w' by the step f of the fill
pub record Floods (n e z kept : ℕ) (f : Fill → Fill) (t t' : Flood) (w w' area area' : List ℕ) : Type 0 where
  pub fit : ReachFits n e kept t'.reach w'
  pub bounds : Bounded n e z kept (reach_view n e kept t'.reach w' []).reach t'.reach.used area'
  pub does : FillDoes (on_fill f) (fill_view n e kept t w) (fill_view n e kept t' w') t.reach.used t'.reach.used area area'

-- what a pop comes to: how many are popped then, and that the clock has not run out where the fill goes on
pub record Moved (allowance : ℕ) (t r : Flood) : Type 0 where
  pub popped : r.popped ≡ t.popped + 1
  pub clock : r.state ≡ On → r.tests ≤ allowance

-- to the fill's first turf, with no event written
pub record ZoneStarts (n e kept used : ℕ) (f : List ℕ → List ℕ → List Event → Fill) (t : Flood) (w w' : List ℕ) : Type 0 where
  pub fit : ReachFits n e kept t.reach w'
  pub same : (es : List Event) → fill_view n e kept t w' es ≡ filled_from f (reach_view n e kept (none used) w es)

-- with so many bytes written and clock tests made
pub record AtStart (used tests : ℕ) (t : Flood) : Type 0 where
  pub none : t.popped ≡ 0
  pub clock : t.tests ≡ tests
  pub on : t.state ≡ On
  pub bytes : t.reach.used ≡ used

-- by a fill f that starts from what the words hold
pub record Begins (n e z kept used : ℕ) (f : List ℕ → List ℕ → List Event → Fill) (t : Flood) (w w' area area' : List ℕ) : Type 0 where
  pub fit : ReachFits n e kept t.reach w'
  pub bounds : Bounded n e z kept (reach_view n e kept t.reach w' []).reach t.reach.used area'
  pub does : FillDoes (filled_from f) (reach_view n e kept (none used) w) (fill_view n e kept t w') used t.reach.used area area'

-- ---- what the functions are asked

-- room for the first turf, at the row r
pub record StartFits (n e kept r : ℕ) (w : List ℕ) : Type 0 where
  pub sizes : Sizes n e
  pub row : r < n
  pub room : kept < most_nodes n e
  pub words : words_end n e ≤ length w

-- a turf to expand, at the row r, after a fill that has come to t
pub record ExpandFits (b : Board) (slot : Slot) (r : ℕ) (t : Flood) (w area : List ℕ) : Type 0 where
  pub walking : Walking (turf_count b) (link_count b) slot t.reach w area
  pub turf : TurfFits b r w
  pub popped : t.popped < 4096
  pub tests : t.tests < 4294967296

-- a turf to pop
pub record PopFits (b : Board) (slot : Slot) (allowance : ℕ) (t : Flood) (w area : List ℕ) : Type 0 where
  pub walking : Walking (turf_count b) (link_count b) slot t.reach w area
  pub on : t.state ≡ On
  pub left : t.popped < t.reach.queued
  pub clock : t.tests ≤ allowance
  pub free : Free b.starts (get_or w (queue_at (turf_count b) (link_count b) + t.popped) 0) w

-- what a fill of zone z from the row r is asked: a turf that no zone found, the links of such turfs without owner, room
pub record ZoneFits (b : Board) (z kept used r : ℕ) (w area : List ℕ) : Type 0 where
  pub row : r < turf_count b
  pub zone : z < turf_count b
  pub words : words_end (turf_count b) (link_count b) ≤ length w
  pub new : get_or (reach_view (turf_count b) (link_count b) kept (none used) w []).reach.found r 0 ≡ 0
  pub unowned : (k : ℕ) → get_or (reach_view (turf_count b) (link_count b) kept (none used) w []).reach.found (source b.starts k) 0 ≡ 0
      → get_or (reach_view (turf_count b) (link_count b) kept (none used) w []).reach.owner k 0 ≡ 0
  pub nodes : kept + zeros (reach_view (turf_count b) (link_count b) kept (none used) w []).reach.owner ≤ z + link_count b
  pub bytes : used + 16 * zeros (reach_view (turf_count b) (link_count b) kept (none used) w []).reach.found ≤ length area

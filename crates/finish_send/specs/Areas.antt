-- How the lent areas hold what finishing changes, and what a function of finishing promises of them.
use Rattle.std.specs.Prelude.{◌≡◌, List, [], ◌∷◌, ℕ, ◌+◌, ◌*◌, ◌≤◌, length, drop, Float}
use Rattle.std.specs.Borrow.{Bor}
use Rattle.basics.specs.Regions.{region}
use Rattle.rules_board.specs.Board.{Board, turf_count, link_count}
use Rattle.turfs.specs.Tables.{Accepted}
use Rattle.scratch.specs.Layout.{float_sizes, reverse_at, lifted_at, floats_end}
use Rattle.scratch.specs.View.{owner_in, reverse_in, weight_in, lifted_in, moles_in}
use Rattle.events.specs.Area.{HoldsEvents}
use Rattle.rules_events.specs.declared.Event.{Event}
use Rattle.reverse_links.specs.Reverse.{Linked, Reverses}
use Rattle.rules_finish.specs.Lifted.{pending, Held, unfinished_nodes}

-- the first `used` bytes of the area are these events
abbrev pub Written : List Event → ℕ → List ℕ → Type 0
Written es used area = HoldsEvents es used area area

-- everything that finishing may change, before or after a function
pub record FinishAreas : Type 0 where
  pub gas : List Float
  pub floats : List Float
  pub events : List ℕ
  pub used : ℕ

abbrev pub finish_areas : List Float → List Float → List ℕ → ℕ → FinishAreas
finish_areas gas floats events used = record { gas = gas; floats = floats; events = events; used = used }

-- the same of references to them, as contracts have it
abbrev pub finish_areas_at : Bor (List Float) → Bor (List Float) → Bor (List ℕ) → ℕ → FinishAreas
finish_areas_at gas floats events used = finish_areas gas.now floats.now events.now used

-- the floats' arrays, of a board
abbrev pub floats_of : Board → List ℕ
floats_of b = float_sizes (turf_count b) (link_count b)

-- its links' weights
abbrev pub weight_on : Board → List Float → List Float
weight_on b f = weight_in (turf_count b) (link_count b) f

-- their lifted weights
abbrev pub lifted_on : Board → List Float → List Float
lifted_on b f = lifted_in (turf_count b) (link_count b) f

-- where those start
abbrev pub lifted_from : Board → ℕ
lifted_from b = lifted_at (turf_count b) (link_count b)

-- how many nodes of zone z are unfinished
abbrev pub unfinished_on : Board → List ℕ → ℕ → List Float → ℕ
unfinished_on b words z f = unfinished_nodes b (owner_in (link_count b) words) z (weight_on b f)

-- the bytes written, and 20 for each weight above 0
abbrev pub due : Board → FinishAreas → ℕ
due b a = a.used + 20 * pending (weight_on b a.floats)

-- the floats that finishing leaves as they are
unfoldable pub others : Board → List Float → List (List Float)
others b f = region (floats_of b) 1 f ∷ moles_in (turf_count b) (link_count b) f ∷ region (floats_of b) 4 f ∷ []

-- the areas hold the state h
pub record Shows (b : Board) (a : FinishAreas) (h : Held) : Type 0 where
  pub gas : a.gas ≡ h.done.gas
  pub weight : weight_on b a.floats ≡ h.done.weight
  pub lifted : lifted_on b a.floats ≡ h.lifted
  pub events : Written h.done.events a.used a.events

-- what a function of finishing may rely on: a board that isn't refused, the reverse of each link, room for the arrays
pub record FinishFits (b : Board) (ws : List ℕ) (gas fs : List Float) : Type 0 where
  pub board : Accepted b (length gas)
  pub linked : Linked (turf_count b) b.starts b.neighbours
  pub reverse : Reverses b (turf_count b) (reverse_in (link_count b) ws)
  pub words : reverse_at (link_count b) (link_count b) ≤ length ws
  pub floats : floats_end (turf_count b) (link_count b) ≤ length fs

-- what finishing leaves as it was
pub record Kept (b : Board) (a a' : FinishAreas) : Type 0 where
  pub gas : length a'.gas ≡ length a.gas
  pub floats : length a'.floats ≡ length a.floats
  pub events : length a'.events ≡ length a.events
  pub rest : others b a'.floats ≡ others b a.floats
  pub grown : a.used ≤ a'.used
  pub past : drop a'.used a'.events ≡ drop a'.used a.events

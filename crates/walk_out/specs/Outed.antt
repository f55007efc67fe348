-- How the scratch holds the way out: past the first walk's queue, each row's place in the order, the order, which starts as the space list, the directions and the targets.
use Rattle.std.specs.Prelude.{◌≡◌, List, [], ◌∷◌, ◌++◌, false, ℕ, ◌+◌, ◌*◌, ◌≤◌, ◌<◌, length, get_or, set, take}
use Rattle.basics.specs.Loops.{run, member}
use Rattle.basics.specs.Regions.{cut, region}
use Rattle.rules_board.specs.Board.{Board, turf_count}
use Rattle.rules_events.specs.Events.{encode_all}
use Rattle.events.specs.Area.{Wrote}
use Rattle.rules_events.specs.declared.Event.{Event}
use Rattle.index_set.specs.Line.{Below, Apart, Line}
use Rattle.scratch.specs.Layout.{out_sizes, out_room}
use Rattle.walk_links.specs.Does.{Walker}
use Rattle.walk_links.specs.Reached.{Ground}
use Rattle.rules_out.specs.Out.{Out, out_row, outward}
use Rattle.walk_out.specs.declared.Front.{Front}

-- what a function of the way out may change
pub record OutState : Type 0 where
  pub front : Front
  pub words : List ℕ
  pub area : List ℕ

-- the state of these
abbrev pub out_at : Front → List ℕ → List ℕ → OutState
out_at front words area = record { front = front; words = words; area = area }

-- the way out that arrays and a front hold, once these events are written
abbrev pub out_in : List (List ℕ) → Front → List Event → Out
out_in arrays g es = record { order = take g.count (get_or arrays 2 []); place = g.place; direction = get_or arrays 3 []; target = get_or arrays 4 []; events = es }

-- the way out that the state holds
unfoldable pub out_of : ℕ → OutState → List Event → Out
out_of n a es = out_in (cut (out_sizes n) a.words) a.front es

-- what a step leaves as it is
pub record OutRest : Type 0 where
  pub words : ℕ
  pub beyond : List ℕ

-- what holds between steps
pub record OutFits (n : ℕ) (a : OutState) : Type 0 where
  pub small : n ≤ 4096
  pub words : out_room n ≤ length a.words
  pub bytes : 24 * n ≤ length a.area
  pub written : a.front.used ≤ 12 * (n + a.front.count)
  pub past : a.front.place ≤ a.front.count
  pub line : Line n a.front.count (region (out_sizes n) 2 a.words) (region (out_sizes n) 1 a.words)
  pub directed : (r : ℕ) → get_or (region (out_sizes n) 3 a.words) r 0 ≤ n

-- the way out over n turfs
abbrev pub outing : ℕ → Walker OutState Out OutRest
outing n = record {
  used = λ a. a.front.used;
  area = λ a. a.area;
  view = out_of n;
  frame = λ a. record { words = length a.words; beyond = region (out_sizes n) 5 a.words };
  Fit = OutFits n;
}

-- the way out between turfs
pub record Passing (b : Board) (a : OutState) : Type 0 where
  pub ground : Ground b
  pub fit : OutFits (turf_count b) a

-- the same at the turf `row`
pub record OutStands (b : Board) (row : ℕ) (a : OutState) : Type 0 where
  pub ground : Ground b
  pub fit : OutFits (turf_count b) a
  pub inside : row < turf_count b

-- the turf `to` is new to the order, and joins it from the turf `row`
pub record Joins (b : Board) (row to : ℕ) (a : OutState) : Type 0 where
  pub fit : OutFits (turf_count b) a
  pub from : row < turf_count b
  pub inside : to < turf_count b
  pub new : member to (take a.front.count (region (out_sizes (turf_count b)) 2 a.words)) ≡ false

-- `out_next` where there is a turf to pass
abbrev pub pass_next : Board → ℕ → Out → Out
pass_next b limit s = out_row b limit (get_or s.order s.place 0) s

-- the words hold a space list, no turf twice
pub record Spaces (ids : List ℕ) (count : ℕ) (w : List ℕ) : Type 0 where
  pub small : length ids ≤ 4096
  pub words : out_room (length ids) ≤ length w
  pub few : count ≤ length ids
  pub below : Below (length ids) (take count (region (out_sizes (length ids)) 2 w))
  pub apart : Apart (take count (region (out_sizes (length ids)) 2 w))

-- the space turfs have their places, and are their own targets
pub record Owned (ids : List ℕ) (count : ℕ) (w w' : List ℕ) : Type 0 where
  pub words : length w' ≡ length w
  pub places : List ℕ
  pub line : Line (length ids) count (region (out_sizes (length ids)) 2 w) places
  pub arrays : cut (out_sizes (length ids)) w' ≡ (get_or (cut (out_sizes (length ids)) w) 0 [] ∷ places ∷ get_or (cut (out_sizes (length ids)) w) 2 [] ∷ get_or (cut (out_sizes (length ids)) w) 3 []
      ∷ run (λ r t. set t r (get_or ids r 0)) (take count (region (out_sizes (length ids)) 2 w)) (region (out_sizes (length ids)) 4 w) ∷ get_or (cut (out_sizes (length ids)) w) 5 [] ∷ [])

-- a way out can start from the first `spaces` turfs of the space list, after `used` event bytes
pub record Opens (b : Board) (spaces used : ℕ) (w e : List ℕ) : Type 0 where
  pub ground : Ground b
  pub list : Spaces b.ids spaces w
  pub room : 24 * turf_count b ≤ length e
  pub written : used ≤ 12 * (turf_count b + spaces)

-- the way out from the space list is done: from w and e it came to w' and e'
pub record Outed (b : Board) (limit spaces used : ℕ) (g : Front) (w w' e e' : List ℕ) : Type 0 where
  pub fit : OutFits (turf_count b) (out_at g w' e')
  pub words : length w' ≡ length w
  pub beyond : region (out_sizes (turf_count b)) 5 w' ≡ region (out_sizes (turf_count b)) 5 w
  pub new : List Event
  pub wrote : Wrote (encode_all new) used g.used e e'
  pub same : (es : List Event) → out_of (turf_count b) (out_at g w' e') (es ++ new) ≡ outward b limit (take spaces (region (out_sizes (turf_count b)) 2 w)) es

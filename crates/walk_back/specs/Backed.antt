-- How the scratch holds the way back: in the first array of words the turfs that the floor rips off, in the floats each row's amount and each rip's sum.
use Rattle.std.specs.Prelude.{◌≡◌, List, [], ◌∷◌, ◌++◌, reverse, Bool, false, not, ℕ, ◌+◌, ◌*◌, ◌≤◌, ◌<◌, T, length, get_or, take, drop, set, replicate, Float}
use Rattle.std.specs.Float.{nan, inf, fin}
use Rattle.std.specs.Float.Ieee.{is_nan}
use Rattle.basics.specs.Loops.{run, every}
use Rattle.basics.specs.Floats.{0f, ◌+f◌}
use Rattle.basics.specs.Regions.{cut, region}
use Rattle.rules_board.specs.Board.{Board, turf_count, mixture_count, mix_of}
use Rattle.rules_mixture.specs.Mixture.{total, clear_air}
use Rattle.rules_events.specs.Events.{encode_all}
use Rattle.events.specs.Area.{Wrote}
use Rattle.rules_events.specs.declared.Event.{Event}
use Rattle.rules_events.specs.declared.Event.TheVariants.{FloorRip}
use Rattle.index_set.specs.Line.{Below}
use Rattle.scratch.specs.Layout.{out_sizes, back_sizes, sums_at, out_room, back_room}
use Rattle.walk_links.specs.Does.{Walker}
use Rattle.walk_links.specs.Reached.{Ground}
use Rattle.rules_back.specs.Back.{Back, back}
use Rattle.walk_back.specs.declared.Way.{Way}
use Rattle.walk_back.specs.declared.Sums.{Sums}

-- neither a NaN nor below zero: sums of such amounts stay so, and have bits of their own
unfoldable pub not_negative : Float → Bool
not_negative nan = false
not_negative (inf s) = not s
not_negative (fin s m e) = not s

-- what a function of the way back may change
pub record BackState : Type 0 where
  pub way : Way
  pub gas : List Float
  pub words : List ℕ
  pub floats : List Float
  pub area : List ℕ

-- the state of these
abbrev pub back_state_at : Way → List Float → List ℕ → List Float → List ℕ → BackState
back_state_at way gas words floats area = record { way = way; gas = gas; words = words; floats = floats; area = area }

-- the areas alone
pub record BackAreas : Type 0 where
  pub gas : List Float
  pub words : List ℕ
  pub floats : List Float
  pub area : List ℕ

-- the areas of these
abbrev pub back_areas : List Float → List ℕ → List Float → List ℕ → BackAreas
back_areas gas words floats area = record { gas = gas; words = words; floats = floats; area = area }

-- the rips of these rows with these sums
unfoldable pub rips_of : List ℕ → List ℕ → List Float → List Event
rips_of ids [] xs = []
rips_of ids (r ∷ rs) [] = []
rips_of ids (r ∷ rs) (x ∷ xs) = FloorRip (get_or ids r 0) x ∷ rips_of ids rs xs

-- the way back that arrays and a way hold, once these events are written
abbrev pub back_in : List ℕ → Way → List Float → List (List ℕ) → List (List Float) → List Event → Back
back_in ids s gas ws fs es = record { gas = gas; amount = get_or fs 0 []; events = es; rips = rips_of ids (take s.rips (get_or ws 0 [])) (take s.rips (get_or fs 1 [])) }

-- the way back that the state holds
unfoldable pub back_of : List ℕ → BackState → List Event → Back
back_of ids a es = back_in ids a.way a.gas (cut (out_sizes (length ids)) a.words) (cut (back_sizes (length ids)) a.floats) es

-- what a step leaves as it is
pub record BackRest : Type 0 where
  pub words : ℕ
  pub arrays : List (List ℕ)  -- all but the first
  pub floats : ℕ
  pub beyond : List Float
  pub gas : ℕ

-- what holds between steps
pub record BackFits (b : Board) (a : BackState) : Type 0 where
  pub small : turf_count b ≤ 4096
  pub words : out_room (turf_count b) ≤ length a.words
  pub floats : back_room (turf_count b) ≤ length a.floats
  pub bytes : 84 * turf_count b ≤ length a.area
  pub written : a.way.used ≤ 24 * turf_count b + 48 * a.way.rips
  pub few : a.way.rips ≤ turf_count b
  pub count : length a.gas ≡ mixture_count b * b.gases
  pub gas : T (every not_negative a.gas)
  pub amounts : T (every not_negative (region (back_sizes (turf_count b)) 0 a.floats))
  pub sums : T (every not_negative (take a.way.rips (region (back_sizes (turf_count b)) 1 a.floats)))
  pub rows : Below (turf_count b) (take a.way.rips (region (out_sizes (turf_count b)) 0 a.words))
  pub directed : (r : ℕ) → get_or (region (out_sizes (turf_count b)) 3 a.words) r 0 ≤ turf_count b

-- the way back over a board
abbrev pub backing : Board → Walker BackState Back BackRest
backing b = record {
  used = λ a. a.way.used;
  area = λ a. a.area;
  view = back_of b.ids;
  frame = λ a. record {
    words = length a.words;
    arrays = drop 1 (cut (out_sizes (turf_count b)) a.words);
    floats = length a.floats;
    beyond = region (back_sizes (turf_count b)) 2 a.floats;
    gas = length a.gas;
  };
  Fit = BackFits b;
}

-- the way back between turfs, the first `left` of the order still to come
pub record BackGoes (b : Board) (left : ℕ) (a : BackState) : Type 0 where
  pub ground : Ground b
  pub fit : BackFits b a
  pub few : a.way.rips + left ≤ turf_count b
  pub order : (i : ℕ) → i < left → get_or (region (out_sizes (turf_count b)) 2 a.words) i 0 < turf_count b

-- the same at the turf `row`, which points at the turf d
pub record Points (b : Board) (row d : ℕ) (a : BackState) : Type 0 where
  pub ground : Ground b
  pub fit : BackFits b a
  pub from : row < turf_count b
  pub to : d < turf_count b
  pub room : a.way.rips < turf_count b

-- the directions in the words
abbrev pub directions : ℕ → List ℕ → List ℕ
directions n w = region (out_sizes n) 3 w

-- two turfs' air and amounts stand in gas and f
pub record Settles (b : Board) (row d : ℕ) (gas f : List Float) : Type 0 where
  pub ground : Ground b
  pub from : row < turf_count b
  pub to : d < turf_count b
  pub count : length gas ≡ mixture_count b * b.gases
  pub floats : back_room (turf_count b) ≤ length f

-- one turf's air and amounts: from gas and f to gas' and f'
pub record Settled (b : Board) (row d : ℕ) (r : Sums) (gas gas' f f' : List Float) : Type 0 where
  pub cleared : gas' ≡ clear_air b (mix_of b row) gas
  pub sum : r.sum ≡ total b gas' d
  pub mine : r.mine ≡ get_or f row nan +f r.sum
  pub theirs : r.theirs ≡ get_or (set f row r.mine) d nan +f r.mine
  pub amounts : f' ≡ set (set f row r.mine) d r.theirs

-- `back` of the turf at the place `at` of the order
abbrev pub back_next : Board → ℕ → ℕ → List ℕ → Back → Back
back_next b arrows at w s = back b arrows (directions (turf_count b) w) (get_or (region (out_sizes (turf_count b)) 2 w) at 0) s

-- the rip number j can be written after `used` bytes
pub record Rips (ids : List ℕ) (j used : ℕ) (w : List ℕ) (f : List Float) (e : List ℕ) : Type 0 where
  pub small : length ids ≤ 4096
  pub words : j < length w
  pub row : get_or w j 0 < length ids
  pub floats : sums_at (length ids) + j < length f
  pub sum : T (not (is_nan (get_or f (sums_at (length ids) + j) nan)))
  pub room : used + 12 ≤ length e

-- the rip number j
abbrev pub rip_at : List ℕ → ℕ → List ℕ → List Float → Event
rip_at ids j w f = FloorRip (get_or ids (get_or w j 0) 0) (get_or f (sums_at (length ids) + j) nan)

-- the rips that are yet to be written
pub record Ripping (ids : List ℕ) (count used : ℕ) (w : List ℕ) (f : List Float) (e : List ℕ) : Type 0 where
  pub small : length ids ≤ 4096
  pub words : count ≤ length w
  pub floats : sums_at (length ids) + count ≤ length f
  pub rows : Below (length ids) (take count w)
  pub sums : T (every not_negative (take count (drop (sums_at (length ids)) f)))
  pub room : used + 12 * count ≤ length e

-- what the way back needs, from the first `count` turfs of the order and after `used` event bytes
pub record BackStarts (b : Board) (count used : ℕ) (a : BackAreas) : Type 0 where
  pub ground : Ground b
  pub few : count ≤ turf_count b
  pub words : out_room (turf_count b) ≤ length a.words
  pub floats : back_room (turf_count b) ≤ length a.floats
  pub bytes : 84 * turf_count b ≤ length a.area
  pub written : used ≤ 24 * turf_count b
  pub total : length a.gas ≡ mixture_count b * b.gases
  pub gas : T (every not_negative a.gas)
  pub order : (i : ℕ) → i < count → get_or (region (out_sizes (turf_count b)) 2 a.words) i 0 < turf_count b
  pub directed : (r : ℕ) → get_or (region (out_sizes (turf_count b)) 3 a.words) r 0 ≤ turf_count b

-- the way back is done, from a to a'
pub record Backed (b : Board) (arrows count used to : ℕ) (a a' : BackAreas) : Type 0 where
  pub words : region (out_sizes (turf_count b)) 5 a'.words ≡ region (out_sizes (turf_count b)) 5 a.words
  pub floats : region (back_sizes (turf_count b)) 2 a'.floats ≡ region (back_sizes (turf_count b)) 2 a.floats
  pub new : List Event
  pub wrote : Wrote (encode_all new) used to a.area a'.area
  pub same : (es : List Event) →
      let order = take count (region (out_sizes (turf_count b)) 2 a.words) in
      let t = run (back b arrows (directions (turf_count b) a.words)) (reverse order) (record { gas = a.gas; amount = replicate (turf_count b) 0f; events = es; rips = [] }) in
      (es ++ new ≡ t.events ++ t.rips) × (a'.gas ≡ t.gas)

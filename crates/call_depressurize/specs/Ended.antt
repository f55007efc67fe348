-- What the code of a depressurization promises on the way to its answer.
use Rattle.std.specs.Prelude.{◌≡◌, List, ◌++◌, ◌*◌, ◌≤◌, T, length, take}
use Rattle.basics.specs.Loops.{every}
use Rattle.basics.specs.Regions.{region}
use Rattle.rules_board.specs.Board.{Board, turf_count, mixture_count}
use Rattle.turfs.specs.Tables.{Tables}
use Rattle.rules_events.specs.Events.{encode_all}
use Rattle.events.specs.Area.{Wrote}
use Rattle.rules_events.specs.declared.Event.{Event}
use Rattle.index_set.specs.Line.{Below, Apart}
use Rattle.scratch.specs.Layout.{out_sizes, back_sizes, out_room, back_room}
use Rattle.walk_links.specs.Reached.{WalkFits, walk_of}
use Rattle.walk_links.specs.Reached as walks
use Rattle.walk_links.specs.declared.Reach.{Reach}
use Rattle.walk_back.specs.Backed.{not_negative, BackAreas}
use Rattle.rules_depressurize.specs.declared.Breach.{Breach}
use Rattle.rules_depressurize.specs.Depressurize.{from_walk, depressurize}
use Rattle.call_answers.specs.Told.{outcome_number}
use Rattle.call_depressurize.specs.declared.Ending.{Ending}

-- the areas hold the first walk, and have room for the rest
pub record WalkHeld (b : Board) (s : Reach) (a : BackAreas) : Type 0 where
  pub tables : Tables b
  pub fit : WalkFits (turf_count b) (walks.walk_at s a.words a.area)
  pub count : length a.gas ≡ mixture_count b * b.gases
  pub clear : T (every not_negative a.gas)
  pub area : 84 * turf_count b ≤ length a.area
  pub words : out_room (turf_count b) ≤ length a.words
  pub floats : back_room (turf_count b) ≤ length a.floats
  pub below : Below (turf_count b) (take s.spaces (region (out_sizes (turf_count b)) 2 a.words))
  pub apart : Apart (take s.spaces (region (out_sizes (turf_count b)) 2 a.words))

-- from the first walk on, from a to a'
pub record Ended (b : Board) (q : Breach) (s : Reach) (r : Ending) (a a' : BackAreas) : Type 0 where
  pub words : region (out_sizes (turf_count b)) 5 a'.words ≡ region (out_sizes (turf_count b)) 5 a.words
  pub floats : region (back_sizes (turf_count b)) 2 a'.floats ≡ region (back_sizes (turf_count b)) 2 a.floats
  pub new : List Event
  pub wrote : Wrote (encode_all new) s.used r.used a.area a'.area
  pub same : (es : List Event) →
      record { outcome = outcome_number r.outcome; gas = a'.gas; events = es ++ new } ≡ from_walk b a.gas q (walk_of (turf_count b) (walks.walk_at s a.words a.area) es)

-- as asked, from a to a'
pub record Depressed (b : Board) (q : Breach) (r : Ending) (a a' : BackAreas) : Type 0 where
  pub words : region (out_sizes (turf_count b)) 5 a'.words ≡ region (out_sizes (turf_count b)) 5 a.words
  pub floats : region (back_sizes (turf_count b)) 2 a'.floats ≡ region (back_sizes (turf_count b)) 2 a.floats
  pub events : List Event
  pub wrote : Wrote (encode_all events) 0 r.used a.area a'.area
  pub same : record { outcome = outcome_number r.outcome; gas = a'.gas; events = events } ≡ depressurize b a.gas q

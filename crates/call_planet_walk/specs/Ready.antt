-- What the walk of a call that isn't refused may rely on.
use Rattle.std.specs.Prelude.{◌≡◌, List, true, ℕ, ◌*◌, ◌≤◌, length}
use Rattle.rules_board.specs.Board.{Board, turf_count}
use Rattle.rules_board.specs.Refuse.{ascending}
use Rattle.scratch.specs.Layout.{walk_room}
use Rattle.walk_links.specs.Reached.{Ground}

-- the tables fit, and the areas w and e have room
pub record Ready (b : Board) (w e : List ℕ) : Type 0 where
  pub ground : Ground b
  pub ascend : ascending b.ids ≡ true
  pub words : walk_room (turf_count b) ≤ length w
  pub room : 12 * turf_count b ≤ length e

-- A zone's edges and their weights (`DiGraphMap<NodeIndex, Cell<f32>>`): the links that the zone owns, a weight for each.
use Rattle.std.specs.Prelude.{List, Bool, ◌&&◌, ℕ, ◌+◌, eqb, get_or, set, Float, Option, Some, None}
use Rattle.std.specs.Float.{nan}
use Rattle.basics.specs.Loops.{keep, first}
use Rattle.basics.specs.Floats.{◌+f◌, ◌-f◌}
use Rattle.rules_board.specs.Board.{Board, end, links_of}

-- `if let Some(cell) = graph.edge_weight(..)`: set where the search found a place
abbrev pub alter : Option ℕ → (Float → Float) → List Float → List Float
alter (Some k) f w = set w k (f (get_or w k nan))
alter None f w = w

-- `owner` has by link z + 1 for an edge of zone z, and 0 for a link of none: zones count from 0, and 0 is what a link has before any zone is filled
module _ (b : Board) (owner : List ℕ) (z : ℕ) where
  -- whether the zone has the link
  abbrev pub owned : ℕ → Bool
  owned k = eqb (get_or owner k 0) (z + 1)

  -- `.edges(r)`: the zone's edges that leave r, in order
  unfoldable pub edges_of : ℕ → List ℕ
  edges_of r = keep owned (links_of b r)

  -- `.edge_weight(r, a)`: the edge from r to a, if the zone has it
  unfoldable pub edge : ℕ → ℕ → Option ℕ
  edge r a = first (λ k. owned k && eqb (end b k) a) (links_of b r)

  -- `adjust_eq_movement`: a missing reverse edge isn't adjusted
  unfoldable pub adjust : ℕ → ℕ → Float → List Float → List Float
  adjust r a x w = alter (edge a r) (λ y. y -f x) (alter (edge r a) (λ y. y +f x) w)

-- What the steps of a search are asked.
use Rattle.std.specs.Prelude.{ℕ, ◌≤◌, ◌<◌, ◌≡◌, List, length}
use Rattle.rules_board.specs.Board.{Board}
use Rattle.reverse_links.specs.Reverse.{Linked}
use Rattle.plan_state.specs.Held.{Area, plan_view, Sized, Ends}
use Rattle.plan_trade.specs.Search.{AllMet, Idle}
use Rattle.plan_trade.specs.Hands.{Searching, Unsettled}
use Rattle.plan_trade.specs.declared.Hand.{Hand}

-- the links of the turf r from one up to another, with `count` rows in the queue
pub record SeekRowFits (hand : Hand) (r from to count : ℕ) (neighbours : List ℕ) (a : Area) : Type 0 where
  pub searching : Searching hand count a
  pub unsettled : Unsettled hand a
  pub ends : Ends hand.layout.turfs hand.layout.links r to neighbours
  pub rise : from ≤ to

-- all links of the turf r
pub record SeekTurfFits (hand : Hand) (r count : ℕ) (starts neighbours : List ℕ) (a : Area) : Type 0 where
  pub searching : Searching hand count a
  pub unsettled : Unsettled hand a
  pub row : r < hand.layout.turfs
  pub linked : Linked hand.layout.turfs starts neighbours
  pub all : length neighbours ≡ hand.layout.links

-- the whole search, with the turf in hand alone in the queue
pub record SeekFits (b : Board) (hand : Hand) (a : Area) : Type 0 where
  pub searching : Searching hand 1 a
  pub sized : Sized b hand.layout.turfs hand.layout.links
  pub met : AllMet hand.layout.turfs hand.z b.starts b.neighbours (plan_view hand.layout.turfs hand.layout.links a) 1
  pub idle : Idle (plan_view hand.layout.turfs hand.layout.links a) 1 hand.layout.turfs

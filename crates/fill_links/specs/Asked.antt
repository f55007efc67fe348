-- What the functions of filling are asked.
use Rattle.std.specs.Prelude.{ℕ, ◌+◌, ◌≤◌, ◌<◌, ◌≡◌, List, [], length, get_or}
use Rattle.rules_board.specs.Board.{Board, turf_count, link_count, mixture_count, mix_of, end}
use Rattle.turfs.specs.Tables.{Parts}
use Rattle.scratch.specs.Layout.{most_nodes}
use Rattle.fill_links.specs.Held.{reach_view, ReachFits, Bounded}
use Rattle.fill_links.specs.declared.Reached.{Reached}
use Rattle.fill_links.specs.declared.Slot.{Slot}
use Rattle.fill_links.specs.declared.Met.{Met}

-- what a walk over links reads of the board is there
pub record TablesFit (b : Board) : Type 0 where
  pub parts : Parts (turf_count b) b.starts b.neighbours
  pub links : link_count b ≤ 24576
  pub flags : length b.flags ≡ turf_count b
  pub planetary : length b.planetary ≡ turf_count b
  pub mixtures : length b.mixtures ≡ turf_count b
  pub link_flags : length b.link_flags ≡ link_count b
  pub ends : (k : ℕ) → k < link_count b → end b k < turf_count b
  pub mixed : (r : ℕ) → r < turf_count b → mix_of b r < mixture_count b

-- the links of the row r, by its starts, have no owner yet
abbrev pub Free : List ℕ → ℕ → List ℕ → Type 0
Free starts r w = (k : ℕ) → get_or starts r 0 ≤ k → k < get_or starts (r + 1) 0 → get_or w k 0 ≡ 0

-- a turf of the board whose links have no owner yet
pub record TurfFits (b : Board) (r : ℕ) (w : List ℕ) : Type 0 where
  pub row : r < turf_count b
  pub free : Free b.starts r w

-- a link without owner to the neighbour m
pub record LinkFits (n e : ℕ) (m : Met) (k : ℕ) (w : List ℕ) : Type 0 where
  pub link : k < e
  pub row : m.row < n
  pub free : get_or w k 0 ≡ 0

-- a walk in the slot's zone has come to s, within its bounds
pub record Walking (n e : ℕ) (slot : Slot) (s : Reached) (w area : List ℕ) : Type 0 where
  pub fit : ReachFits n e slot.kept s w
  pub bounds : Bounded n e slot.z slot.kept (reach_view n e slot.kept s w []).reach s.used area

-- there is room for an edge over the link k to the neighbour m, and for one more node
pub record EdgeFits (n e : ℕ) (slot : Slot) (m : Met) (k : ℕ) (s : Reached) (w : List ℕ) : Type 0 where
  pub fit : ReachFits n e slot.kept s w
  pub link : k < e
  pub row : m.row < n
  pub zone : slot.z < n
  pub room : slot.kept + s.nodes < most_nodes n e

-- there is room for the neighbour m in the queue
pub record PushFits (n e : ℕ) (slot : Slot) (m : Met) (s : Reached) (w : List ℕ) : Type 0 where
  pub fit : ReachFits n e slot.kept s w
  pub row : m.row < n
  pub room : s.queued < n

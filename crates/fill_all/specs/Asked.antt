-- What the functions of filling are asked.
use Rattle.std.specs.Prelude.{ℕ, ◌+◌, ◌*◌, ◌≤◌, ◌<◌, ◌≡◌, List, false, length, Float}
use Rattle.scratch.specs.Layout.{Sizes, floats_end, most_nodes, words_end}
use Rattle.rules_board.specs.Board.{Board, turf_count, link_count}
use Rattle.fill_zone.specs.declared.Flood.{Flood}
use Rattle.fill_all.specs.Held.{Stored, FillOpen}
use Rattle.fill_all.specs.declared.Filling.{Filling}

-- room for one more zone, which t has come to
pub record KeepFits (n e : ℕ) (s : Filling) (t : Flood) (w : List ℕ) (f : List Float) : Type 0 where
  pub sizes : Sizes n e
  pub words : words_end n e ≤ length w
  pub floats : floats_end n e ≤ length f
  pub zones : s.zones < n
  pub nodes : s.nodes + t.reach.nodes ≤ most_nodes n e

-- filling has come to s, and goes on
pub record HotFits (b : Board) (allowance : ℕ) (s : Filling) (w : List ℕ) (f : List Float) (area : List ℕ) : Type 0 where
  pub stored : Stored (turf_count b) (link_count b) s w f
  pub room : FillOpen b allowance s w area
  pub going : s.cancelled ≡ false

-- the areas that filling works with are long enough
pub record FillFits (b : Board) (w : List ℕ) (f : List Float) (area : List ℕ) : Type 0 where
  pub words : words_end (turf_count b) (link_count b) ≤ length w
  pub floats : floats_end (turf_count b) (link_count b) ≤ length f
  pub events : 16 * turf_count b ≤ length area

-- What the tests of a hot turf are asked.
use Rattle.std.specs.Prelude.{ℕ, ◌≤◌, ◌<◌, List, length}
use Rattle.scratch.specs.Layout.{Sizes, words_end}

-- the words hold whether the turf at the row r is found
pub record FoundFits (n e r : ℕ) (w : List ℕ) : Type 0 where
  pub sizes : Sizes n e
  pub words : words_end n e ≤ length w
  pub row : r < n

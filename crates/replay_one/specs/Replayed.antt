-- What comes of a vector that is replayed.
use Rattle.std.specs.Prelude.{List, Option, ℕ, ◌≤◌, length, Float}
use Rattle.vectors_same.specs.Same.{CellsHeld}
use Rattle.vectors_same.specs.declared.Vector.{Vector}

-- what a call answered, in seven numbers at most, and left was looked at
pub record Looked (numbers : List ℕ) (r : Option Vector) : Type 0 where
  pub gas : List Float
  pub words : List ℕ
  pub floats : List Float
  pub events : List ℕ
  pub answer : List ℕ
  pub few : length answer ≤ 7
  pub due : ℕ
  pub held : CellsHeld numbers gas words floats events answer due r

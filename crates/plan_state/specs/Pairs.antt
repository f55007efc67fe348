-- Two arrays in one, a pair for each row: what is read together stands together.
use Rattle.std.specs.Prelude.{List, [], ◌∷◌}

module _ {A : Type 0} where
  -- the first of each pair
  unfoldable pub firsts : List A → List A
  firsts [] = []
  firsts (x ∷ []) = x ∷ []
  firsts (x ∷ y ∷ r) = x ∷ firsts r

  -- the second of each pair
  unfoldable pub seconds : List A → List A
  seconds [] = []
  seconds (x ∷ []) = []
  seconds (x ∷ y ∷ r) = y ∷ seconds r

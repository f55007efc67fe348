-- An `IndexSet` in a work area: the rows in order of insertion, and for each row a word that leads back to its place among them.
-- A row is in the set if its word is below the count and the set has the row there, so that nothing is cleared before a search or after it.
use Rattle.std.specs.Prelude.{ℕ, ◌+◌, ◌≤◌, ◌<◌, ◌≡◌, List, [], ◌∷◌, false, length, get_or, take, drop}
use Rattle.basics.specs.Loops.{member}

-- every row of the list is below n
unfoldable pub Below : ℕ → List ℕ → Type 0
Below n [] = Unit {0}
Below n (x ∷ xs) = (x < n) × Below n xs

-- no element stands twice
unfoldable pub Apart : List ℕ → Type 0
Apart [] = Unit {0}
Apart (x ∷ xs) = (member x xs ≡ false) × Apart xs

-- count of n rows stand in the set, and each of them has its place
pub record Line (n count : ℕ) (queue places : List ℕ) : Type 0 where
  pub queue_n : length queue ≡ n
  pub places_n : length places ≡ n
  pub few : count ≤ n
  pub rows : Below n (take count queue)
  pub apart : Apart (take count queue)
  pub placed : (i : ℕ) → i < count → get_or places (get_or queue i 0) 0 ≡ i

-- the n words from `at` on
abbrev pub array : ℕ → ℕ → List ℕ → List ℕ
array n at w = take n (drop at w)

-- the words hold such a set of n rows: its order from `queue` on, its places from `places` on
pub record HoldsSet (n count queue places : ℕ) (w : List ℕ) : Type 0 where
  pub room : (queue + n ≤ length w) × (places + n ≤ length w)
  pub line : Line n count (array n queue w) (array n places w)

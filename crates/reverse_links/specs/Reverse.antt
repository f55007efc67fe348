-- The reverse of a link: the link that leads back from its end. It is found once a call, so that no adjustment searches for an edge.
use Rattle.std.specs.Prelude.{ℕ, ◌+◌, ◌≤◌, ◌<◌, ◌≡◌, List, eqb, length, get_or, Option, Some, None}
use Rattle.basics.specs.Loops.{first}
use Rattle.rules_board.specs.Board.{Board, end, links_of}

-- k is a link of the turf r
pub record InRow (starts : List ℕ) (r k : ℕ) : Type 0 where
  pub from : get_or starts r 0 ≤ k
  pub to : k < get_or starts (r + 1) 0

-- What refusal 4 leaves of the links of n turfs: starts that rise from 0 to the links' number, neighbours in range, none twice in a row.
pub record Linked (n : ℕ) (starts neighbours : List ℕ) : Type 0 where
  pub starts_n : length starts ≡ n + 1
  pub zero : get_or starts 0 0 ≡ 0
  pub all : get_or starts n 0 ≡ length neighbours
  pub rise : (r : ℕ) → r < n → get_or starts r 0 ≤ get_or starts (r + 1) 0
  pub within : (r : ℕ) → r < n → get_or starts (r + 1) 0 ≤ length neighbours
  pub rows : (k : ℕ) → k < length neighbours → get_or neighbours k 0 < n
  pub once : (r k j : ℕ) → r < n → InRow starts r k → InRow starts r j → get_or neighbours k 0 ≡ get_or neighbours j 0 → k ≡ j

-- the link that leads back from the end of the link k to its turf r
unfoldable pub reverse_of : Board → ℕ → ℕ → Option ℕ
reverse_of b r k = first (λ j. eqb (end b j) r) (links_of b (end b k))

-- a search's answer as a word: the place + 1, and 0 for none
abbrev pub word_for : Option ℕ → ℕ
word_for (Some k) = k + 1
word_for None = 0

-- the words say of each link of the board's n turfs which one leads back
pub record Reverses (b : Board) (n : ℕ) (reverse : List ℕ) : Type 0 where
  pub at : (r k : ℕ) → r < n → InRow b.starts r k → get_or reverse k 0 ≡ word_for (reverse_of b r k)

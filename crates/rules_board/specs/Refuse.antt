-- The tests of the refusals 1 to 4, over the tables alone.
use Rattle.std.specs.Prelude.{List, [], ◌∷◌, Bool, true, not, ◌&&◌, ℕ, ◌+◌, ◌*◌, eqb, ltb, leb, length, get_or}
use Rattle.basics.specs.Loops.{every, all_of, up_from, member}
use Rattle.rules_board.specs.Board.{Board, turf_count, link_count, mixture_count, neighbours_of}

-- from lo to hi
abbrev pub within : ℕ → ℕ → ℕ → Bool
within lo hi n = leb lo n && leb n hi

-- the test holds of every number and the next one
unfoldable pub pairwise : (ℕ → ℕ → Bool) → List ℕ → Bool
pairwise t [] = true
pairwise t (x ∷ []) = true
pairwise t (x ∷ y ∷ ys) = t x y && pairwise t (y ∷ ys)

-- strictly ascending
abbrev pub ascending : List ℕ → Bool
ascending xs = pairwise ltb xs

-- not falling
abbrev pub rising : List ℕ → Bool
rising xs = pairwise leb xs

-- no number twice
unfoldable pub distinct : List ℕ → Bool
distinct [] = true
distinct (x ∷ xs) = not (member x xs) && distinct xs

module _ (b : Board) where
  -- refusal 1: N, M, E and G within their limits
  unfoldable pub sizes_fit : Bool
  sizes_fit = all_of (within 1 4096 (turf_count b) ∷ within 1 4096 (mixture_count b) ∷ leb (link_count b) 24576 ∷ within 1 64 b.gases ∷ [])

  -- refusal 2: the tables' lengths; there are `amounts` amounts
  unfoldable pub tables_fit : ℕ → Bool
  tables_fit amounts = all_of (
      eqb (length b.flags) (turf_count b)
      ∷ eqb (length b.planetary) (turf_count b)
      ∷ eqb (length b.mixtures) (turf_count b)
      ∷ eqb (length b.starts) (turf_count b + 1)
      ∷ eqb (length b.link_flags) (link_count b)
      ∷ eqb amounts (mixture_count b * b.gases)
      ∷ [])

  -- refusal 3
  abbrev pub ids_fit : Bool
  ids_fit = ascending b.ids

  -- the neighbours of one turf: none is the turf itself, none stands twice
  unfoldable pub row_fits : ℕ → Bool
  row_fits r = not (member r (neighbours_of b r)) && distinct (neighbours_of b r)

  -- refusal 4
  unfoldable pub links_fit : Bool
  links_fit = all_of (
      rising b.starts
      ∷ eqb (get_or b.starts 0 0) 0
      ∷ eqb (get_or b.starts (turf_count b) 0) (link_count b)
      ∷ every (λ a. ltb a (turf_count b)) b.neighbours
      ∷ every (λ m. ltb m (mixture_count b)) b.mixtures
      ∷ every row_fits (up_from 0 (turf_count b))
      ∷ [])

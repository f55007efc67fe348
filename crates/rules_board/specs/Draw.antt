-- Boards drawn turf by turf, so that a worked board can be read.
use Rattle.std.specs.Prelude.{List, [], ◌∷◌, ◌++◌, map, ℕ, ◌+◌, length, replicate}
use Rattle.basics.specs.Loops.{up_from}
use Rattle.rules_board.specs.Board.{Board}

-- a link as drawn: open, or across a firelock, to a row
pub data Way : Type 0 where
  to lock : ℕ → Way

-- a turf as drawn
pub record Turf : Type 0 where
  pub id : ℕ
  pub flags : ℕ
  pub planetary : ℕ
  pub immutable : ℕ  -- its own mixture's byte
  pub ways : List Way

-- an enabled turf
abbrev pub turf : ℕ → List Way → Turf
turf id ways = record { id = id; flags = 2; planetary = 0; immutable = 0; ways = ways }

-- the same turf, disabled
abbrev pub disabled : Turf → Turf
disabled t = record { id = t.id; flags = 0; planetary = t.planetary; immutable = t.immutable; ways = t.ways }

-- the same turf under a planet's sky
abbrev pub planet : Turf → Turf
planet t = record { id = t.id; flags = t.flags; planetary = 1; immutable = t.immutable; ways = t.ways }

-- the same turf with an immutable mixture
abbrev pub space : Turf → Turf
space t = record { id = t.id; flags = t.flags; planetary = t.planetary; immutable = 1; ways = t.ways }

-- the row that a link leads to
abbrev pub row_to : Way → ℕ
row_to (to r) = r
row_to (lock r) = r

-- the link's flags
abbrev pub flags_to : Way → ℕ
flags_to (to r) = 0
flags_to (lock r) = 2

-- where each turf's links start, from a on
unfoldable pub starts_from : ℕ → List Turf → List ℕ
starts_from a [] = a ∷ []
starts_from a (t ∷ ts) = a ∷ starts_from (a + length t.ways) ts

-- all links, turf by turf
unfoldable pub all_ways : List Turf → List Way
all_ways [] = []
all_ways (t ∷ ts) = t.ways ++ all_ways ts

-- each turf with a mixture of its own, one gas
unfoldable pub draw : List Turf → Board
draw ts = record {
  ids = map (λ t. t.id) ts;
  flags = map (λ t. t.flags) ts;
  planetary = map (λ t. t.planetary) ts;
  mixtures = up_from 0 (length ts);
  starts = starts_from 0 ts;
  neighbours = map row_to (all_ways ts);
  link_flags = map flags_to (all_ways ts);
  immutable = map (λ t. t.immutable) ts;
  gases = 1;
}

-- the same board, where the turfs have the mixtures named, of m changeable ones
unfoldable pub sharing : List ℕ → ℕ → Board → Board
sharing mixtures m b = record {
  ids = b.ids;
  flags = b.flags;
  planetary = b.planetary;
  mixtures = mixtures;
  starts = b.starts;
  neighbours = b.neighbours;
  link_flags = b.link_flags;
  immutable = replicate m 0;
  gases = b.gases;
}

-- the same board with g gases
unfoldable pub with_gases : ℕ → Board → Board
with_gases g b = record {
  ids = b.ids;
  flags = b.flags;
  planetary = b.planetary;
  mixtures = b.mixtures;
  starts = b.starts;
  neighbours = b.neighbours;
  link_flags = b.link_flags;
  immutable = b.immutable;
  gases = g;
}

-- two turfs, linked both ways: 10 and the other one
abbrev pub pair_with : Turf → Board
pair_with t = draw (turf 10 (to 1 ∷ []) ∷ t ∷ [])

-- turf 20 of board A
abbrev pub twenty : Turf
twenty = turf 20 (to 0 ∷ [])

-- board A of document 01
abbrev pub board_a : Board
board_a = pair_with twenty

-- board A and a twin, 30 and 40
abbrev pub twins : Board
twins = draw (turf 10 (to 1 ∷ []) ∷ twenty ∷ turf 30 (to 3 ∷ []) ∷ turf 40 (to 2 ∷ []) ∷ [])

-- three turfs in a row: 10 - 20 - 30
abbrev pub chain : Board
chain = draw (turf 10 (to 1 ∷ []) ∷ turf 20 (to 0 ∷ to 2 ∷ []) ∷ turf 30 (to 1 ∷ []) ∷ [])

-- 10 and another turf, with a firelock on the way there
abbrev pub locked_pair : Turf → Board
locked_pair t = draw (turf 10 (lock 1 ∷ []) ∷ t ∷ [])

-- 10 - 20 - 30 with firelocks on the way there
abbrev pub locked_chain : (Turf → Turf) → (Turf → Turf) → Board
locked_chain f g = draw (turf 10 (lock 1 ∷ []) ∷ f (turf 20 (to 0 ∷ lock 2 ∷ [])) ∷ g (turf 30 (to 1 ∷ [])) ∷ [])

-- a turf as it is
abbrev pub as_is : Turf → Turf
as_is t = t

-- 10 in the middle of 20, 30 and the planetary 40
abbrev pub star : Board
star = draw (turf 10 (to 1 ∷ to 2 ∷ to 3 ∷ []) ∷ turf 20 (to 0 ∷ []) ∷ turf 30 (to 0 ∷ []) ∷ planet (turf 40 (to 0 ∷ [])) ∷ [])

-- four turfs, each linked to each other one
abbrev pub four : Board
four = draw (
    turf 10 (to 1 ∷ to 3 ∷ to 2 ∷ [])
    ∷ turf 20 (to 2 ∷ to 3 ∷ to 0 ∷ [])
    ∷ turf 30 (to 0 ∷ to 3 ∷ to 1 ∷ [])
    ∷ turf 40 (to 0 ∷ to 1 ∷ to 2 ∷ [])
    ∷ [])

-- a ring of four
abbrev pub ring : Board
ring = draw (
    turf 10 (to 2 ∷ to 3 ∷ [])
    ∷ turf 20 (to 3 ∷ to 2 ∷ [])
    ∷ turf 30 (to 1 ∷ to 0 ∷ [])
    ∷ turf 40 (to 0 ∷ to 1 ∷ [])
    ∷ [])

-- six turfs in a row
abbrev pub six : Board
six = draw (
    turf 1 (to 1 ∷ [])
    ∷ turf 2 (to 0 ∷ to 2 ∷ [])
    ∷ turf 3 (to 1 ∷ to 3 ∷ [])
    ∷ turf 4 (to 2 ∷ to 4 ∷ [])
    ∷ turf 5 (to 3 ∷ to 5 ∷ [])
    ∷ turf 6 (to 4 ∷ [])
    ∷ [])

-- 10 is linked to space; 30 and 35 belong to its zone, and 40 leads to them one way
abbrev pub breached : Board
breached = draw (
    turf 10 (to 1 ∷ to 2 ∷ [])
    ∷ space (turf 20 [])
    ∷ turf 30 (to 0 ∷ to 3 ∷ [])
    ∷ turf 35 (to 2 ∷ [])
    ∷ turf 40 (to 2 ∷ to 3 ∷ [])
    ∷ [])

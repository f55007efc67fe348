-- The tables lent to a call, and what is read off them. A turf is its row, a link its place in the link list.
use Rattle.std.specs.Prelude.{List, Bool, not, ℕ, ◌+◌, ◌-◌, eqb, length, get_or, take, drop, Option}
use Rattle.std.specs.Int.Bits.{bit_and}
use Rattle.basics.specs.Loops.{up_from, first}

-- the tables, named and ordered as the C interface has them
pub record Board : Type 0 where
  pub ids : List ℕ  -- by turf row, strictly ascending
  pub flags : List ℕ
  pub planetary : List ℕ  -- nonzero: planetary
  pub mixtures : List ℕ  -- the row of its mixture
  pub starts : List ℕ  -- where its links start; one more at the end
  pub neighbours : List ℕ  -- by link: the neighbour's row
  pub link_flags : List ℕ
  pub immutable : List ℕ  -- by mixture, nonzero: immutable
  pub gases : ℕ  -- G, the amounts that a mixture has

-- the tables in the order of the C interface
abbrev pub board : List ℕ → List ℕ → List ℕ → List ℕ → List ℕ → List ℕ → List ℕ → List ℕ → ℕ → Board
board ids flags planetary mixtures starts neighbours link_flags immutable gases = record {
  ids = ids;
  flags = flags;
  planetary = planetary;
  mixtures = mixtures;
  starts = starts;
  neighbours = neighbours;
  link_flags = link_flags;
  immutable = immutable;
  gases = gases;
}

-- SimulationFlags::SIMULATION_ANY: bit 0 or bit 1
abbrev pub SIMULATION_ANY : ℕ
SIMULATION_ANY = 3

-- AdjacentFlags::ATMOS_ADJACENT_FIRELOCK: bit 1
abbrev pub ATMOS_ADJACENT_FIRELOCK : ℕ
ATMOS_ADJACENT_FIRELOCK = 2

-- `SimulationFlags::enabled`
abbrev pub any_bit : ℕ → Bool
any_bit f = not (eqb (bit_and f SIMULATION_ANY) 0)

-- `AdjacentFlags::contains(ATMOS_ADJACENT_FIRELOCK)`
abbrev pub lock_bit : ℕ → Bool
lock_bit f = eqb (bit_and f ATMOS_ADJACENT_FIRELOCK) ATMOS_ADJACENT_FIRELOCK

module _ (b : Board) where
  -- N
  abbrev pub turf_count : ℕ
  turf_count = length b.ids

  -- E
  abbrev pub link_count : ℕ
  link_count = length b.neighbours

  -- M
  abbrev pub mixture_count : ℕ
  mixture_count = length b.immutable

  -- a turf's id
  abbrev pub id_of : ℕ → ℕ
  id_of r = get_or b.ids r 0

  -- a turf's mixture
  abbrev pub mix_of : ℕ → ℕ
  mix_of r = get_or b.mixtures r 0

  -- `enabled()`
  unfoldable pub enabled : ℕ → Bool
  enabled r = any_bit (get_or b.flags r 0)

  -- `planetary_atmos.is_some()`
  unfoldable pub planetary : ℕ → Bool
  planetary r = not (eqb (get_or b.planetary r 0) 0)

  -- whether a mixture is immutable
  abbrev pub immutable_mix : ℕ → Bool
  immutable_mix m = not (eqb (get_or b.immutable m 0) 0)

  -- `is_immutable()` of a turf
  unfoldable pub immutable : ℕ → Bool
  immutable r = immutable_mix (mix_of r)

  -- whether a firelock stands on a link
  unfoldable pub firelock : ℕ → Bool
  firelock k = lock_bit (get_or b.link_flags k 0)

  -- the neighbour at the end of a link
  abbrev pub end : ℕ → ℕ
  end k = get_or b.neighbours k 0

  -- how many links a turf has
  abbrev pub degree : ℕ → ℕ
  degree r = get_or b.starts (r + 1) 0 - get_or b.starts r 0

  -- The links of a turf, in order: every walk over a turf's neighbours goes over this list.
  unfoldable pub links_of : ℕ → List ℕ
  links_of r = up_from (get_or b.starts r 0) (degree r)

  -- a turf's neighbours, as that part of the link list
  abbrev pub neighbours_of : ℕ → List ℕ
  neighbours_of r = take (degree r) (drop (get_or b.starts r 0) b.neighbours)

  -- `get_id`: the row of an id
  unfoldable pub row_of : ℕ → Option ℕ
  row_of i = first (λ r. eqb (id_of r) i) (up_from 0 turf_count)

-- How the words hold the zones and the mixtures' marks, and what a function promises of them.
use Rattle.std.specs.Prelude.{◌≡◌, ◌≢◌, ◌⊎◌, List, map, Bool, true, false, ℕ, ◌+◌, ◌≤◌, ◌<◌, T, eqb, length, get_or, set, take}
use Rattle.basics.specs.Loops.{member}
use Rattle.rules_board.specs.Board.{Board, turf_count, link_count, mixture_count, mix_of, immutable_mix}
use Rattle.reverse_links.specs.Words.{But}
use Rattle.scratch.specs.Layout.{Sizes, starts_at, marks_at}
use Rattle.scratch.specs.Layout as layout
use Rattle.rules_finish.specs.Turns.{Zone, nodes_at}
use Rattle.rules_equalize.specs.Equalize.{apart}

-- one node of the zone, whose mixture's mark stands at p: a changeable one without mark gets the zone's; r: no other zone has it
pub record Marked (changeless : Bool) (p zone : ℕ) (r : Bool) (w w' : List ℕ) : Type 0 where
  pub fixed : changeless ≡ true → (r ≡ true) × (w' ≡ w)
  pub new : changeless ≡ false → get_or w p 0 ≡ 0 → (r ≡ true) × (w' ≡ set w p (zone + 1))
  pub marked : changeless ≡ false → get_or w p 0 ≢ 0 → (r ≡ eqb (get_or w p 0) (zone + 1)) × (w' ≡ w)

-- the nodes of the zones of n turfs stand one after the other before `at`
pub record ZonesLaid (n zones first base at : ℕ) (w : List ℕ) : Type 0 where
  pub few : zones ≤ 4096
  pub starts : first + zones < at
  pub small : at + 4096 ≤ 1000000
  pub rise : (z : ℕ) → z < zones → get_or w (first + z) 0 ≤ get_or w (first + z + 1) 0
  pub end : (z : ℕ) → z < zones → base + get_or w (first + z + 1) 0 ≤ at
  pub rows : (z j : ℕ) → z < zones → base + get_or w (first + z) 0 ≤ j → j < base + get_or w (first + z + 1) 0 → get_or w j 0 < n

-- what a pass over nodes is asked: a mark for each mixture from `at` on, and each turf's mixture
pub record PassFits (b : Board) (at : ℕ) (w : List ℕ) : Type 0 where
  pub turfs : turf_count b ≤ 4096
  pub few : mixture_count b ≤ 4096
  pub room : at + mixture_count b ≤ length w
  pub mixtures : length b.mixtures ≡ turf_count b
  pub mixed : (r : ℕ) → r < turf_count b → mix_of b r < mixture_count b

-- what the pass over all zones is asked
pub record ApartFits (b : Board) (zones : ℕ) (w : List ℕ) : Type 0 where
  pub sizes : Sizes (turf_count b) (link_count b)
  pub pass : PassFits b (marks_at (turf_count b) (link_count b)) w
  pub laid : ZonesLaid (turf_count b) zones (starts_at (turf_count b) (link_count b)) (layout.zone_nodes_at (turf_count b) (link_count b)) (marks_at (turf_count b) (link_count b)) w

-- they are the nodes of these zones
pub record ZonesStand (first base : ℕ) (zs : List Zone) (w : List ℕ) : Type 0 where
  pub size : (z : ℕ) → z < length zs → get_or w (first + z) 0 + length (nodes_at zs z) ≡ get_or w (first + z + 1) 0
  pub node : (z i : ℕ) → z < length zs → i < length (nodes_at zs z) → get_or w (base + get_or w (first + z) 0 + i) 0 ≡ get_or (nodes_at zs z) i 0

module _ (b : Board) (zs : List Zone) where
  -- the mixture m is one of the first i nodes of zone z
  abbrev pub has_first : ℕ → ℕ → ℕ → Bool
  has_first z i m = member m (map (mix_of b) (take i (nodes_at zs z)))

  -- zone y is before z, or its first i nodes were met, and it has the mixture m
  abbrev pub MetBefore : ℕ → ℕ → ℕ → ℕ → Type 0
  MetBefore z i y m = ((y < z) × T (member m (map (mix_of b) (nodes_at zs y)))) ⊎ ((y ≡ z) × T (has_first z i m))

  -- the marks of the mixtures, from `at` on: whoever has a changeable mixture is its mark, and a mark has its mixture
  pub record Marks (z i at : ℕ) (w : List ℕ) : Type 0 where
    pub only : (m y : ℕ) → m < mixture_count b → immutable_mix b m ≡ false → MetBefore z i y m → get_or w (at + m) 0 ≡ y + 1
    pub owner : (m y : ℕ) → m < mixture_count b → get_or w (at + m) 0 ≡ y + 1 → MetBefore z i y m

  -- zone z has a changeable mixture that a zone before it has
  pub record Shared (z : ℕ) : Type 0 where
    pub mix : ℕ
    pub within : mix < mixture_count b
    pub changes : immutable_mix b mix ≡ false
    pub before : ℕ
    pub earlier : before < z
    pub theirs : T (member mix (map (mix_of b) (nodes_at zs before)))
    pub ours : T (member mix (map (mix_of b) (nodes_at zs z)))

  -- the nodes of zone z, which stand from `from` up to `to`, were gone through: r says whether none of them is another zone's
  pub record Passed (z from to at : ℕ) (r : Bool) (w w' : List ℕ) : Type 0 where
    pub met : from + length (nodes_at zs z) ≡ to → ((i : ℕ) → i < length (nodes_at zs z) → get_or w (from + i) 0 ≡ get_or (nodes_at zs z) i 0)
        → Marks z 0 at w → (r ≡ true → Marks (z + 1) 0 at w') × (r ≡ false → Shared z)

-- r says whether the zones that stand in the words are apart; only the marks may be others
pub record ApartTells (b : Board) (zones first base at : ℕ) (r : Bool) (w w' : List ℕ) : Type 0 where
  pub words : But at (at + mixture_count b) w w'
  pub answer : (zs : List Zone) → length zs ≡ zones → ZonesStand first base zs w → r ≡ apart b zs

-- what a pass over the nodes of one zone is asked, which stand from one place up to another
pub record ZonePassFits (b : Board) (zone from to at : ℕ) (w : List ℕ) : Type 0 where
  pub pass : PassFits b at w
  pub before : to ≤ at
  pub number : zone < 4096
  pub rows : (j : ℕ) → from ≤ j → j < to → get_or w j 0 < turf_count b

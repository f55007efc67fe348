-- `flood_fill_zones`: one zone, from one turf.
use Rattle.std.specs.Prelude.{List, [], ◌∷◌, ◌++◌, Bool, true, false, not, ◌&&◌, ◌||◌, ℕ, ◌+◌, eqb, ltb, length, get_or, set, Float, if◌then◌else◌}
use Rattle.basics.specs.Loops.{run, times, member, snoc}
use Rattle.basics.specs.Floats.{0f, ◌+f◌}
use Rattle.rules_board.specs.Board.{Board, turf_count, id_of, end, enabled, planetary, immutable, firelock, links_of}
use Rattle.rules_mixture.specs.Mixture.{total}
use Rattle.rules_events.specs.declared.Event.{Event}
use Rattle.rules_events.specs.declared.Event.TheVariants.{DepressurizeWanted, PlanetWanted}
use Rattle.rules_fill.specs.declared.Going.{Going}
use Rattle.rules_fill.specs.declared.Going.TheVariants.{On, Broken, Over}

-- what a walk over one turf's links changes
pub record Reach : Type 0 where
  pub found : List ℕ  -- by row, 1: found by this zone or an earlier one (`found_turfs`)
  pub queue : List ℕ  -- the rows pushed, first to last (`border_turfs`, with those popped)
  pub nodes : List ℕ  -- the zone's nodes in order of insertion (`turf_graph`)
  pub owner : List ℕ  -- by link, z + 1: an edge of zone z; 0: of none
  pub ignored : Bool  -- `ignore_zone`
  pub events : List Event

-- what a fill has come to
pub record Fill : Type 0 where
  pub reach : Reach
  pub popped : ℕ  -- how many of the queue are popped
  pub moles : Float  -- `total_moles`
  pub planet : Bool  -- `is_planet`
  pub tests : ℕ  -- clock tests made so far, by the whole call
  pub state : Going

-- the fill goes on
abbrev pub is_on : Going → Bool
is_on On = true
is_on Broken = false
is_on Over = false

-- `FloodFillResult::Overtime`
abbrev pub is_over : Going → Bool
is_over On = false
is_over Broken = false
is_over Over = true

-- `add_node`: a node is inserted once
unfoldable pub insert : ℕ → List ℕ → List ℕ
insert r rs = if member r rs then rs else snoc rs r

-- a popped turf that ends the fill
unfoldable pub end_fill : Going → Bool → Fill → Fill
end_fill g planet s =
    record { reach = s.reach; popped = s.popped + 1; moles = s.moles; planet = planet; tests = s.tests + 1; state = g }

module _ (b : Board) where
  -- `for (weight, adj_index, adj_mixture) in arena.graph.edges(cur_index)`: the turf r of zone z, its link k
  unfoldable pub reach_link : ℕ → ℕ → ℕ → Reach → Reach
  reach_link z r k s =
      let a = end b k in
      let new = eqb (get_or s.found a 0) 0 in
      let ask = new && not s.ignored in
      let space = ask && immutable b a in
      let planet = ask && (planetary b a && firelock b k) in
      record {
        found = set s.found a 1;
        queue = if new && enabled b a then snoc s.queue a else s.queue;
        nodes = if enabled b a then insert a s.nodes else s.nodes;
        owner = if enabled b a then set s.owner k (z + 1) else s.owner;
        ignored = s.ignored || space;
        events = s.events ++ ((if space then DepressurizeWanted (id_of b r) ∷ [] else []) ++ (if planet then PlanetWanted (id_of b r) ∷ [] else []));
      }

  module _ (gas : List Float) (limit allowance z : ℕ) where
    -- a turf past the clock and the break: its total, its links
    unfoldable pub expand : ℕ → Bool → Fill → Fill
    expand r planet s = record {
      reach = run (reach_link z r) (links_of b r) s.reach;
      popped = s.popped + 1;
      moles = s.moles +f total b gas r;
      planet = planet;
      tests = s.tests + 1;
      state = On;
    }

    -- `while let Some(cur_index) = border_turfs.pop_front()`: one pop, its clock test, the planet limit
    unfoldable pub pop : ℕ → Fill → Fill
    pop r s =
        let planet = s.planet || planetary b r in
        if ltb allowance (s.tests + 1) then end_fill Over s.planet s
        else if planet && ltb limit (length s.reach.nodes) then end_fill Broken planet s
        else expand r planet s

    -- the next pop, while there is one
    unfoldable pub pop_next : Fill → Fill
    pop_next s = if is_on s.state && ltb s.popped (length s.reach.queue) then pop (get_or s.reach.queue s.popped 0) s else s

    -- The zone z from the turf r: no turf is pushed twice, so as many pops as there are turfs are enough.
    unfoldable pub fill : ℕ → List ℕ → List ℕ → List Event → ℕ → Fill
    fill r found owner events tests = times pop_next (turf_count b) (record {
      reach = record { found = set found r 1; queue = r ∷ []; nodes = r ∷ []; owner = owner; ignored = false; events = events };
      popped = 0;
      moles = 0f;
      planet = false;
      tests = tests;
      state = On;
    })

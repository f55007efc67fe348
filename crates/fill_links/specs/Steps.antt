-- One link of a fill, step by step: which neighbour is met, and what it brings.
use Rattle.std.specs.Prelude.{[], ◌∷◌, ◌++◌, ◌&&◌, ◌||◌, ℕ, ◌+◌, eqb, get_or, set, if◌then◌else◌}
use Rattle.basics.specs.Loops.{snoc}
use Rattle.rules_board.specs.Board.{Board, end, enabled, planetary, immutable, firelock}
use Rattle.rules_events.specs.declared.Event.TheVariants.{DepressurizeWanted, PlanetWanted}
use Rattle.rules_fill.specs.Fill.{Reach, insert}
use Rattle.fill_links.specs.declared.Met.{Met}

-- the neighbour at the row a, over the link k, as the code meets it
abbrev pub met_over : Board → ℕ → ℕ → Met
met_over b a k = record {
  row = a;
  on = enabled b a;
  space = immutable b a;
  planet = planetary b a && firelock b k;
}

-- the neighbour at the end of the link k
unfoldable pub met_at : Board → ℕ → Met
met_at b k = met_over b (end b k) k

-- `add_edge` to an enabled neighbour: the link k has an owner, the neighbour is a node
unfoldable pub edge_to : Met → ℕ → ℕ → Reach → Reach
edge_to m k z s = record {
  found = s.found;
  queue = s.queue;
  nodes = if m.on then insert m.row s.nodes else s.nodes;
  owner = if m.on then set s.owner k (z + 1) else s.owner;
  ignored = s.ignored;
  events = s.events;
}

-- `found_turfs.insert`
unfoldable pub mark_found : ℕ → Reach → Reach
mark_found a s = record { found = set s.found a 1; queue = s.queue; nodes = s.nodes; owner = s.owner; ignored = s.ignored; events = s.events }

-- `border_turfs.push_back` of an enabled neighbour
unfoldable pub push : Met → Reach → Reach
push m s = record {
  found = s.found;
  queue = if m.on then snoc s.queue m.row else s.queue;
  nodes = s.nodes;
  owner = s.owner;
  ignored = s.ignored;
  events = s.events;
}

-- what an immutable neighbour asks for: the zone is ignored
unfoldable pub ask_space : Met → ℕ → Reach → Reach
ask_space m id s = record {
  found = s.found;
  queue = s.queue;
  nodes = s.nodes;
  owner = s.owner;
  ignored = s.ignored || m.space;
  events = s.events ++ (if m.space then DepressurizeWanted id ∷ [] else []);
}

-- what a planetary neighbour across a firelock asks for
unfoldable pub ask_planet : Met → ℕ → Reach → Reach
ask_planet m id s = record {
  found = s.found;
  queue = s.queue;
  nodes = s.nodes;
  owner = s.owner;
  ignored = s.ignored;
  events = s.events ++ (if m.planet then PlanetWanted id ∷ [] else []);
}

-- a neighbour that is found now
unfoldable pub discover : Met → ℕ → Reach → Reach
discover m id s =
    let t = push m s in
    if t.ignored then t else ask_planet m id (ask_space m id t)

-- `reach_link` of the turf with this id, over the link k to the neighbour m
unfoldable pub reach_met : Met → ℕ → ℕ → ℕ → Reach → Reach
reach_met m k z id s =
    let t = mark_found m.row (edge_to m k z s) in
    if eqb (get_or s.found m.row 0) 0 then discover m id t else t

-- How the words of n turfs and e links hold the zones and their turns, and what a function promises of them.
use Rattle.std.specs.Prelude.{◌≡◌, List, ◌++◌, map, ℕ, ◌+◌, ◌-◌, ◌≤◌, ◌<◌, length, get_or, take, drop}
use Rattle.basics.specs.Loops.{up_from}
use Rattle.basics.specs.Floats.{0f}
use Rattle.basics.specs.Lists.{All}
use Rattle.scratch.specs.Layout.{turns_at, live_at, starts_at, zone_nodes_at}
use Rattle.rules_finish.specs.Turns.{Zone}

-- where the nodes of zone z start
abbrev pub start_of : ℕ → ℕ → List ℕ → ℕ → ℕ
start_of n e ws z = get_or ws (starts_at n e + z) 0

-- how many it has
abbrev pub node_count_of : ℕ → ℕ → List ℕ → ℕ → ℕ
node_count_of n e ws z = start_of n e ws (z + 1) - start_of n e ws z

-- its nodes
abbrev pub zone_nodes : ℕ → ℕ → List ℕ → ℕ → List ℕ
zone_nodes n e ws z = take (node_count_of n e ws z) (drop (zone_nodes_at n e + start_of n e ws z) ws)

-- the first `count` zones; their totals are not looked at
unfoldable pub zones_in : ℕ → ℕ → ℕ → List ℕ → List Zone
zones_in n e count ws = map (λ z. record { nodes = zone_nodes n e ws z; moles = 0f }) (up_from 0 count)

-- how many nodes of zone z had their turn
abbrev pub turns_of : ℕ → ℕ → List ℕ → ℕ → ℕ
turns_of n e ws z = get_or ws (turns_at n e + z) 0

-- the same of the first `count` zones
abbrev pub next_in : ℕ → ℕ → ℕ → List ℕ → List ℕ
next_in n e count ws = take count (drop (turns_at n e) ws)

-- the first k unfinished zones, which stand from `live` on
abbrev pub live_in : ℕ → ℕ → List ℕ → List ℕ
live_in live k ws = take k (drop live ws)

-- the list with no place p
abbrev pub without : ℕ → List ℕ → List ℕ
without p l = take p l ++ drop (p + 1) l

-- the zone z as filling leaves it: its nodes are there, and are rows
pub record Laid (n e : ℕ) (ws : List ℕ) (z : ℕ) : Type 0 where
  pub below : z < n
  pub rise : start_of n e ws z ≤ start_of n e ws (z + 1)
  pub within : zone_nodes_at n e + start_of n e ws (z + 1) ≤ length ws
  pub rows : All (λ r. r < n) (zone_nodes n e ws z)

-- every zone of the first `count` is as filling leaves it
pub record AllLaid (n e count : ℕ) (ws : List ℕ) : Type 0 where
  pub few : count ≤ n
  pub zones : (z : ℕ) → z < count → Laid n e ws z

-- the zone z has a node that had no turn yet
pub record ZoneOpen (n e : ℕ) (ws : List ℕ) (z : ℕ) : Type 0 where
  pub laid : Laid n e ws z
  pub some : turns_of n e ws z < node_count_of n e ws z

-- the first `count` unfinished zones are open
pub record Live (n e count : ℕ) (ws : List ℕ) : Type 0 where
  pub some : 0 < count
  pub few : count ≤ n
  pub each : (p : ℕ) → p < count → ZoneOpen n e ws (get_or ws (live_at n e + p) 0)

-- all words are as they were but for the turns and the unfinished zones
pub record Beside (n e : ℕ) (ws ws' : List ℕ) : Type 0 where
  pub size : length ws' ≡ length ws
  pub front : take (turns_at n e) ws' ≡ take (turns_at n e) ws
  pub rest : drop (starts_at n e) ws' ≡ drop (starts_at n e) ws

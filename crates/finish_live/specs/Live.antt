-- What a function promises of the unfinished zones, which stand in the words of n turfs and e links from `live` on.
use Rattle.std.specs.Prelude.{◌≡◌, List, ℕ, ◌+◌, ◌-◌, ◌≤◌, ◌<◌, ltb, length, set, take, drop, if◌then◌else◌}
use Rattle.basics.specs.Loops.{keep, up_from}
use Rattle.scratch.specs.Layout.{turns_at, live_at}
use Rattle.finish_zones.specs.Zones.{node_count_of, turns_of, next_in, live_in, without, Beside}

-- the place p was taken out of the first `count` words from `live` on
pub record TakenOut (p count live : ℕ) (ws ws' : List ℕ) : Type 0 where
  pub size : length ws' ≡ length ws
  pub front : take live ws' ≡ take live ws
  pub rest : drop (live + count) ws' ≡ drop (live + count) ws
  pub left : live_in live (count - 1) ws' ≡ without p (live_in live count ws)

-- no node of zone z had its turn; a zone with nodes joins the unfinished ones
pub record StartsZone (n e z live r : ℕ) (ws ws' : List ℕ) : Type 0 where
  pub words : ws' ≡ (if ltb 0 (node_count_of n e ws z) then set (set ws (turns_at n e + z) 0) (live_at n e + live) z else set ws (turns_at n e + z) 0)
  pub count : r ≡ (if ltb 0 (node_count_of n e ws z) then live + 1 else live)

-- the same of the first z zones
pub record Started (n e z count : ℕ) (ws ws' : List ℕ) : Type 0 where
  pub beside : Beside n e ws ws'
  pub few : count ≤ z
  pub none : (j : ℕ) → j < z → turns_of n e ws' j ≡ 0
  pub live : live_in (live_at n e) count ws' ≡ keep (λ j. ltb 0 (node_count_of n e ws j)) (up_from 0 z)

-- the zone z, at the place p of `count` unfinished ones, stays where it has a node left, and is taken out else; `left` are unfinished then
pub record SettlesZone (n e z p count left : ℕ) (ws ws' : List ℕ) : Type 0 where
  pub beside : Beside n e ws ws'
  pub next : next_in n e n ws' ≡ next_in n e n ws
  pub less : left ≤ count
  pub live : live_in (live_at n e) left ws'
      ≡ (if ltb (turns_of n e ws z) (node_count_of n e ws z) then live_in (live_at n e) count ws else without p (live_in (live_at n e) count ws))

-- The turns, which stand for the Rust's parallel workers: in which order the nodes of the kept zones are finished.
use Rattle.std.specs.Prelude.{List, [], ℕ, suc, ◌+◌, ◌%◌, eqb, ltb, length, get_or, set, replicate, Float, if◌then◌else◌}
use Rattle.basics.specs.Loops.{run, times, keep, up_from}
use Rattle.basics.specs.Floats.{0f}
use Rattle.rules_board.specs.Board.{Board, link_count}
use Rattle.rules_finish.specs.Finish.{Done, finish}

-- a kept zone: its nodes in order, and its total as filled
pub record Zone : Type 0 where
  pub nodes : List ℕ
  pub moles : Float

-- the zone z
abbrev pub zone_at : List Zone → ℕ → Zone
zone_at zs z = get_or zs z (record { nodes = []; moles = 0f })

-- its nodes
abbrev pub nodes_at : List Zone → ℕ → List ℕ
nodes_at zs z = (zone_at zs z).nodes

-- `turfs_processed`: the nodes of all zones, a turf counted in each zone that has it
unfoldable pub node_count : List Zone → ℕ
node_count zs = run (λ z n. n + length z.nodes) zs 0

-- how many of each zone's nodes had their turn, and what came of the work on them
pub record Turned (S : Type 0) : Type 0 where
  pub next : List ℕ  -- by zone
  pub done : S

-- the unfinished zones, ascending
unfoldable pub unfinished : List Zone → List ℕ → List ℕ
unfinished zones next = keep (λ z. ltb (get_or next z 0) (length (nodes_at zones z))) (up_from 0 (length zones))

-- The turns are told over what is done with a zone's node: `doNode zone row`.
module _ {S : Type 0} (zones : List Zone) (doNode : ℕ → ℕ → S → S) where
  -- the next node of zone z
  abbrev pub do_next : ℕ → Turned S → Turned S
  do_next z s =
      let k = get_or s.next z 0 in
      record { next = set s.next z (k + 1); done = doNode z (get_or (nodes_at zones z) k 0) s.done }

  -- the entry c picks a zone, among the unfinished ones; with none left it is ignored
  unfoldable pub turn : ℕ → Turned S → Turned S
  turn c s =
      let u = unfinished zones s.next in
      let z = get_or u (c % length u) 0 in
      if eqb (length u) 0 then s else do_next z s

  -- a used-up list goes on with entry 0, the lowest unfinished zone; as many steps as nodes leave none
  unfoldable pub by_turns : List ℕ → S → S
  by_turns turns s = (times (turn 0) (node_count zones) (run turn turns (record { next = replicate (length zones) 0; done = s }))).done

-- `finalize_eq_zone`, of every zone, by turns, whether a node was done already as a giver or not
unfoldable pub finish_all : Board → List ℕ → List Zone → List ℕ → Done → Done
finish_all b owner zones turns s = by_turns zones (λ z r. finish b owner z (suc (link_count b)) r) turns s

-- The turns as a list of jobs: which node of which zone, in order, until none is left. proofs/ByTurns says that `finish_all` does these jobs.
use Rattle.std.specs.Prelude.{List, [], ◌∷◌, ◌++◌, map, ℕ, suc, ◌+◌, ◌%◌, eqb, length, get_or, set, drop, replicate, if◌then◌else◌}
use Rattle.basics.specs.Loops.{up_from}
use Rattle.rules_board.specs.Board.{Board, link_count}
use Rattle.rules_finish.specs.Finish.{Done, finish}
use Rattle.rules_finish.specs.Turns.{Zone, nodes_at, unfinished}

-- one turn's work: the turf `row` is finished in the zone `zone`
pub record Job : Type 0 where
  pub zone : ℕ
  pub row : ℕ

-- the jobs of zone z on these rows
abbrev pub jobs_on : ℕ → List ℕ → List Job
jobs_on z rs = map (λ r. record { zone = z; row = r }) rs

-- Which jobs a list of turns makes turns on the zones and the turns alone. `next` has by zone how many of its nodes had their turn.
module _ (zones : List Zone) where
  -- the jobs of zone z that are left
  unfoldable pub jobs_left : List ℕ → ℕ → List Job
  jobs_left next z = jobs_on z (drop (get_or next z 0) (nodes_at zones z))

  -- a used-up list: the lowest unfinished zone, until none is left
  unfoldable pub jobs_in_order : List ℕ → List ℕ → List Job
  jobs_in_order next [] = []
  jobs_in_order next (z ∷ zs) = jobs_left next z ++ jobs_in_order next zs

  -- the zone that c picks, among the unfinished ones u
  abbrev pub pick : ℕ → List ℕ → ℕ
  pick c u = get_or u (c % length u) 0

  -- the next node of zone z
  abbrev pub next_job : List ℕ → ℕ → Job
  next_job next z = record { zone = z; row = get_or (nodes_at zones z) (get_or next z 0) 0 }

  -- the jobs in order; entries left over are ignored
  unfoldable pub order : List ℕ → List ℕ → List Job
  order next [] = jobs_in_order next (up_from 0 (length zones))
  order next (c ∷ cs) =
      let u = unfinished zones next in
      let z = pick c u in
      let none = eqb (length u) 0 in
      (if none then [] else next_job next z ∷ []) ++ order (if none then next else set next z (get_or next z 0 + 1)) cs

  -- from the start
  unfoldable pub turn_order : List ℕ → List Job
  turn_order turns = order (replicate (length zones) 0) turns

module _ (b : Board) (owner : List ℕ) where
  -- one turn, whether the node was done already as a giver or not
  unfoldable pub work : Job → Done → Done
  work j s = finish b owner j.zone (suc (link_count b)) j.row s

-- The walk from one turf that `explosively_depressurize` and `planet_equalize` share; they differ in what a visit does.
use Rattle.std.specs.Prelude.{List, [], ◌∷◌, Bool, false, not, ◌&&◌, ℕ, ◌+◌, ltb, leb, length, get_or, if◌then◌else◌}
use Rattle.basics.specs.Loops.{run, times, member, snoc}
use Rattle.rules_board.specs.Board.{Board, turf_count, id_of, end, enabled, firelock, links_of}
use Rattle.rules_events.specs.declared.Event.{Event}
use Rattle.rules_events.specs.declared.Event.TheVariants.{Firelock}

-- what a walk has come to
pub record Walk : Type 0 where
  pub queue : List ℕ  -- `turfs`, in order of insertion
  pub walked : ℕ  -- `cur_queue_idx`
  pub space : List ℕ  -- `space_turfs`
  pub planet : Bool  -- a planetary turf was met
  pub ended : Bool
  pub events : List Event

-- `cur_queue_idx += 1`
abbrev pub advance : Walk → Walk
advance s = record { queue = s.queue; walked = s.walked + 1; space = s.space; planet = s.planet; ended = s.ended; events = s.events }

-- whether a planetary turf was met, and whether the walk ends here
abbrev pub mark : Bool → Bool → Walk → Walk
mark planet ended s = record { queue = s.queue; walked = s.walked; space = s.space; planet = planet; ended = ended; events = s.events }

module _ (b : Board) where
  -- `turfs.insert(adj_index) && flags.contains(ATMOS_ADJACENT_FIRELOCK)`: kind 4 for each new neighbour across a firelock
  unfoldable pub walk_link : ℕ → ℕ → Walk → Walk
  walk_link r k s =
      let a = end b k in
      let new = not (member a s.queue) in
      record {
        queue = if new then snoc s.queue a else s.queue;
        walked = s.walked;
        space = s.space;
        planet = s.planet;
        ended = s.ended;
        events = if new && firelock b k then snoc s.events (Firelock (id_of b r) (id_of b a)) else s.events;
      }

  -- an enabled turf expands, unless its place, counted from 1, exceeds the limit
  unfoldable pub spread : ℕ → ℕ → Walk → Walk
  spread limit r s = run (walk_link r) (if enabled b r && leb s.walked limit then links_of b r else []) s

  -- `while cur_queue_idx < turfs.len()`: one turf, which `visit` visits
  unfoldable pub walk_next : (ℕ → Walk → Walk) → Walk → Walk
  walk_next visit s = if not s.ended && ltb s.walked (length s.queue) then visit (get_or s.queue s.walked 0) (advance s) else s

  -- The walk from the turf r: no turf joins the queue twice, so as many steps as there are turfs are enough.
  unfoldable pub walk : (ℕ → Walk → Walk) → ℕ → Walk
  walk visit r = times (walk_next visit) (turf_count b) (record { queue = r ∷ []; walked = 0; space = []; planet = false; ended = false; events = [] })

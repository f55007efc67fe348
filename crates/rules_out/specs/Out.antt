-- The second floodfill of `explosively_depressurize`: out from space.
use Rattle.std.specs.Prelude.{List, [], ◌||◌, ℕ, ◌+◌, ltb, leb, length, get_or, set, replicate, if◌then◌else◌}
use Rattle.basics.specs.Loops.{run, times, member, snoc}
use Rattle.rules_board.specs.Board.{Board, turf_count, id_of, end, immutable, links_of}
use Rattle.rules_events.specs.declared.Event.{Event}
use Rattle.rules_events.specs.declared.Event.TheVariants.{Target}

-- the second floodfill
pub record Out : Type 0 where
  pub order : List ℕ  -- `progression_order`
  pub place : ℕ  -- `cur_queue_idx`
  pub direction : List ℕ  -- by row: the next row towards space + 1; 0: none
  pub target : List ℕ  -- by row: the id of its target
  pub events : List Event

module _ (b : Board) where
  -- the turf a joins the order: its direction is back to r, its target inherited
  unfoldable pub out_to : ℕ → ℕ → Out → Out
  out_to r a s =
      let t = get_or s.target r 0 in
      record {
        order = snoc s.order a;
        place = s.place;
        direction = set s.direction a (r + 1);
        target = set s.target a t;
        events = snoc s.events (Target (id_of b a) t);
      }

  -- every new neighbour that isn't immutable joins, enabled or not
  unfoldable pub out_link : ℕ → ℕ → Out → Out
  out_link r k s =
      let a = end b k in
      if immutable b a || member a s.order then s else out_to r a s

  -- one turf, unless its place, counted from 1, exceeds the limit
  unfoldable pub out_row : ℕ → ℕ → Out → Out
  out_row limit r s =
      let t : Out = record { order = s.order; place = s.place + 1; direction = s.direction; target = s.target; events = s.events } in
      run (out_link r) (if leb t.place limit then links_of b r else []) t

  -- `while cur_queue_idx < progression_order.len()`
  unfoldable pub out_next : ℕ → Out → Out
  out_next limit s = if ltb s.place (length s.order) then out_row limit (get_or s.order s.place 0) s else s

  -- no turf joins the order twice, so as many steps as there are turfs are enough
  unfoldable pub outward : ℕ → List ℕ → List Event → Out
  outward limit space events = times (out_next limit) (turf_count b) (record {
    order = space;
    place = 0;
    direction = replicate (turf_count b) 0;
    target = run (λ r t. set t r (id_of b r)) space (replicate (turf_count b) 0);
    events = events;
  })

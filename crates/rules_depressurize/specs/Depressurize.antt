-- `explosively_depressurize`: the walk to space, out from space and back, as one operation, and the whole of a call.
use Rattle.std.specs.Prelude.{List, [], ◌++◌, reverse, ℕ, ◌*◌, eqb, length, replicate, Float, if◌then◌else◌, Option, Some, None}
use Rattle.basics.specs.Loops.{run}
use Rattle.basics.specs.Floats.{0f}
use Rattle.rules_board.specs.Board.{Board, turf_count, row_of}
use Rattle.rules_events.specs.Events.{encode_all}
use Rattle.rules_events.specs.declared.Event.{Event}
use Rattle.rules_lent.specs.Lent.{Lent, Result, no_extra, refusal, after}
use Rattle.rules_walk.specs.Walk.{Walk, walk}
use Rattle.rules_walk.specs.Visit.{visit_space}
use Rattle.rules_out.specs.Out.{Out, outward}
use Rattle.rules_back.specs.Back.{back}
use Rattle.rules_depressurize.specs.declared.Breach.{Breach}
use Rattle.rules_depressurize.specs.declared.DepressurizeAnswer.{DepressurizeAnswer}

-- what is asked, in the order of the call
abbrev pub breach_of : ℕ → ℕ → ℕ → Breach
breach_of id limit arrows = record { id = id; limit = limit; arrows = arrows }

-- what the operation comes to
pub record Depressurized : Type 0 where
  pub outcome : ℕ
  pub gas : List Float
  pub events : List Event

module _ (b : Board) where
  -- the way back, and kind 8 at the end
  unfoldable pub way_back : ℕ → List Float → Out → Depressurized
  way_back arrows gas o =
      let t = run (back b arrows o.direction) (reverse o.order) (record { gas = gas; amount = replicate (turf_count b) 0f; events = o.events; rips = [] }) in
      record { outcome = 2; gas = t.gas; events = t.events ++ t.rips }

  -- after the first walk: 1 where a planetary turf was met, 0 where no space was
  unfoldable pub from_walk : List Float → Breach → Walk → Depressurized
  from_walk gas q w =
      let nothing : ℕ → Depressurized = λ n. record { outcome = n; gas = gas; events = w.events } in
      if w.planet then nothing 1
      else if eqb (length w.space) 0 then nothing 0
      else way_back q.arrows gas (outward b q.limit w.space w.events)

  -- an unknown id: outcome 0
  unfoldable pub from_row : List Float → Breach → Option ℕ → Depressurized
  from_row gas q None = record { outcome = 0; gas = gas; events = [] }
  from_row gas q (Some r) = from_walk gas q (walk b (visit_space b q.limit) r)

  -- from the turf that is asked
  unfoldable pub depressurize : List Float → Breach → Depressurized
  depressurize gas q = from_row gas q (row_of b q.id)

-- 84N event bytes
abbrev pub depressurize_room : Board → ℕ
depressurize_room b = 84 * turf_count b

module _ (b : Board) (q : Breach) (l : Lent) where
  -- the number that the call answers
  unfoldable pub depressurize_number : ℕ
  depressurize_number = refusal b l (depressurize_room b) no_extra

  -- a call that was done
  unfoldable pub depressurize_done : Depressurized → Result DepressurizeAnswer
  depressurize_done e = record {
    answer = record { number = 0; outcome = e.outcome; bytes = length (encode_all e.events) };
    lent = after b l e.gas e.events;
  }

  -- the call
  unfoldable pub depressurize_result : Result DepressurizeAnswer
  depressurize_result =
      let n = depressurize_number in
      let refused : Result DepressurizeAnswer = record { answer = record { number = n; outcome = 0; bytes = 0 }; lent = l } in
      if eqb n 0 then depressurize_done (depressurize b l.gas q) else refused

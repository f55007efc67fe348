-- `planet_equalize`: the firelocks on the way from a turf, and the whole of a call.
use Rattle.std.specs.Prelude.{List, [], ℕ, ◌*◌, eqb, length, if◌then◌else◌, Option, Some, None}
use Rattle.rules_board.specs.Board.{Board, turf_count, row_of}
use Rattle.rules_events.specs.Events.{encode_all}
use Rattle.rules_events.specs.declared.Event.{Event}
use Rattle.rules_lent.specs.Lent.{Lent, Result, no_extra, refusal, after}
use Rattle.rules_walk.specs.Walk.{walk}
use Rattle.rules_walk.specs.Visit.{visit_planet}
use Rattle.rules_planet.specs.declared.PlanetAnswer.{PlanetAnswer}

module _ (b : Board) where
  -- an unknown id writes none
  unfoldable pub planet_from : ℕ → Option ℕ → List Event
  planet_from limit None = []
  planet_from limit (Some r) = (walk b (visit_planet b limit) r).events

  -- the events of the walk from the turf `id`
  unfoldable pub planet_walk : ℕ → ℕ → List Event
  planet_walk limit id = planet_from limit (row_of b id)

-- 12N event bytes
abbrev pub planet_room : Board → ℕ
planet_room b = 12 * turf_count b

module _ (b : Board) (limit id : ℕ) (l : Lent) where
  -- the number that the call answers
  unfoldable pub planet_number : ℕ
  planet_number = refusal b l (planet_room b) no_extra

  -- a call that was done
  unfoldable pub planet_done : List Event → Result PlanetAnswer
  planet_done es = record { answer = record { number = 0; bytes = length (encode_all es) }; lent = after b l l.gas es }

  -- the call
  unfoldable pub planet_result : Result PlanetAnswer
  planet_result =
      let n = planet_number in
      let refused : Result PlanetAnswer = record { answer = record { number = n; bytes = 0 }; lent = l } in
      if eqb n 0 then planet_done (planet_walk b limit id) else refused

-- What the arrows of kind 7 say: as the Rust draws them, and where they lead.
use Rattle.std.specs.Prelude.{◌≡◌, ◌≢◌, List, map, ℕ, ◌<◌, T, eqb, if◌then◌else◌}
use Rattle.basics.specs.Loops.{run, times, member}
use Rattle.rules_board.specs.Board.{Board, turf_count, id_of, end, immutable, links_of}
use Rattle.rules_events.specs.declared.Event.{Event}
use Rattle.rules_events.specs.declared.Event.TheVariants.{DepressurizeWanted, PlanetWanted, Pressure, Firelock, Target, HighPressure, Difference, FloorRip}
use Rattle.rules_depressurize.specs.Depressurize.{Depressurized}

-- a record as the Rust draws it: kind 7 is of the turf that its arrow starts from, and ends there
abbrev pub as_loop : Event → Event
as_loop (DepressurizeWanted id) = DepressurizeWanted id
as_loop (PlanetWanted id) = PlanetWanted id
as_loop (Pressure zone amount from to) = Pressure zone amount from to
as_loop (Firelock id neighbour) = Firelock id neighbour
as_loop (Target id target) = Target id target
as_loop (HighPressure id) = HighPressure id
as_loop (Difference id amount from to) = Difference from amount from from
as_loop (FloorRip id amount) = FloorRip id amount

-- the same outcome and gas, every record as the Rust draws it
abbrev pub looped : Depressurized → Depressurized
looped d = record { outcome = d.outcome; gas = d.gas; events = map as_loop d.events }

-- P holds of the ends of a record's arrow, where it is of kind 7
abbrev pub ArrowIs : (ℕ → ℕ → Type 0) → Event → Type 0
ArrowIs P (DepressurizeWanted id) = Unit {0}
ArrowIs P (PlanetWanted id) = Unit {0}
ArrowIs P (Pressure zone amount from to) = Unit {0}
ArrowIs P (Firelock id neighbour) = Unit {0}
ArrowIs P (Target id target) = Unit {0}
ArrowIs P (HighPressure id) = Unit {0}
ArrowIs P (Difference id amount from to) = P from to
ArrowIs P (FloorRip id amount) = Unit {0}

-- where the record's arrow leads from the turf with the id i; `at` where it has none from there
abbrev pub along : ℕ → Event → ℕ → ℕ
along i (DepressurizeWanted id) at = at
along i (PlanetWanted id) at = at
along i (Pressure zone amount from to) at = at
along i (Firelock id neighbour) at = at
along i (Target id target) at = at
along i (HighPressure id) at = at
along i (Difference id amount from to) at = if eqb from i then to else at
along i (FloorRip id amount) at = at

-- where the last arrow of kind 7 from the id i leads; i itself where there is none
unfoldable pub follow : List Event → ℕ → ℕ
follow es i = run (along i) es i

-- i is the id of a turf of the board whose mixture is immutable
pub record IsSpace (b : Board) (i : ℕ) : Type 0 where
  pub row : ℕ
  pub inside : row < turf_count b
  pub id : id_of b row ≡ i
  pub immutable : T (immutable b row)

-- a link leads from the turf with the id i to the one with the id j
pub record HasLink (b : Board) (i j : ℕ) : Type 0 where
  pub row : ℕ
  pub inside : row < turf_count b
  pub id : id_of b row ≡ i
  pub link : ℕ
  pub own : T (member link (links_of b row))
  pub ends : id_of b (end b link) ≡ j

-- An arrow among the events es leads out: to another turf, which has a link to the first, and to which all arrows from there lead; and on along the arrows to space,
-- within as many steps as there are turfs. No arrow leaves that.
pub record LeadsOut (b : Board) (es : List Event) (from to : ℕ) : Type 0 where
  pub moves : from ≢ to
  pub linked : HasLink b to from
  pub only : follow es from ≡ to
  pub space : IsSpace b (times (follow es) (turf_count b) from)
  pub rests : follow es (times (follow es) (turf_count b) from) ≡ times (follow es) (turf_count b) from

-- What two calls of `katmos_depressurize` that differ in the setting `arrows` alone have in common.
use Rattle.std.specs.Prelude.{◌≡◌, ◌≢◌, List, map, ℕ, get_or, take, drop}
use Rattle.rules_events.specs.Readings.{read_all}
use Rattle.rules_events.specs.declared.Event.{Event}
use Rattle.rules_lent.specs.Lent.{Lent}
use Rattle.laws_arrows.specs.Arrows.{as_loop}

-- the events that a reader finds in the bytes that a call of `katmos_depressurize` wrote, by its answer and what it left
abbrev pub depressurize_events : List ℕ → Lent → List Event
depressurize_events a l = (read_all (take (get_or a 2 0) l.area)).events

-- Two calls of it on the same board and areas, the second with the setting 0, by what they returned, answered and left: the same but for the arrows. The second's
-- records are the first's as the Rust draws them, and past them the area is the same; where they were refused, all is as it was lent.
pub record SameButArrows (lent : Lent) (n n' : ℕ) (a a' : List ℕ) (l l' : Lent) : Type 0 where
  pub returned : n ≡ n'
  pub answer : a ≡ a'
  pub gas : l.gas ≡ l'.gas
  pub words : l.words ≡ l'.words
  pub floats : l.floats ≡ l'.floats
  pub records : n ≡ 0 → depressurize_events a' l' ≡ map as_loop (depressurize_events a l)
  pub rest : drop (get_or a 2 0) l.area ≡ drop (get_or a' 2 0) l'.area
  pub refused : n ≢ 0 → (l ≡ lent) × (l' ≡ lent)

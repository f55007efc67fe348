-- What it means that the bytes of a call are read back, and what demand 3 compares of two calls of the exported function.
use Rattle.std.specs.Prelude.{◌≡◌, List, [], ◌∷◌, ◌++◌, ℕ, ◌-◌, ◌/◌, get_or, take}
use Rattle.rules_events.specs.Events.{size_of, read_at, read_numbers}
use Rattle.rules_events.specs.Readings.{all_read, read_all}
use Rattle.rules_events.specs.declared.Event.{Event}
use Rattle.rules_events.specs.Compared.{requests, records}
use Rattle.rules_lent.specs.Lent.{Lent}
use Rattle.events.specs.Interface.{read_event}

-- The bytes s are read back as the events es: a run of the reader gives them, then the end; and the exported reader is that reader at every offset.
pub record ReadsBack (s : List ℕ) (es : List Event) : Type 0 where
  pub run : read_all s ≡ all_read es
  pub exported : (o : ℕ) → read_event s o ≡ read_numbers (read_at s o)

-- The four fields that a record of a kind gives back: those that the kind has, then zeros.
abbrev pub fields_back : ℕ → List ℕ → List ℕ
fields_back kind fields = take 4 (take ((size_of kind - 4) / 4) fields ++ (0 ∷ 0 ∷ 0 ∷ 0 ∷ []))

-- the events that a reader finds in the bytes that a call of `katmos_equalize` wrote, by its answer and what it left
abbrev pub found_events : List ℕ → Lent → List Event
found_events a l = (read_all (take (get_or a 6 0) l.area)).events

-- two calls of it: the same answer, gas, words, floats and requests and, zone by zone, the same records in the same order
pub record SameOutcome (a a' : List ℕ) (l l' : Lent) : Type 0 where
  pub answer : a ≡ a'
  pub gas : l.gas ≡ l'.gas
  pub words : l.words ≡ l'.words
  pub floats : l.floats ≡ l'.floats
  pub requests : requests (found_events a l) ≡ requests (found_events a' l')
  pub records : (z : ℕ) → records z (found_events a l) ≡ records z (found_events a' l')

-- What demand 3 compares: two runs of the definition, two whole calls, and what a reader finds in the bytes of two calls.
use Rattle.std.specs.Prelude.{◌≡◌, ◌⊎◌, List, ◌++◌, ℕ, length, take, drop}
use Rattle.rules_events.specs.Events.{encode_all}
use Rattle.rules_events.specs.Compared.{requests, records}
use Rattle.rules_events.specs.Readings.{read_all}
use Rattle.rules_events.specs.declared.Event.{Event}
use Rattle.rules_lent.specs.Lent.{Lent, Result}
use Rattle.rules_equalize.specs.Equalize.{Equalized}
use Rattle.rules_equalize.specs.declared.EqualizeAnswer.{EqualizeAnswer}

-- every count of an answer
pub record SameCounts (e f : Equalized) : Type 0 where
  pub cancelled : e.cancelled ≡ f.cancelled
  pub processed : e.processed ≡ f.processed
  pub tests : e.tests ≡ f.tests
  pub zones : e.zones ≡ f.zones
  pub apart : e.apart ≡ f.apart
  pub bytes : length (encode_all e.events) ≡ length (encode_all f.events)

-- two runs of the definition
pub record SameRun (e f : Equalized) : Type 0 where
  pub gas : e.gas ≡ f.gas
  pub counts : SameCounts e f
  pub requests : requests e.events ≡ requests f.events
  pub records : (z : ℕ) → records z e.events ≡ records z f.events

-- the run is cancelled, or answers apart
abbrev pub ApartOrCancelled : Equalized → Type 0
ApartOrCancelled e = (e.cancelled ≡ 1) ⊎ (e.apart ≡ 1)

-- two calls lent the same areas l, which wrote the events es and fs
pub record SameCall (l : Lent) (x y : Result EqualizeAnswer) (es fs : List Event) : Type 0 where
  pub counts : x.answer ≡ y.answer
  pub gas : x.lent.gas ≡ y.lent.gas
  pub words : x.lent.words ≡ y.lent.words
  pub floats : x.lent.floats ≡ y.lent.floats
  -- each area: the bytes of its events, as many as the answer says, and the rest as it was lent
  pub bytes : (x.answer.bytes ≡ length (encode_all es)) × (y.answer.bytes ≡ length (encode_all fs))
  pub areas : (x.lent.area ≡ encode_all es ++ drop x.answer.bytes l.area) × (y.lent.area ≡ encode_all fs ++ drop y.answer.bytes l.area)
  pub requests : requests es ≡ requests fs
  pub records : (z : ℕ) → records z es ≡ records z fs

-- the events that a reader finds in what a call wrote
abbrev pub read_events : Result EqualizeAnswer → List Event
read_events x = (read_all (take x.answer.bytes x.lent.area)).events

-- what demand 3 compares, read off two areas
pub record SameRead (x y : Result EqualizeAnswer) : Type 0 where
  pub requests : requests (read_events x) ≡ requests (read_events y)
  pub records : (z : ℕ) → records z (read_events x) ≡ records z (read_events y)

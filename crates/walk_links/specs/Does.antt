-- What a function that changes lent areas and writes events promises: a step of the definition, read off the areas before and after it.
use Rattle.std.specs.Prelude.{◌≡◌, List, ◌++◌, ℕ}
use Rattle.rules_events.specs.Events.{encode_all}
use Rattle.events.specs.Area.{Wrote}
use Rattle.rules_events.specs.declared.Event.{Event}

-- how areas A hold a state S of the definition
pub record Walker (A S F : Type 0) : Type 1 where
  pub used : A → ℕ  -- how many event bytes are written
  pub area : A → List ℕ  -- the event area
  pub view : A → List Event → S  -- the state, once these events are written
  pub frame : A → F  -- what every step leaves as it is
  pub Fit : A → Type 0  -- what holds before and after every step

-- from a to a' by the step f
pub record WalkDoes {A S F : Type 0} (h : Walker A S F) (f : S → S) (a a' : A) : Type 0 where
  pub fit : h.Fit a'
  pub kept : h.frame a' ≡ h.frame a
  pub new : List Event
  pub wrote : Wrote (encode_all new) (h.used a) (h.used a') (h.area a) (h.area a')
  pub same : (es : List Event) → h.view a' (es ++ new) ≡ f (h.view a es)

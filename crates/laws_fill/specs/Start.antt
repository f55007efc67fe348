-- Where a fill from one turf starts.
use Rattle.std.specs.Prelude.{List, [], ◌∷◌, false, ℕ, set}
use Rattle.basics.specs.Floats.{0f}
use Rattle.rules_events.specs.declared.Event.{Event}
use Rattle.rules_fill.specs.Fill.{Reach, Fill}
use Rattle.rules_fill.specs.declared.Going.TheVariants.{On}

-- where a fill from the turf r starts
abbrev pub start_reach : ℕ → List ℕ → List ℕ → List Event → Reach
start_reach r found owner events = record { found = set found r 1; queue = r ∷ []; nodes = r ∷ []; owner = owner; ignored = false; events = events }

-- with so many clock tests made
abbrev pub start_fill : ℕ → List ℕ → List ℕ → List Event → ℕ → Fill
start_fill r found owner events tests =
    record { reach = start_reach r found owner events; popped = 0; moles = 0f; planet = false; tests = tests; state = On }

-- The reader's own promise. Assumes nothing.
use Prim.Native.Nat.{ℕ}
use mathlib.Core.Path.{ap}
use mathlib.Core.List.{List}
use lib.ListN.{get_or}
use Rattle.katmos.proofs.katmos_read_event.Goals as goal

pub returns : goal.returns
returns c = record { returned = ap (λ (l : List ℕ). get_or l 0 0) c.read_event-a.ensures; written = c.read_event-a.ensures }

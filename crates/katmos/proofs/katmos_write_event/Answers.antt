-- The writer's own promise. Assumes nothing.
use mathlib.Core.Path.{ap}
use native.Mathlib.Omega.{arith}
use lib.ListN.{get_or}
use Rattle.events.specs.Interface.{WriteEvent}
use Rattle.katmos.proofs.katmos_write_event.Goals as goal

pub returns : goal.returns
returns c =
    let write-event = c.write_event-a in
    let fits = c.ranges in
    record {
      returned = ap (λ (p : WriteEvent). get_or p.answer 0 0) write-event.ensures;
      done = write-event.ensures;
      fields = (omega (arith, fits.f0), (omega (arith, fits.f1), (omega (arith, fits.f2), (omega (arith, fits.f3), tt))));
    }

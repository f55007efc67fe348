-- A loop over the rips: those behind it are written. Assumes nothing.
use lib.ListN.{length, take, drop}
use Rattle.rules_events.specs.Events.{encode_all}
use Rattle.events.specs.Area.{Wrote}
use Rattle.scratch.specs.Layout.{sums_at}
use Rattle.walk_back.specs.Backed.{rips_of}
use Rattle.walk_back.proofs.rips.Given as goal

abbrev pub invariant-loop-j : goal.invariant-loop-j
invariant-loop-j l = Wrote (encode_all (rips_of l.ids (take l.j l.words) (take l.j (drop (sums_at (length l.ids)) l.floats)))) l.initial.at l.at l.initial.events l.events

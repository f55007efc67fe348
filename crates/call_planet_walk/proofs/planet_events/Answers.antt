-- The walk from the turf that has the id, if one has. Assumes nothing.
use mathlib.Core.Path.{refl}
use Rattle.turfs.specs.Tables.{board_at}
use Rattle.call_planet_walk.proofs.Calls.{no_turf, turf-row, from-turf}
use Rattle.call_planet_walk.proofs.planet_events.Goals as goal

pub returns-in_default : goal.returns-in_default
returns-in_default c = record { fact = no_turf _ _ _ _ (c.find.ensures _ refl) c.in_default.is _; words_after = refl }

pub walk-s-requires : goal.walk-s-requires
walk-s-requires c =
    let p = c.requires in
    let args = c.args in
    let b = board_at args.tables 0 in
    record { ground = p.ground; inside = turf-row b args.limit args.id _ (c.find.ensures _ refl) _ c.in-Some.is; words = p.words; room = p.room }

pub returns : goal.returns
returns c =
    let find = c.find in
    let walk = c.walk-s in record { fact = from-turf _ _ _ _ (find.ensures _ refl) _ c.in-Some.is walk.ensures; words_after = walk.ensures.beyond }

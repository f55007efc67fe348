-- The walk to space from the turf that has the id, if one has. Assumes nothing.
use mathlib.Core.Path.{refl}
use Rattle.call_depressurize.proofs.Calls.{granted, starts, no_turf, turf-row, walked, from-turf}
use Rattle.call_depressurize.proofs.from_id.Goals as goal

pub find-requires : goal.find-requires
find-requires c = (granted _ _ c.requires).accepted.tables.ascend

pub returns-in_default : goal.returns-in_default
returns-in_default c = no_turf _ _ c.requires c.args.breach _ (c.find.ensures _ refl) c.in_default.is

pub walk-s-requires : goal.walk-s-requires
walk-s-requires c =
    let z = c.requires in
    starts _ _ z _ (turf-row _ _ z c.args.breach _ (c.find.ensures _ refl) _ c.in-Some.is)

pub from_walk-requires : goal.from_walk-requires
from_walk-requires c =
    let pre = c.requires in
    let find = c.find in
    let walk = c.walk-s in
    walked _ _ pre c.args.breach _ (find.ensures _ refl) _ c.in-Some.is _ _ _ walk.ensures

pub returns : goal.returns
returns c =
    let pre = c.requires in
    let find = c.find in
    let walk = c.walk-s in
    let from-walk = c.from_walk in
    from-turf _ _ pre c.args.breach _ (find.ensures _ refl) _ c.in-Some.is _ _ _ walk.ensures _ _ _ _ _ from-walk.ensures

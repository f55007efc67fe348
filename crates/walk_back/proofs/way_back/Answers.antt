-- The amounts start at zero; then the order from its end, and the rips. Assumes nothing.
use Rattle.walk_back.proofs.Ways.{first_goes, ripping, backed}
use Rattle.walk_back.proofs.way_back.Goals as goal

pub back_all-t-requires : goal.back_all-t-requires
back_all-t-requires c = first_goes _ _ _ _ _ _ _ _ c.requires c.clear_floats.ensures

pub rips-requires : goal.rips-requires
rips-requires c =
    let pre = c.requires in
    let clear-floats = c.clear_floats in
    let back-all = c.back_all-t in
    ripping _ _ _ _ _ _ _ _ pre clear-floats.ensures _ _ _ _ _ _ back-all.ensures

pub returns : goal.returns
returns c =
    let pre = c.requires in
    let clear-floats = c.clear_floats in
    let back-all = c.back_all-t in
    let rips = c.rips in
    backed _ _ _ _ _ _ _ _ pre clear-floats.ensures _ _ _ _ _ _ back-all.ensures _ _ rips.ensures

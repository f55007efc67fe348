-- The arrays are made ready, and then the order is walked. Assumes nothing.
use mathlib.Core.Path.{refl}
use Rattle.walk_out.proofs.Owns.{listed, start-passing, outed}
use native.Mathlib.Omega.{arith}
use Rattle.walk_out.proofs.outward.Goals as goal

pub clear_part-requires : goal.clear_part-requires
clear_part-requires c = let p = c.requires in omega (arith, p.list.words, c.ways_at.ensures)

pub clear_part-requires-2 : goal.clear_part-requires-2
clear_part-requires-2 c = let p = c.requires in omega (arith, p.list.words, c.targets_at.ensures, c.words-1.given)

pub own_targets-requires : goal.own_targets-requires
own_targets-requires c =
    let ways = rw c.ways_at.ensures at c.clear_part.ensures in
    let targets = rw c.targets_at.ensures at c.clear_part-2.ensures in
    listed _ _ _ _ _ _ _ c.requires ways targets

pub out_rows-requires : goal.out_rows-requires
out_rows-requires c =
    let ways = rw c.ways_at.ensures at c.clear_part.ensures in
    let targets = rw c.targets_at.ensures at c.clear_part-2.ensures in record { fact = start-passing _ _ _ _ _ _ _ c.requires ways targets _ c.own_targets.ensures; place_value = refl }

pub returns : goal.returns
returns c =
    let ways = rw c.ways_at.ensures at c.clear_part.ensures in
    let targets = rw c.targets_at.ensures at c.clear_part-2.ensures in
    let own-targets = c.own_targets.ensures in
    outed _ _ _ _ _ _ _ c.requires ways targets _ own-targets c.out_rows.ensures

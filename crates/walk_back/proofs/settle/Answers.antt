-- The air is cleared, and the amounts are added as they stand. Assumes nothing.
use mathlib.Core.Path.{refl}
use native.Mathlib.Omega.{arith}
use lib.ListN.{length-set}
use Rattle.mixture.proofs.Parts.{holds_of}
use Rattle.turfs.specs.Tables.{board_at}
use Rattle.walk_back.proofs.settle.Goals as goal

pub overflow_cast-mixtures : goal.overflow_cast-mixtures
overflow_cast-mixtures c = let p = c.requires in omega (arith, p.ground.mixture _ p.from, p.ground.small.mixtures)

pub clear_air-requires : goal.clear_air-requires
clear_air-requires c =
    let p = c.requires in
    let mix = p.ground.mixture _ p.from in
    (mix, holds_of c.args.gas.now _ _ _ p.count mix)

pub total-sum-requires : goal.total-sum-requires
total-sum-requires c =
    let p = c.requires in
    (rw p.ground.mixtures p.to, rw c.gas-1.given (holds_of c.args.gas.now _ _ _ p.count (p.ground.mixture _ p.to)))

pub bounds-floats-d : goal.bounds-floats-d
bounds-floats-d c = let p = c.requires in simp length-set (omega (arith, p.to, p.floats))

pub bounds-floats-d-2 : goal.bounds-floats-d-2
bounds-floats-d-2 c = let p = c.requires in simp length-set (omega (arith, p.to, p.floats))

pub returns : goal.returns
returns c =
    let args = c.args in
    let b = board_at args.tables args.gases in
    record { cleared = c.clear_air.ensures b refl refl; sum = c.total-sum.ensures b refl refl; mine = refl; theirs = refl; amounts = refl }

-- The turf's air and amounts, its events, its rip. Assumes nothing.
use native.Mathlib.Omega.{arith}
use mathlib.Core.Path.{refl, ap}
use Prim.Native.Nat.{ℕ}
use lib.Dec.{eqb}
use Rattle.walk_back.proofs.Backs.{mine-number, theirs-number, told-room, direction-at, does-back}
use Rattle.walk_back.proofs.back_to.Goals as goal

pub tell-used-requires : goal.tell-used-requires
tell-used-requires c =
    let p = c.requires in
    let q = c.settle-sums.ensures in
    record { mine = mine-number _ _ _ _ _ _ _ _ p _ _ _ q; theirs = theirs-number _ _ _ _ _ _ _ _ p _ _ _ q; room = told-room _ _ _ _ _ _ _ _ p _ _ _ q }

pub returns : goal.returns
returns c =
    let p = c.requires in
    let q = c.settle-sums.ensures in
    let last = ap (λ (x : ℕ). eqb x 0) (direction-at _ _ _ _ _ _ _ _ p _ _ _ q _ c.ways_at.ensures) in
    record {
      fact = does-back _ _ _ _ _ _ _ _ p _ _ _ q _ c.sums_at.ensures _ _ last _ _ c.tell-used.ensures (omega arith);
      rips_value = refl;
    }

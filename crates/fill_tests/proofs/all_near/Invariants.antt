-- The loop's invariant: the links left, from here on, are near exactly when all are. Assumes nothing.
use Prim.Native.Nat.{◌-◌}
use mathlib.Core.Path.{◌≡◌}
use Rattle.basics.specs.Loops.{every, up_from}
use Rattle.turfs.specs.Tables.{board_of}
use Rattle.fill_tests.proofs.Near.{near_at}
use Rattle.fill_tests.proofs.all_near.Given as goal

abbrev pub invariant-loop-k : goal.invariant-loop-k
invariant-loop-k l =
    let near = near_at (board_of l.tables l.gases) l.gas l.mine l.threshold in
    every near (up_from l.k (l.to - l.k)) ≡ every near (up_from l.from (l.to - l.from))

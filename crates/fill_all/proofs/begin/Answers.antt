-- Two parts of the words are filled with 0, and the first start is 0. Assumes nothing.
use Prim.Native.Nat.{◌+◌, ◌-◌}
use native.Mathlib.Omega.{arith}
use Rattle.fill_all.proofs.Stores.{filled}
use Rattle.fill_all.proofs.begin.Goals as goal

pub returns-clause-cleared : goal.returns-clause-cleared
returns-clause-cleared c =
    let found = c.found_at-found in
    filled _ _ _ _ _ _ _ (found.result + c.args.layout.turfs - found.result) c.requires.e_in_bounds found.ensures c.starts_at.ensures (omega arith) (c.fill.ensures.after (λ y h. h)) (c.fill-2.ensures.after (λ y h. h))

-- The sum stands where the sums do. Assumes nothing.
use native.Mathlib.Omega.{arith}
use Rattle.walk_back.proofs.Ways.{rip_told}
use Rattle.walk_back.proofs.rip.Goals as goal

pub overflow_add-amount : goal.overflow_add-amount
overflow_add-amount c = let p = c.requires in omega (arith, c.sums_at.ensures, p.small, p.words, p.floats)

pub append-requires : goal.append-requires
append-requires c = let p = c.requires in (rw c.sums_at.ensures p.sum, p.room)

pub returns : goal.returns
returns c = let a = c.args in rip_told a.ids.now a.words.now a.floats.now a.j _ c.sums_at.ensures c.append.ensures.wrote

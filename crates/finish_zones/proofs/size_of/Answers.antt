-- Words fit, and starts don't fall. Assumes nothing.
use mathlib.Core.Path.{ap₂}
use Prim.Native.Nat.{ℕ, ◌+◌, ◌-◌}
use Rattle.finish_zones.proofs.Words.{starts-read}
use native.Mathlib.Omega.{arith}
use Rattle.finish_zones.proofs.size_of.Goals as goal

pub returns : goal.returns
returns c =
    let starts-at = c.starts_at in
    let q = starts-read c.args.layout.turfs c.args.layout.links c.args.words.now c.args.zone (starts-at.result + c.args.zone) (omega (arith, starts-at.ensures)) in
    ap₂ (λ (x y : ℕ). x - y) q.1 q.0

use Prim.Native.Nat.{ℕ, ◌<◌, ◌+◌}
use mathlib.Core.Path.{◌∙◌, sym}
use native.Mathlib.Omega.{arith}
use lib.ListN.{length, get_or, length-set}
use Rattle.turf_stamps.proofs.Stamping.{rest-start, rest-next, rest-twice, rest_end, stamp_keeps}
use Rattle.turf_stamps.proofs.row_fits.Goals as goal

pub loop-a-init : goal.loop-a-init
loop-a-init c =
    let s = c.args in
    (rest-start s.row s.stamps.now s.near.now c.requires.turf c.requires.old, stamp_keeps (s.row + 1) s.stamps.now s.row c.requires.turf (λ a. omega (arith, c.requires.old a)))

pub returns-then-stamps-a : goal.returns-then-stamps-a
returns-then-stamps-a c =
    let loop = c.loop-a in
    (sym (rest-twice _ loop.stamps c.args.near.now loop.a-index c.loop-a-test.true c.if-stamps-a.true) ∙ loop.invariant.0, loop.invariant.1)

pub loop-a-preserved : goal.loop-a-preserved
loop-a-preserved c =
    let near = c.args.near.now in
    let loop = c.loop-a in
    let a = get_or near loop.a-index 0 in
    let l : a < length loop.stamps = omega (arith, c.requires.ends loop.a-index c.loop-a-test.true, length-set {A = ℕ}) in
    (sym (rest-next _ loop.stamps near loop.a-index c.loop-a-test.true l c.if-stamps-a.false) ∙ loop.invariant.0, stamp_keeps _ loop.stamps a l loop.invariant.1)

pub returns : goal.returns
returns c =
    let loop = c.loop-a in
    (sym (rest_end _ loop.stamps c.args.near.now loop.a-index c.loop-a-test.false) ∙ loop.invariant.0, loop.invariant.1)

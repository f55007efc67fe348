-- Each turn counts one link more. Assumes nothing.
use Prim.Native.Nat.{◌<◌}
use native.Mathlib.Omega.{arith}
use mathlib.Core.Path.{◌∙◌, sym, ap}
use lib.ListN.{get_or}
use Rattle.basics.specs.Loops.{run}
use Rattle.basics.proofs.Loops.{run_up, run-up_end}
use Rattle.plan_fast.proofs.Moves.{tally_le}
use Rattle.plan_fast.proofs.count_eligible.Goals as goal

pub loop-k-preserved : goal.loop-k-preserved
loop-k-preserved c =
    let loop = c.loop-k in
    let link : loop.k < c.args.layout.links = omega (arith, c.requires.within, c.loop-k-test.true) in
    let le = tally_le c.args.layout.turfs c.args.layout.links c.args.words.now c.args.z loop.k (get_or c.args.neighbours.now loop.k 0) loop.c link (c.requires.ends _ link) in
    (omega (arith, loop.invariant.0, c.tally-c.ensures, le), ap (run _ _) c.tally-c.ensures ∙ sym (run_up _ _ _ _ c.loop-k-test.true) ∙ loop.invariant.1)

pub returns : goal.returns
returns c = sym (run-up_end _ _ _ _ c.loop-k-test.false) ∙ c.loop-k.invariant.1

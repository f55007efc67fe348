-- Each turn chooses among one node more. Assumes nothing.
use native.Mathlib.Omega.{arith}
use Rattle.plan_state.proofs.Nodes.{nodes-length}
use Rattle.plan_zone.proofs.Lists.{picking_next, picking_end, pick-row, pick-below, pick-test}
use Rattle.plan_zone.proofs.gather.Goals as goal

pub choose-c-requires : goal.choose-c-requires
choose-c-requires c =
    let loop = c.loop-i in
    let taken = c.loop-i-test.true in
    let below = pick-below c.requires.nodes c.args.side loop.invariant loop.auto.words taken in
    record {
      listed = omega (arith, loop.invariant.fit.words, c.list_at-list.ensures, loop.invariant.few, taken, c.requires.nodes.few);
      counted = record {
        room = omega (arith, c.requires.plan_fits.floats, below);
        count = omega (arith, loop.invariant.few, taken, c.requires.nodes.few, c.requires.plan_fits.turfs);
        row = below;
        sizes = record { turfs = c.requires.plan_fits.turfs; links = c.requires.plan_fits.links };
      };
    }

pub loop-i-preserved : goal.loop-i-preserved
loop-i-preserved c =
    let loop = c.loop-i in
    let taken = c.loop-i-test.true in
    let nodes = c.requires.nodes in
    let choose = c.choose-c in
    picking_next _ _ loop.invariant (rw (nodes-length nodes) taken) _ c.list_at-list.ensures (omega (arith, loop.invariant.few, taken, nodes.few)) _
    (pick-test nodes c.args.side loop.invariant loop.auto.words taken) _ (pick-row nodes c.args.side loop.invariant loop.auto.words taken) _ choose.ensures.value _ choose.ensures.words_after

pub returns : goal.returns
returns c = picking_end c.args.side _ _ c.loop-i.invariant (omega (arith, c.loop-i.auto.i-end, c.requires.nodes.few)) (rw (nodes-length c.requires.nodes) c.loop-i-test.false)

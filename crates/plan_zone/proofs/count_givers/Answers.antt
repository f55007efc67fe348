-- Each turn counts one node. Assumes nothing.
use Prim.Native.Nat.{◌+◌, ◌<◌}
use native.Mathlib.Omega.{arith}
use mathlib.Core.Path.{◌∙◌, sym}
use lib.ListN.{get_or}
use lib.Ieee.{nan}
use Rattle.rules_plan.specs.Plan.{picks, chosen}
use Rattle.rules_plan.specs.declared.Side.TheVariants.{Giving}
use Rattle.plan_state.proofs.Nodes.{node-below}
use Rattle.plan_zone.proofs.Counts.{count_next, count-end, cond-le, part-at, part-length}
use Rattle.plan_zone.proofs.count_givers.Goals as goal

pub loop-r-init : goal.loop-r-init
loop-r-init c = unfold chosen in (omega arith, omega arith)

pub count_one-c-requires : goal.count_one-c-requires
count_one-c-requires c =
    let zone = c.args.zone in
    let nodes = c.requires.nodes in
    let taken : c.loop-r.r-index < zone.count = omega (arith, c.loop-r-test.true, part-length zone.first zone.count c.args.words.now nodes.room) in
    let below = node-below nodes _ taken in
    rw (part-at zone.first zone.count c.args.words.now _ taken) (record {
      room = omega (arith, c.requires.plan_fits.floats, below);
      count = omega (arith, c.loop-r.invariant.0, taken, nodes.few, c.requires.plan_fits.turfs);
      row = below;
      sizes = record { turfs = c.requires.plan_fits.turfs; links = c.requires.plan_fits.links };
    })

pub loop-r-preserved : goal.loop-r-preserved
loop-r-preserved c =
    let zone = c.args.zone in
    let loop = c.loop-r in
    let nodes = c.requires.nodes in
    let taken : loop.r-index < zone.count = omega (arith, c.loop-r-test.true, part-length zone.first zone.count c.args.words.now nodes.room) in
    let r = get_or c.args.words.now (zone.first + loop.r-index) 0 in
    let more = cond-le (picks Giving (get_or c.args.floats.now (zone.layout.links + r + r) nan)) loop.c in
    let counted = rw (part-at zone.first zone.count c.args.words.now _ taken) at c.count_one-c.ensures in
    (omega (arith, loop.invariant.0, counted, more), sym (count_next nodes _ _ taken _ counted) ∙ loop.invariant.1)

pub returns : goal.returns
returns c =
    let zone = c.args.zone in
    let nodes = c.requires.nodes in
    sym (count-end nodes _ _ (omega (arith, c.loop-r-test.false, part-length zone.first zone.count c.args.words.now nodes.room))) ∙ c.loop-r.invariant.1

-- Each turn is the last of the rows that are left. Assumes nothing.
use Prim.Native.Nat.{◌-◌}
use native.Mathlib.Omega.{arith}
use Rattle.plan_state.proofs.Nodes.{onto_next, onto_end}
use Rattle.plan_drain.proofs.Drains.{queue-length, row_within, row_next, back_end, drained_same}
use Rattle.plan_drain.proofs.drain.Goals as goal

pub drain_turf-requires : goal.drain_turf-requires
drain_turf-requires c =
    let loop = c.loop-i in
    let met = row_within _ _ 0 (loop.i - 1) _ _ _ c.queue_at-queue.ensures (omega (arith, c.loop-i-test.true, loop.auto.i, c.requires.few)) _
    (c.requires.within (loop.i - 1) (omega (arith, c.loop-i-test.true, loop.auto.i))) in
    record { fit = loop.invariant.fit; zone = c.requires.zone; row = met.0; within = met.1 }

pub loop-i-preserved : goal.loop-i-preserved
loop-i-preserved c =
    let loop = c.loop-i in
    let taken = c.loop-i-test.true in
    onto_next _ _ loop.invariant (drained_same _ _ _ _ _ _ _ c.drain_turf.ensures)
    (λ o p. row_next _ _ _ (loop.i - 1) _ _ _ c.queue_at-queue.ensures (omega (arith, taken, loop.auto.i, c.requires.few)) _ loop.i (omega (arith, taken)) (omega (arith, taken)) (queue-length _ _ _ c.requires.fit) _)

pub returns : goal.returns
returns c = onto_end c.loop-i.invariant (λ o p. back_end _ _ _ _ _ c.loop-i-test.false)

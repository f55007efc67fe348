-- What is left of the nodes starts as all of them and ends as none. Assumes nothing.
use mathlib.Core.Path.{refl}
use Rattle.turfs.specs.Tables.{board_of}
use Rattle.rules_plan.specs.Plan.{deltas}
use Rattle.plan_state.proofs.Nodes.{onto_next, onto_end, onto_frame, now_below, walk-next, walk_end}
use Rattle.plan_zone.proofs.Whole.{delta-set}
use Rattle.plan_zone.proofs.all_deltas.Invariants.{step}
use Rattle.plan_zone.proofs.all_deltas.Goals as goal

pub total-moles-requires : goal.total-moles-requires
total-moles-requires c =
    let below = now_below c.requires.nodes (onto_frame c.loop-i.invariant) c.loop-i.auto.words _ c.loop-i-test.true in
    (rw c.requires.fact.mixtures_n below, c.requires.fact.within _ below)

pub first_delta-requires-clause-row_lt_n : goal.first_delta-requires-clause-row_lt_n
first_delta-requires-clause-row_lt_n c = now_below c.requires.nodes (onto_frame c.loop-i.invariant) c.loop-i.auto.words _ c.loop-i-test.true

pub loop-i-preserved : goal.loop-i-preserved
loop-i-preserved c =
    let loop = c.loop-i in
    let b = board_of c.args.tables.now c.args.gases in
    onto_next _ _ loop.invariant (delta-set _ _ _ (c.total-moles.ensures b refl refl) c.first_delta.ensures)
    (λ o p. walk-next c.requires.nodes (onto_frame loop.invariant) loop.auto.words _ c.loop-i-test.true (step b _ _) p)

pub returns : goal.returns
returns c =
    let loop = c.loop-i in
    unfold deltas in onto_end loop.invariant (λ o p. walk_end c.requires.nodes (onto_frame loop.invariant) loop.auto.words _ c.loop-i-test.false _ p)

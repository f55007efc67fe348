-- Each turn is the next of the definition; where the loop stops, the definition's next one changes nothing. Assumes nothing.
use native.Mathlib.Omega.{arith}
use mathlib.Core.Path.{◌∙◌, sym}
use Rattle.turfs.specs.Tables.{board_of}
use Rattle.plan_search.proofs.Rows.{sought-as, links-are, links-lead}
use Rattle.plan_search.proofs.Search.{trail_next, trail_end, seen_below, turn-unsettled, turn_on, turn-settled, turn_end}
use Rattle.plan_search.proofs.seek.Goals as goal

pub seek_turf-reach-requires : goal.seek_turf-reach-requires
seek_turf-reach-requires c =
    let seeking = c.loop-looked.invariant.0.seeking in
    let taken = c.loop-looked-test.true in
    let row = c.requires.searching.row in
    let hand = c.args.hand in
    let b = board_of c.args.tables.now c.args.gases in
    record {
      searching = record { seeking = seeking; zone = c.requires.searching.zone; row = row };
      unsettled = turn-unsettled _ _ _ _ _ _ seeking taken _ c.queue_at-queue.ensures b hand.z hand.side hand.g row _ c.delta_at-own.ensures (sym c.settled.ensures ∙ c.if-not-settled.true);
      row = seen_below _ _ _ _ _ _ seeking taken _ c.queue_at-queue.ensures;
      linked = c.requires.sized.linked;
      all = c.requires.sized.links;
    }

pub loop-looked-preserved : goal.loop-looked-preserved
loop-looked-preserved c =
    let inv = c.loop-looked.invariant in
    let taken = c.loop-looked-test.true in
    let queue = c.queue_at-queue.ensures in
    let turf = c.seek_turf-reach.ensures in
    let hand = c.args.hand in
    let b = board_of c.args.tables.now c.args.gases in
    let turn = turn_on _ _ _ _ _ _ inv.0.seeking taken _ queue b _ _ _ c.requires.searching.row _ c.delta_at-own.ensures (sym c.settled.ensures ∙ c.if-not-settled.true) in (
      trail_next _ _ inv.0 (sought-as turf.sought (links-are b hand.z hand.side hand.g _)) (omega (arith, inv.0.seeking.line.few, taken)) turn,
      (turf.met.keeps _ (links-lead (seen_below _ _ _ _ _ _ inv.0.seeking taken _ queue)) inv.1.0, turf.idle.keeps inv.1.1),
    )

pub returns-else-not-settled-clause-fact : goal.returns-else-not-settled-clause-fact
returns-else-not-settled-clause-fact c =
    let trail = c.loop-looked.invariant.0 in
    trail_end _ trail (turn-settled _ _ _ _ _ _ trail.seeking c.loop-looked-test.true _ c.queue_at-queue.ensures _ _ _ _ c.requires.searching.row _
    c.delta_at-own.ensures (sym c.settled.ensures ∙ c.if-not-settled.false))

pub returns-after-loop-looked-clause-fact : goal.returns-after-loop-looked-clause-fact
returns-after-loop-looked-clause-fact c =
    let trail = c.loop-looked.invariant.0 in
    trail_end _ trail (turn_end _ _ _ _ _ _ trail.seeking _ _ _ _ c.loop-looked-test.false)

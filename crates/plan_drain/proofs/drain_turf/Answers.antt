-- By the ways out: nothing to hand on, nowhere to hand it, over the link by which the turf was met. Assumes nothing.
use native.Mathlib.Omega.{arith}
use Rattle.plan_drain.proofs.Drains.{drained, drained_still, drained_none, back-row, back-k, back_p, back-there}
use Rattle.plan_drain.proofs.drain_turf.Goals.{else-amount-via-then-amount+else-direction-ne0, else-amount-via-else-amount}
use Rattle.plan_drain.proofs.drain_turf.Goals as goal

pub back_link-there-requires : goal.back_link-there-requires
back_link-there-requires c =
    let load = c.load-i in
    let via = c.via_at in
    record {
      room = omega (arith, c.requires.fit.words);
      link = back-k _ _ c.args.z _ _ _ _ load.ensures c.requires.fit c.requires.row c.requires.within c.if-direction-ne0.true _ via.ensures;
      back = back_p _ _ c.args.z _ _ _ _ load.ensures c.requires.fit c.requires.row c.requires.within c.if-direction-ne0.true _ via.ensures;
      zone = c.requires.zone;
      links = c.requires.fit.links;
    }

pub hand_on-requires : goal.hand_on-requires
hand_on-requires c =
    let met = c.load-i.ensures in
    let via = c.via_at.ensures in
    let pointed = c.if-direction-ne0.true in
    record {
      fit = c.requires.fit;
      row = c.requires.row;
      to = back-row _ _ c.args.z _ _ _ _ met c.requires.fit c.requires.row c.requires.within pointed _ via;
      there = back-there _ _ _ _ _ _ _ met c.requires.fit c.requires.row c.requires.within pointed _ via _ c.back_link-there.ensures;
      back = back-k _ _ c.args.z _ _ _ _ met c.requires.fit c.requires.row c.requires.within pointed _ via;
    }

pub returns-then-direction-ne0 : goal.returns-then-direction-ne0
returns-then-direction-ne0 c = drained _ _ _ _ _ _ _ c.load-i.ensures c.requires.fit c.requires.row c.requires.within c.if-direction-ne0.true _ c.via_at.ensures _
    c.back_link-there.ensures c.if-amount.true c.hand_on.ensures

pub returns-else-amount : goal.returns-else-amount
returns-else-amount c =
    elim c.else-amount.branch [
      | else-amount-via-then-amount+else-direction-ne0 w ↦ drained_still _ _ _ _ _ _ _ c.load-i.ensures c.requires.fit w.if-amount.true w.if-direction-ne0.false
      | else-amount-via-else-amount w ↦ drained_none _ _ _ _ _ _ _ c.load-i.ensures c.requires.fit w.if-amount.false
    ]

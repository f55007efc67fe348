-- Two records, or three. Assumes nothing.
use Rattle.walk_steps.proofs.Steps.{high-room, mine-room, theirs-room, told-two, told-three}
use borrow.Author.Rules.{rules}
use Rattle.walk_steps.proofs.tell.Goals as goal

pub append-at-requires : goal.append-at-requires
append-at-requires c = let a = c.args in (tt, high-room a.arrows a.id a.next a.mine a.theirs a.used a.events.now c.requires.room)

pub append-to-requires : goal.append-to-requires
append-to-requires c =
    let a = c.args in
    let p = c.requires in
    (p.mine, mine-room a.arrows a.id a.next a.mine a.theirs a.used a.events.now p.room _ c.tip-tip.ensures _ _ c.append-at.ensures)

pub returns-then-not-last : goal.returns-then-not-last
returns-then-not-last c =
    let a = c.args in
    let pre = c.requires in
    let append = c.append-at in
    let append2 = c.append-to in
    told-two a.arrows a.id a.next a.mine a.theirs a.used a.events.now pre.room _ c.tip-tip.ensures _ _ append.ensures _ _ append2.ensures a.last c.if-not-last.true

pub append-requires : goal.append-requires
append-requires c =
    let a = c.args in
    let p = c.requires in
    (search rules, theirs-room a.arrows a.id a.next a.mine a.theirs a.used a.events.now p.room _ c.tip-tip.ensures _ _ c.append-at.ensures _ _ c.append-to.ensures)

pub returns : goal.returns
returns c =
    let a = c.args in
    let pre = c.requires in
    let append = c.append-at in
    let append2 = c.append-to in
    let if1 = c.if-not-last in
    told-three a.arrows a.id a.next a.mine a.theirs a.used a.events.now pre.room _ c.tip-tip.ensures _ _ append.ensures _ _ append2.ensures a.last if1.false
    c.append.ensures

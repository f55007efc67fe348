-- By the two tests; who doesn't give takes. Assumes nothing.
use Rattle.turfs.specs.Tables.{board_of}
use Rattle.plan_zone.proofs.Counts.{givers_le}
use Rattle.plan_zone.proofs.Lists.{pass_on, pass-takers, pass-few}
use Rattle.plan_zone.proofs.fast_pass.Goals.{else-most-givers-via-then-most-givers+else-most-takers, else-most-givers-via-else-most-givers}
use Rattle.plan_zone.proofs.fast_pass.Goals as goal

pub overflow_sub-takers : goal.overflow_sub-takers
overflow_sub-takers c = givers_le _ c.requires.nodes c.count_givers-givers.ensures

pub returns-then-most-takers : goal.returns-then-most-takers
returns-then-most-takers c =
    pass_on (board_of c.args.tables.now c.args.gases) _ _ _ c.requires.nodes c.count_givers-givers.ensures
    c.log2-most.ensures c.if-most-givers.true
    c.if-most-takers.true c.fast_all.ensures

pub returns-else-most-givers : goal.returns-else-most-givers
returns-else-most-givers c =
    let b = board_of c.args.tables.now c.args.gases in
    let nodes = c.requires.nodes in
    let givers = c.count_givers-givers.ensures in
    let most = c.log2-most.ensures in
    let fit = c.requires.planning.fit in
    elim c.else-most-givers.branch [
      | else-most-givers-via-then-most-givers+else-most-takers w ↦ pass-takers b _ _ _ nodes givers most fit w.if-most-givers.true w.if-most-takers.false
      | else-most-givers-via-else-most-givers w ↦ pass-few b _ _ _ nodes givers most fit w.if-most-givers.false
    ]

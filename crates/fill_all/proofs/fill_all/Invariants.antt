-- The loop's invariant: the hot ids so far came to the definition's state, from nothing found. Assumes nothing.
use lib.ListN.{length, take}
use Rattle.basics.specs.Loops.{run}
use Rattle.turfs.specs.Tables.{board_of}
use Rattle.rules_equalize.specs.Equalize.{hot_id}
use Rattle.fill_all.specs.Held.{asked, Fills}
use Rattle.fill_all.proofs.fill_all.Given as goal

abbrev pub invariant-loop-id : goal.invariant-loop-id
invariant-loop-id l =
    let b = board_of l.tables l.gases in
    let step = hot_id b l.gas (asked l.hot l.settings) in
    Fills (length l.tables.ids.now) (length l.tables.neighbours.now) (λ z. run step (take l.id-index l.hot) z) l.initial.s l.s l.initial.words l.words l.initial.floats l.floats l.initial.events l.events

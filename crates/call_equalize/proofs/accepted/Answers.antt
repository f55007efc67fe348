-- Filling, and what it leaves is what the rest asks. Assumes nothing.
use mathlib.Core.Path.{refl}
use Rattle.turfs.specs.Tables.{board_of}
use Rattle.lent.specs.Given.{lent}
use Rattle.fill_all.specs.Held.{asked}
use Rattle.fill_all.proofs.Asked.{fill-asks}
use Rattle.call_equalize.proofs.Calls.{fills, filled}
use Rattle.call_equalize.proofs.accepted.Goals as goal

pub fill_all-s-requires : goal.fill_all-s-requires
fill_all-s-requires c =
    let b = board_of c.args.tables.now c.args.gases in
    let q = asked c.args.hot.now c.args.settings in
    let t = c.args.turns.now in
    let l = lent c.args.gas.now c.args.events.now c.args.words.now c.args.floats.now in
    let asks = fill-asks b q t l c.requires in
    record { accepted = asks.0; fill_fits = asks.1.1 }

pub timed-requires : goal.timed-requires
timed-requires c =
    let b = board_of c.args.tables.now c.args.gases in
    let q = asked c.args.hot.now c.args.settings in
    let t = c.args.turns.now in
    let l = lent c.args.gas.now c.args.events.now c.args.words.now c.args.floats.now in
    filled b q t l c.requires _ _ _ _ c.fill_all-s.ensures c.fill_all-s.auto.words c.fill_all-s.auto.floats

pub returns : goal.returns
returns c =
    let b = board_of c.args.tables.now c.args.gases in
    let q = asked c.args.hot.now c.args.settings in
    let t = c.args.turns.now in
    let l = lent c.args.gas.now c.args.events.now c.args.words.now c.args.floats.now in
    c.timed.ensures q l refl (fills b q t l c.requires _ _ _ _ c.fill_all-s.ensures)

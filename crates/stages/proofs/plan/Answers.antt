-- Planned unless filling was refused or its clock ran out. Assumes nothing.
use mathlib.Core.Path.{◌≡◌, refl}
use native.Mathlib.Omega.{arith}
use Rattle.std.specs.Prelude.{Err}
use Rattle.turfs.specs.Tables.{board_of}
use Rattle.lent.specs.Given.{lent}
use Rattle.lent.proofs.Told.{number-some}
use Rattle.fill_all.specs.Held.{asked}
use Rattle.stages.proofs.Calls.{refused-plans, cancelled-plans, plan-ready, planned-plans}
use Rattle.stages.proofs.plan.Goals as goal

pub returns-in_err-filling : goal.returns-in_err-filling
returns-in_err-filling c =
    let b = board_of c.args.tables.now c.args.gases in
    let q = asked c.args.hot.now c.args.settings in
    let l = lent c.args.gas.now c.args.events.now c.args.words.now c.args.floats.now in
    let f = c.in_err-filling.field-0.0 in
    let same : c.from_residual.result ≡ Err f = grind arith in
    rw same (refused-plans b q l (rw c.in_err-filling.was at c.fill.ensures) (number-some f))

pub returns-then-filling : goal.returns-then-filling
returns-then-filling c =
    let b = board_of c.args.tables.now c.args.gases in
    let q = asked c.args.hot.now c.args.settings in
    let l = lent c.args.gas.now c.args.events.now c.args.words.now c.args.floats.now in
    cancelled-plans b q l (rw c.in_ok-filling.was at c.fill.ensures) c.if-filling.true

pub plan_all-requires : goal.plan_all-requires
plan_all-requires c =
    let b = board_of c.args.tables.now c.args.gases in
    let q = asked c.args.hot.now c.args.settings in
    let l = lent c.args.gas.now c.args.events.now c.args.words.now c.args.floats.now in
    let whole = plan-ready b q l (rw c.in_ok-filling.was at c.fill.ensures) refl c.fill.auto.words c.fill.auto.floats in
    record { plannable = whole.0; fact = whole.1 }

pub returns : goal.returns
returns c =
    let b = board_of c.args.tables.now c.args.gases in
    let q = asked c.args.hot.now c.args.settings in
    let l = lent c.args.gas.now c.args.events.now c.args.words.now c.args.floats.now in
    planned-plans b q l (rw c.in_ok-filling.was at c.fill.ensures) refl c.if-filling.false c.plan_all.ensures

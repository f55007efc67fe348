-- The refusals, and then the parts and the clearing. Assumes nothing.
use native.Mathlib.Omega.{arith}
use mathlib.Core.Path.{◌≡◌, sym, ◌∙◌}
use Rattle.std.specs.Prelude.{Err}
use Rattle.lent.proofs.Told.{was-accepted, was-refused}
use Rattle.turfs.specs.Tables.{board_of}
use Rattle.lent.specs.Given.{lent}
use Rattle.lent.proofs.Numbers.{scratch_of}
use Rattle.fill_all.specs.Held.{asked}
use Rattle.fill_all.proofs.Asked.{number_is, granted}
use Rattle.call_equalize.proofs.Calls.{few-processed, few-tests, few-zones, few_bytes, refused-is, answered}
use Rattle.call_equalize.proofs.equalize.Goals as goal

pub returns-in_err-accept : goal.returns-in_err-accept
returns-in_err-accept c =
    let b = board_of c.args.tables.now c.args.gases in
    let q = asked c.args.hot.now c.args.settings in
    let t = c.args.turns.now in
    let l = lent c.args.gas.now c.args.events.now c.args.words.now c.args.floats.now in
    let f = c.in_err-accept.field-0.0 in
    let same : c.from_residual.result ≡ Err f = grind arith in
    rw same (refused-is b q t l (number_is b q t l _ c.extra_tests-extra.ensures c.accept.ensures) f (was-refused c.in_err-accept.was))

pub accepted-o-requires : goal.accepted-o-requires
accepted-o-requires c =
    let b = board_of c.args.tables.now c.args.gases in
    let q = asked c.args.hot.now c.args.settings in
    let t = c.args.turns.now in
    let l = lent c.args.gas.now c.args.events.now c.args.words.now c.args.floats.now in
    let zero = sym (number_is b q t l _ c.extra_tests-extra.ensures c.accept.ensures) ∙ was-accepted c.in_ok-accept.was in
    zero

pub clear_scratch-requires : goal.clear_scratch-requires
clear_scratch-requires c =
    let b = board_of c.args.tables.now c.args.gases in
    let q = asked c.args.hot.now c.args.settings in
    let t = c.args.turns.now in
    let l = lent c.args.gas.now c.args.events.now c.args.words.now c.args.floats.now in
    let zero = sym (number_is b q t l _ c.extra_tests-extra.ensures c.accept.ensures) ∙ was-accepted c.in_ok-accept.was in
    let room = scratch_of b l _ (granted b q t l zero) in
    record { small = room.small; words = omega (arith, room.words, c.accepted-o.auto.words); floats = omega (arith, room.floats, c.accepted-o.auto.floats) }

pub overflow_cast-result : goal.overflow_cast-result
overflow_cast-result c =
    let b = board_of c.args.tables.now c.args.gases in
    let q = asked c.args.hot.now c.args.settings in
    let t = c.args.turns.now in
    let l = lent c.args.gas.now c.args.events.now c.args.words.now c.args.floats.now in
    let zero = sym (number_is b q t l _ c.extra_tests-extra.ensures c.accept.ensures) ∙ was-accepted c.in_ok-accept.was in
    omega (arith, few-processed b q t l zero c.accepted-o.ensures)

pub overflow_cast-result-2 : goal.overflow_cast-result-2
overflow_cast-result-2 c =
    let b = board_of c.args.tables.now c.args.gases in
    let q = asked c.args.hot.now c.args.settings in
    let t = c.args.turns.now in
    let l = lent c.args.gas.now c.args.events.now c.args.words.now c.args.floats.now in
    let zero = sym (number_is b q t l _ c.extra_tests-extra.ensures c.accept.ensures) ∙ was-accepted c.in_ok-accept.was in
    omega (arith, few-tests b q t l zero c.accepted-o.ensures)

pub overflow_cast-result-3 : goal.overflow_cast-result-3
overflow_cast-result-3 c =
    let b = board_of c.args.tables.now c.args.gases in
    let q = asked c.args.hot.now c.args.settings in
    let t = c.args.turns.now in
    let l = lent c.args.gas.now c.args.events.now c.args.words.now c.args.floats.now in
    let zero = sym (number_is b q t l _ c.extra_tests-extra.ensures c.accept.ensures) ∙ was-accepted c.in_ok-accept.was in
    omega (arith, few-zones b q t l zero c.accepted-o.ensures)

pub overflow_cast-result-4 : goal.overflow_cast-result-4
overflow_cast-result-4 c =
    let b = board_of c.args.tables.now c.args.gases in
    let q = asked c.args.hot.now c.args.settings in
    let t = c.args.turns.now in
    let l = lent c.args.gas.now c.args.events.now c.args.words.now c.args.floats.now in
    let zero = sym (number_is b q t l _ c.extra_tests-extra.ensures c.accept.ensures) ∙ was-accepted c.in_ok-accept.was in
    omega (arith, few_bytes b q t l zero c.accepted-o.ensures)

pub returns : goal.returns
returns c =
    let b = board_of c.args.tables.now c.args.gases in
    let q = asked c.args.hot.now c.args.settings in
    let t = c.args.turns.now in
    let l = lent c.args.gas.now c.args.events.now c.args.words.now c.args.floats.now in
    answered b q t l (number_is b q t l _ c.extra_tests-extra.ensures c.accept.ensures) (was-accepted c.in_ok-accept.was) c.accepted-o.ensures _ _
    c.clear_scratch.ensures.words_after c.clear_scratch.ensures.floats_after

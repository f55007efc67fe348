-- The refusals, and then the walk and the clearing. Assumes nothing.
use native.Mathlib.Omega.{arith}
use mathlib.Core.Path.{◌≡◌}
use Rattle.std.specs.Prelude.{Err}
use Rattle.turfs.specs.Tables.{board_at}
use Rattle.lent.specs.Given.{lent}
use Rattle.lent.proofs.Told.{was-accepted, was-refused}
use Rattle.call_planet_walk.proofs.Calls.{refused, ready, roomy, few, answered}
use Rattle.call_planet_walk.proofs.planet_walk.Goals as goal

pub returns-in_err-accept : goal.returns-in_err-accept
returns-in_err-accept c =
    let f = c.in_err-accept.field-0.0 in
    let same : c.from_residual.result ≡ Err f = grind arith in
    rw same (refused _ _ _ _ _ _ c.none-extra.ensures c.accept.ensures f (was-refused c.in_err-accept.was))

pub planet_events-bytes-requires : goal.planet_events-bytes-requires
planet_events-bytes-requires c =
    let args = c.args in
    let b = board_at args.tables args.gases in
    let l = lent args.gas.now args.events.now args.words.now args.floats.now in
    ready b args.limit args.id l _ _ c.none-extra.ensures c.accept.ensures (was-accepted c.in_ok-accept.was)

pub clear_scratch-requires : goal.clear_scratch-requires
clear_scratch-requires c =
    let args = c.args in
    let b = board_at args.tables args.gases in
    let l = lent args.gas.now args.events.now args.words.now args.floats.now in
    roomy b args.limit args.id l _ _ c.none-extra.ensures c.accept.ensures (was-accepted c.in_ok-accept.was) _ c.words-1.given

pub overflow_cast-result : goal.overflow_cast-result
overflow_cast-result c =
    let args = c.args in
    let b = board_at args.tables args.gases in
    let l = lent args.gas.now args.events.now args.words.now args.floats.now in
    omega (arith, few b args.limit args.id l _ _ c.none-extra.ensures c.accept.ensures (was-accepted c.in_ok-accept.was) _ _ c.planet_events-bytes.ensures.fact)

pub returns : goal.returns
returns c =
    let walk = c.planet_events-bytes.ensures in
    let clear = c.clear_scratch.ensures in
    answered _ _ _ _ _ _ c.none-extra.ensures c.accept.ensures (was-accepted c.in_ok-accept.was) _ _ walk.fact _ walk.words_after _ _ clear.words_after clear.floats_after

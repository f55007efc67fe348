-- The refusals, and then the walks and the clearing. Assumes nothing.
use native.Mathlib.Omega.{arith}
use mathlib.Core.Path.{◌≡◌}
use Rattle.std.specs.Prelude.{Err}
use Rattle.turfs.specs.Tables.{board_at}
use Rattle.lent.specs.Given.{lent}
use Rattle.lent.proofs.Told.{was-accepted, was-refused}
use Rattle.call_depressurize.proofs.Calls.{refused, is_zero, roomy, few, answered}
use Rattle.call_depressurize.proofs.depressurize.Goals as goal

pub returns-in_err-accept : goal.returns-in_err-accept
returns-in_err-accept c =
    let f = c.in_err-accept.field-0.0 in
    let same : c.from_residual.result ≡ Err f = grind arith in
    rw same (refused _ _ _ _ _ c.none-extra.ensures c.accept.ensures f (was-refused c.in_err-accept.was))

pub from_id-r-requires : goal.from_id-r-requires
from_id-r-requires c = is_zero _ c.args.breach _ _ _ c.none-extra.ensures c.accept.ensures (was-accepted c.in_ok-accept.was)

pub clear_scratch-requires : goal.clear_scratch-requires
clear_scratch-requires c =
    let args = c.args in
    let b = board_at args.tables args.gases in
    let l = lent args.gas.now args.events.now args.words.now args.floats.now in
    roomy b args.breach l _ _ c.none-extra.ensures c.accept.ensures (was-accepted c.in_ok-accept.was) _ _ c.words-1.given c.floats-1.given

pub overflow_cast-result : goal.overflow_cast-result
overflow_cast-result c =
    let args = c.args in
    let b = board_at args.tables args.gases in
    let l = lent args.gas.now args.events.now args.words.now args.floats.now in
    omega (arith, few b args.breach l _ _ c.none-extra.ensures c.accept.ensures (was-accepted c.in_ok-accept.was) _ _ _ _ _ c.from_id-r.ensures)

pub returns : goal.returns
returns c =
    let clear = c.clear_scratch.ensures in
    answered _ _ _ _ _ c.none-extra.ensures c.accept.ensures (was-accepted c.in_ok-accept.was) _ _ _ _ _ c.from_id-r.ensures _ _ clear.words_after clear.floats_after

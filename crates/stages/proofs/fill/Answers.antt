-- Refused as the number says, or filled. Assumes nothing.
use mathlib.Core.Path.{◌≡◌, ◌∙◌, sym}
use mathlib.Core.List.{[]}
use native.Mathlib.Omega.{arith}
use Rattle.std.specs.Prelude.{Err}
use Rattle.turfs.specs.Tables.{board_of}
use Rattle.lent.specs.Given.{lent}
use Rattle.lent.proofs.Told.{was-accepted, was-refused}
use Rattle.fill_all.specs.Held.{asked}
use Rattle.fill_all.proofs.Asked.{fill-asks}
use Rattle.stages.proofs.Calls.{refused-fills, done-fills}
use Rattle.stages.proofs.fill.Goals as goal

pub returns-in_err-accept : goal.returns-in_err-accept
returns-in_err-accept c =
    let f = c.in_err-accept.field-0.0 in
    let same : c.from_residual.result ≡ Err f = grind arith in
    rw same (refused-fills _ _ _ f (was-refused c.in_err-accept.was) (c.accept.ensures c.args.settings.limit c.args.settings.allowance))

pub fill_all-requires : goal.fill_all-requires
fill_all-requires c =
    let b = board_of c.args.tables.now c.args.gases in
    let q = asked c.args.hot.now c.args.settings in
    let l = lent c.args.gas.now c.args.events.now c.args.words.now c.args.floats.now in
    let whole = fill-asks b q [] l (sym (c.accept.ensures c.args.settings.limit c.args.settings.allowance) ∙ was-accepted c.in_ok-accept.was) in
    record {
      accepted = whole.0;
      fill_fits = whole.1.1;
    }

pub returns : goal.returns
returns c =
    let l = lent c.args.gas.now c.args.events.now c.args.words.now c.args.floats.now in
    done-fills _ _ l (c.accept.ensures c.args.settings.limit c.args.settings.allowance) (was-accepted c.in_ok-accept.was) c.fill_all.ensures

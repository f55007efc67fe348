use mathlib.Core.Path.{◌∙◌, sym}
use mathlib.Core.List.{[]}
use native.Mathlib.Omega.{arith}
use Rattle.basics.proofs.Tests.{every-up_next, every-up_fails, every-up_end}
use Rattle.turfs.specs.Tables.{board_of}
use Rattle.turfs.proofs.Near.{part-near}
use Rattle.turfs.proofs.Refused.{near-test}
use Rattle.turfs.proofs.refuse.rows_stamped.Goals as goal

pub returns-then-not-row_fits : goal.returns-then-not-row_fits
returns-then-not-row_fits c =
    let b = board_of c.args.tables.now 0 in
    let loop = c.loop-row in
    let test = c.loop-row-test in
    let links = c.links_of-from in
    let row-fits = c.row_fits in
    let fits = near-test b loop.row (part-near links.ensures.0 links.ensures.1) _ row-fits.ensures.0 in
    (sym (every-up_fails _ _ _ test.true (fits ∙ c.if-not-row_fits.true)) ∙ loop.invariant.1, λ a. omega (arith, row-fits.ensures.1 a, test.true))

pub loop-row-preserved : goal.loop-row-preserved
loop-row-preserved c =
    let b = board_of c.args.tables.now 0 in
    let loop = c.loop-row in
    let test = c.loop-row-test in
    let links = c.links_of-from in
    let row-fits = c.row_fits in
    let fits = near-test b loop.row (part-near links.ensures.0 links.ensures.1) _ row-fits.ensures.0 in
    (row-fits.ensures.1, sym (every-up_next _ _ _ test.true (fits ∙ c.if-not-row_fits.false)) ∙ loop.invariant.1)

pub returns : goal.returns
returns c = (sym (every-up_end _ c.loop-row.row _ c.loop-row-test.false) ∙ c.loop-row.invariant.1, λ a. omega (arith, c.loop-row.invariant.0 a))

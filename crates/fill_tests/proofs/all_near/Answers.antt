use mathlib.Core.Path.{refl, sym, ◌∙◌}
use Rattle.basics.proofs.Tests.{every-up_next, every-up_fails, every-up_end}
use Rattle.turfs.specs.Tables.{board_at}
use Rattle.fill_tests.proofs.Near.{near-told}
use Rattle.fill_tests.proofs.all_near.Goals as goal

pub returns-then-not-nearer : goal.returns-then-not-nearer
returns-then-not-nearer c =
    let b = board_at c.args.tables c.args.gases in
    let near = near-told b c.args.gas.now c.args.mine c.args.threshold c.loop-k.k _ (c.total-other.ensures b refl refl) c.nearer.ensures in
    sym (sym c.loop-k.invariant ∙ every-up_fails _ _ _ c.loop-k-test.true (near ∙ c.if-not-nearer.true))

pub loop-k-preserved : goal.loop-k-preserved
loop-k-preserved c =
    let b = board_at c.args.tables c.args.gases in
    let near = near-told b c.args.gas.now c.args.mine c.args.threshold c.loop-k.k _ (c.total-other.ensures b refl refl) c.nearer.ensures in
    sym (every-up_next _ _ _ c.loop-k-test.true (near ∙ c.if-not-nearer.false)) ∙ c.loop-k.invariant

pub returns : goal.returns
returns c = sym (sym c.loop-k.invariant ∙ every-up_end _ _ _ c.loop-k-test.false)

use native.Mathlib.Omega.{arith}
use Rattle.apart.proofs.Pass.{marked-but, row_now, going_next, going-fails, going_end}
use Rattle.apart.proofs.zone_apart.Goals as goal

pub returns-then-not-node_apart : goal.returns-then-not-node_apart
returns-then-not-node_apart c =
    let head = c.loop-i in
    let row = row_now head.invariant.0 c.requires.before c.requires.rows c.loop-i.auto.i c.loop-i-test.true in
    let fits = c.requires.pass.mixed _ row in
    let done = c.node_apart.ensures in
    record {
      but = marked-but (omega arith) (omega (arith, fits)) head.invariant.0 done;
      passed = λ zs. going-fails _ zs _ _ _ _ _ c.loop-i.auto.i _ _ _ (head.invariant.1 zs) head.invariant.0 c.requires.before c.requires.pass.room fits _ done c.loop-i-test.true c.if-not-node_apart.true;
    }

pub loop-i-preserved : goal.loop-i-preserved
loop-i-preserved c =
    let head = c.loop-i in
    let by-loop-test = c.loop-i-test in
    let row = row_now head.invariant.0 c.requires.before c.requires.rows c.loop-i.auto.i by-loop-test.true in
    let fits = c.requires.pass.mixed _ row in
    let done = c.node_apart.ensures in (
      marked-but (omega arith) (omega (arith, fits)) head.invariant.0 done,
      λ zs. going_next _ zs _ _ _ _ _ c.loop-i.auto.i _ _ _ (head.invariant.1 zs) head.invariant.0 c.requires.before c.requires.pass.room fits _ done by-loop-test.true c.if-not-node_apart.false,
    )

pub returns : goal.returns
returns c =
    let head = c.loop-i in record { but = head.invariant.0; passed = λ zs. going_end _ zs _ _ _ _ _ _ _ (head.invariant.1 zs) c.loop-i-test.false c.loop-i.auto.i c.loop-i.auto.i-end }

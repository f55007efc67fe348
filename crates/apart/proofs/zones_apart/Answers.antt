use mathlib.Core.Path.{sym}
use native.Mathlib.Omega.{arith}
use Rattle.reverse_links.proofs.Places.{but_none, but_then}
use Rattle.apart.proofs.Pass.{marks-start, zone-next, apart-true, apart-false}
use Rattle.apart.proofs.zones_apart.Goals as goal

pub loop-z-init : goal.loop-z-init
loop-z-init c = (but_none, λ zs e s. marks-start _ zs _ _ c.requires.by_index)

pub returns-then-not-zone_apart : goal.returns-then-not-zone_apart
returns-then-not-zone_apart c =
    let loop = c.loop-z in
    let loop-test = c.loop-z-test in
    let zone-apart = c.zone_apart in
    let head = loop in
    let by-loop-test = loop-test in
    let by-zone-apart = zone-apart in
    record {
      words = but_then (omega arith) (omega arith) head.invariant.0 by-zone-apart.ensures.but;
      answer = λ zs e s. sym (apart-false _ zs _ (omega (arith, e, by-loop-test.true)) ((zone-next c.requires.zones_laid head.invariant.0 _ by-loop-test.true _ zs s e (head.invariant.1 zs e s) (by-zone-apart.ensures.passed zs)).1 c.if-not-zone_apart.true));
    }

pub loop-z-preserved : goal.loop-z-preserved
loop-z-preserved c =
    let loop = c.loop-z in
    let loop-test = c.loop-z-test in
    let zone-apart = c.zone_apart in
    let head = loop in
    let by-loop-test = loop-test in
    let by-zone-apart = zone-apart in
    (but_then (omega arith) (omega arith) head.invariant.0 by-zone-apart.ensures.but, λ zs e s. (zone-next c.requires.zones_laid head.invariant.0 _ by-loop-test.true _ zs s e (head.invariant.1 zs e s) (by-zone-apart.ensures.passed zs)).0 c.if-not-zone_apart.false)

pub returns : goal.returns
returns c = record { words = c.loop-z.invariant.0; answer = λ zs e s. sym (apart-true _ zs _ _ _ (omega (arith, e, c.loop-z-test.false)) (c.loop-z.invariant.1 zs e s)) }

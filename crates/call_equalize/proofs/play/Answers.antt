-- What each part leaves is what the next one asks. Assumes nothing.
use native.Mathlib.Omega.{arith}
use Rattle.call_equalize.proofs.Between.{plan-fits, apart_fits, finish-fits, played-comes, tests-small}
use Rattle.call_equalize.proofs.play.Goals as goal

pub plan_all-requires : goal.plan_all-requires
plan_all-requires c = let whole = plan-fits c.requires in record { plannable = whole.0; fact = whole.1 }

pub apart-apart-requires : goal.apart-apart-requires
apart-apart-requires c = apart_fits c.requires _ _ c.plan_all.ensures

pub finish_all-used-requires : goal.finish_all-used-requires
finish_all-used-requires c =
    let plan-all = c.plan_all in
    let apart = c.apart-apart in
    finish-fits c.requires _ _ plan-all.ensures _ _ (apart.ensures c.args.gases)

pub overflow_add-result : goal.overflow_add-result
overflow_add-result c = omega (arith, tests-small c.requires)

pub returns : goal.returns
returns c =
    let plan-all = c.plan_all in
    let apart = c.apart-apart in
    let finish-all = c.finish_all-used in
    λ q l d. played-comes c.requires _ _ plan-all.ensures _ _ (apart.ensures c.args.gases) _ _ _ _ _ _ finish-all.ensures q l d

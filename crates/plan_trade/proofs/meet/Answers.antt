-- A turf that doesn't want leaves all as it is, so its trade may be left out. Assumes nothing.
use native.Mathlib.Omega.{arith}
use mathlib.Core.Path.{refl, ◌∙◌, sym}
use Rattle.plan_trade.proofs.Trades.{wanted, met_some, met-none}
use Rattle.plan_trade.proofs.meet.Goals as goal

pub wants_at-can-requires : goal.wants_at-can-requires
wants_at-can-requires c =
    let pre = c.requires in record { row_bound = omega (arith, pre.fit.turfs, pre.met); e_in_bounds = omega (arith, c.point.ensures.fit.floats, pre.met) }

pub returns-then-can : goal.returns-then-can
returns-then-can c = let point = c.point in
    record {
      plan_does = met_some _ _ _ _ _ _ c.requires.met point.ensures c.trade.ensures;
      value = wanted _ _ c.args.g c.args.r _ c.args.side c.requires.met point.ensures _ refl c.wants_at-can.ensures;
    }

pub returns-else-can : goal.returns-else-can
returns-else-can c = let point = c.point in
    record {
      plan_does = met-none _ _ _ _ _ _ c.requires.met point.ensures _ refl (sym c.wants_at-can.ensures ∙ c.if-can.false);
      value = wanted _ _ c.args.g c.args.r _ c.args.side c.requires.met point.ensures _ refl c.wants_at-can.ensures;
    }

-- Two loads, the bargain, two stores. Assumes nothing.
use Rattle.plan_trade.proofs.Trades.{traded}
use Rattle.plan_trade.proofs.trade.Goals as goal

pub store-requires : goal.store-requires
store-requires c = record { plan_fits = c.requires.plan_fits; row_lt_n = c.requires.a_lt_n }

pub store-requires-2 : goal.store-requires-2
store-requires-2 c = record { plan_fits = c.store.ensures.fit; row_lt_n = c.requires.g_lt_n }

pub returns : goal.returns
returns c =
    traded _ _ _ _ _ _ _ _ _ c.load-hand.ensures
    c.load-met.ensures c.barter-both.ensures
    c.store.ensures c.store-2.ensures

-- By the three ways out. Assumes nothing.
use mathlib.Core.Path.{◌∙◌, sym}
use Rattle.plan_trade.proofs.Trades.{bargain-none, bargain-all, bargain-some}
use Rattle.plan_trade.proofs.barter.Goals as goal

pub returns-then-not-wants : goal.returns-then-not-wants
returns-then-not-wants c = bargain-none _ _ _ (sym c.wants.ensures ∙ c.if-not-wants.true)

pub returns-then-more : goal.returns-then-more
returns-then-more c = bargain-all _ _ _ (sym c.wants.ensures ∙ c.if-not-wants.false) (sym c.more.ensures ∙ c.if-more.true)

pub returns : goal.returns
returns c = bargain-some _ _ _ (sym c.wants.ensures ∙ c.if-not-wants.false) (sym c.more.ensures ∙ c.if-more.false)

-- By whether the neighbour is immutable. Assumes nothing.
use borrow.Author.Tests.{not-true, not-false}
use Rattle.fill_links.proofs.Asks.{space-none, space-one}
use Rattle.events.proofs.Areas.{one-added}
use Rattle.fill_links.proofs.ask_space.Goals as goal

pub returns-then-not-m : goal.returns-then-not-m
returns-then-not-m c = space-none _ _ _ _ c.requires (not-true _ c.if-not-m.true)

pub returns : goal.returns
returns c = space-one _ _ _ _ (not-false _ c.if-not-m.false) (one-added _ c.append-used.ensures)

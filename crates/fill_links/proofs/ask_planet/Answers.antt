-- By whether the neighbour is planetary across a firelock. Assumes nothing.
use borrow.Author.Tests.{not-true, not-false}
use Rattle.fill_links.proofs.Asks.{planet-none, planet-one}
use Rattle.events.proofs.Areas.{one-added}
use Rattle.fill_links.proofs.ask_planet.Goals as goal

pub returns-then-not-m : goal.returns-then-not-m
returns-then-not-m c = planet-none _ _ _ _ c.requires (not-true _ c.if-not-m.true)

pub returns : goal.returns
returns c = planet-one _ _ _ _ (not-false _ c.if-not-m.false) (one-added _ c.append-used.ensures)

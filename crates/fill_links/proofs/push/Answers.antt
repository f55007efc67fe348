-- By whether the neighbour is enabled. Assumes nothing.
use borrow.Author.Tests.{not-true, not-false}
use mathlib.Core.Path.{refl}
use Rattle.fill_links.proofs.Stores.{push-none, push-more}
use Rattle.fill_links.proofs.push.Goals as goal

pub returns-then-not-m : goal.returns-then-not-m
returns-then-not-m c = push-none _ _ _ _ _ _ c.requires.fit (not-true _ c.if-not-m.true)

pub returns : goal.returns
returns c = push-more _ _ _ _ _ _ c.requires.fit (not-false _ c.if-not-m.false) c.requires.room _ c.queue_at.ensures _ refl

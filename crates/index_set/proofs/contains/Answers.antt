-- A row's place says whether the row is in the set, by the law of the set. Assumes nothing.
use mathlib.Core.Path.{◌∙◌}
use borrow.Author.Tests.{le-ltb}
use Rattle.index_set.proofs.Queue.{contains_here, contains_not}
use Rattle.index_set.proofs.contains.Goals as goal

pub returns-then-place-count : goal.returns-then-place-count
returns-then-place-count c = contains_here _ _ _ _ _ _ c.requires.0 c.requires.1 c.if-place-count.true

pub returns-else-place-count : goal.returns-else-place-count
returns-else-place-count c = le-ltb _ _ c.if-place-count.false ∙ contains_not _ _ _ _ _ _ c.requires.0 c.requires.1 c.if-place-count.false

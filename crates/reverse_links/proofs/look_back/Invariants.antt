-- The loop's invariant: a search from k on finds what one from `from` on finds. Assumes nothing.
use mathlib.Core.Path.{◌≡◌}
use Rattle.reverse_links.specs.Words.{sought}
use Rattle.reverse_links.proofs.look_back.Given as goal

abbrev pub invariant-loop-k : goal.invariant-loop-k
invariant-loop-k l = sought l.neighbours l.k l.to l.r ≡ sought l.neighbours l.from l.to l.r

-- The chain tests each element by its place, once the lengths are right. Assumes nothing.
use Rattle.std.proofs.Common.{rules, ◌≡◌, ◌∙◌}
use Rattle.std.proofs.lemmas.Iterator.{YieldsList-from_slice}
use Rattle.std.proofs.lemmas.Iterator.Consumers.{YieldsList-from_enumerate}
use Rattle.std.proofs.lemmas.Iterator.Search.{all_from_yields_List}
use Rattle.std.specs.List.{list_all, enumerate_from}
use borrow.Author.Tests.{tests, le-leb, lt-leb}
use lib.Ieee.{nan}
use Rattle.vectors.specs.Amounts.{same_bits}
use Rattle.vectors.specs.Cells.{float_before}
use Rattle.vectors_same.proofs.Tests.{all-below, length-met, length-unmet}
use Rattle.vectors_same.specs.Same.{cells_after, same_floats}
use Rattle.vectors_same.proofs.same_floats.Goals as goal

pub returns-then-zeros-floats : goal.returns-then-zeros-floats
unfolding same_floats
returns-then-zeros-floats c =
    let all : c.all.result ≡ list_all (λ p. same_bits p.1 (cells_after c.args.zeros p.0 (float_before p.0))) (enumerate_from 0 c.args.floats.now) = all_from_yields_List (λ p. same_bits p.1 (cells_after c.args.zeros p.0 (float_before p.0))) _ _ _ c.all.ensures.ran (YieldsList-from_enumerate (YieldsList-from_slice c.args.floats.now (cc)) (cc)) (λ x b q k. search (rules, tests)) in
    length-met _ _ (le-leb _ _ c.if-zeros-floats.true) (all ∙ all-below nan (λ i x. same_bits x (cells_after c.args.zeros i (float_before i))) c.args.floats.now)

pub returns-else-zeros-floats : goal.returns-else-zeros-floats
unfolding same_floats
returns-else-zeros-floats c = length-unmet _ _ (lt-leb _ _ c.if-zeros-floats.false)

-- The chain tests each element by its place, once the lengths are right. Assumes nothing.
use Rattle.std.proofs.Common.{rules, ◌≡◌, ◌∙◌, eqb}
use Rattle.std.proofs.lemmas.Iterator.{YieldsList-from_slice}
use Rattle.std.proofs.lemmas.Iterator.Consumers.{YieldsList-from_enumerate}
use Rattle.std.proofs.lemmas.Iterator.Search.{all_from_yields_List}
use Rattle.std.specs.List.{list_all, enumerate_from}
use borrow.Author.Tests.{tests, le-leb, lt-leb}
use Rattle.vectors.specs.Cells.{word_before}
use Rattle.vectors_same.proofs.Tests.{all-below, length-met, length-unmet}
use Rattle.vectors_same.specs.Same.{cells_after, same_words}
use Rattle.vectors_same.proofs.same_words.Goals as goal

pub returns-then-zeros-words : goal.returns-then-zeros-words
unfolding same_words
returns-then-zeros-words c =
    let all : c.all.result ≡ list_all (λ p. eqb p.1 (cells_after c.args.zeros p.0 (word_before p.0))) (enumerate_from 0 c.args.words.now) = all_from_yields_List (λ p. eqb p.1 (cells_after c.args.zeros p.0 (word_before p.0))) _ _ _ c.all.ensures.ran (YieldsList-from_enumerate (YieldsList-from_slice c.args.words.now (cc)) (cc)) (λ x b q k. search (rules, tests)) in
    length-met _ _ (le-leb _ _ c.if-zeros-words.true) (all ∙ all-below 0 (λ i w. eqb w (cells_after c.args.zeros i (word_before i))) c.args.words.now)

pub returns-else-zeros-words : goal.returns-else-zeros-words
unfolding same_words
returns-else-zeros-words c = length-unmet _ _ (lt-leb _ _ c.if-zeros-words.false)

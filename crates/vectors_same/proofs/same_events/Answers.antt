-- The chain tests each element by its place, once the lengths are right. Assumes nothing.
use Rattle.std.proofs.Common.{rules, ◌≡◌, ◌∙◌, eqb}
use Rattle.std.proofs.lemmas.Iterator.{YieldsList-from_slice}
use Rattle.std.proofs.lemmas.Iterator.Consumers.{YieldsList-from_enumerate}
use Rattle.std.proofs.lemmas.Iterator.Search.{all_from_yields_List}
use Rattle.std.specs.List.{list_all, enumerate_from}
use borrow.Author.Tests.{tests, le-leb, lt-leb}
use Rattle.vectors_same.proofs.Tests.{all-below, length-met, length-unmet}
use Rattle.vectors_same.specs.Same.{event_after, same_events}
use Rattle.vectors_same.proofs.same_events.Goals as goal

pub returns-then-expected-events : goal.returns-then-expected-events
unfolding same_events
returns-then-expected-events c =
    let all : c.all.result ≡ list_all (λ p. eqb p.1 (event_after c.args.expected.now p.0)) (enumerate_from 0 c.args.events.now) = all_from_yields_List (λ p. eqb p.1 (event_after c.args.expected.now p.0)) _ _ _ c.all.ensures.ran (YieldsList-from_enumerate (YieldsList-from_slice c.args.events.now (cc)) (cc)) (λ x b q k. search (rules, tests)) in
    length-met _ _ (le-leb _ _ c.if-expected-events.true) (all ∙ all-below 0 (λ i b. eqb b (event_after c.args.expected.now i)) c.args.events.now)

pub returns-else-expected-events : goal.returns-else-expected-events
unfolding same_events
returns-else-expected-events c = length-unmet _ _ (lt-leb _ _ c.if-expected-events.false)

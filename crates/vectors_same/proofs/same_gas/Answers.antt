-- The chain tests each element by its place, once the lengths are right. Assumes nothing.
use Rattle.std.proofs.Common.{rules, ◌≡◌, ◌∙◌}
use Rattle.std.proofs.lemmas.Iterator.{YieldsList-from_slice, YieldsList-from_zip}
use Rattle.std.proofs.lemmas.Iterator.Search.{all_from_yields_List}
use Rattle.std.specs.List.{list_all, zip}
use borrow.Author.Tests.{tests, eq-eqb, ne_eqb}
use lib.Ieee.{nan}
use Rattle.vectors.specs.Amounts.{same_bits}
use Rattle.vectors_same.proofs.Tests.{zip-below, length-met, length-unmet}
use Rattle.vectors_same.specs.Same.{same_gas}
use Rattle.vectors_same.proofs.same_gas.Goals as goal

pub returns-then-expected-gas : goal.returns-then-expected-gas
unfolding same_gas
returns-then-expected-gas c =
    let all : c.all.result ≡ list_all (λ p. same_bits p.0 p.1) (zip c.args.gas.now c.args.expected.now) = all_from_yields_List (λ p. same_bits p.0 p.1) c.all.new.self _ _ c.all.ensures.ran (YieldsList-from_zip {s = c.zip.result} (YieldsList-from_slice c.args.gas.now (cc)) (YieldsList-from_slice c.args.expected.now (cc))) (λ x b q k. search (rules, tests)) in
    length-met _ _ (eq-eqb _ _ c.if-expected-gas.true) (all ∙ zip-below nan 0 same_bits c.args.gas.now c.args.expected.now c.if-expected-gas.true)

pub returns-else-expected-gas : goal.returns-else-expected-gas
unfolding same_gas
returns-else-expected-gas c = length-unmet _ _ (ne_eqb _ _ c.if-expected-gas.false)

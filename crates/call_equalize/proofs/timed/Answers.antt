-- Each test as the definition makes it. Assumes nothing.
use native.Mathlib.Omega.{arith}
use Rattle.call_equalize.proofs.Between.{tests-small}
use Rattle.call_equalize.proofs.Clock.{over-filling, over_first, over_last, not_over}
use Rattle.call_equalize.proofs.timed.Goals as goal

pub returns-then-s : goal.returns-then-s
returns-then-s c = λ q l a d. over-filling c.requires _ _ q l a d c.if-s.true c.cancel.ensures

pub overflow_add-tests : goal.overflow_add-tests
overflow_add-tests c = omega (arith, tests-small c.requires)

pub overflow_add-tests-then-tests-allowance : goal.overflow_add-tests-then-tests-allowance
overflow_add-tests-then-tests-allowance c = omega (arith, tests-small c.requires)

pub returns-then-tests-allowance : goal.returns-then-tests-allowance
returns-then-tests-allowance c = λ q l a d. over_first c.requires _ _ q l a d c.if-s.false c.if-tests-allowance.true c.cancel-then-tests-allowance.ensures

pub returns-then-tests-allowance-2 : goal.returns-then-tests-allowance-2
returns-then-tests-allowance-2 c = λ q l a d. over_last c.requires _ _ q l a d c.if-s.false c.if-tests-allowance.false c.if-tests-allowance-2.true c.cancel-then-tests-allowance-2.ensures

pub returns : goal.returns
returns c =
    let if1 = c.if-s in
    let if2 = c.if-tests-allowance in
    let if3 = c.if-tests-allowance-2 in
    let play = c.play in
    λ q l a d. not_over c.requires _ _ q l a d if1.false if2.false if3.false (play.ensures q l d)

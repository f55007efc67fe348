use lib.Dec.{ltb}
use Rattle.std.proofs.Common.{rules, tests}
use Rattle.std.proofs.lemmas.List.Sorted.{answers_always}
use Rattle.turfs.proofs.Order.{pairwise-answer}
use Rattle.turfs.proofs.refuse.ascending.Goals as goal

pub returns : goal.returns
returns c = pairwise-answer ltb _ _ (c.is_sorted_by.ensures.cases ltb (answers_always _ _ _ (λ f a r g k. search (rules, tests))))

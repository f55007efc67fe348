-- Each part is filled by its own rule. Assumes nothing.
use Rattle.std.proofs.Common.{rules}
use mathlib.Core.Path.{◌≡◌, ◌∙◌, ap}
use mathlib.Core.List.{List}
use Prim.Native.Nat.{ℕ}
use lib.Ieee.{nan}
use lib.ListN.{get_or}
use Rattle.vectors.specs.Vectors.{number, section}
use Rattle.vectors.specs.Amounts.{amount}
use Rattle.vectors.proofs.fill.Goals as goal

pub returns : goal.returns
returns c = record {
  bytes = λ i h. search (rules, c.fill_by.ensures i 0 h);
  gas = λ i h.
      let put : get_or c.fill_by-2.new.cells i nan ≡ amount (number c.part-amounts.result.now i) = search (rules, c.fill_by-2.ensures i nan h) in
      put ∙ ap (λ (l : List ℕ). amount (number l i)) (c.part-amounts.ensures ∙ ap (section c.args.numbers.now) c.gas_of.ensures.0);
  words = λ i h. c.fill_by-3.ensures i 0 h;
  floats = λ i h. search (rules, c.fill_by-4.ensures i nan h);
  events = λ i h. c.fill_by-5.ensures i 0 h;
}

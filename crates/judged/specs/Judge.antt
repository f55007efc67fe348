-- A case as the vectors have it, with the Rust's answer: what a call is lent, and what it must answer and leave.
use Rattle.std.specs.Prelude.{List, [], ◌∷◌, ◌++◌, map, Bool, ℕ, ◌+◌, ◌*◌, ◌%◌, length, drop, replicate}
use Rattle.basics.specs.Loops.{all_of, up_from, same}
use Rattle.basics.specs.Floats.{of_word, bits, exact}
use Rattle.rules_board.specs.Board.{Board}
use Rattle.rules_lent.specs.Lent.{Lent}
use Rattle.rules_equalize.specs.Equalize.{Ask}
use Rattle.rules_equalize.specs.Result.{equalize_result}
use Rattle.rules_equalize.specs.Worked.{numbers}
use Rattle.rules_depressurize.specs.declared.Breach.{Breach}
use Rattle.rules_depressurize.specs.Depressurize.{depressurize_result}
use Rattle.rules_planet.specs.Planet.{planet_result}

-- how long the lent areas are: event bytes, words, floats
pub record Lengths : Type 0 where
  pub area : ℕ
  pub words : ℕ
  pub floats : ℕ

-- the areas with what they hold before, by the vectors' rule
unfoldable pub lends : Lengths → List ℕ → Lent
lends n gas = record {
  gas = exact gas;
  area = map (λ i. (i * 31 + 7) % 256) (up_from 0 n.area);
  words = map (λ i. (i * 2654435761 + 1) % 4294967296) (up_from 0 n.words);
  floats = map (λ i. of_word (0x3f00_0000 + i)) (up_from 0 n.floats);
}

-- what the Rust says of a call: the answer's numbers, the amounts by their bits, the event bytes, how many words and floats are zero
pub record Due : Type 0 where
  pub answer : List ℕ
  pub gas : List ℕ
  pub bytes : List ℕ
  pub words : ℕ
  pub floats : ℕ

-- the answer's numbers and every lent cell are as they are due
unfoldable pub meets_due : List ℕ → Lent → Lent → Due → Bool
meets_due answer before l d = all_of (
    same answer d.answer
    ∷ same (bits l.gas) (bits (exact d.gas))
    ∷ same l.area (d.bytes ++ drop (length d.bytes) before.area)
    ∷ same l.words (replicate d.words 0 ++ drop d.words before.words)
    ∷ same (bits l.floats) (replicate d.floats 0 ++ drop d.floats (bits before.floats))
    ∷ [])

-- a call of each kind
unfoldable pub equalizes_as : Board → Ask → List ℕ → List ℕ → Lengths → Due → Bool
equalizes_as b q turns gas n d =
    let o = equalize_result b q turns (lends n gas) in
    meets_due (numbers o.answer) (lends n gas) o.lent d

unfoldable pub depressurizes_as : Board → Breach → List ℕ → Lengths → Due → Bool
depressurizes_as b q gas n d =
    let o = depressurize_result b q (lends n gas) in
    meets_due (o.answer.number ∷ o.answer.outcome ∷ o.answer.bytes ∷ []) (lends n gas) o.lent d

unfoldable pub walks_planet_as : Board → ℕ → ℕ → List ℕ → Lengths → Due → Bool
walks_planet_as b limit id gas n d =
    let o = planet_result b limit id (lends n gas) in
    meets_due (o.answer.number ∷ o.answer.bytes ∷ []) (lends n gas) o.lent d

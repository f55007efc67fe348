-- The answers as the numbers of the C interface.
use Rattle.std.specs.Prelude.{◌≡◌, List, [], ◌∷◌, ℕ, ◌<◌, get_or}
use Rattle.basics.specs.Lists.{All}
use Rattle.rules_board.specs.Board.{Board}
use Rattle.events.specs.Interface.{read_event, write_event}
use Rattle.rules_lent.specs.Lent.{Lent, Result}
use Rattle.rules_equalize.specs.declared.EqualizeAnswer.{EqualizeAnswer}
use Rattle.rules_planet.specs.declared.PlanetAnswer.{PlanetAnswer}
use Rattle.rules_depressurize.specs.declared.DepressurizeAnswer.{DepressurizeAnswer}

-- number, cancelled, processed, tests, zones, apart, bytes
abbrev pub equalize_numbers : EqualizeAnswer → List ℕ
equalize_numbers a = a.number ∷ a.cancelled ∷ a.processed ∷ a.tests ∷ a.zones ∷ a.apart ∷ a.bytes ∷ []

-- number, bytes
abbrev pub planet_numbers : PlanetAnswer → List ℕ
planet_numbers a = a.number ∷ a.bytes ∷ []

-- number, outcome, bytes
abbrev pub depressurize_numbers : DepressurizeAnswer → List ℕ
depressurize_numbers a = a.number ∷ a.outcome ∷ a.bytes ∷ []

-- ---- what the exported functions promise

-- every number is a u32
abbrev pub Words : List ℕ → Type 0
Words xs = All (λ x. x < 4294967296) xs

-- A call on the board b, by the definition's result o: what it returned, wrote into the answer and left of what it was lent. The ids are u32s by their table's type.
pub record Answers {A : Type 0} (numbers : A → List ℕ) (b : Board) (o : Result A) (number : ℕ) (answer : List ℕ) (left : Lent) : Type 0 where
  pub returned : number ≡ get_or (numbers o.answer) 0 0
  pub written : answer ≡ numbers o.answer
  pub lent : left ≡ o.lent
  pub ids : Words b.ids

-- the reader at an offset
pub record ReadAnswers (area : List ℕ) (offset number : ℕ) (answer : List ℕ) : Type 0 where
  pub returned : number ≡ get_or (read_event area offset) 0 0
  pub written : answer ≡ read_event area offset

-- The writer at an offset, of a kind and four fields, which are u32s by their type.
pub record WriteAnswers (kind f0 f1 f2 f3 : ℕ) (area : List ℕ) (offset number : ℕ) (answer left : List ℕ) : Type 0 where
  pub returned : number ≡ get_or (write_event kind f0 f1 f2 f3 area offset).answer 0 0
  pub done : record { answer = answer; area = left } ≡ write_event kind f0 f1 f2 f3 area offset
  pub fields : Words (f0 ∷ f1 ∷ f2 ∷ f3 ∷ [])

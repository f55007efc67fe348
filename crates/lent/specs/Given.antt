-- What the code of a call hands to the refusals, and what it knows once none was met.
use Rattle.std.specs.Prelude.{◌≡◌, List, ◌&&◌, ℕ, ◌≤◌, leb, length, Float, Result, Ok, Err}
use Rattle.std.specs.Borrow.{Bor}
use Rattle.basics.specs.Floats.{finite_sign_clear}
use Rattle.rules_board.specs.Board.{Board}
use Rattle.rules_board.specs.Refuse.{ascending}
use Rattle.mixture.specs.Accepted.{GasAccepted}
use Rattle.rules_lent.specs.Lent.{Lent, Extra, words_room, floats_room}
use Rattle.lent.specs.declared.ExtraTests.{ExtraTests}
use Rattle.lent.specs.declared.Refusal.{Refusal}
use Rattle.lent.specs.declared.Refusal.TheVariants.{Sizes, Tables, Ids, Links, Amounts, Hot, Areas}

-- the areas, in the order of the C interface
abbrev pub lent : List Float → List ℕ → List ℕ → List Float → Lent
lent gas area words floats = record { gas = gas; area = area; words = words; floats = floats }

-- the same of references to them, as contracts have it
abbrev pub lent_at : Bor (List Float) → Bor (List ℕ) → Bor (List ℕ) → Bor (List Float) → Lent
lent_at gas events words floats = lent gas.now events.now words.now floats.now

-- the code's answers to what only equalize is lent
pub record Tests (x : Extra) (t : ExtraTests) : Type 0 where
  pub sizes : t.sizes ≡ (leb (length x.hot) 4096 && leb (length x.turns) 65536)
  pub threshold : t.threshold ≡ finite_sign_clear x.threshold
  pub hot : t.hot ≡ ascending x.hot

-- the number of a refusal
abbrev pub number_of : Refusal → ℕ
number_of Sizes = 1
number_of Tables = 2
number_of Ids = 3
number_of Links = 4
number_of Amounts = 5
number_of Hot = 6
number_of Areas = 7

-- the number that a call answers: 0 where it was accepted
abbrev pub refusal_number : {A : Type 0} → Result A Refusal → ℕ
refusal_number (Ok a) = 0
refusal_number (Err r) = number_of r

-- a call that is not refused
pub record Given (b : Board) (l : Lent) (room : ℕ) : Type 0 where
  pub accepted : GasAccepted b l.gas
  pub area : room ≤ length l.area
  pub words : words_room b ≤ length l.words
  pub floats : floats_room b ≤ length l.floats

-- What the lent cells hold before a call.
use Rattle.std.specs.Prelude.{List, ◌≡◌, ℕ, ◌+◌, ◌*◌, ◌%◌, ◌<◌, length, get_or, Float}
use Rattle.std.specs.Float.{nan}
use Rattle.vectors.specs.Vectors.{number, section, gas_of}
use Rattle.vectors.specs.Amounts.{amount}

-- what fills the scratch words, the floats by their bits, and the event area
abbrev pub word_before : ℕ → ℕ
word_before i = (i % 0x1_0000_0000 * 2_654_435_761 + 1) % 0x1_0000_0000

abbrev pub float_before : ℕ → ℕ
float_before i = 0x3f00_0000 + i % 65536

abbrev pub event_before : ℕ → ℕ
event_before i = (i % 256 * 31 + 7) % 256

-- every cell of a list is what a rule says
abbrev pub Follows : {A : Type 0} → List A → A → (ℕ → A) → Type 0
Follows l d rule = (i : ℕ) → i < length l → get_or l i d ≡ rule i

-- what a case lends before its call; its numbers are there as bytes too
pub record CaseFilled (ns : List ℕ) (bs : List ℕ) (gs : List Float) (ws : List ℕ) (fs : List Float) (es : List ℕ) : Type 0 where
  pub bytes : Follows bs 0 (λ i. number ns i % 256)
  pub gas : Follows gs nan (λ i. amount (number (section ns (gas_of ns)) i))
  pub words : Follows ws 0 word_before
  pub floats : Follows fs nan (λ i. amount (float_before i))
  pub events : Follows es 0 event_before

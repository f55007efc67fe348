-- Whether the lent cells hold after a call what a vector expects.
use Rattle.std.specs.Prelude.{List, ◌≡◌, Bool, ◌&&◌, Option, None, Some, ℕ, ◌≤◌, eqb, leb, ltb, length, get_or, Float, if◌then◌else◌}
use Rattle.std.specs.Float.{nan}
use Rattle.basics.specs.Loops.{every, up_from}
use Rattle.vectors.specs.Vectors.{onward, number, section, span_at}
use Rattle.vectors.specs.Amounts.{same_bits}
use Rattle.vectors.specs.Cells.{word_before, float_before, event_before}
use Rattle.vectors_same.specs.declared.Due.{Due}
use Rattle.vectors_same.specs.declared.Vector.{Vector}

-- what a vector expects from a place on: the answer, gas and event bytes, and how many words and floats are 0
pub record Expects (ns : List ℕ) (at : ℕ) (d : Due) : Type 0 where
  pub answer : d.answer ≡ span_at ns at
  pub gas : d.gas ≡ span_at ns d.answer.to
  pub events : d.events ≡ span_at ns d.gas.to
  pub words : d.words ≡ number ns d.events.to
  pub floats : d.floats ≡ number ns (onward d.events.to 1)
  pub next : d.next ≡ onward d.events.to 2
  pub whole : d.events.to ≤ d.next

-- the tests of the cells 0 to n - 1
abbrev pub below : ℕ → (ℕ → Bool) → Bool
below n test = every test (up_from 0 n)

-- the answer is what is expected
abbrev pub answer_met : List ℕ → List ℕ → ℕ → Bool
answer_met due answer i = eqb (number answer i) (number due i)

unfoldable pub same_answer : List ℕ → List ℕ → Bool
same_answer due answer = below (length answer) (answer_met due answer) && eqb (length due) (length answer)

-- so is the gas
abbrev pub gas_met : List ℕ → List Float → ℕ → Bool
gas_met due gas i = same_bits (get_or gas i nan) (number due i)

unfoldable pub same_gas : List ℕ → List Float → Bool
same_gas due gas = below (length gas) (gas_met due gas) && eqb (length due) (length gas)

-- the event area begins with what is expected and goes on as it was
unfoldable pub event_after : List ℕ → ℕ → ℕ
event_after due i = if ltb i (length due) then number due i else event_before i

abbrev pub event_met : List ℕ → List ℕ → ℕ → Bool
event_met due events i = eqb (number events i) (event_after due i)

unfoldable pub same_events : List ℕ → List ℕ → Bool
same_events due events = below (length events) (event_met due events) && leb (length due) (length events)

-- so many words, and floats, are 0, and the others as they were
unfoldable pub cells_after : ℕ → ℕ → ℕ → ℕ
cells_after zeros i before = if ltb i zeros then 0 else before

abbrev pub word_met : ℕ → List ℕ → ℕ → Bool
word_met zeros words i = eqb (number words i) (cells_after zeros i (word_before i))

unfoldable pub same_words : ℕ → List ℕ → Bool
same_words zeros words = below (length words) (word_met zeros words) && leb zeros (length words)

abbrev pub float_met : ℕ → List Float → ℕ → Bool
float_met zeros floats i = same_bits (get_or floats i nan) (cells_after zeros i (float_before i))

unfoldable pub same_floats : ℕ → List Float → Bool
same_floats zeros floats = below (length floats) (float_met zeros floats) && leb zeros (length floats)

-- the answer, the gas and the events are what is expected
unfoldable pub same_results : Due → List ℕ → List ℕ → List Float → List ℕ → Bool
same_results d ns answer gas events =
    same_answer (section ns d.answer) answer && (same_gas (section ns d.gas) gas && same_events (section ns d.events) events)

-- all cells are what is expected
unfoldable pub met : List ℕ → List ℕ → List Float → List ℕ → List Float → List ℕ → Due → Bool
met ns answer gas words floats events d =
    same_words d.words words && (same_floats d.floats floats && same_results d ns answer gas events)

-- what comes of a call that answered and left these, held to what is expected from a place on: nothing where the vector isn't whole
module _ (ns : List ℕ) (gas : List Float) (words : List ℕ) (floats : List Float) (events : List ℕ) where
  pub record CellsHeld (answer : List ℕ) (at : ℕ) (r : Option Vector) : Type 0 where
    pub due : Due
    pub stands : Expects ns at due
    pub says : r ≡ (if ltb (length ns) due.next then None
        else Some (record {
          call = number ns 0;
          number = number answer 0;
          expected = at;
          met = met ns answer gas words floats events due;
          next = due.next;
        }))

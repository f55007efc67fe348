-- A worked way back, which antt computes. Assumes nothing.
use Rattle.std.specs.Prelude.{List, [], ◌∷◌, Bool, ℕ, T, length, replicate}
use Rattle.std.specs.Float.Ieee.{add, sub, sum as isum, mul, div, neg, round, size, span, climb, units, odd, of_int, of_bits, of_fields, to_bits, lt, le, eq, ne}
use Rattle.basics.specs.Loops.{run, all_of, same, up_from}
use Rattle.basics.specs.Floats.{0f, bits, of_count, whole}
use Rattle.rules_board.specs.Board.{Board, immutable}
use Rattle.rules_board.specs.Draw.{space, starts_from, all_ways, draw, locked_chain, as_is}
use Rattle.rules_mixture.specs.Mixture.{sum, amounts, change, total_mix, total, clear_air}
use Rattle.rules_events.specs.Events.{kind_of, fields_of, words_bytes, encode, encode_all}
use Rattle.rules_events.specs.declared.Event.{Event}
use Rattle.rules_events.specs.declared.Event.TheVariants.{HighPressure, Difference, FloorRip}
use Rattle.rules_back.specs.Back.{differences, back_to, back}

-- the setting, the rows in the order of the way back, their directions, the gas; then the gas, the events and the rips afterwards
unfoldable pub comes : Board → ℕ → List ℕ → List ℕ → List ℕ → List ℕ → List Event → List Event → Bool
comes b arrows rows direction gas gas' es rips =
    let s = run (back b arrows direction) rows (record { gas = whole gas; amount = replicate (length direction) 0f; events = []; rips = [] }) in
    all_of (same (bits s.gas) (bits (whole gas')) ∷ same (encode_all s.events) (encode_all es) ∷ same (encode_all s.rips) (encode_all rips) ∷ [])

-- as in the Rust: the arrow runs from the id to itself
abbrev pub difference : ℕ → ℕ → Event
difference id n = Difference id (of_count n) id id

-- a chain whose turfs point at the next one; its last is space
abbrev chain_comes : ℕ → List Event → Bool
chain_comes arrows es = comes (locked_chain as_is space) arrows (0 ∷ 1 ∷ 2 ∷ []) (2 ∷ 3 ∷ 0 ∷ []) (32 ∷ 16 ∷ 4 ∷ []) (0 ∷ 0 ∷ 4 ∷ []) es (FloorRip 10 (of_count 16) ∷ FloorRip 20 (of_count 4) ∷ [])

-- its records as in the Rust
abbrev pub loops_of_chain : List Event
loops_of_chain = HighPressure 10 ∷ difference 10 16 ∷ HighPressure 20 ∷ difference 20 20 ∷ difference 20 20 ∷ []

-- towards space: the arrow from 10 ends at 20, not at its target, and the one from 20 at 30, whose record is the second
abbrev pub out_of_chain : List Event
out_of_chain = HighPressure 10 ∷ Difference 10 (of_count 16) 10 20 ∷ HighPressure 20 ∷ Difference 20 (of_count 20) 20 30 ∷ Difference 30 (of_count 20) 20 30 ∷ []

-- a turf's sum is the total of the one it points at; kind 7 again where that one has no direction
pub worked : T (all_of (
    chain_comes 0 loops_of_chain
    ∷ chain_comes 1 out_of_chain
    ∷ chain_comes 256 out_of_chain
    ∷ []))
unfolding comes run all_of same up_from bits whole immutable starts_from all_ways draw sum amounts change total_mix total clear_air kind_of fields_of words_bytes encode encode_all
    differences back_to back add sub isum mul div neg round size span climb units odd of_int of_bits of_fields to_bits lt le eq ne
worked = tt

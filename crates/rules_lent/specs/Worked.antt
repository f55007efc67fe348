-- Worked loans: what a call is lent, when it is refused, and what it leaves, which antt computes. Assumes nothing.
use Rattle.std.specs.Prelude.{List, [], ◌∷◌, ◌++◌, Bool, not, ℕ, ◌-◌, T, eqb, length, drop, replicate, Float}
use Rattle.std.specs.Float.Ieee.{add, sub, sum as isum, mul, div, neg, round, size, span, climb, units, odd, of_int, of_bits, of_fields, to_bits, lt, le, eq, ne}
use Rattle.basics.specs.Loops.{every, all_of, up_from, member, same}
use Rattle.basics.specs.Floats.{0f, finite_sign_clear, bits, of_count, whole, exact}
use Rattle.rules_board.specs.Board.{Board}
use Rattle.rules_board.specs.Refuse.{pairwise, distinct, sizes_fit, tables_fit, row_fits, links_fit}
use Rattle.rules_board.specs.Draw.{to, turf, starts_from, all_ways, draw, with_gases, board_a}
use Rattle.rules_mixture.specs.Mixture.{amount_fits}
use Rattle.rules_events.specs.Events.{kind_of, fields_of, words_bytes, encode, encode_all}
use Rattle.rules_events.specs.declared.Event.{Event}
use Rattle.rules_events.specs.declared.Event.TheVariants.{HighPressure}
use Rattle.rules_lent.specs.Lent.{Lent, Extra, no_extra, words_room, floats_room, first_failed, refusal, after}

-- what stands past the room
abbrev pub spare : List ℕ
spare = 4 ∷ 5 ∷ 6 ∷ []

-- areas with contents of their own, three cells longer than they have to be
unfoldable pub lend : Board → ℕ → List Float → Lent
lend b room gas = record {
  gas = gas;
  area = replicate room 170 ++ spare;
  words = replicate (words_room b) 7 ++ spare;
  floats = replicate (floats_room b) (of_count 7) ++ whole spare;
}

-- every lent cell after a call that was done: the scratch's room zero, the rest as it was
unfoldable pub leaves : Board → ℕ → List Float → List Event → Lent → Bool
leaves b room gas es l = all_of (
    same (bits l.gas) (bits gas)
    ∷ same l.area (encode_all es ++ (replicate (room - length (encode_all es)) 170 ++ spare))
    ∷ same l.words (replicate (words_room b) 0 ++ spare)
    ∷ same (bits l.floats) (replicate (floats_room b) 0 ++ bits (whole spare))
    ∷ [])

-- every lent cell as it was
unfoldable pub unchanged : Lent → Lent → Bool
unchanged l m = all_of (
    same (bits l.gas) (bits m.gas)
    ∷ same l.area m.area
    ∷ same l.words m.words
    ∷ same (bits l.floats) (bits m.floats)
    ∷ [])

-- n cells fewer of event area, words or floats
abbrev pub less_area : ℕ → Lent → Lent
less_area n l = record { gas = l.gas; area = drop n l.area; words = l.words; floats = l.floats }

abbrev pub less_words : ℕ → Lent → Lent
less_words n l = record { gas = l.gas; area = l.area; words = drop n l.words; floats = l.floats }

abbrev pub less_floats : ℕ → Lent → Lent
less_floats n l = record { gas = l.gas; area = l.area; words = l.words; floats = drop n l.floats }

-- what board A is lent, by a call that needs 24 event bytes
abbrev pub lent_a : List Float → Lent
lent_a gas = lend board_a 24 gas

-- 20 stands before 10
abbrev pub falling : Board
falling = draw (turf 20 (to 1 ∷ []) ∷ turf 10 (to 0 ∷ []) ∷ [])

-- hot ids out of order, a threshold below 0, turns to a number
abbrev pub bad_hot : Extra
bad_hot = record { hot = 20 ∷ 10 ∷ []; turns = []; threshold = 0f }

abbrev pub bad_threshold : Extra
bad_threshold = record { hot = []; turns = []; threshold = neg (of_count 1) }

abbrev pub with_turns : ℕ → Extra
with_turns n = record { hot = []; turns = replicate n 0; threshold = 0f }

-- hot ids to a number, out of order
abbrev pub with_hot : ℕ → Extra
with_hot n = record { hot = replicate n 7; turns = []; threshold = 0f }

pub worked : T (all_of (
    eqb (words_room board_a) 60
    ∷ eqb (floats_room board_a) 12
    -- each number before the next one
    ∷ eqb (refusal board_a (lent_a (whole (1 ∷ 2 ∷ []))) 24 no_extra) 0
    ∷ eqb (refusal (with_gases 0 falling) (lent_a (whole (1 ∷ 2 ∷ []))) 24 no_extra) 1
    ∷ eqb (refusal board_a (lent_a (whole (1 ∷ 2 ∷ []))) 24 (with_turns 65537)) 1
    ∷ eqb (refusal board_a (lent_a (whole (1 ∷ 2 ∷ []))) 24 (with_turns 65536)) 0
    ∷ eqb (refusal board_a (lent_a (whole (1 ∷ 2 ∷ []))) 24 (with_hot 4097)) 1
    ∷ eqb (refusal board_a (lent_a (whole (1 ∷ 2 ∷ []))) 24 (with_hot 4096)) 6
    ∷ eqb (refusal falling (lent_a (whole (1 ∷ []))) 24 no_extra) 2
    ∷ eqb (refusal (draw (turf 20 (to 1 ∷ []) ∷ turf 10 (to 1 ∷ []) ∷ [])) (lent_a (whole (1 ∷ 2 ∷ []))) 24 no_extra) 3
    ∷ eqb (refusal (draw (turf 10 (to 1 ∷ []) ∷ turf 20 (to 1 ∷ []) ∷ [])) (lent_a (exact (1 ∷ 0xffff_ffff ∷ []))) 24 no_extra) 4
    ∷ eqb (refusal board_a (lent_a (exact (1 ∷ 0xbf80_0000 ∷ []))) 24 bad_hot) 5
    ∷ eqb (refusal board_a (lent_a (whole (1 ∷ 2 ∷ []))) 24 bad_threshold) 5
    ∷ eqb (refusal board_a (less_area 27 (lent_a (whole (1 ∷ 2 ∷ [])))) 24 bad_hot) 6
    -- 7 where a cell is missing, and not before
    ∷ eqb (refusal board_a (less_area 3 (less_words 3 (less_floats 3 (lent_a (whole (1 ∷ 2 ∷ [])))))) 24 no_extra) 0
    ∷ eqb (refusal board_a (less_area 4 (lent_a (whole (1 ∷ 2 ∷ [])))) 24 no_extra) 7
    ∷ eqb (refusal board_a (less_words 4 (lent_a (whole (1 ∷ 2 ∷ [])))) 24 no_extra) 7
    ∷ eqb (refusal board_a (less_floats 4 (lent_a (whole (1 ∷ 2 ∷ [])))) 24 no_extra) 7
    -- what is left
    ∷ leaves board_a 24 (whole (3 ∷ 4 ∷ [])) (HighPressure 10 ∷ []) (after board_a (lent_a (whole (1 ∷ 2 ∷ []))) (whole (3 ∷ 4 ∷ [])) (HighPressure 10 ∷ []))
    ∷ not (unchanged (lent_a (whole (1 ∷ 2 ∷ []))) (after board_a (lent_a (whole (1 ∷ 2 ∷ []))) (whole (1 ∷ 2 ∷ [])) []))
    ∷ []))
unfolding lend leaves unchanged every all_of up_from member same finite_sign_clear bits whole exact pairwise distinct sizes_fit tables_fit row_fits links_fit
    starts_from all_ways draw with_gases amount_fits kind_of fields_of words_bytes encode encode_all words_room floats_room first_failed refusal after
    add sub isum mul div neg round size span climb units odd of_int of_bits of_fields to_bits lt le eq ne
worked = tt

-- Worked depressurizations, which antt computes. Assumes nothing.
use Rattle.std.specs.Prelude.{List, [], ◌∷◌, ◌++◌, Bool, ℕ, T}
use Rattle.std.specs.Float.Ieee.{add, sub, sum as isum, mul, div, neg, round, size, span, climb, units, odd, of_int, of_bits, of_fields, to_bits, lt, le, eq, ne}
use Rattle.basics.specs.Loops.{run, times, every, all_of, member, first, same, up_from}
use Rattle.basics.specs.Floats.{finite_sign_clear, bits, of_count, whole}
use Rattle.rules_board.specs.Board.{Board, enabled, planetary, immutable, firelock, links_of, row_of}
use Rattle.rules_board.specs.Refuse.{pairwise, distinct, sizes_fit, tables_fit, row_fits, links_fit}
use Rattle.rules_board.specs.Draw.{to, lock, turf, disabled, planet, space, starts_from, all_ways, draw, twenty, locked_chain, as_is}
use Rattle.rules_mixture.specs.Mixture.{sum, amounts, change, total_mix, total, clear_air, amount_fits}
use Rattle.rules_events.specs.Events.{kind_of, fields_of, words_bytes, encode, encode_all}
use Rattle.rules_events.specs.declared.Event.{Event}
use Rattle.rules_events.specs.declared.Event.TheVariants.{Firelock, Target, HighPressure, FloorRip}
use Rattle.rules_lent.specs.Lent.{words_room, floats_room, first_failed, refusal, after}
use Rattle.rules_lent.specs.Worked.{lend, leaves}
use Rattle.rules_walk.specs.Walk.{walk_link, spread, walk_next, walk}
use Rattle.rules_walk.specs.Visit.{at_space, visit_space}
use Rattle.rules_out.specs.Out.{out_to, out_link, out_row, out_next, outward}
use Rattle.rules_back.specs.Back.{differences, back_to, back}
use Rattle.rules_back.specs.Worked.{difference, loops_of_chain, out_of_chain}
use Rattle.rules_depressurize.specs.declared.Breach.{Breach}
use Rattle.rules_depressurize.specs.Depressurize.{breach_of, way_back, from_walk, from_row, depressurize, depressurize_room, depressurize_number, depressurize_done, depressurize_result}

-- what is asked, gas; then outcome and bytes, the gas and the events afterwards
unfoldable pub depressurizes : Board → Breach → List ℕ → ℕ → ℕ → List ℕ → List Event → Bool
depressurizes b q gas outcome bytes gas' es =
    let o = depressurize_result b q (lend b (depressurize_room b) (whole gas)) in
    all_of (
    same (o.answer.number ∷ o.answer.outcome ∷ o.answer.bytes ∷ []) (0 ∷ outcome ∷ bytes ∷ [])
    ∷ leaves b (depressurize_room b) (whole gas') es o.lent
    ∷ [])

-- the records of a chain whose last turf is space, around those of the way back
abbrev pub chain_events : List Event → List Event
chain_events es = (Firelock 10 20 ∷ Firelock 20 30 ∷ Target 30 30 ∷ Target 20 30 ∷ Target 10 30 ∷ []) ++ (es ++ (FloorRip 10 (of_count 16) ∷ FloorRip 20 (of_count 4) ∷ []))

pub worked : T (all_of (
    -- amounts add up on the way back; kind 7 again where the next one has no direction; kind 8 at the end
    depressurizes (locked_chain as_is space) (breach_of 10 2 0) (32 ∷ 16 ∷ 4 ∷ []) 2 160 (0 ∷ 0 ∷ 4 ∷ []) (chain_events loops_of_chain)
    -- towards space: all else as before
    ∷ depressurizes (locked_chain as_is space) (breach_of 10 2 1) (32 ∷ 16 ∷ 4 ∷ []) 2 160 (0 ∷ 0 ∷ 4 ∷ []) (chain_events out_of_chain)
    -- the limit on the way out: place 1 expands, place 2 doesn't
    ∷ depressurizes (locked_chain as_is space) (breach_of 20 1 0) (32 ∷ 16 ∷ 4 ∷ []) 2 96 (32 ∷ 0 ∷ 4 ∷ [])
    (Firelock 20 30 ∷ Target 30 30 ∷ Target 20 30 ∷ HighPressure 20 ∷ difference 20 4 ∷ difference 20 4 ∷ FloorRip 20 (of_count 4) ∷ [])
    -- a disabled turf is reached from space
    ∷ depressurizes (draw (space (turf 10 (to 1 ∷ [])) ∷ disabled twenty ∷ [])) (breach_of 10 10 0) (0 ∷ 8 ∷ []) 2 84 (0 ∷ 0 ∷ [])
    (Target 10 10 ∷ Target 20 10 ∷ HighPressure 20 ∷ difference 20 0 ∷ difference 20 0 ∷ FloorRip 20 (of_count 0) ∷ [])
    -- a planetary turf ends all, events so far staying
    ∷ depressurizes (draw (turf 10 (lock 1 ∷ to 2 ∷ []) ∷ space twenty ∷ planet (turf 30 (to 0 ∷ [])) ∷ [])) (breach_of 10 10 0) (32 ∷ 0 ∷ 4 ∷ []) 1 24 (32 ∷ 0 ∷ 4 ∷ [])
    (Firelock 10 20 ∷ Target 20 20 ∷ [])
    -- no space within the limit; an unknown id
    ∷ depressurizes (locked_chain as_is space) (breach_of 10 1 0) (32 ∷ 16 ∷ 4 ∷ []) 0 12 (32 ∷ 16 ∷ 4 ∷ []) (Firelock 10 20 ∷ [])
    ∷ depressurizes (locked_chain as_is space) (breach_of 11 10 0) (32 ∷ 16 ∷ 4 ∷ []) 0 0 (32 ∷ 16 ∷ 4 ∷ []) []
    ∷ []))
unfolding depressurizes lend leaves run times every all_of member first same up_from finite_sign_clear bits whole enabled planetary immutable firelock links_of row_of pairwise distinct sizes_fit tables_fit row_fits links_fit starts_from all_ways draw
    sum amounts change total_mix total clear_air amount_fits kind_of fields_of words_bytes encode encode_all words_room floats_room first_failed refusal after walk_link spread walk_next walk
    at_space visit_space out_to out_link out_row out_next outward differences back_to back way_back from_walk from_row depressurize depressurize_number depressurize_done depressurize_result
    add sub isum mul div neg round size span climb units odd of_int of_bits of_fields to_bits lt le eq ne
worked = tt

-- Worked calls of equalize, which antt computes; all of document 01's boards stand in the table. Assumes nothing.
use Rattle.std.specs.Prelude.{List, [], ◌∷◌, Bool, ℕ, T, Float}
use Rattle.std.specs.Int.Count.{count_leading_zeros, count_trailing_zeros}
use Rattle.std.specs.Float.Ieee.{add, sub, sum as isum, mul, div, neg, round, size, span, climb, units, odd, of_int, of_bits, of_fields, to_bits, lt, le, eq, ne}
use Rattle.basics.specs.Loops.{run, times, keep, every, all_of, up_from, member, first, same}
use Rattle.basics.specs.Floats.{finite_sign_clear, bits, of_count, of_word, whole, exact}
use Rattle.rules_board.specs.Board.{Board, enabled, planetary, immutable, firelock, links_of, row_of}
use Rattle.rules_board.specs.Refuse.{pairwise, distinct, sizes_fit, tables_fit, row_fits, links_fit}
use Rattle.rules_board.specs.Draw.{to, turf, planet, starts_from, all_ways, draw, twenty, board_a, twins, breached}
use Rattle.rules_mixture.specs.Mixture.{sum, scale, plus, ratio, remove, amounts, change, total_mix, total, move_air, amount_fits}
use Rattle.rules_events.specs.Events.{kind_of, fields_of, words_bytes, encode, encode_all}
use Rattle.rules_events.specs.declared.Event.{Event}
use Rattle.rules_events.specs.declared.Event.TheVariants.{DepressurizeWanted, Pressure}
use Rattle.rules_lent.specs.Lent.{Lent, words_room, floats_room, first_failed, refusal, after}
use Rattle.rules_lent.specs.Worked.{lend, leaves, unchanged, less_area}
use Rattle.rules_fill.specs.Fill.{insert, end_fill, reach_link, expand, pop, pop_next, fill}
use Rattle.rules_plan.specs.Edges.{edges_of, edge, adjust}
use Rattle.rules_plan.specs.Plan.{chosen, trade, meet, seek_to, fast_move, eligible, fast_turf, seek_link, seek_row, seek_next, drain_to, drain, serve, fast_pass, share_out, deltas, planned_zone}
use Rattle.rules_finish.specs.Finish.{zero_lifted, pairs, finish_givers, send, finish_pair, finish}
use Rattle.rules_finish.specs.Turns.{node_count, unfinished, turn, by_turns, finish_all}
use Rattle.rules_equalize.specs.Equalize.{Ask, after_fill, near, passed_over, fill_from, hot_row, hot_id, filled_all, planned_all, has_mix, apart, cancel, planned, played, equalize}
use Rattle.rules_equalize.specs.Result.{equalize_room, refused_equalize, equalize_number, equalize_done, equalize_result}
use Rattle.rules_equalize.specs.declared.EqualizeAnswer.{EqualizeAnswer}

-- board A's request but for the hot ids: threshold 0.5, limit 10, allowance 100
abbrev pub ask : List ℕ → Ask
ask hot = record { hot = hot; threshold = of_word 0x3f00_0000; limit = 10; allowance = 100 }

-- the same with another limit, allowance or threshold
abbrev pub limited : ℕ → Ask → Ask
limited n q = record { hot = q.hot; threshold = q.threshold; limit = n; allowance = q.allowance }

abbrev pub allowed : ℕ → Ask → Ask
allowed n q = record { hot = q.hot; threshold = q.threshold; limit = q.limit; allowance = n }

abbrev pub threshold : ℕ → Ask → Ask
threshold w q = record { hot = q.hot; threshold = of_word w; limit = q.limit; allowance = q.allowance }

-- done: processed, tests, zones, apart, bytes
abbrev pub done : ℕ → ℕ → ℕ → ℕ → ℕ → EqualizeAnswer
done processed tests zones apart bytes =
    record { number = 0; cancelled = 0; processed = processed; tests = tests; zones = zones; apart = apart; bytes = bytes }

-- cancelled: processed, tests, bytes
abbrev pub cancelled : ℕ → ℕ → ℕ → EqualizeAnswer
cancelled processed tests bytes =
    record { number = 0; cancelled = 1; processed = processed; tests = tests; zones = 0; apart = 0; bytes = bytes }

-- an answer's seven numbers
unfoldable pub numbers : EqualizeAnswer → List ℕ
numbers a = a.number ∷ a.cancelled ∷ a.processed ∷ a.tests ∷ a.zones ∷ a.apart ∷ a.bytes ∷ []

-- board, request, turns, gas; then the answer, the gas and the events afterwards
unfoldable pub equalizes : Board → Ask → List ℕ → List Float → EqualizeAnswer → List Float → List Event → Bool
equalizes b q turns gas a gas' es =
    let o = equalize_result b q turns (lend b (equalize_room b) gas) in
    all_of (same (numbers o.answer) (numbers a) ∷ leaves b (equalize_room b) gas' es o.lent ∷ [])

-- board, request, turns, and what is lent; then the number, all else being zero and unchanged
unfoldable pub refused : Board → Ask → List ℕ → Lent → ℕ → Bool
refused b q turns l n =
    let o = equalize_result b q turns l in
    all_of (same (numbers o.answer) (numbers (refused_equalize n)) ∷ unchanged o.lent l ∷ [])

pub worked : T (all_of (
    equalizes board_a (ask (10 ∷ [])) [] (whole (32 ∷ 16 ∷ [])) (done 2 4 1 1 20) (whole (24 ∷ 24 ∷ [])) (Pressure 0 (of_count 8) 10 20 ∷ [])
    -- the last test, the test after filling, a pop's
    ∷ equalizes board_a (allowed 3 (ask (10 ∷ []))) [] (whole (32 ∷ 16 ∷ [])) (cancelled 2 4 0) (whole (32 ∷ 16 ∷ [])) []
    ∷ equalizes board_a (allowed 2 (ask (10 ∷ []))) [] (whole (32 ∷ 16 ∷ [])) (cancelled 0 3 0) (whole (32 ∷ 16 ∷ [])) []
    ∷ equalizes board_a (allowed 1 (ask (10 ∷ []))) [] (whole (32 ∷ 16 ∷ [])) (cancelled 0 2 0) (whole (32 ∷ 16 ∷ [])) []
    -- 10 moles are filled; equal totals are nearer than 0.5, not than 0; a turf found already is passed over
    ∷ equalizes board_a (ask (10 ∷ [])) [] (whole (10 ∷ 16 ∷ [])) (done 2 4 1 1 20) (whole (13 ∷ 13 ∷ [])) (Pressure 0 (of_count 3) 20 10 ∷ [])
    ∷ equalizes board_a (ask (10 ∷ 20 ∷ [])) [] (whole (32 ∷ 32 ∷ [])) (done 0 2 0 1 0) (whole (32 ∷ 32 ∷ [])) []
    ∷ equalizes board_a (threshold 0 (ask (10 ∷ 20 ∷ []))) [] (whole (32 ∷ 32 ∷ [])) (done 2 4 1 1 0) (whole (32 ∷ 32 ∷ [])) []
    -- an ignored zone's links are owned as before: 30 and 35 have no edge in the zone of 40
    ∷ equalizes breached (ask (10 ∷ 40 ∷ [])) [] (whole (64 ∷ 0 ∷ 100 ∷ 0 ∷ 12 ∷ [])) (done 3 7 1 1 8) (whole (64 ∷ 0 ∷ 100 ∷ 0 ∷ 12 ∷ [])) (DepressurizeWanted 10 ∷ [])
    -- each zone is evened out to its own total
    ∷ equalizes twins (ask (10 ∷ 30 ∷ [])) [] (whole (32 ∷ 16 ∷ 64 ∷ 0 ∷ [])) (done 4 6 2 1 40) (whole (24 ∷ 24 ∷ 32 ∷ 32 ∷ []))
    (Pressure 0 (of_count 8) 10 20 ∷ Pressure 1 (of_count 32) 30 40 ∷ [])
    -- a break at the planet limit leaves a turf in two zones: not apart
    ∷ equalizes (draw (planet (turf 10 (to 1 ∷ [])) ∷ twenty ∷ [])) (limited 0 (ask (10 ∷ 20 ∷ []))) [] (whole (32 ∷ 16 ∷ [])) (done 3 4 2 0 0) (whole (32 ∷ 16 ∷ [])) []
    -- refused
    ∷ refused board_a (ask (10 ∷ 10 ∷ [])) [] (lend board_a (equalize_room board_a) (whole (32 ∷ 16 ∷ []))) 6
    ∷ refused board_a (ask (10 ∷ [])) [] (less_area 4 (lend board_a (equalize_room board_a) (whole (32 ∷ 16 ∷ [])))) 7
    ∷ []))
unfolding equalizes refused numbers lend leaves unchanged run times keep every all_of up_from member first same finite_sign_clear bits whole exact
    enabled planetary immutable firelock links_of row_of pairwise distinct sizes_fit tables_fit row_fits links_fit starts_from all_ways draw
    sum scale plus ratio remove amounts change total_mix total move_air amount_fits kind_of fields_of words_bytes encode encode_all
    words_room floats_room first_failed refusal after insert end_fill reach_link expand pop pop_next fill
    edges_of edge adjust chosen trade meet seek_to fast_move eligible fast_turf seek_link seek_row seek_next drain_to drain serve fast_pass share_out deltas planned_zone
    zero_lifted pairs finish_givers send finish_pair finish node_count unfinished turn by_turns finish_all
    after_fill near passed_over fill_from hot_row hot_id filled_all planned_all has_mix apart cancel planned played equalize equalize_number equalize_done equalize_result
    count_leading_zeros count_trailing_zeros add sub isum mul div neg round size span climb units odd of_int of_bits of_fields to_bits lt le eq ne
worked = tt

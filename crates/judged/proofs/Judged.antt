-- The Rust's answers: antt computes every row by the definitions. Assumes nothing.
use lib.Dec.{T}
use lib.Count.{count_leading_zeros, count_trailing_zeros}
use lib.Ieee.{add, sub, sum as isum, mul, div, neg, round, size, span, climb, units, odd, of_int, of_bits, of_fields, to_bits, lt, le, eq, ne}
use Rattle.basics.specs.Loops.{run, times, keep, every, all_of, up_from, member, first, same}
use Rattle.basics.specs.Floats.{finite_sign_clear, bits, exact}
use Rattle.rules_board.specs.Board.{enabled, planetary, immutable, firelock, links_of, row_of}
use Rattle.rules_board.specs.Refuse.{pairwise, distinct, sizes_fit, tables_fit, row_fits, links_fit}
use Rattle.rules_mixture.specs.Mixture.{sum, scale, plus, ratio, remove, amounts, change, total_mix, total, move_air, clear_air, amount_fits}
use Rattle.rules_events.specs.Events.{kind_of, fields_of, words_bytes, encode, encode_all}
use Rattle.rules_lent.specs.Lent.{words_room, floats_room, first_failed, refusal, after}
use Rattle.rules_fill.specs.Fill.{insert, end_fill, reach_link, expand, pop, pop_next, fill}
use Rattle.rules_plan.specs.Edges.{edges_of, edge, adjust}
use Rattle.rules_plan.specs.Plan.{chosen, trade, meet, seek_to, fast_move, eligible, fast_turf, seek_link, seek_row, seek_next, drain_to, drain, serve, fast_pass, share_out, deltas, planned_zone}
use Rattle.rules_finish.specs.Finish.{zero_lifted, pairs, finish_givers, send, finish_pair, finish}
use Rattle.rules_finish.specs.Turns.{node_count, unfinished, turn, by_turns, finish_all}
use Rattle.rules_equalize.specs.Equalize.{after_fill, near, passed_over, fill_from, hot_row, hot_id, filled_all, planned_all, has_mix, apart, cancel, planned, played, equalize}
use Rattle.rules_equalize.specs.Result.{equalize_number, equalize_done, equalize_result}
use Rattle.rules_equalize.specs.Worked.{numbers}
use Rattle.rules_walk.specs.Walk.{walk_link, spread, walk_next, walk}
use Rattle.rules_walk.specs.Visit.{visit_planet, at_space, visit_space}
use Rattle.rules_planet.specs.Planet.{planet_from, planet_walk, planet_number, planet_done, planet_result}
use Rattle.rules_out.specs.Out.{out_to, out_link, out_row, out_next, outward}
use Rattle.rules_back.specs.Back.{differences, back_to, back}
use Rattle.rules_depressurize.specs.Depressurize.{way_back, from_walk, from_row, depressurize, depressurize_number, depressurize_done, depressurize_result}
use Rattle.judged.specs.Judge.{lends, meets_due, equalizes_as, depressurizes_as, walks_planet_as}
use Rattle.judged.specs.Rows.{judged_rows}

pub judged : T (all_of judged_rows)
unfolding judged_rows lends meets_due exact equalizes_as numbers depressurizes_as walks_planet_as
    run times keep every all_of up_from member first same finite_sign_clear bits
    enabled planetary immutable firelock links_of row_of pairwise distinct sizes_fit tables_fit row_fits links_fit
    sum scale plus ratio remove amounts change total_mix total move_air clear_air amount_fits
    kind_of fields_of words_bytes encode encode_all
    words_room floats_room first_failed refusal after
    insert end_fill reach_link expand pop pop_next fill
    edges_of edge adjust chosen trade meet seek_to fast_move eligible fast_turf seek_link seek_row seek_next drain_to drain serve fast_pass share_out deltas planned_zone
    zero_lifted pairs finish_givers send finish_pair finish node_count unfinished turn by_turns finish_all
    after_fill near passed_over fill_from hot_row hot_id filled_all planned_all has_mix apart cancel planned played equalize
    equalize_number equalize_done equalize_result
    walk_link spread walk_next walk visit_planet planet_from planet_walk planet_number planet_done planet_result
    at_space visit_space out_to out_link out_row out_next outward differences back_to back way_back from_walk from_row depressurize depressurize_number depressurize_done depressurize_result
    add sub isum mul div neg round size span climb units odd of_int of_bits of_fields to_bits lt le eq ne count_leading_zeros count_trailing_zeros
judged = tt

-- The table: antt computes every row. Assumes nothing.
use lib.Dec.{T}
use lib.Count.{count_leading_zeros, count_trailing_zeros}
use lib.Ieee.{add, sub, sum as isum, mul, div, neg, round, size, span, climb, units, odd, of_int, of_bits, of_fields, to_bits, lt, le, eq, ne}
use Rattle.basics.specs.Loops.{run, times, keep, every, all_of, up_from, member, first, same}
use Rattle.basics.specs.Floats.{finite, finite_sign_clear, bits, whole, exact}
use Rattle.rules_board.specs.Board.{enabled, planetary, immutable, firelock, links_of, row_of}
use Rattle.rules_board.specs.Refuse.{pairwise, distinct, sizes_fit, tables_fit, row_fits, links_fit}
use Rattle.rules_board.specs.Draw.{starts_from, all_ways, draw, sharing, with_gases}
use Rattle.rules_mixture.specs.Mixture.{sum, scale, plus, ratio, remove, amounts, change, total_mix, total, move_air, clear_air, amount_fits}
use Rattle.rules_events.specs.Events.{kind_of, fields_of, sound, words_bytes, encode, encode_all, size_of, decode, whole_at, read_at, read_numbers}
use Rattle.rules_events.specs.Lister.{digits, hex, line, bad_line, list_reading, list_next, list_all, listing}
use Rattle.rules_lent.specs.Lent.{words_room, floats_room, first_failed, refusal, after}
use Rattle.rules_lent.specs.Worked.{lend, leaves, unchanged}
use Rattle.rules_fill.specs.Fill.{insert, end_fill, reach_link, expand, pop, pop_next, fill}
use Rattle.rules_plan.specs.Edges.{edges_of, edge, adjust}
use Rattle.rules_plan.specs.Plan.{chosen, trade, meet, seek_to, fast_move, eligible, fast_turf, seek_link, seek_row, seek_next, drain_to, drain, serve, fast_pass, share_out, deltas, planned_zone}
use Rattle.rules_finish.specs.Finish.{zero_lifted, pairs, finish_givers, send, finish_pair, finish}
use Rattle.rules_finish.specs.Turns.{node_count, unfinished, turn, by_turns, finish_all}
use Rattle.rules_equalize.specs.Equalize.{after_fill, near, passed_over, fill_from, hot_row, hot_id, filled_all, planned_all, has_mix, apart, cancel, planned, played, equalize}
use Rattle.rules_equalize.specs.Result.{equalize_number, equalize_done, equalize_result}
use Rattle.rules_equalize.specs.Worked.{numbers, equalizes, refused}
use Rattle.rules_walk.specs.Walk.{walk_link, spread, walk_next, walk}
use Rattle.rules_walk.specs.Visit.{visit_planet, at_space, visit_space}
use Rattle.rules_planet.specs.Planet.{planet_from, planet_walk, planet_number, planet_done, planet_result}
use Rattle.rules_planet.specs.Worked.{walks_planet}
use Rattle.rules_out.specs.Out.{out_to, out_link, out_row, out_next, outward}
use Rattle.rules_back.specs.Back.{differences, back_to, back}
use Rattle.rules_depressurize.specs.Depressurize.{way_back, from_walk, from_row, depressurize, depressurize_number, depressurize_done, depressurize_result}
use Rattle.rules_depressurize.specs.Worked.{depressurizes}
use Rattle.table.specs.Rows.{marks, rooms, writes, document_rows, misread_rows, rule_rows, refusal_rows, rows}

pub table : T (all_of rows)
unfolding rows document_rows misread_rows rule_rows refusal_rows marks rooms writes whole exact lend leaves unchanged equalizes refused numbers depressurizes walks_planet
    run times keep every all_of up_from member first same finite finite_sign_clear bits
    enabled planetary immutable firelock links_of row_of pairwise distinct sizes_fit tables_fit row_fits links_fit starts_from all_ways draw sharing with_gases
    sum scale plus ratio remove amounts change total_mix total move_air clear_air amount_fits
    kind_of fields_of sound words_bytes encode encode_all size_of decode whole_at read_at read_numbers
    digits hex line bad_line list_reading list_next list_all listing
    words_room floats_room first_failed refusal after
    insert end_fill reach_link expand pop pop_next fill
    edges_of edge adjust chosen trade meet seek_to fast_move eligible fast_turf seek_link seek_row seek_next drain_to drain serve fast_pass share_out deltas planned_zone
    zero_lifted pairs finish_givers send finish_pair finish node_count unfinished turn by_turns finish_all
    after_fill near passed_over fill_from hot_row hot_id filled_all planned_all has_mix apart cancel planned played equalize
    equalize_number equalize_done equalize_result
    walk_link spread walk_next walk visit_planet planet_from planet_walk planet_number planet_done planet_result
    at_space visit_space out_to out_link out_row out_next outward differences back_to back way_back from_walk from_row depressurize depressurize_number depressurize_done depressurize_result
    add sub isum mul div neg round size span climb units odd of_int of_bits of_fields to_bits lt le eq ne count_leading_zeros count_trailing_zeros
table = tt

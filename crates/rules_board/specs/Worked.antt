-- Worked tables, which antt computes. Assumes nothing.
use Rattle.std.specs.Prelude.{[], ◌∷◌, not, T}
use Rattle.basics.specs.Loops.{every, all_of, up_from, member, first, same}
use Rattle.rules_board.specs.Board.{any_bit, lock_bit, links_of, neighbours_of, enabled, firelock}
use Rattle.rules_board.specs.Refuse.{within, pairwise, distinct, sizes_fit, tables_fit, ids_fit, row_fits, links_fit}
use Rattle.rules_board.specs.Draw.{to, lock, turf, starts_from, all_ways, draw, sharing, with_gases, board_a, chain}

pub worked : T (all_of (
    -- bits 0 and 1 enable, bit 1 of a link is the firelock, unknown bits are ignored
    any_bit 1 ∷ any_bit 2 ∷ any_bit 7 ∷ not (any_bit 12)
    ∷ lock_bit 2 ∷ lock_bit 7 ∷ not (lock_bit 1) ∷ not (lock_bit 4)
    -- a turf's links and neighbours
    ∷ same (links_of chain 1) (1 ∷ 2 ∷ [])
    ∷ same (neighbours_of chain 1) (0 ∷ 2 ∷ [])
    -- nothing to refuse
    ∷ sizes_fit chain ∷ tables_fit chain 3 ∷ ids_fit chain ∷ links_fit chain
    -- 1
    ∷ within 1 4096 4096 ∷ not (within 1 4096 4097) ∷ not (within 1 4096 0)
    ∷ not (sizes_fit (draw [])) ∷ sizes_fit (with_gases 64 board_a) ∷ not (sizes_fit (with_gases 65 board_a))
    -- 2
    ∷ not (tables_fit chain 4)
    -- 3: equal ids
    ∷ not (ids_fit (draw (turf 10 (to 1 ∷ []) ∷ turf 10 (to 0 ∷ []) ∷ [])))
    -- 4: a mixture row and a neighbour out of range, a turf linked to itself (the last, the first), a neighbour twice (next to each other, apart);
    -- a turf that two others name is nothing to refuse
    ∷ not (links_fit (sharing (0 ∷ 2 ∷ []) 2 board_a))
    ∷ not (links_fit (draw (turf 10 (to 1 ∷ []) ∷ turf 20 (to 2 ∷ []) ∷ [])))
    ∷ not (links_fit (draw (turf 10 (to 1 ∷ []) ∷ turf 20 (to 1 ∷ []) ∷ [])))
    ∷ not (links_fit (draw (turf 10 (to 0 ∷ []) ∷ turf 20 (to 0 ∷ []) ∷ [])))
    ∷ not (links_fit (draw (turf 10 (to 1 ∷ lock 1 ∷ []) ∷ turf 20 [] ∷ [])))
    ∷ not (links_fit (draw (turf 10 (to 1 ∷ to 2 ∷ to 1 ∷ []) ∷ turf 20 [] ∷ turf 30 [] ∷ [])))
    ∷ links_fit (draw (turf 10 (to 1 ∷ []) ∷ turf 20 [] ∷ turf 30 (to 1 ∷ []) ∷ []))
    ∷ []))
unfolding every all_of up_from member first same links_of enabled firelock pairwise distinct sizes_fit tables_fit row_fits links_fit
    starts_from all_ways draw sharing with_gases
worked = tt

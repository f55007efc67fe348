-- Worked finishes and orders of turns, which antt computes. Assumes nothing.
use Rattle.std.specs.Prelude.{List, [], ◌∷◌, map, Bool, ℕ, suc, ◌+◌, ◌*◌, T, replicate, Float}
use Rattle.std.specs.Float.Ieee.{add, sub, sum as isum, mul, div, neg, round, size, span, climb, units, odd, of_int, of_bits, of_fields, to_bits, lt, le, eq, ne}
use Rattle.basics.specs.Loops.{run, times, keep, all_of, first, same, up_from, snoc}
use Rattle.basics.specs.Floats.{0f, bits, of_count, whole}
use Rattle.rules_board.specs.Board.{Board, link_count, links_of}
use Rattle.rules_board.specs.Draw.{to, turf, starts_from, all_ways, draw, sharing, board_a, chain}
use Rattle.rules_mixture.specs.Mixture.{sum, scale, plus, ratio, remove, amounts, change, total_mix, total, move_air}
use Rattle.rules_plan.specs.Edges.{edges_of, edge}
use Rattle.rules_plan.specs.Worked.{up, down}
use Rattle.rules_events.specs.Events.{kind_of, fields_of, words_bytes, encode, encode_all}
use Rattle.rules_events.specs.declared.Event.{Event}
use Rattle.rules_events.specs.declared.Event.TheVariants.{Pressure}
use Rattle.rules_finish.specs.Finish.{zero_lifted, pairs, finish_givers, send, finish_pair, finish}
use Rattle.rules_finish.specs.Turns.{node_count, unfinished, turn, by_turns}

-- a turf of a zone that has all links is finished: weights, gas; then the gas, weights and events afterwards
unfoldable pub finishes : Board → List Float → List ℕ → ℕ → List ℕ → List Float → List Event → Bool
finishes b weights gas r gas' weights' es =
    let t = finish b (replicate (link_count b) 1) 0 (suc (link_count b)) r (record { gas = whole gas; weight = weights; events = [] }) in
    all_of (same (bits t.gas) (bits (whole gas')) ∷ same (bits t.weight) (bits weights') ∷ same (encode_all t.events) (encode_all es) ∷ [])

-- the order of turns over zones with these nodes: ten times the zone, and the row
unfoldable pub orders : List (List ℕ) → List ℕ → List ℕ → Bool
orders nodes turns rows = same (by_turns (map (λ ns. record { nodes = ns; moles = 0f }) nodes) (λ z r rs. snoc rs (10 * z + r)) turns []) rows

-- 10 gives to 30 and 40, 30 to 20, and 20 to 10
abbrev pub loop : Board
loop = draw (turf 10 (to 2 ∷ to 3 ∷ to 1 ∷ []) ∷ turf 20 (to 2 ∷ to 0 ∷ []) ∷ turf 30 (to 0 ∷ to 1 ∷ []) ∷ turf 40 (to 0 ∷ []) ∷ [])

-- two zones of three nodes
abbrev pub two : List (List ℕ)
two = (0 ∷ 1 ∷ 2 ∷ []) ∷ (3 ∷ 4 ∷ 5 ∷ []) ∷ []

pub worked : T (all_of (
    -- the planned amount is recorded, not what moved
    finishes board_a (up 8 ∷ down 8 ∷ []) (4 ∷ 0 ∷ []) 0 (0 ∷ 4 ∷ []) (up 0 ∷ up 0 ∷ []) (Pressure 0 (of_count 8) 10 20 ∷ [])
    -- the negative side of an edge is lifted and not written
    ∷ finishes board_a (up 8 ∷ down 8 ∷ []) (32 ∷ 16 ∷ []) 1 (32 ∷ 16 ∷ []) (up 8 ∷ up 0 ∷ []) []
    -- a short turf's givers first
    ∷ finishes chain (up 39 ∷ down 39 ∷ up 25 ∷ down 25 ∷ []) (64 ∷ 11 ∷ 0 ∷ []) 1 (25 ∷ 25 ∷ 25 ∷ []) (whole (0 ∷ 0 ∷ 0 ∷ 0 ∷ []))
    (Pressure 0 (of_count 39) 10 20 ∷ Pressure 0 (of_count 25) 20 30 ∷ [])
    -- enough is there: the givers wait
    ∷ finishes chain (up 39 ∷ down 39 ∷ up 8 ∷ down 8 ∷ []) (64 ∷ 32 ∷ 0 ∷ []) 1 (64 ∷ 24 ∷ 8 ∷ []) (up 39 ∷ up 0 ∷ up 0 ∷ up 0 ∷ [])
    (Pressure 0 (of_count 8) 20 30 ∷ [])
    -- one mixture: recorded, not moved; a third of 15, removed and merged again, would round
    ∷ finishes (sharing (0 ∷ 0 ∷ []) 1 board_a) (up 5 ∷ down 5 ∷ []) (15 ∷ []) 0 (15 ∷ []) (up 0 ∷ up 0 ∷ []) (Pressure 0 (of_count 5) 10 20 ∷ [])
    -- the givers of 10 finish 10 once more: what it lifted is still in use
    ∷ finishes loop (up 8 ∷ up 4 ∷ down 12 ∷ down 8 ∷ up 12 ∷ down 8 ∷ up 8 ∷ down 4 ∷ []) (4 ∷ 8 ∷ 4 ∷ 4 ∷ []) 0 (4 ∷ 0 ∷ 8 ∷ 8 ∷ []) (whole (replicate 8 0))
    (Pressure 0 (of_count 8) 30 20 ∷ Pressure 0 (of_count 12) 20 10 ∷ Pressure 0 (of_count 8) 10 30 ∷ Pressure 0 (of_count 4) 10 40 ∷ [])
    -- no turns: the lowest unfinished zone, until none is left
    ∷ orders two [] (0 ∷ 1 ∷ 2 ∷ 13 ∷ 14 ∷ 15 ∷ [])
    -- c mod the unfinished zones, one node a turn
    ∷ orders two (3 ∷ 0 ∷ []) (13 ∷ 0 ∷ 1 ∷ 2 ∷ 14 ∷ 15 ∷ [])
    ∷ orders two (0 ∷ 1 ∷ 0 ∷ 1 ∷ []) (0 ∷ 13 ∷ 1 ∷ 14 ∷ 2 ∷ 15 ∷ [])
    -- every entry counts; a finished zone is picked no more; entries left over are ignored
    ∷ orders two (1 ∷ 1 ∷ 1 ∷ 1 ∷ []) (13 ∷ 14 ∷ 15 ∷ 0 ∷ 1 ∷ 2 ∷ [])
    ∷ orders two (1 ∷ 1 ∷ 1 ∷ 1 ∷ 1 ∷ 1 ∷ 1 ∷ 1 ∷ []) (13 ∷ 14 ∷ 15 ∷ 0 ∷ 1 ∷ 2 ∷ [])
    -- a zone without nodes is finished from the start
    ∷ orders ([] ∷ (5 ∷ []) ∷ []) (0 ∷ []) (15 ∷ [])
    ∷ []))
unfolding finishes orders run times keep all_of first same up_from bits whole links_of starts_from all_ways draw sharing
    sum scale plus ratio remove amounts change total_mix total move_air edges_of edge kind_of fields_of words_bytes encode encode_all
    zero_lifted pairs finish_givers send finish_pair finish node_count unfinished turn by_turns
    add sub isum mul div neg round size span climb units odd of_int of_bits of_fields to_bits lt le eq ne
worked = tt

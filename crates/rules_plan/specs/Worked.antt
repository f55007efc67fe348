-- Worked plans, which antt computes. Assumes nothing.
use Rattle.std.specs.Prelude.{List, [], ◌∷◌, Bool, ℕ, T, replicate, Float}
use Rattle.std.specs.Int.Count.{count_leading_zeros, count_trailing_zeros}
use Rattle.std.specs.Float.Ieee.{add, sub, sum as isum, mul, div, neg, round, size, span, climb, units, odd, of_int, of_bits, of_fields, to_bits, lt, le, eq, ne}
use Rattle.basics.specs.Loops.{run, times, keep, all_of, member, first, same, up_from}
use Rattle.basics.specs.Floats.{0f, bits, of_count, whole}
use Rattle.rules_board.specs.Board.{Board, turf_count, link_count, links_of}
use Rattle.rules_board.specs.Draw.{to, turf, starts_from, all_ways, draw, board_a, chain, four, ring, six}
use Rattle.rules_mixture.specs.Mixture.{sum, amounts, total_mix, total}
use Rattle.rules_plan.specs.Edges.{edges_of, edge, adjust}
use Rattle.rules_plan.specs.Plan.{Plan, chosen, trade, meet, seek_to, fast_move, eligible, fast_turf, seek_link, seek_row, seek_next, drain_to, drain, serve, fast_pass, share_out, deltas, planned_zone}

-- the plan before the first zone
unfoldable pub unplanned : Board → Plan
unplanned b = record {
  weight = replicate (link_count b) 0f;
  delta = replicate (turf_count b) 0f;
  amount = replicate (turf_count b) 0f;
  direction = replicate (turf_count b) 0;
  fast = replicate (turf_count b) 0;
}

-- the zone that has all links, its nodes in order, and its total: the weights and the fast marks
unfoldable pub plans : Board → List ℕ → List ℕ → ℕ → List Float → List ℕ → Bool
plans b gas nodes moles weights fast =
    let p = planned_zone b (replicate (link_count b) 1) 0 (whole gas) nodes (of_count moles) (unplanned b) in
    all_of (same (bits p.weight) (bits weights) ∷ same p.fast fast ∷ [])

-- a weight: so much goes along the edge, or comes
abbrev pub up : ℕ → Float
up n = of_count n

abbrev pub down : ℕ → Float
down n = neg (of_count n)

pub worked : T (all_of (
    -- board A
    plans board_a (32 ∷ 16 ∷ []) (0 ∷ 1 ∷ []) 48 (up 8 ∷ down 8 ∷ []) (0 ∷ 0 ∷ [])
    -- through the middle: P10
    ∷ plans chain (64 ∷ 11 ∷ 0 ∷ []) (1 ∷ 0 ∷ 2 ∷ []) 75 (up 39 ∷ down 39 ∷ up 25 ∷ down 25 ∷ []) (0 ∷ 0 ∷ 0 ∷ [])
    -- a missing reverse edge isn't adjusted
    ∷ plans (draw (turf 10 (to 1 ∷ to 2 ∷ []) ∷ turf 20 [] ∷ turf 30 [] ∷ [])) (48 ∷ 0 ∷ 0 ∷ []) (0 ∷ 1 ∷ 2 ∷ []) 48 (up 16 ∷ up 16 ∷ []) (0 ∷ 0 ∷ 0 ∷ [])
    -- as many givers as takers: takers take
    ∷ plans four (32 ∷ 0 ∷ 0 ∷ 16 ∷ []) (0 ∷ 1 ∷ 3 ∷ 2 ∷ []) 48 (up 8 ∷ 0f ∷ up 12 ∷ 0f ∷ down 4 ∷ down 8 ∷ down 12 ∷ 0f ∷ 0f ∷ 0f ∷ up 4 ∷ 0f ∷ []) (replicate 4 0)
    -- delta 0 takes
    ∷ plans ring (16 ∷ 24 ∷ 16 ∷ 40 ∷ []) (0 ∷ 2 ∷ 3 ∷ 1 ∷ []) 96 (up 8 ∷ down 16 ∷ 0f ∷ 0f ∷ 0f ∷ down 8 ∷ up 16 ∷ 0f ∷ []) (replicate 4 0)
    -- three givers of six: fast pass; two: none
    ∷ plans six (20 ∷ 0 ∷ 20 ∷ 0 ∷ 20 ∷ 0 ∷ []) (up_from 0 6) 60 (up 10 ∷ down 10 ∷ 0f ∷ 0f ∷ up 10 ∷ down 10 ∷ 0f ∷ 0f ∷ up 10 ∷ down 10 ∷ []) (replicate 6 1)
    ∷ plans six (30 ∷ 30 ∷ 0 ∷ 0 ∷ 0 ∷ 0 ∷ []) (up_from 0 6) 60 (up 20 ∷ down 20 ∷ up 40 ∷ down 40 ∷ up 30 ∷ down 30 ∷ up 20 ∷ down 20 ∷ up 10 ∷ down 10 ∷ []) (replicate 6 0)
    ∷ []))
unfolding plans unplanned run times keep all_of member first same up_from bits whole links_of starts_from all_ways draw sum amounts total_mix total
    edges_of edge adjust chosen trade meet seek_to fast_move eligible fast_turf seek_link seek_row seek_next drain_to drain serve fast_pass share_out deltas planned_zone
    count_leading_zeros count_trailing_zeros add sub isum mul div neg round size span climb units odd of_int of_bits of_fields to_bits lt le eq ne
worked = tt

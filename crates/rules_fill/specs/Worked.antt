-- Worked fills, which antt computes. Assumes nothing.
use Rattle.std.specs.Prelude.{List, [], ◌∷◌, Bool, ℕ, T, eqb, replicate}
use Rattle.std.specs.Float.Ieee.{add, sub, sum as isum, mul, div, neg, round, size, span, climb, units, odd, of_int, of_bits, of_fields, to_bits, lt, le, eq, ne}
use Rattle.basics.specs.Loops.{run, times, all_of, member, same, up_from}
use Rattle.basics.specs.Floats.{bits_of, of_count, whole}
use Rattle.rules_board.specs.Board.{Board, link_count, enabled, planetary, immutable, firelock, links_of}
use Rattle.rules_board.specs.Draw.{to, lock, turf, disabled, planet, space, starts_from, all_ways, draw, pair_with, twenty, board_a, locked_pair, star}
use Rattle.rules_mixture.specs.Mixture.{sum, amounts, total_mix, total}
use Rattle.rules_events.specs.Events.{kind_of, fields_of, words_bytes, encode, encode_all}
use Rattle.rules_events.specs.declared.Event.{Event}
use Rattle.rules_events.specs.declared.Event.TheVariants.{DepressurizeWanted, PlanetWanted}
use Rattle.rules_fill.specs.Fill.{insert, end_fill, reach_link, expand, pop, pop_next, fill}

-- the zone z from row 0: what limit, allowance and the rows found before make of it, as nodes, owners, total, clock tests and events
unfoldable pub fills : Board → List ℕ → ℕ → ℕ → ℕ → List ℕ → List ℕ → List ℕ → ℕ → ℕ → List Event → Bool
fills b gas limit allowance z found nodes owner moles tests es =
    let t = fill b (whole gas) limit allowance z 0 found (replicate (link_count b) 0) [] 0 in
    all_of (
    same t.reach.nodes nodes
    ∷ same t.reach.owner owner
    ∷ eqb (bits_of t.moles) (bits_of (of_count moles))
    ∷ eqb t.tests tests
    ∷ same (encode_all t.reach.events) (encode_all es)
    ∷ [])

pub worked : T (all_of (
    -- the planet turf breaks off before its total and its links, above the limit
    fills star (32 ∷ 16 ∷ 16 ∷ 8 ∷ []) 3 100 0 (replicate 4 0) (0 ∷ 1 ∷ 2 ∷ 3 ∷ []) (1 ∷ 1 ∷ 1 ∷ 1 ∷ 1 ∷ 0 ∷ []) 64 4 []
    ∷ fills star (32 ∷ 16 ∷ 16 ∷ 8 ∷ []) 4 100 0 (replicate 4 0) (0 ∷ 1 ∷ 2 ∷ 3 ∷ []) (replicate 6 1) 72 4 []
    -- a turf that an earlier zone found is a node with an edge, and isn't popped
    ∷ fills board_a (32 ∷ 16 ∷ []) 10 100 2 (0 ∷ 1 ∷ []) (0 ∷ 1 ∷ []) (3 ∷ 0 ∷ []) 32 1 []
    -- a disabled neighbour is no node
    ∷ fills (pair_with (disabled twenty)) (32 ∷ 16 ∷ []) 10 100 0 (0 ∷ 0 ∷ []) (0 ∷ []) (0 ∷ 0 ∷ []) 32 1 []
    -- kind 1, then kind 2, of one neighbour; kind 2 alone
    ∷ fills (locked_pair (planet (space twenty))) (32 ∷ 0 ∷ []) 10 100 0 (0 ∷ 0 ∷ []) (0 ∷ 1 ∷ []) (1 ∷ 1 ∷ []) 32 2 (DepressurizeWanted 10 ∷ PlanetWanted 10 ∷ [])
    ∷ fills (locked_pair (planet twenty)) (32 ∷ 16 ∷ []) 10 100 0 (0 ∷ 0 ∷ []) (0 ∷ 1 ∷ []) (1 ∷ 1 ∷ []) 48 2 (PlanetWanted 10 ∷ [])
    -- once the zone is ignored nothing more is asked
    ∷ fills (draw (turf 10 (to 1 ∷ lock 2 ∷ []) ∷ space (turf 20 []) ∷ planet (space (turf 30 [])) ∷ [])) (32 ∷ 0 ∷ 0 ∷ []) 10 100 0 (replicate 3 0)
    (0 ∷ 1 ∷ 2 ∷ []) (1 ∷ 1 ∷ []) 32 3 (DepressurizeWanted 10 ∷ [])
    -- test 2 is over
    ∷ fills board_a (32 ∷ 16 ∷ []) 10 1 0 (0 ∷ 0 ∷ []) (0 ∷ 1 ∷ []) (1 ∷ 0 ∷ []) 32 2 []
    ∷ []))
unfolding fills run times all_of member same up_from whole enabled planetary immutable firelock links_of starts_from all_ways draw
    sum amounts total_mix total kind_of fields_of words_bytes encode encode_all insert end_fill reach_link expand pop pop_next fill
    add sub isum mul div neg round size span climb units odd of_int of_bits of_fields to_bits lt le eq ne
worked = tt

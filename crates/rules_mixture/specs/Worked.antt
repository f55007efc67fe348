-- Worked mixtures, which antt computes. Assumes nothing.
use Rattle.std.specs.Prelude.{List, [], ◌∷◌, Bool, not, ℕ, T, eqb}
use Rattle.std.specs.Float.Ieee.{add, sub, sum as isum, mul, div, neg, round, size, span, climb, units, odd, of_int, of_bits, of_fields, to_bits, lt, le, eq, ne}
use Rattle.basics.specs.Loops.{run, all_of, same, up_from}
use Rattle.basics.specs.Floats.{finite_sign_clear, bits_of, bits, of_count, of_word, whole, exact}
use Rattle.rules_board.specs.Board.{Board}
use Rattle.rules_board.specs.Draw.{space, turf, to, starts_from, all_ways, draw, with_gases, pair_with, twenty, board_a}
use Rattle.rules_mixture.specs.Mixture.{sum, scale, plus, ratio, remove, amounts, change, total_mix, move_air, clear_air, amount_fits}

-- an amount moved from mixture 0 to mixture 1
unfoldable pub moves : Board → ℕ → List ℕ → List ℕ → Bool
moves b a gas gas' = same (bits (move_air b 0 1 (of_count a) (whole gas))) (bits (whole gas'))

pub worked : T (all_of (
    -- a quarter goes
    moves board_a 8 (32 ∷ 16 ∷ []) (24 ∷ 24 ∷ [])
    -- at a ratio of 1 or more, all
    ∷ moves board_a 64 (32 ∷ 16 ∷ []) (0 ∷ 48 ∷ [])
    -- an immutable giver doesn't lose, an immutable taker doesn't gain
    ∷ moves (draw (space (turf 10 (to 1 ∷ [])) ∷ twenty ∷ [])) 8 (32 ∷ 16 ∷ []) (32 ∷ 24 ∷ [])
    ∷ moves (pair_with (space twenty)) 8 (32 ∷ 16 ∷ []) (24 ∷ 16 ∷ [])
    -- each gas in proportion
    ∷ moves (with_gases 2 board_a) 8 (24 ∷ 8 ∷ 12 ∷ 4 ∷ []) (18 ∷ 6 ∷ 18 ∷ 6 ∷ [])
    -- sums from the left: 2^24 takes no 1
    ∷ eqb (bits_of (sum (whole (16777216 ∷ 1 ∷ 1 ∷ [])))) (bits_of (of_count 16777216))
    -- cleared, and not
    ∷ same (bits (clear_air board_a 1 (whole (32 ∷ 16 ∷ [])))) (bits (whole (32 ∷ 0 ∷ [])))
    ∷ same (bits (clear_air (pair_with (space twenty)) 1 (whole (32 ∷ 16 ∷ [])))) (bits (whole (32 ∷ 16 ∷ [])))
    -- 2^40 is the largest amount; -0 and what isn't finite are none
    ∷ amount_fits (of_word 0x5380_0000)
    ∷ not (amount_fits (of_word 0x5380_0001))
    ∷ not (amount_fits (of_word 0x8000_0000))
    ∷ not (amount_fits (of_word 0x7f80_0000))
    ∷ not (amount_fits (of_word 0x7fc0_0000))
    ∷ []))
unfolding moves run all_of same up_from finite_sign_clear bits whole exact starts_from all_ways draw with_gases
    sum scale plus ratio remove amounts change total_mix move_air clear_air amount_fits
    add sub isum mul div neg round size span climb units odd of_int of_bits of_fields to_bits lt le eq ne
worked = tt

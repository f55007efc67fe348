-- Worked planet walks, which antt computes. Assumes nothing.
use Rattle.std.specs.Prelude.{List, [], ◌∷◌, Bool, ℕ, T}
use Rattle.std.specs.Float.Ieee.{add, sub, sum as isum, mul, div, neg, round, size, span, climb, units, odd, of_int, of_bits, of_fields, to_bits, lt, le, eq, ne}
use Rattle.basics.specs.Loops.{run, times, every, all_of, member, first, same, up_from}
use Rattle.basics.specs.Floats.{finite_sign_clear, bits, whole}
use Rattle.rules_board.specs.Board.{Board, enabled, planetary, immutable, firelock, links_of, row_of}
use Rattle.rules_board.specs.Refuse.{pairwise, distinct, sizes_fit, tables_fit, row_fits, links_fit}
use Rattle.rules_board.specs.Draw.{Turf, to, lock, turf, planet, space, starts_from, all_ways, draw, locked_chain, twenty, as_is}
use Rattle.rules_mixture.specs.Mixture.{amount_fits}
use Rattle.rules_events.specs.Events.{kind_of, fields_of, words_bytes, encode, encode_all}
use Rattle.rules_events.specs.declared.Event.{Event}
use Rattle.rules_events.specs.declared.Event.TheVariants.{Firelock}
use Rattle.rules_lent.specs.Lent.{words_room, floats_room, first_failed, refusal, after}
use Rattle.rules_lent.specs.Worked.{lend, leaves, unchanged, less_area}
use Rattle.rules_walk.specs.Walk.{walk_link, spread, walk_next, walk}
use Rattle.rules_walk.specs.Visit.{visit_planet}
use Rattle.rules_planet.specs.Planet.{planet_from, planet_walk, planet_room, planet_number, planet_done, planet_result}

-- limit, id, gas; then the bytes and the events
unfoldable pub walks_planet : Board → ℕ → ℕ → List ℕ → ℕ → List Event → Bool
walks_planet b limit id gas bytes es =
    let o = planet_result b limit id (lend b (planet_room b) (whole gas)) in
    all_of (same (o.answer.number ∷ o.answer.bytes ∷ []) (0 ∷ bytes ∷ []) ∷ leaves b (planet_room b) (whole gas) es o.lent ∷ [])

-- a call whose area is one byte short: the number, and every lent cell as it was
unfoldable pub refuses_planet : Board → List ℕ → ℕ → Bool
refuses_planet b gas number =
    let l = less_area 4 (lend b (planet_room b) (whole gas)) in
    let o = planet_result b 10 10 l in
    all_of (same (o.answer.number ∷ o.answer.bytes ∷ []) (number ∷ 0 ∷ []) ∷ unchanged l o.lent ∷ [])

-- 10 planetary; firelocks from 10 to 20 and 30, and from 30 to 40
abbrev pub fork : (Turf → Turf) → Board
fork f = draw (planet (turf 10 (lock 1 ∷ lock 2 ∷ [])) ∷ f (turf 20 []) ∷ turf 30 (lock 3 ∷ []) ∷ turf 40 (to 2 ∷ []) ∷ [])

pub worked : T (all_of (
    -- no planetary turf met: it ends after the first
    walks_planet (locked_chain planet as_is) 10 10 (32 ∷ 0 ∷ 4 ∷ []) 12 (Firelock 10 20 ∷ [])
    -- a planetary turf doesn't end it, and expands
    ∷ walks_planet (fork as_is) 10 10 (1 ∷ 2 ∷ 3 ∷ 4 ∷ []) 36 (Firelock 10 20 ∷ Firelock 10 30 ∷ Firelock 30 40 ∷ [])
    ∷ walks_planet (fork planet) 10 10 (1 ∷ 2 ∷ 3 ∷ 4 ∷ []) 36 (Firelock 10 20 ∷ Firelock 10 30 ∷ Firelock 30 40 ∷ [])
    -- immutable ends it, and doesn't expand
    ∷ walks_planet (fork space) 10 10 (1 ∷ 2 ∷ 3 ∷ 4 ∷ []) 24 (Firelock 10 20 ∷ Firelock 10 30 ∷ [])
    ∷ walks_planet (draw (planet (space (turf 10 (lock 1 ∷ []))) ∷ twenty ∷ [])) 10 10 (0 ∷ 0 ∷ []) 0 []
    -- the limit, and an unknown id
    ∷ walks_planet (fork as_is) 2 10 (1 ∷ 2 ∷ 3 ∷ 4 ∷ []) 24 (Firelock 10 20 ∷ Firelock 10 30 ∷ [])
    ∷ walks_planet (fork as_is) 10 11 (1 ∷ 2 ∷ 3 ∷ 4 ∷ []) 0 []
    -- a refusal answers its number
    ∷ refuses_planet (fork as_is) (1 ∷ 2 ∷ 3 ∷ 4 ∷ []) 7
    ∷ []))
unfolding walks_planet refuses_planet lend leaves unchanged run times every all_of member first same up_from finite_sign_clear bits whole enabled planetary immutable firelock links_of row_of pairwise distinct sizes_fit tables_fit row_fits links_fit starts_from all_ways draw amount_fits
    kind_of fields_of words_bytes encode encode_all words_room floats_room first_failed refusal after walk_link spread walk_next walk visit_planet planet_from planet_walk planet_number planet_done planet_result
    add sub isum mul div neg round size span climb units odd of_int of_bits of_fields to_bits lt le eq ne
worked = tt

-- Worked walks, which antt computes. Assumes nothing.
use Rattle.std.specs.Prelude.{List, [], ◌∷◌, Bool, ℕ, T}
use Rattle.basics.specs.Loops.{run, times, all_of, member, same, up_from}
use Rattle.rules_board.specs.Board.{Board, enabled, planetary, immutable, firelock, links_of}
use Rattle.rules_board.specs.Draw.{to, lock, turf, disabled, planet, space, starts_from, all_ways, draw, locked_chain, as_is}
use Rattle.rules_events.specs.Events.{kind_of, fields_of, words_bytes, encode, encode_all}
use Rattle.rules_events.specs.declared.Event.{Event}
use Rattle.rules_events.specs.declared.Event.TheVariants.{Firelock}
use Rattle.rules_walk.specs.Walk.{mark, walk_link, spread, walk_next, walk}
use Rattle.rules_walk.specs.Visit.{visit_planet}

-- a walk from row 0 that every turf lets go on: the limit; then the rows met and the events
unfoldable pub meets : Board → ℕ → List ℕ → List Event → Bool
meets b limit rows es =
    let s = walk b (spread b limit) 0 in
    all_of (same s.queue rows ∷ same (encode_all s.events) (encode_all es) ∷ [])

-- a walk from row 0 to a planet's sky: the rows met
unfoldable pub skies : Board → ℕ → List ℕ → Bool
skies b limit rows =
    let s = walk b (visit_planet b limit) 0 in
    same s.queue rows

pub worked : T (all_of (
    -- places count from 1
    meets (locked_chain as_is as_is) 2 (0 ∷ 1 ∷ 2 ∷ []) (Firelock 10 20 ∷ Firelock 20 30 ∷ [])
    ∷ meets (locked_chain as_is as_is) 1 (0 ∷ 1 ∷ []) (Firelock 10 20 ∷ [])
    ∷ meets (locked_chain as_is as_is) 0 (0 ∷ []) []
    -- a disabled turf doesn't expand
    ∷ meets (locked_chain disabled as_is) 10 (0 ∷ 1 ∷ []) (Firelock 10 20 ∷ [])
    -- a neighbour met before is asked for no more, and an open link writes nothing
    ∷ meets (draw (turf 10 (to 1 ∷ lock 2 ∷ []) ∷ turf 20 (lock 2 ∷ []) ∷ turf 30 (lock 0 ∷ []) ∷ [])) 10 (0 ∷ 1 ∷ 2 ∷ []) (Firelock 10 30 ∷ [])
    -- an immutable turf ends the walk, whatever was met
    ∷ skies (draw (planet (turf 10 (to 1 ∷ to 2 ∷ [])) ∷ space (turf 20 []) ∷ turf 30 (to 3 ∷ []) ∷ turf 40 [] ∷ [])) 10 (0 ∷ 1 ∷ 2 ∷ [])
    ∷ []))
unfolding meets skies visit_planet mark planetary immutable run times all_of member same up_from enabled firelock links_of starts_from all_ways draw kind_of fields_of words_bytes encode encode_all
    walk_link spread walk_next walk
worked = tt

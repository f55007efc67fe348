-- Worked ways out from space, which antt computes. Assumes nothing.
use Rattle.std.specs.Prelude.{List, [], ◌∷◌, Bool, ℕ, T}
use Rattle.basics.specs.Loops.{run, times, all_of, member, same, up_from}
use Rattle.rules_board.specs.Board.{Board, enabled, immutable, links_of}
use Rattle.rules_board.specs.Draw.{to, turf, disabled, space, starts_from, all_ways, draw, twenty, locked_chain, as_is}
use Rattle.rules_events.specs.Events.{kind_of, fields_of, words_bytes, encode, encode_all}
use Rattle.rules_events.specs.declared.Event.{Event}
use Rattle.rules_events.specs.declared.Event.TheVariants.{Target}
use Rattle.rules_out.specs.Out.{out_to, out_link, out_row, out_next, outward}

-- from these rows of space: the limit; then the rows in order, the direction of each row, and the events
unfoldable pub leads : Board → ℕ → List ℕ → List ℕ → List ℕ → List Event → Bool
leads b limit spaces order direction es =
    let s = outward b limit spaces [] in
    all_of (same s.order order ∷ same s.direction direction ∷ same (encode_all s.events) (encode_all es) ∷ [])

pub worked : T (all_of (
    -- places count from 1: with limit 2 the second turf expands, with limit 1 it doesn't
    leads (locked_chain as_is space) 2 (2 ∷ []) (2 ∷ 1 ∷ 0 ∷ []) (2 ∷ 3 ∷ 0 ∷ []) (Target 20 30 ∷ Target 10 30 ∷ [])
    ∷ leads (locked_chain as_is space) 1 (2 ∷ []) (2 ∷ 1 ∷ []) (0 ∷ 3 ∷ 0 ∷ []) (Target 20 30 ∷ [])
    -- a disabled turf is reached, space isn't
    ∷ leads (draw (space (turf 10 (to 1 ∷ [])) ∷ disabled twenty ∷ [])) 10 (0 ∷ []) (0 ∷ 1 ∷ []) (0 ∷ 1 ∷ []) (Target 20 10 ∷ [])
    ∷ leads (draw (space (turf 10 (to 1 ∷ [])) ∷ space twenty ∷ [])) 10 (0 ∷ []) (0 ∷ []) (0 ∷ 0 ∷ []) []
    ∷ []))
unfolding leads run times all_of member same up_from enabled immutable links_of starts_from all_ways draw kind_of fields_of words_bytes encode encode_all
    out_to out_link out_row out_next outward
worked = tt

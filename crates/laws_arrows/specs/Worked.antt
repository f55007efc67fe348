-- Worked arrows, which antt computes. Assumes nothing.
use Rattle.std.specs.Prelude.{◌≡◌, refl, [], ◌∷◌, map, T, eqb}
use Rattle.std.proofs.Common.{arith}
use Rattle.basics.specs.Loops.{run, times, all_of, member, same, up_from}
use Rattle.basics.specs.Floats.{of_count}
use Rattle.rules_board.specs.Board.{immutable, links_of}
use Rattle.rules_board.specs.Draw.{space, starts_from, all_ways, draw, locked_chain, as_is}
use Rattle.rules_events.specs.declared.Event.TheVariants.{Pressure, Difference}
use Rattle.rules_back.specs.Worked.{loops_of_chain, out_of_chain}
use Rattle.laws_arrows.specs.Arrows.{as_loop, follow, LeadsOut}

-- the record of 30 is 20's in the Rust
pub worked_loops : map as_loop out_of_chain ≡ loops_of_chain
worked_loops = refl

pub worked : T (all_of (
    -- from 10 to 20, from there to 30, which no arrow leaves; a turf without arrows stays
    same (map (follow out_of_chain) (10 ∷ 20 ∷ 30 ∷ 40 ∷ [])) (20 ∷ 30 ∷ 30 ∷ 40 ∷ [])
    ∷ eqb (times (follow out_of_chain) 2 10) 30
    -- the Rust's lead nowhere
    ∷ same (map (follow loops_of_chain) (10 ∷ 20 ∷ [])) (10 ∷ 20 ∷ [])
    -- the arrow counts, not whose record it is; kind 3 doesn't
    ∷ same (map (follow (Difference 30 (of_count 1) 10 20 ∷ Pressure 0 (of_count 1) 20 30 ∷ [])) (10 ∷ 20 ∷ 30 ∷ [])) (20 ∷ 20 ∷ 30 ∷ [])
    ∷ []))
unfolding follow run times all_of same
worked = tt

-- the arrow from 10 leads out
pub worked_out : LeadsOut (locked_chain as_is space) out_of_chain 10 20
unfolding follow run times member immutable links_of draw starts_from all_ways up_from
worked_out = record {
  moves = λ e. omega arith;
  linked = record { row = 1; inside = omega arith; id = refl; link = 1; own = tt; ends = refl };
  only = refl;
  space = record { row = 2; inside = omega arith; id = refl; immutable = tt };
  rests = refl;
}

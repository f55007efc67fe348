-- Worked work areas, which antt computes. Assumes nothing.
use Rattle.std.specs.Prelude.{[], ◌∷◌, T, eqb}
use Rattle.basics.specs.Loops.{all_of, same}
use Rattle.basics.specs.Regions.{base, region}

pub worked : T (all_of (
    -- three arrays of 2, 1 and 3 words side by side
    eqb (base (2 ∷ 1 ∷ 3 ∷ []) 0) 0 ∷ eqb (base (2 ∷ 1 ∷ 3 ∷ []) 1) 2 ∷ eqb (base (2 ∷ 1 ∷ 3 ∷ []) 2) 3
    ∷ same (region (2 ∷ 1 ∷ 3 ∷ []) 0 (5 ∷ 6 ∷ 7 ∷ 8 ∷ 9 ∷ 10 ∷ 11 ∷ [])) (5 ∷ 6 ∷ [])
    ∷ same (region (2 ∷ 1 ∷ 3 ∷ []) 1 (5 ∷ 6 ∷ 7 ∷ 8 ∷ 9 ∷ 10 ∷ 11 ∷ [])) (7 ∷ [])
    ∷ same (region (2 ∷ 1 ∷ 3 ∷ []) 2 (5 ∷ 6 ∷ 7 ∷ 8 ∷ 9 ∷ 10 ∷ 11 ∷ [])) (8 ∷ 9 ∷ 10 ∷ [])
    -- and last what is left
    ∷ same (region (2 ∷ 1 ∷ 3 ∷ []) 3 (5 ∷ 6 ∷ 7 ∷ 8 ∷ 9 ∷ 10 ∷ 11 ∷ [])) (11 ∷ [])
    ∷ []))
unfolding all_of same
worked = tt

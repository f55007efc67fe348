-- The tests of a hot turf: |d| as the library has it; no links, few moles, or all neighbours near. Assumes nothing.
use Prim.Native.Nat.{ℕ, ◌+◌, ◌-◌, ◌≤◌}
use native.Mathlib.Omega.{arith}
use mathlib.Core.Path.{◌≡◌, refl, ap, ◌∙◌, sym}
use mathlib.Core.List.{List}
use mathlib.Core.Bool.{Bool, true, false, ◌||◌}
use lib.Dec.{eqb}
use lib.Ieee.{Float, nan, inf, fin, lt}
use lib.ListN.{length, get_or}
use borrow.Author.Tests.{eq-eqb, ne_eqb}
use Rattle.std.specs.Float.{float_with_sign}
use Rattle.basics.specs.Loops.{every, up_from}
use Rattle.basics.specs.Floats.{abs, ◌-f◌}
use Rattle.basics.proofs.Lists.{up_from-length}
use Rattle.rules_board.specs.Board.{Board, end, links_of}
use Rattle.rules_mixture.specs.Mixture.{total}
use Rattle.rules_equalize.specs.Equalize.{Ask, 10f, near}

-- ---- |d|

-- `x.abs()` is the definition's
pub abs-is : (x : Float) → float_with_sign false x ≡ abs x
unfolding float_with_sign
abs-is nan = refl
abs-is (inf s) = refl
abs-is (fin s m e) = refl

-- ---- the tests of a turf

-- the total at the end of the link k is nearer to `mine` than the threshold
abbrev pub near_at : Board → List Float → Float → Float → ℕ → Bool
near_at b gas mine threshold k = lt (abs (total b gas (end b k) -f mine)) threshold

pub near-told : (b : Board) (gas : List Float) (mine threshold : Float) (k : ℕ) (t : Bool) {x : Float} → x ≡ total b gas (end b k) → t ≡ lt (abs (x -f mine)) threshold → near_at b gas mine threshold k ≡ t
near-told b gas mine threshold k t e i = ap (λ (x : Float). lt (abs (x -f mine)) threshold) (sym e) ∙ sym i

module _ (b : Board) (gas : List Float) (q : Ask) (r from to : ℕ) (ef : from ≡ get_or b.starts r 0) (et : to ≡ get_or b.starts (r + 1) 0) where
  degree : length (links_of b r) ≡ to - from
  unfolding links_of
  degree = rw (ef, et) (up_from-length _ _)

  abbrev rest : Bool
  rest = lt (total b gas r) 10f || every (near b gas q r) (links_of b r)

  pub none-linked : from ≡ to → true ≡ eqb (length (links_of b r)) 0 || rest
  none-linked e = sym (ap (λ (t : Bool). t || rest) (eq-eqb (length (links_of b r)) 0 (degree ∙ omega arith)))

  module _ (some : from ≡ to → ⊥) (rise : from ≤ to) (mine : Float) (em : mine ≡ total b gas r) where
    linked : (t : Bool) → t ≡ rest → t ≡ eqb (length (links_of b r)) 0 || rest
    linked t e = e ∙ sym (ap (λ (u : Bool). u || rest) (ne_eqb (length (links_of b r)) 0 (λ i. some (omega (arith, degree, i)))))

    pub all_tested : lt mine 10f ≡ false → (x : Float) → q.threshold ≡ x → (t : Bool) → t ≡ every (near_at b gas mine x) (up_from from (to - from))
        → t ≡ eqb (length (links_of b r)) 0 || rest
    unfolding near links_of
    all_tested l x ex t e =
        linked t (e ∙ rw (← ex, em, ef, et) refl
        ∙ sym (ap (λ (u : Bool). u || every (near b gas q r) (links_of b r)) (ap (λ (x : Float). lt x 10f) (sym em) ∙ l)))

-- A row's neighbours stamped one after the other: what is left to be tested comes to the same after each. Assumes nothing.
use mathlib.Core.Path.{◌≡◌, refl, sym}
use mathlib.Core.Logic.{◌≢◌}
use mathlib.Core.List.{List, [], ◌∷◌}
use mathlib.Core.Bool.{Bool, true, false, not, ◌&&◌, and_assoc, and-false}
use Prim.Native.Nat.{ℕ, suc, ◌+◌, ◌≤◌, ◌<◌}
use native.Mathlib.Decide.{ℕ_discrete}
use native.Mathlib.Omega.{arith}
use native.Mathlib.Numerals.{add-one}
use lib.Dec.{eqb}
use lib.ListN.{length, get_or, drop, set, drop_of_length-le}
use lib.Seq.{drop-cons, get_or-set_same, get_or-set_other}
use borrow.Author.Tests.{eq-eqb, ne_eqb}
use Rattle.basics.specs.Loops.{every, member}
use Rattle.rules_board.specs.Refuse.{distinct}
use Rattle.turf_stamps.specs.Stamps.{AtMost}

-- the turf has another stamp
abbrev free : ℕ → List ℕ → ℕ → Bool
free stamp stamps a = not (eqb (get_or stamps a 0) stamp)

-- what is left to be tested of a row: none of these neighbours is stamped already, none stands twice
abbrev pub rest_fits : ℕ → List ℕ → List ℕ → Bool
rest_fits stamp stamps near = every (free stamp stamps) near && distinct near

module _ (stamp : ℕ) (stamps : List ℕ) (a : ℕ) (l : a < length stamps) where
  -- one turf stamped: the free ones are those that were, but for this turf
  one-stamped : (near : List ℕ) → every (free stamp (set stamps a stamp)) near ≡ (every (free stamp stamps) near && not (member a near))
  unfolding every member
  one-stamped [] = refl
  one-stamped (y ∷ ys) = go (ℕ_discrete a y) (one-stamped ys)
    where
      go : Dec (a ≡ y) → every (free stamp (set stamps a stamp)) ys ≡ (every (free stamp stamps) ys && not (member a ys)) →
          every (free stamp (set stamps a stamp)) (y ∷ ys) ≡ (every (free stamp stamps) (y ∷ ys) && not (member a (y ∷ ys)))
      go (yes e) ih = rw (eq-eqb a y e, ← e, eq-eqb _ stamp (get_or-set_same stamps a stamp 0 l)) (sym (and-false (free stamp stamps a && every (free stamp stamps) ys)))
      go (no n) ih = rw (ne_eqb a y n, get_or-set_other stamps a y stamp 0 (λ e. n (sym e)), ih) (sym (and_assoc (free stamp stamps y) (every (free stamp stamps) ys) (not (member a ys))))

module _ (stamp : ℕ) (stamps near : List ℕ) (i : ℕ) where
  module _ (h : i < length near) where
    pub rest-twice : get_or stamps (get_or near i 0) 0 ≡ stamp → rest_fits stamp stamps (drop i near) ≡ false
    unfolding every
    rest-twice e = rw (drop-cons near i 0 h, eq-eqb _ stamp e)

    pub rest-next : get_or near i 0 < length stamps → get_or stamps (get_or near i 0) 0 ≢ stamp → rest_fits stamp stamps (drop i near) ≡ rest_fits stamp (set stamps (get_or near i 0) stamp) (drop (i + 1) near)
    unfolding every distinct
    rest-next l n =
        let rest = drop (suc i) near in
        rw (drop-cons near i 0 h, ne_eqb _ stamp n, add-one i, one-stamped stamp stamps (get_or near i 0) l rest) (sym (and_assoc (every (free stamp stamps) rest) (not (member (get_or near i 0) rest)) (distinct rest)))

  pub rest_end : length near ≤ i → rest_fits stamp stamps (drop i near) ≡ true
  unfolding every distinct
  rest_end h = rw (drop_of_length-le near h)

-- the turf of the row stamped first, over stamps of earlier rows
module _ (row : ℕ) (stamps near : List ℕ) (l : row < length stamps) (s : AtMost row stamps) where
  pub rest-start : rest_fits (row + 1) (set stamps row (row + 1)) near ≡ (not (member row near) && distinct near)
  unfolding every
  rest-start = rw (one-stamped (row + 1) stamps row l near, all-free near)
    where
      all-free : (xs : List ℕ) → every (free (row + 1) stamps) xs ≡ true
      all-free [] = refl
      all-free (x ∷ xs) = rw (ne_eqb (get_or stamps x 0) (row + 1) (λ e. absurd (omega (arith, e, s x))), all-free xs)

-- the stamp m leaves none above m
pub stamp_keeps : (m : ℕ) (stamps : List ℕ) (a : ℕ) → a < length stamps → AtMost m stamps → AtMost m (set stamps a m)
stamp_keeps m stamps a l s x = go (ℕ_discrete x a)
  where
    go : Dec (x ≡ a) → get_or (set stamps a m) x 0 ≤ m
    go (yes e) = rw (e, get_or-set_same stamps a m 0 l) (omega arith)
    go (no n) = rw (get_or-set_other stamps a x m 0 n) (s x)

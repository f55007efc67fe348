-- Reads and stores in one array of a work area, once for any number of arrays. Assumes nothing.
use Prim.Native.Nat.{ℕ, zero, suc, ◌+◌, ◌≤◌, ◌<◌}
use native.Mathlib.Omega.{arith}
use native.Mathlib.Nat.{not-suc-le-zero, le_of_suc-le-suc}
use mathlib.Core.Path.{◌≡◌, refl, ap, ◌∙◌, sym}
use mathlib.Core.List.{List, [], ◌∷◌, ◌++◌, map, append_assoc, append-nil}
use lib.ListN.{length, get_or, take, drop, set, replicate, length-drop, length-replicate, take-append-drop, replicate-append-replicate}
use lib.Seq.{take-set-lt, drop-set-lt, take-set-le, drop-set-add, get_or-take, get_or-drop, length-take-le, drop-drop, take_at, drop_at, take-add}
use Rattle.basics.specs.Regions.{cut, region, base}
use Rattle.basics.proofs.Parts.{drop-later}
use Rattle.basics.specs.Worked as worked  -- checked before the laws

module _ {A : Type 0} where
  -- a store at index i of array k: that array has it, and every other is as it was
  pub cut-set : (sizes : List ℕ) (w : List A) (k i : ℕ) (x : A) (at : ℕ) → k < length sizes → i < get_or sizes k 0 → at ≡ base sizes k + i
      → cut sizes (set w at x) ≡ set (cut sizes w) k (set (region sizes k w) i x)
  cut-set [] w k i x at hk hi e = absurd (not-suc-le-zero hk)
  cut-set (n ∷ sizes) w zero i x at hk hi e =
      let e' : at ≡ i = omega arith in
      rw e' (rw (take-set-lt n w i x hi, drop-set-lt n w i x hi))
  cut-set (n ∷ sizes) w (suc k) i x at hk hi e =
      let e' : at ≡ n + (base sizes k + i) = omega arith in
      let h : n ≤ n + (base sizes k + i) = omega arith in
      rw e' (rw (take-set-le n w (n + (base sizes k + i)) x h, drop-set-add n w (base sizes k + i) x)
      (ap (λ (r : List (List A)). take n w ∷ r) (cut-set sizes (drop n w) k i x (base sizes k + i) (le_of_suc-le-suc hk) hi refl)))

  -- a read at index i of array k
  pub cut-get : (sizes : List ℕ) (w : List A) (d : A) (k i at : ℕ) → k < length sizes → i < get_or sizes k 0 → at ≡ base sizes k + i
      → get_or w at d ≡ get_or (region sizes k w) i d
  cut-get [] w d k i at hk hi e = absurd (not-suc-le-zero hk)
  cut-get (n ∷ sizes) w d zero i at hk hi e =
      let e' : at ≡ i = omega arith in
      rw e' (rw (get_or-take n w i d hi))
  cut-get (n ∷ sizes) w d (suc k) i at hk hi e =
      let e' : at ≡ n + (base sizes k + i) = omega arith in
      rw e' (rw (← get_or-drop n w (base sizes k + i) d) (cut-get sizes (drop n w) d k i (base sizes k + i) (le_of_suc-le-suc hk) hi refl))

  -- each array has as many words as its size says
  pub cut-length : (sizes : List ℕ) (w : List A) (k : ℕ) → k < length sizes → base sizes (length sizes) ≤ length w
      → length (region sizes k w) ≡ get_or sizes k 0
  cut-length [] w k hk h = absurd (not-suc-le-zero hk)
  cut-length (n ∷ sizes) w zero hk h = length-take-le n w (omega arith)
  cut-length (n ∷ sizes) w (suc k) hk h = cut-length sizes (drop n w) k (le_of_suc-le-suc hk) (rw (length-drop n w) (omega arith))

  -- the last array is what is left after the others
  pub cut-rest : (sizes : List ℕ) (w : List A) → region sizes (length sizes) w ≡ drop (base sizes (length sizes)) w
  cut-rest [] w = refl
  cut-rest (n ∷ sizes) w = cut-rest sizes (drop n w) ∙ drop-drop (base sizes (length sizes)) n w

  -- an array by where it starts
  pub region-part : (sizes : List ℕ) (w : List A) (k : ℕ) → k < length sizes → region sizes k w ≡ take (get_or sizes k 0) (drop (base sizes k) w)
  region-part [] w k h = absurd (not-suc-le-zero h)
  region-part (n ∷ sizes) w zero h = refl
  region-part (n ∷ sizes) w (suc k) h = region-part sizes (drop n w) k (le_of_suc-le-suc h) ∙ ap (take (get_or sizes k 0)) (drop-drop (base sizes k) n w)

  -- a cleared work area: every array holds z alone
  pub cut-clear : (z : A) (sizes : List ℕ) (t : List A)
      → cut sizes (replicate (base sizes (length sizes)) z ++ t) ≡ map (λ (n : ℕ). replicate n z) sizes ++ t ∷ []
  cut-clear z [] t = refl
  cut-clear z (n ∷ sizes) t =
      let m : ℕ = base sizes (length sizes) in
      let split : replicate (n + m) z ++ t ≡ replicate n z ++ (replicate m z ++ t) = rw (← replicate-append-replicate n m z, append_assoc) in
      rw (split, take_at (replicate n z) (replicate m z ++ t) n (length-replicate n z), drop_at (replicate n z) (replicate m z ++ t) n (length-replicate n z))
      (ap (λ (r : List (List A)). replicate n z ∷ r) (cut-clear z sizes t))

  -- two work areas with the same arrays are the same: so a promise about the arrays says every word
  pub cut-inj : (sizes : List ℕ) (w w' : List A) → cut sizes w ≡ cut sizes w' → w ≡ w'
  cut-inj sizes w w' e = sym (joined sizes w) ∙ ap join e ∙ joined sizes w'
    where
      join : List (List A) → List A
      join [] = []
      join (x ∷ xs) = x ++ join xs

      joined : (sizes : List ℕ) (w : List A) → join (cut sizes w) ≡ w
      joined [] w = append-nil w
      joined (n ∷ sizes) w = ap (λ (r : List A). take n w ++ r) (joined sizes (drop n w)) ∙ take-append-drop n w

  -- array k was lent by itself, as the part from `from` to `to`, and came back as ys
  pub cut-part : (sizes : List ℕ) (w : List A) (k : ℕ) (ys : List A) (from size : ℕ) → k < length sizes → base sizes (length sizes) ≤ length w
      → from ≡ base sizes k → size ≡ get_or sizes k 0 → length ys ≡ size
      → cut sizes (take from w ++ (ys ++ drop size (drop from w))) ≡ set (cut sizes w) k ys
  cut-part [] w k ys from size hk h e s l = absurd (not-suc-le-zero hk)
  cut-part (n ∷ sizes) w zero ys from size hk h e s l =
      rw (e, s, take_at ys (drop n w) n (l ∙ s), drop_at ys (drop n w) n (l ∙ s))
  cut-part (n ∷ sizes) w (suc k) ys from size hk h e s l =
      let m : ℕ = base sizes k in
      let t : List A = ys ++ drop size (drop (n + m) w) in
      let e' : drop (n + m) w ≡ drop m (drop n w) = sym (drop-drop m n w) in
      let len : length (take n w) ≡ n = length-take-le n w (omega arith) in
      let split : take (n + m) w ++ t ≡ take n w ++ (take m (drop n w) ++ t) = rw (take-add n m w, append_assoc) in
      rw (e, split, take_at (take n w) (take m (drop n w) ++ t) n len, drop_at (take n w) (take m (drop n w) ++ t) n len)
      (ap (λ (r : List (List A)). take n w ∷ r)
      (rw e' (cut-part sizes (drop n w) k ys m size (le_of_suc-le-suc hk) (rw (length-drop n w) (omega arith)) refl s l)))

  -- areas that agree past the arrays agree from any later place on
  pub later_same : (sizes : List ℕ) (m : ℕ) (w w' : List A) → base sizes (length sizes) ≤ m → region sizes (length sizes) w' ≡ region sizes (length sizes) w → drop m w' ≡ drop m w
  later_same sizes m w w' h e = drop-later (base sizes (length sizes)) m w' w h (sym (cut-rest sizes w') ∙ e ∙ cut-rest sizes w)

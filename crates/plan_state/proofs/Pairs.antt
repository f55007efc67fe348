-- Reads and stores of one half of each pair. Assumes nothing.
use Prim.Native.Nat.{ℕ, zero, suc, ◌+◌}
use native.Mathlib.Omega.{arith}
use mathlib.Core.Path.{◌≡◌, refl, ap}
use mathlib.Core.List.{List, [], ◌∷◌}
use lib.ListN.{length, get_or, set, replicate}
use Rattle.plan_state.specs.Pairs.{firsts, seconds}

module _ {A : Type 0} where
  -- ---- reads

  pub firsts-get : (w : List A) (d : A) (i at : ℕ) → at ≡ i + i → get_or w at d ≡ get_or (firsts w) i d
  unfolding firsts
  firsts-get [] d i at e = refl
  firsts-get (x ∷ []) d zero at e = let q : at ≡ 0 = omega arith in rw q refl
  firsts-get (x ∷ []) d (suc i) at e = let q : at ≡ suc (suc (i + i)) = omega arith in rw q refl
  firsts-get (x ∷ y ∷ r) d zero at e = let q : at ≡ 0 = omega arith in rw q refl
  firsts-get (x ∷ y ∷ r) d (suc i) at e = let q : at ≡ suc (suc (i + i)) = omega arith in rw q (firsts-get r d i (i + i) refl)

  pub seconds-get : (w : List A) (d : A) (i at : ℕ) → at ≡ i + i + 1 → get_or w at d ≡ get_or (seconds w) i d
  unfolding seconds
  seconds-get [] d i at e = refl
  seconds-get (x ∷ []) d i at e = let q : at ≡ suc (i + i) = omega arith in rw q refl
  seconds-get (x ∷ y ∷ r) d zero at e = let q : at ≡ 1 = omega arith in rw q refl
  seconds-get (x ∷ y ∷ r) d (suc i) at e = let q : at ≡ suc (suc (i + i + 1)) = omega arith in rw q (seconds-get r d i (i + i + 1) refl)

  -- ---- stores: that half has it, and the other is as it was

  pub firsts-set : (w : List A) (v : A) (i at : ℕ) → at ≡ i + i → firsts (set w at v) ≡ set (firsts w) i v
  unfolding firsts
  firsts-set [] v i at e = refl
  firsts-set (x ∷ []) v zero at e = let q : at ≡ 0 = omega arith in rw q refl
  firsts-set (x ∷ []) v (suc i) at e = let q : at ≡ suc (suc (i + i)) = omega arith in rw q refl
  firsts-set (x ∷ y ∷ r) v zero at e = let q : at ≡ 0 = omega arith in rw q refl
  firsts-set (x ∷ y ∷ r) v (suc i) at e = let q : at ≡ suc (suc (i + i)) = omega arith in rw q (ap (λ (t : List A). x ∷ t) (firsts-set r v i (i + i) refl))

  pub seconds-keep : (w : List A) (v : A) (i at : ℕ) → at ≡ i + i → seconds (set w at v) ≡ seconds w
  unfolding seconds
  seconds-keep [] v i at e = refl
  seconds-keep (x ∷ []) v zero at e = let q : at ≡ 0 = omega arith in rw q refl
  seconds-keep (x ∷ []) v (suc i) at e = let q : at ≡ suc (suc (i + i)) = omega arith in rw q refl
  seconds-keep (x ∷ y ∷ r) v zero at e = let q : at ≡ 0 = omega arith in rw q refl
  seconds-keep (x ∷ y ∷ r) v (suc i) at e = let q : at ≡ suc (suc (i + i)) = omega arith in rw q (ap (λ (t : List A). y ∷ t) (seconds-keep r v i (i + i) refl))

  pub seconds-set : (w : List A) (v : A) (i at : ℕ) → at ≡ i + i + 1 → seconds (set w at v) ≡ set (seconds w) i v
  unfolding seconds
  seconds-set [] v i at e = refl
  seconds-set (x ∷ []) v i at e = let q : at ≡ suc (i + i) = omega arith in rw q refl
  seconds-set (x ∷ y ∷ r) v zero at e = let q : at ≡ 1 = omega arith in rw q refl
  seconds-set (x ∷ y ∷ r) v (suc i) at e = let q : at ≡ suc (suc (i + i + 1)) = omega arith in rw q (ap (λ (t : List A). y ∷ t) (seconds-set r v i (i + i + 1) refl))

  pub firsts-keep : (w : List A) (v : A) (i at : ℕ) → at ≡ i + i + 1 → firsts (set w at v) ≡ firsts w
  unfolding firsts
  firsts-keep [] v i at e = refl
  firsts-keep (x ∷ []) v i at e = let q : at ≡ suc (i + i) = omega arith in rw q refl
  firsts-keep (x ∷ y ∷ r) v zero at e = let q : at ≡ 1 = omega arith in rw q refl
  firsts-keep (x ∷ y ∷ r) v (suc i) at e = let q : at ≡ suc (suc (i + i + 1)) = omega arith in rw q (ap (λ (t : List A). x ∷ t) (firsts-keep r v i (i + i + 1) refl))

  -- ---- as many as there are pairs

  pub firsts-length : (n : ℕ) (w : List A) → length w ≡ n + n → length (firsts w) ≡ n
  unfolding firsts
  firsts-length zero [] e = refl
  firsts-length (suc n) [] e = absurd (omega (arith, e))
  firsts-length n (x ∷ []) e = absurd (omega (arith, e))
  firsts-length zero (x ∷ y ∷ r) e = absurd (omega (arith, e))
  firsts-length (suc n) (x ∷ y ∷ r) e = ap suc (firsts-length n r (omega (arith, e)))

  pub seconds-length : (n : ℕ) (w : List A) → length w ≡ n + n → length (seconds w) ≡ n
  unfolding seconds
  seconds-length zero [] e = refl
  seconds-length (suc n) [] e = absurd (omega (arith, e))
  seconds-length n (x ∷ []) e = absurd (omega (arith, e))
  seconds-length zero (x ∷ y ∷ r) e = absurd (omega (arith, e))
  seconds-length (suc n) (x ∷ y ∷ r) e = ap suc (seconds-length n r (omega (arith, e)))

  -- ---- pairs of one and the same

  pub firsts-all : (n m : ℕ) (x : A) → m ≡ n + n → firsts (replicate m x) ≡ replicate n x
  unfolding firsts
  firsts-all zero m x e = let q : m ≡ 0 = omega arith in rw q refl
  firsts-all (suc n) m x e = let q : m ≡ suc (suc (n + n)) = omega arith in rw q (ap (λ (t : List A). x ∷ t) (firsts-all n (n + n) x refl))

  pub seconds-all : (n m : ℕ) (x : A) → m ≡ n + n → seconds (replicate m x) ≡ replicate n x
  unfolding seconds
  seconds-all zero m x e = let q : m ≡ 0 = omega arith in rw q refl
  seconds-all (suc n) m x e = let q : m ≡ suc (suc (n + n)) = omega arith in rw q (ap (λ (t : List A). x ∷ t) (seconds-all n (n + n) x refl))

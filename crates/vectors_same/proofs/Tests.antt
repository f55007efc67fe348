-- Tests of cells that stop at the first failure, and a value's own of being no NaN. Assumes nothing.
use Prim.Native.Nat.{ℕ, suc, ◌+◌, ◌-◌, ◌≤◌, ◌<◌}
use native.Mathlib.Omega.{arith}
use native.Mathlib.Numerals.{add-one}
use native.Mathlib.Nat.{add-zero, zero-add}
use mathlib.Core.Path.{◌≡◌, refl, ap, ap₂, sym, ◌∙◌}
use mathlib.Core.List.{List, [], ◌∷◌}
use mathlib.Core.Bool.{Bool, true, false, not, ◌&&◌, and-false}
use lib.Dec.{T, eqb}
use lib.Pointwise.{pointwise}
use native.Mathlib.Decide.{ℕ_discrete}
use borrow.Author.Tests.{eq-eqb, ne_eqb}
use Rattle.std.proofs.Math.Bool.{and_assoc}
use lib.ListN.{length, get_or}
use Rattle.std.specs.List.{list_all, enumerate_from, zip}
use lib.Ieee.{Float, nan, inf, fin, eq, is_nan}
use Rattle.basics.specs.Loops.{every, up_from}
use Rattle.basics.proofs.Tests.{differ, every-up_next, every-up_fails, every-up_end}
use Rattle.vectors_same.specs.Same.{below}

-- the tests from the first on
pub starts : (test : ℕ → Bool) (n : ℕ) → every test (up_from 0 (n - 0)) ≡ below n test
starts test n = ap (λ (k : ℕ). every test (up_from 0 k)) (omega arith)

module _ (test : ℕ → Bool) (n i : ℕ) (t : Bool) (inv : every test (up_from i (n - i)) ≡ below n test) where
  -- a test fails
  pub fails : i < n → test i ≡ false → false ≡ (below n test && t)
  fails h e = ap (λ (b : Bool). b && t) (sym (every-up_fails test i n h e) ∙ inv)

  -- it doesn't
  pub goes_on : i < n → test i ≡ true → every test (up_from (i + 1) (n - (i + 1))) ≡ below n test
  goes_on h e = sym (every-up_next test i n h e) ∙ inv

  -- none did
  pub ends : n ≤ i → t ≡ (below n test && t)
  ends h = ap (λ (b : Bool). b && t) (sym (every-up_end test i n h) ∙ inv)

-- a NaN doesn't equal itself
pub itself : (x : Float) → eq x x ≡ true → T (not (is_nan x))
unfolding eq is_nan
itself nan h = absurd (differ (sym h))
itself (inf s) h = tt
itself (fin s m e) h = tt

-- ---- tests of the cells by their elements

module _ {A : Type 0} (d : A) (f : ℕ → A → Bool) (g : ℕ → Bool) where
  pub all-from : (a : ℕ) (xs : List A) → ((k : ℕ) → k < length xs → f (a + k) (get_or xs k d) ≡ g (a + k)) → list_all (λ p. f p.0 p.1) (enumerate_from a xs) ≡ every g (up_from a (length xs))
  unfolding every up_from
  all-from a [] h = refl
  all-from a (x ∷ xs) h =
      ap₂ (λ (s t : Bool). s && t) (let e : f (a + 0) x ≡ g (a + 0) = h 0 (omega arith) in rw add-zero at e) (ap (λ (n : ℕ). list_all (λ p. f p.0 p.1) (enumerate_from n xs)) (add-one a) ∙ all-from (suc a) xs (λ k l. let e : suc a + k ≡ a + suc k = omega arith in rw e (h (suc k) (omega arith))))

-- each element by its place
pub all-below : {A : Type 0} (d : A) (test : ℕ → A → Bool) (xs : List A) → list_all (λ p. test p.0 p.1) (enumerate_from 0 xs) ≡ below (length xs) (λ i. test i (get_or xs i d))
all-below d test xs = all-from d test (λ i. test i (get_or xs i d)) 0 xs (λ k l. rw (zero-add k) refl)

module _ {A B : Type 0} (d : A) (e : B) (f : A → B → Bool) (g : ℕ → Bool) where
  pub zip-from : (a : ℕ) (xs : List A) (ys : List B) → length ys ≡ length xs → ((k : ℕ) → k < length xs → f (get_or xs k d) (get_or ys k e) ≡ g (a + k)) → list_all (λ p. f p.0 p.1) (zip xs ys) ≡ every g (up_from a (length xs))
  unfolding every up_from
  zip-from a [] ys l h = refl
  zip-from a (x ∷ xs) [] l h = absurd (omega arith)
  zip-from a (x ∷ xs) (y ∷ ys) l h =
      ap₂ (λ (s t : Bool). s && t) (let q : f x y ≡ g (a + 0) = h 0 (omega arith) in rw add-zero at q) (zip-from (suc a) xs ys (omega arith) (λ k m. let q : suc a + k ≡ a + suc k = omega arith in rw q (h (suc k) (omega arith))))

-- a test of the cells, and one of the lengths that was made before
pub length-met : {r : Bool} (a b : Bool) → b ≡ true → r ≡ a → r ≡ (a && b)
length-met true b e h = rw e h
length-met false b e h = h

pub length-unmet : (a b : Bool) → b ≡ false → b ≡ (a && b)
length-unmet true b e = refl
length-unmet false b e = e

-- each element beside the one at the same place of another list
pub zip-below : {A B : Type 0} (d : A) (e : B) (test : A → B → Bool) (xs : List A) (ys : List B) → length ys ≡ length xs → list_all (λ p. test p.0 p.1) (zip xs ys) ≡ below (length xs) (λ i. test (get_or xs i d) (get_or ys i e))
zip-below d e test xs ys h = zip-from d e test (λ i. test (get_or xs i d) (get_or ys i e)) 0 xs ys h (λ k l. rw (zero-add k) refl)

-- ---- two lists that are compared

eqb_turned : (m n : ℕ) → eqb m n ≡ eqb n m
eqb_turned m n = go (ℕ_discrete m n)
  where
    go : Dec (m ≡ n) → eqb m n ≡ eqb n m
    go (yes p) = rw (eq-eqb m n p, eq-eqb n m (sym p)) refl
    go (no q) = rw (ne_eqb m n q, ne_eqb n m (λ e. q (sym e))) refl

eqb-suc : (m n : ℕ) → eqb (suc m) (suc n) ≡ eqb m n
eqb-suc m n = go (ℕ_discrete m n)
  where
    go : Dec (m ≡ n) → eqb (suc m) (suc n) ≡ eqb m n
    go (yes p) = rw (eq-eqb m n p, eq-eqb (suc m) (suc n) (omega arith)) refl
    go (no q) = rw (ne_eqb m n q, ne_eqb (suc m) (suc n) (λ e. q (omega arith))) refl

point-from : (g : ℕ → Bool) (a : ℕ) (xs ys : List ℕ) → ((k : ℕ) → k < length ys → eqb (get_or xs k 0) (get_or ys k 0) ≡ g (a + k)) → pointwise eqb xs ys ≡ (every g (up_from a (length ys)) && eqb (length xs) (length ys))
unfolding every up_from
point-from g a [] [] h = refl
point-from g a [] (y ∷ ys) h = rw (ne_eqb 0 (suc (length ys)) (λ e. omega arith)) (sym (and-false _))
point-from g a (x ∷ xs) [] h = rw (ne_eqb (suc (length xs)) 0 (λ e. omega arith)) refl
point-from g a (x ∷ xs) (y ∷ ys) h =
    let here : eqb x y ≡ g (a + 0) = h 0 (omega arith) in
    rw (eqb-suc (length xs) (length ys), and_assoc) (
    ap₂ (λ (s t : Bool). s && t) (rw add-zero at here)
    (point-from g (suc a) xs ys (λ k m. let q : suc a + k ≡ a + suc k = omega arith in rw q (h (suc k) (omega arith)))))

-- a list is equal to another where its elements and its length are
pub point-below : (xs ys : List ℕ) → pointwise eqb xs ys ≡ (below (length ys) (λ i. eqb (get_or ys i 0) (get_or xs i 0)) && eqb (length xs) (length ys))
point-below xs ys = point-from (λ i. eqb (get_or ys i 0) (get_or xs i 0)) 0 xs ys (λ k m. rw (zero-add k) (eqb_turned (get_or xs k 0) (get_or ys k 0)))

-- Laws of lists: what all have, members, numbers none of which stands twice, how many pass a test. Assumes nothing.
use mathlib.Core.Path.{◌≡◌, refl, sym, ap, ◌∙◌, subst}
use mathlib.Core.Logic.{◌≢◌, ◌⊎◌, inl, inr}
use mathlib.Core.List.{List, [], ◌∷◌, ◌++◌, map, reverse, reverse_aux}
use mathlib.Core.Bool.{Bool, true, false, not, ◌||◌}
use Prim.Native.Nat.{ℕ, zero, suc, ◌+◌, ◌≤◌, ◌<◌}
use native.Mathlib.Nat.{le_refl}
use native.Mathlib.Decide.{ℕ_discrete}
use native.Mathlib.Omega.{arith}
use lib.Dec.{T, eqb, eqb→eq, eqb_refl}
use lib.ListN.{length, get_or, set, take, drop, replicate}
use borrow.Author.Tests.{eqb-false, eq-eqb, ne_eqb}
use Rattle.basics.specs.Lists.{All, one, count}
use Rattle.basics.specs.Loops.{keep, every, cons_if, up_from, member, snoc}
use Rattle.basics.proofs.Loops.{All-imp, All-get_or, keep_all, both}

-- ---- what all have

module _ {A : Type 0} (P : A → Type 0) where
  pub All-append : (xs ys : List A) → All P xs → All P ys → All P (xs ++ ys)
  All-append [] ys a c = c
  All-append (x ∷ xs) ys a c = (a.0, All-append xs ys a.1 c)

  pub All-snoc : (xs : List A) (x : A) → All P xs → P x → All P (snoc xs x)
  All-snoc xs x a p = All-append xs (x ∷ []) a (p, tt)

  pub All-drop : (n : ℕ) (xs : List A) → All P xs → All P (drop n xs)
  All-drop zero xs a = a
  All-drop (suc n) [] a = tt
  All-drop (suc n) (x ∷ xs) a = All-drop n xs a.1

  -- all from each
  pub All-each : (xs : List A) (d : A) → ((k : ℕ) → k < length xs → P (get_or xs k d)) → All P xs
  All-each [] d f = tt
  All-each (x ∷ xs) d f = (f 0 (omega arith), All-each xs d (λ k l. f (suc k) (omega arith)))

  pub All-take : (n : ℕ) (xs : List A) → All P xs → All P (take n xs)
  All-take zero xs a = tt
  All-take (suc n) [] a = tt
  All-take (suc n) (x ∷ xs) a = (a.0, All-take n xs a.1)

  pub All-back : (xs : List A) → All P xs → All P (reverse xs)
  All-back xs a = onto xs [] a tt
    where
      onto : (xs ys : List A) → All P xs → All P ys → All P (reverse_aux xs ys)
      onto [] ys a c = c
      onto (x ∷ xs) ys a c = onto xs (x ∷ ys) a.1 (a.0, c)

  pub All-both : (Q : A → Type 0) (xs : List A) → All P xs → All Q xs → All (λ x. P x × Q x) xs
  All-both Q [] a c = tt
  All-both Q (x ∷ xs) a c = ((a.0, c.0), All-both Q xs a.1 c.1)

  pub All-keep : (p : A → Bool) (xs : List A) → All P xs → All P (keep p xs)
  All-keep p xs h = All-imp _ P (keep p xs) (λ x i. i.1) (keep_all p P xs h)

pub All-unmap : {A B : Type 0} (P : B → Type 0) (f : A → B) (xs : List A) → All P (map f xs) → All (λ x. P (f x)) xs
All-unmap P f [] h = tt
All-unmap P f (x ∷ xs) h = (h.0, All-unmap P f xs h.1)

pub all-every : {A : Type 0} (p : A → Bool) (xs : List A) → All (λ x. T (p x)) xs → T (every p xs)
unfolding every
all-every p [] h = tt
all-every p (x ∷ xs) h = both (p x) (every p xs) h.0 (all-every p xs h.1)

pub map-append : {A B : Type 0} (f : A → B) (xs ys : List A) → map f (xs ++ ys) ≡ map f xs ++ map f ys
map-append f [] ys = refl
map-append f (x ∷ xs) ys = λ i. f x ∷ map-append f xs ys i

pub keep-none : {A : Type 0} (p : A → Bool) (xs : List A) → All (λ x. p x ≡ false) xs → keep p xs ≡ []
unfolding keep
keep-none p [] h = refl
keep-none p (x ∷ xs) h = rw h.0 (keep-none p xs h.1)

-- ---- members

pub or_left : (a b : Bool) → T a → T (a || b)
or_left true b t = tt
or_left false b t = absurd t

pub or_right : (a b : Bool) → T b → T (a || b)
or_right true b t = tt
or_right false b t = t

pub or_cases : (a b : Bool) → T (a || b) → T a ⊎ T b
or_cases true b t = inl t
or_cases false b t = inr t

pub members : (xs : List ℕ) → All (λ x. T (member x xs)) xs
unfolding member
members [] = tt
members (x ∷ xs) = (
  or_left (eqb x x) (member x xs) (eqb_refl x),
  All-imp (λ y. T (member y xs)) (λ y. T (member y (x ∷ xs))) xs (λ y h. or_right (eqb y x) (member y xs) h) (members xs),
)

pub member-has : (P : ℕ → Type 0) (x : ℕ) (xs : List ℕ) → All P xs → T (member x xs) → P x
unfolding member
member-has P x [] a t = absurd t
member-has P x (y ∷ ys) a t = go (or_cases (eqb x y) (member x ys) t) (λ u. member-has P x ys a.1 u)
  where
    go : T (eqb x y) ⊎ T (member x ys) → (T (member x ys) → P x) → P x
    go (inl e) ih = subst P (sym (eqb→eq x y e)) a.0
    go (inr u) ih = ih u

-- an element is a member
pub at-member : (xs : List ℕ) (i : ℕ) → i < length xs → T (member (get_or xs i 0) xs)
at-member xs i h = All-get_or (λ x. T (member x xs)) xs i 0 (members xs) h

-- a member keeps its place in any list that has all that the first has
pub member-sub : (x : ℕ) (xs ys : List ℕ) → All (λ y. T (member y ys)) xs → T (member x xs) → T (member x ys)
member-sub x xs ys a t = member-has (λ y. T (member y ys)) x xs a t

pub member-front : (x : ℕ) (xs ys : List ℕ) → T (member x xs) → T (member x (xs ++ ys))
unfolding member
member-front x [] ys h = absurd h
member-front x (y ∷ xs) ys h = go (or_cases (eqb x y) (member x xs) h) (λ k. member-front x xs ys k)
  where
    go : T (eqb x y) ⊎ T (member x xs) → (T (member x xs) → T (member x (xs ++ ys))) → T (eqb x y || member x (xs ++ ys))
    go (inl e) ih = or_left (eqb x y) (member x (xs ++ ys)) e
    go (inr k) ih = or_right (eqb x y) (member x (xs ++ ys)) (ih k)

pub member-last : (x : ℕ) (xs : List ℕ) → T (member x (snoc xs x))
unfolding member
member-last x [] = or_left (eqb x x) false (eqb_refl x)
member-last x (y ∷ xs) = or_right (eqb x y) (member x (snoc xs x)) (member-last x xs)

-- a member's image is among the images
pub member-map : (f : ℕ → ℕ) (x : ℕ) (xs : List ℕ) → T (member x xs) → T (member (f x) (map f xs))
unfolding member
member-map f x [] h = absurd h
member-map f x (y ∷ xs) h = go (or_cases (eqb x y) (member x xs) h) (λ k. member-map f x xs k)
  where
    go : T (eqb x y) ⊎ T (member x xs) → (T (member x xs) → T (member (f x) (map f xs))) → T (eqb (f x) (f y) || member (f x) (map f xs))
    go (inl e) ih = or_left (eqb (f x) (f y)) (member (f x) (map f xs)) (subst (λ (v : ℕ). T (eqb (f x) (f v))) (eqb→eq x y e) (eqb_refl (f x)))
    go (inr k) ih = or_right (eqb (f x) (f y)) (member (f x) (map f xs)) (ih k)

-- ---- the numbers a, a + 1, ..

pub up_from-below : (a n : ℕ) → All (λ k. k < a + n) (up_from a n)
unfolding up_from
up_from-below a zero = tt
up_from-below a (suc n) =
    (omega arith, All-imp (λ k. k < suc a + n) (λ k. k < a + suc n) (up_from (suc a) n) (λ k h. omega arith) (up_from-below (suc a) n))

pub up_from-above : (a n : ℕ) → All (λ k. a ≤ k) (up_from a n)
unfolding up_from
up_from-above a zero = tt
up_from-above a (suc n) = (omega arith, All-imp (λ k. suc a ≤ k) (λ k. a ≤ k) (up_from (suc a) n) (λ k h. omega arith) (up_from-above (suc a) n))

pub up_from-at : (a n i : ℕ) → i < n → get_or (up_from a n) i 0 ≡ a + i
unfolding up_from
up_from-at a zero i h = absurd (omega arith)
up_from-at a (suc n) zero h = omega arith
up_from-at a (suc n) (suc i) h = up_from-at (suc a) n i (omega arith) ∙ omega arith

pub up_from-length : (a n : ℕ) → length (up_from a n) ≡ n
unfolding up_from
up_from-length a zero = refl
up_from-length a (suc n) = ap suc (up_from-length (suc a) n)

-- what a map makes of them
pub map-up : {B : Type 0} (f : ℕ → B) (a n i : ℕ) (d : B) → i < n → get_or (map f (up_from a n)) i d ≡ f (a + i)
unfolding up_from
map-up f a zero i d h = absurd (omega arith)
map-up f a (suc n) zero d h = ap f (omega arith)
map-up f a (suc n) (suc i) d h = map-up f (suc a) n i d (omega arith) ∙ ap f (omega arith)

-- ---- none twice

abbrev pub Apart : List ℕ → Type 0
Apart [] = Unit {0}
Apart (k ∷ ks) = All (λ j. j ≢ k) ks × Apart ks

pub keep_apart : (q : ℕ → Bool) (ks : List ℕ) → Apart ks → Apart (keep q ks)
unfolding keep
keep_apart q [] h = tt
keep_apart q (k ∷ ks) h = go (q k) (keep_apart q ks h.1)
  where
    go : (t : Bool) → Apart (keep q ks) → Apart (cons_if t k (keep q ks))
    go true r = (All-keep (λ j. j ≢ k) q ks h.0, r)
    go false r = r

pub up_from-apart : (a n : ℕ) → Apart (up_from a n)
unfolding up_from
up_from-apart a zero = tt
up_from-apart a (suc n) = (All-imp (λ k. suc a ≤ k) (λ k. k ≢ a) (up_from (suc a) n) (λ k l e. omega arith) (up_from-above (suc a) n), up_from-apart (suc a) n)

-- ---- how many pass a test

pub one_at_most : (t : Bool) → one t ≤ 1
one_at_most true = le_refl 1
one_at_most false = omega arith

module _ {A : Type 0} (p : A → Bool) where
  pub count-length : (xs : List A) → count p xs ≤ length xs
  unfolding count
  count-length [] = le_refl 0
  count-length (x ∷ xs) = omega (arith, count-length xs, one_at_most (p x))

  pub count-keep : (xs : List A) → length (keep p xs) ≡ count p xs
  unfolding keep count
  count-keep [] = refl
  count-keep (x ∷ xs) = go (p x) (count-keep xs)
    where
      go : (t : Bool) → length (keep p xs) ≡ count p xs → length (cons_if t x (keep p xs)) ≡ one t + count p xs
      go true h = let z = h in omega arith
      go false h = let z = h in omega arith

-- a store changes the count by what it puts in and takes out
pub count_set : {A : Type 0} (p : A → Bool) (xs : List A) (i : ℕ) (y d : A) → i < length xs → count p (set xs i y) + one (p (get_or xs i d)) ≡ count p xs + one (p y)
unfolding count
count_set p [] i y d h = absurd (omega arith)
count_set p (x ∷ xs) zero y d h = omega arith
count_set p (x ∷ xs) (suc i) y d h = omega (arith, count_set p xs i y d (omega arith))

-- ---- as many different numbers below n as there can be

pub not_member : (x : ℕ) (xs : List ℕ) → member x xs ≡ false → All (λ y. y ≢ x) xs
unfolding member
not_member x [] e = tt
not_member x (y ∷ ys) e = go (eqb x y) refl e (λ h. not_member x ys h)
  where
    go : (t : Bool) → eqb x y ≡ t → t || member x ys ≡ false → (member x ys ≡ false → All (λ v. v ≢ x) ys) → All (λ v. v ≢ x) (y ∷ ys)
    go true et h ih = absurd (subst T h tt)
    go false et h ih = (λ i. eqb-false x y et (sym i), ih h)

-- and a number that differs from all is no member
pub no_member : (x : ℕ) (xs : List ℕ) → All (λ y. y ≢ x) xs → member x xs ≡ false
unfolding member
no_member x [] h = refl
no_member x (y ∷ ys) h = rw (ne_eqb x y (λ e. h.0 (sym e))) (no_member x ys h.1)

pub apart_snoc : (xs : List ℕ) (x : ℕ) → Apart xs → All (λ y. y ≢ x) xs → Apart (snoc xs x)
apart_snoc [] x a h = (tt, tt)
apart_snoc (y ∷ ys) x a h = (All-snoc (λ j. j ≢ y) ys x a.0 (λ e. h.0 (sym e)), apart_snoc ys x a.1 h.1)

-- two places of a list with none twice hold two numbers
pub apart-at : (xs : List ℕ) (i j : ℕ) → Apart xs → i < j → j < length xs → get_or xs j 0 ≢ get_or xs i 0
apart-at [] i j a h l = absurd (omega arith)
apart-at (x ∷ xs) zero zero a h l = absurd (omega arith)
apart-at (x ∷ xs) zero (suc j) a h l = All-get_or (λ y. y ≢ x) xs j 0 a.0 (omega arith)
apart-at (x ∷ xs) (suc i) zero a h l = absurd (omega arith)
apart-at (x ∷ xs) (suc i) (suc j) a h l = apart-at xs i j a.1 (omega arith) (omega arith)

-- all but one are left without n
without : ℕ → List ℕ → List ℕ
without n xs = keep (λ x. not (eqb x n)) xs

without-length : (n : ℕ) (xs : List ℕ) → Apart xs → length xs ≤ suc (length (without n xs))
unfolding without keep
without-length n [] a = omega arith
without-length n (x ∷ xs) a = go (ℕ_discrete x n) (without-length n xs a.1)
  where
    all : x ≡ n → without n xs ≡ xs
    all e = keep-all_pass xs (All-imp (λ j. j ≢ x) (λ j. not (eqb j n) ≡ true) xs (λ j h. ap not (ne_eqb j n (λ i. h (i ∙ sym e)))) a.0)
      where
        keep-all_pass : (ys : List ℕ) → All (λ j. not (eqb j n) ≡ true) ys → without n ys ≡ ys
        keep-all_pass [] h = refl
        keep-all_pass (y ∷ ys) h = rw h.0 (ap (λ (l : List ℕ). y ∷ l) (keep-all_pass ys h.1))

    go : Dec (x ≡ n) → length xs ≤ suc (length (without n xs)) → suc (length xs) ≤ suc (length (cons_if (not (eqb x n)) x (without n xs)))
    go (yes e) h = rw (eq-eqb x n e) (rw (all e) (le_refl (suc (length xs))))
    go (no e) h = rw (ne_eqb x n e) (omega (arith, h))

-- different numbers below n are at most n
pub pigeonhole : (n : ℕ) (xs : List ℕ) → Apart xs → All (λ x. x < n) xs → length xs ≤ n
unfolding without
pigeonhole zero xs a h = none xs h
  where
    none : (ys : List ℕ) → All (λ y. y < 0) ys → length ys ≤ 0
    none [] k = omega arith
    none (y ∷ ys) k = absurd (omega (arith, k.0))
pigeonhole (suc n) xs a h =
    let w = without n xs in
    let l : length xs ≤ suc (length w) = without-length n xs a in
    let below : All (λ y. y < n) w =
    All-imp (λ y. T (not (eqb y n)) × (y < suc n)) (λ y. y < n) w (λ y k. smaller y (eqb y n) refl k.0 k.1) (keep_all (λ y. not (eqb y n)) (λ y. y < suc n) xs h) in
    let s : length w ≤ n = pigeonhole n w (keep_apart (λ y. not (eqb y n)) xs a) below in
    omega arith
  where
    smaller : (y : ℕ) (t : Bool) → eqb y n ≡ t → T (not t) → y < suc n → y < n
    smaller y true e u v = absurd u
    smaller y false e u v = let ne : y ≡ n → ⊥ = eqb-false y n e in omega arith

-- ---- counts and parts

module _ {A : Type 0} (p : A → Bool) where
  pub count-append : (xs ys : List A) → count p (xs ++ ys) ≡ count p xs + count p ys
  unfolding count
  count-append [] ys = omega arith
  count-append (x ∷ xs) ys = omega (arith, count-append xs ys)

  pub count-reverse : (xs : List A) → count p (reverse xs) ≡ count p xs
  count-reverse xs = go xs [] ∙ unfold count in omega arith
    where
      go : (xs ys : List A) → count p (reverse_aux xs ys) ≡ count p xs + count p ys
      go [] ys = unfold count in omega arith
      go (x ∷ xs) ys = go xs (x ∷ ys) ∙ unfold count in omega arith

  pub count_none : (xs : List A) → All (λ x. p x ≡ false) xs → count p xs ≡ 0
  unfolding count
  count_none [] h = refl
  count_none (x ∷ xs) h = let z : one (p x) ≡ 0 = ap one h.0 in omega (arith, z, count_none xs h.1)

pub All-front : {A : Type 0} (P : A → Type 0) (xs ys : List A) → All P (xs ++ ys) → All P xs
All-front P [] ys h = tt
All-front P (x ∷ xs) ys h = (h.0, All-front P xs ys h.1)

-- a list of one value alone, and past its end that value
pub replicate-at : {A : Type 0} (n k : ℕ) (x : A) → get_or (replicate n x) k x ≡ x
replicate-at zero k x = refl
replicate-at (suc n) zero x = refl
replicate-at (suc n) (suc k) x = replicate-at n k x

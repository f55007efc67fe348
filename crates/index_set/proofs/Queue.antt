-- A row's place tells whether it is in the set, since no row stands twice; and a set has no more rows than there are. Assumes nothing.
use Prim.Native.Nat.{ℕ, zero, suc, ◌+◌, ◌≤◌, ◌<◌}
use native.Mathlib.Omega.{arith}
use native.Mathlib.Numerals.{add-one}
use native.Mathlib.Nat.{not-suc-le-zero, le_of_suc-le-suc}
use native.Mathlib.Decide.{ℕ_discrete}
use mathlib.Core.Path.{◌≡◌, refl, ap, ◌∙◌, sym, subst}
use mathlib.Core.Logic.{◌≢◌, ◌⊎◌, inl, inr}
use mathlib.Core.List.{List, [], ◌∷◌}
use mathlib.Core.Bool.{Bool, true, false}
use lib.Dec.{T, eqb, eqb→eq}
use lib.ListN.{length, get_or, set, take, drop, length-set, length-append}
use lib.Seq.{get_or-take, get_or-drop, get_or-set_same, get_or-set_other, take-suc-set, length-take-le}
use borrow.Author.Tests.{eq-eqb}
use Rattle.basics.specs.Loops.{member, snoc}
use Rattle.basics.specs.Lists.{All}
use Rattle.basics.proofs.Lists.{or_cases, at-member}
use Rattle.basics.proofs.Lists as lists
use Rattle.index_set.specs.Line.{Below, Apart, Line, array, HoldsSet}

-- ---- rows below a bound

pub Below-at : (n : ℕ) (l : List ℕ) (i : ℕ) → Below n l → i < length l → get_or l i 0 < n
unfolding Below
Below-at n [] i b h = absurd (not-suc-le-zero h)
Below-at n (x ∷ l) zero b h = b.0
Below-at n (x ∷ l) (suc i) b h = Below-at n l i b.1 (le_of_suc-le-suc h)

pub Below-take : (n k : ℕ) (l : List ℕ) → Below n l → Below n (take k l)
unfolding Below
Below-take n zero l b = tt
Below-take n (suc k) [] b = tt
Below-take n (suc k) (x ∷ l) b = (b.0, Below-take n k l b.1)

pub Below-drop : (n k : ℕ) (l : List ℕ) → Below n l → Below n (drop k l)
unfolding Below
Below-drop n zero l b = b
Below-drop n (suc k) [] b = tt
Below-drop n (suc k) (x ∷ l) b = Below-drop n k l b.1

-- by the place, and by the list's laws
pub Below-of : (n : ℕ) (l : List ℕ) → ((i : ℕ) → i < length l → get_or l i 0 < n) → Below n l
unfolding Below
Below-of n [] h = tt
Below-of n (x ∷ l) h = (h 0 (omega arith), Below-of n l (λ i k. h (suc i) (omega arith)))

pub all-below : (n : ℕ) (l : List ℕ) → All (λ x. x < n) l → Below n l
unfolding Below
all-below n [] h = tt
all-below n (x ∷ l) h = (h.0, all-below n l h.1)

below_all : (n : ℕ) (l : List ℕ) → Below n l → All (λ x. x < n) l
unfolding Below
below_all n [] b = tt
below_all n (x ∷ l) b = (b.0, below_all n l b.1)

-- ---- members

pub agree : (s t : Bool) → (T s → T t) → (T t → T s) → s ≡ t
agree true true f g = refl
agree true false f g = absurd (f tt)
agree false true f g = absurd (g tt)
agree false false f g = refl

-- a member is an element
pub member-at : {P : Type 0} (x : ℕ) (xs : List ℕ) → T (member x xs) → ((i : ℕ) → i < length xs → get_or xs i 0 ≡ x → P) → P
unfolding member
member-at x [] m f = absurd m
member-at {P} x (y ∷ ys) m f = go (or_cases (eqb x y) (member x ys) m) (λ n. member-at x ys n (λ i h e. f (suc i) (omega arith) e))
  where
    go : T (eqb x y) ⊎ T (member x ys) → (T (member x ys) → P) → P
    go (inl e) r = f 0 (omega arith) (sym (eqb→eq x y e))
    go (inr n) r = r n

pub not_member : (x : ℕ) (xs : List ℕ) → member x xs ≡ false → (i : ℕ) → i < length xs → get_or xs i 0 ≢ x
not_member x xs m i h e = subst T (ap (λ (y : ℕ). member y xs) e ∙ m) (at-member xs i h)

-- ---- no more different rows than rows

-- none twice, by the list's laws
pub apart-all : (xs : List ℕ) → Apart xs → lists.Apart xs
unfolding Apart
apart-all [] a = tt
apart-all (x ∷ xs) a = (lists.not_member x xs a.0, apart-all xs a.1)

pub all_apart : (xs : List ℕ) → lists.Apart xs → Apart xs
unfolding Apart
all_apart [] a = tt
all_apart (x ∷ xs) a = (lists.no_member x xs a.0, all_apart xs a.1)

short : (n : ℕ) (xs : List ℕ) → Below n xs → Apart xs → length xs ≤ n
short n xs b a = lists.pigeonhole n xs (apart-all xs a) (below_all n xs b)

-- ---- one more

Apart-snoc : (xs : List ℕ) (y : ℕ) → Apart xs → member y xs ≡ false → Apart (snoc xs y)
Apart-snoc xs y a m = all_apart (snoc xs y) (lists.apart_snoc xs y (apart-all xs a) (lists.not_member y xs m))

pub Below-snoc : (n : ℕ) (l : List ℕ) (x : ℕ) → Below n l → x < n → Below n (snoc l x)
unfolding Below
Below-snoc n [] x b h = (h, tt)
Below-snoc n (y ∷ l) x b h = (b.0, Below-snoc n l x b.1 h)

-- ---- the line

module _ {n count : ℕ} {queue places : List ℕ} (l : Line n count queue places) (a : ℕ) where
  long : length (take count queue) ≡ count
  long = length-take-le count queue (omega (arith, l.few, l.queue_n))

  -- the test by the place is the test for membership
  pub member_is : (p : ℕ) → p ≡ get_or places a 0 → p < count → eqb (get_or queue p 0) a ≡ member a (take count queue)
  member_is p e h =
      agree _ _
      (λ t. subst (λ (x : ℕ). T (member x (take count queue))) (get_or-take count queue p 0 h ∙ eqb→eq (get_or queue p 0) a t) (at-member (take count queue) p (rw long h)))
      (λ m. member-at a (take count queue) m (λ i hi ei.
      let k : i < count = omega (arith, hi, long) in
      let q : get_or queue i 0 ≡ a = sym (get_or-take count queue i 0 k) ∙ ei in
      let s : p ≡ i = e ∙ ap (λ (x : ℕ). get_or places x 0) (sym q) ∙ l.placed i k in
      subst T (sym (eq-eqb (get_or queue p 0) a (ap (λ (j : ℕ). get_or queue j 0) s ∙ q))) tt))

  pub member-not : (p : ℕ) → p ≡ get_or places a 0 → count ≤ p → false ≡ member a (take count queue)
  member-not p e h =
      agree _ _ (λ f. absurd f)
      (λ m. member-at a (take count queue) m (λ i hi ei.
      let k : i < count = omega (arith, hi, long) in
      let q : get_or queue i 0 ≡ a = sym (get_or-take count queue i 0 k) ∙ ei in
      let s : p ≡ i = e ∙ ap (λ (x : ℕ). get_or places x 0) (sym q) ∙ l.placed i k in
      absurd (omega arith)))

  module _ (below : a < n) (new : member a (take count queue) ≡ false) where
    pub count-below : count < n
    count-below =
        omega (
          arith,
          short n (snoc (take count queue) a) (Below-snoc n _ a l.rows below) (Apart-snoc _ a l.apart new),
          length-append (take count queue) (a ∷ []),
          long,
        )

    pub take_more : take (count + 1) (set queue count a) ≡ snoc (take count queue) a
    take_more = rw add-one (take-suc-set queue count a (omega (arith, count-below, l.queue_n)))

    pub line-more : Line n (count + 1) (set queue count a) (set places a count)
    line-more = record {
      queue_n = length-set queue count a ∙ l.queue_n;
      places_n = length-set places a count ∙ l.places_n;
      few = omega (arith, count-below);
      rows = rw take_more (Below-snoc n _ a l.rows below);
      apart = rw take_more (Apart-snoc _ a l.apart new);
      placed = λ i h. spot i h (ℕ_discrete i count);
    }
      where
        spot : (i : ℕ) → i < count + 1 → Dec (i ≡ count) → get_or (set places a count) (get_or (set queue count a) i 0) 0 ≡ i
        spot i h (yes e) =
            rw (e, get_or-set_same queue count a 0 (omega (arith, count-below, l.queue_n)), get_or-set_same places a count 0 (omega (arith, below, l.places_n)))
        spot i h (no e) =
            let k : i < count = omega (arith, e) in
            rw (get_or-set_other queue count i a 0 e)
            (rw (get_or-set_other places a (get_or queue i 0) count 0 (λ j. not_member a (take count queue) new i (rw long k) (get_or-take count queue i 0 k ∙ j)))
            (l.placed i k))

-- ---- what the code reads

module _ (n count queue places : ℕ) (w : List ℕ) (a : ℕ) (l : HoldsSet n count queue places w) (h : a < n) where
  place_at : get_or w (places + a) 0 ≡ get_or (array n places w) a 0
  place_at = sym (get_or-take n (drop places w) a 0 h ∙ get_or-drop places w a 0)

  queue-at : (p : ℕ) → p < n → get_or w (queue + p) 0 ≡ get_or (array n queue w) p 0
  queue-at p k = sym (get_or-take n (drop queue w) p 0 k ∙ get_or-drop queue w p 0)

  pub contains_here : get_or w (places + a) 0 < count → eqb (get_or w (queue + get_or w (places + a) 0) 0) a ≡ member a (take count (array n queue w))
  contains_here k =
      rw (queue-at (get_or w (places + a) 0) (omega (arith, l.line.few))) (member_is l.line a (get_or w (places + a) 0) place_at k)

  pub contains_not : count ≤ get_or w (places + a) 0 → false ≡ member a (take count (array n queue w))
  contains_not k = member-not l.line a (get_or w (places + a) 0) place_at k

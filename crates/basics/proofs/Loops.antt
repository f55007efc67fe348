-- Laws of the loops and searches. Assumes nothing.
use mathlib.Core.Path.{◌≡◌, refl, sym, ap, ap₂, ◌∙◌}
use mathlib.Core.Logic.{◌⊎◌, inl, inr}
use mathlib.Core.List.{List, [], ◌∷◌, ◌++◌, map, reverse, reverse_aux}
use mathlib.Core.Bool.{Bool, true, false, ◌&&◌, cond}
use Prim.Native.Nat.{ℕ, zero, suc, ◌+◌, ◌-◌, ◌≤◌, ◌<◌}
use native.Mathlib.Numerals.{add-one}
use native.Mathlib.Omega.{arith}
use native.Mathlib.Nat.{not-suc-le-zero, le_of_suc-le-suc, suc-ne-zero, suc_inj, add-zero, zero-add, add-suc}
use lib.Dec.{T}
use lib.ListN.{length, get_or, set, take, drop, drop_of_length-le}
use lib.Seq.{drop-cons, take-suc}
use Rattle.basics.specs.Lists.{All, Found}
use Rattle.basics.specs.Loops.{run, times, cons_if, keep, every, all_of, up_from, first, at_or, snoc}
use Rattle.std.specs.Prelude.{Option, Some, None}

pub All-map : {A B : Type 0} (P : B → Type 0) (f : A → B) (xs : List A) → All (λ x. P (f x)) xs → All P (map f xs)
All-map P f [] h = tt
All-map P f (x ∷ xs) h = (h.0, All-map P f xs h.1)

pub All-imp : {A : Type 0} (P Q : A → Type 0) (xs : List A) → ((x : A) → P x → Q x) → All P xs → All Q xs
All-imp P Q [] i h = tt
All-imp P Q (x ∷ xs) i h = (i x h.0, All-imp P Q xs i h.1)

pub All-get_or : {A : Type 0} (P : A → Type 0) (xs : List A) (i : ℕ) (d : A) → All P xs → i < length xs → P (get_or xs i d)
All-get_or P [] i d h l = absurd (not-suc-le-zero l)
All-get_or P (x ∷ xs) zero d h l = h.0
All-get_or P (x ∷ xs) (suc i) d h l = All-get_or P xs i d h.1 (le_of_suc-le-suc l)

-- what `keep` keeps passes the test, and has what all had
module _ {A : Type 0} (p : A → Bool) (P : A → Type 0) where
  cons_if-all : (b : Bool) (x : A) (xs : List A) → P x → (T b → T (p x)) → All (λ y. T (p y) × P y) xs → All (λ y. T (p y) × P y) (cons_if b x xs)
  cons_if-all true x xs q t h = ((t tt, q), h)
  cons_if-all false x xs q t h = h

  pub keep_all : (xs : List A) → All P xs → All (λ y. T (p y) × P y) (keep p xs)
  unfolding keep
  keep_all [] h = tt
  keep_all (x ∷ xs) h = cons_if-all (p x) x (keep p xs) h.0 (λ t. t) (keep_all xs h.1)

-- a test that passes on the whole list
pub and_left : (a b : Bool) → T (a && b) → T a
and_left true b t = tt
and_left false b t = t

pub and_right : (a b : Bool) → T (a && b) → T b
and_right true b t = t
and_right false b t = absurd t

pub both : (a b : Bool) → T a → T b → T (a && b)
both true b s t = t
both false b s t = s

module _ {A : Type 0} where
  pub All-any : (P : A → Type 0) → ((x : A) → P x) → (xs : List A) → All P xs
  All-any P h [] = tt
  All-any P h (x ∷ xs) = (h x, All-any P h xs)

  pub every-all : (p : A → Bool) (xs : List A) → T (every p xs) → All (λ x. T (p x)) xs
  unfolding every
  every-all p [] t = tt
  every-all p (x ∷ xs) t = (and_left (p x) (every p xs) t, every-all p xs (and_right (p x) (every p xs) t))

module _ {A S : Type 0} where
  pub run-append : (f : A → S → S) (xs ys : List A) (s : S) → run f (xs ++ ys) s ≡ run f ys (run f xs s)
  unfolding run
  run-append f [] ys s = refl
  run-append f (x ∷ xs) ys s = run-append f xs ys (f x s)

  -- two runs over one list, step by step
  pub run-both : {R : Type 0} (P : A → Type 0) (Q : S → R → Type 0) (f : A → S → S) (g : A → R → R)
      → ((x : A) (s : S) (t : R) → P x → Q s t → Q (f x s) (g x t))
      → (xs : List A) (s : S) (t : R) → All P xs → Q s t → Q (run f xs s) (run g xs t)
  unfolding run
  run-both P Q f g h [] s t a q = q
  run-both P Q f g h (x ∷ xs) s t a q = run-both P Q f g h xs (f x s) (g x t) a.1 (h x s t a.0 q)

  -- an invariant
  pub run-keeps : (P : A → Type 0) (Q : S → Type 0) (f : A → S → S) → ((x : A) (s : S) → P x → Q s → Q (f x s))
      → (xs : List A) (s : S) → All P xs → Q s → Q (run f xs s)
  unfolding run
  run-keeps P Q f h [] s a q = q
  run-keeps P Q f h (x ∷ xs) s a q = run-keeps P Q f h xs (f x s) a.1 (h x s a.0 q)

pub cond_both : {A : Type 0} (P : A → Type 0) (t : Bool) (x y : A) → P x → P y → P (cond t x y)
cond_both P true x y a b = a
cond_both P false x y a b = b

module _ {A : Type 0} where
  cons_if-append : (t : Bool) (x : A) (xs ys : List A) → cons_if t x xs ++ ys ≡ cons_if t x (xs ++ ys)
  cons_if-append true x xs ys = refl
  cons_if-append false x xs ys = refl

  pub keep_append : (p : A → Bool) (xs ys : List A) → keep p (xs ++ ys) ≡ keep p xs ++ keep p ys
  unfolding keep
  keep_append p [] ys = refl
  keep_append p (x ∷ xs) ys = ap (cons_if (p x) x) (keep_append p xs ys) ∙ sym (cons_if-append (p x) x (keep p xs) (keep p ys))

  pub map-like : {B : Type 0} (f g : A → B) (xs : List A) → All (λ x. f x ≡ g x) xs → map f xs ≡ map g xs
  map-like f g [] h = refl
  map-like f g (x ∷ xs) h = λ i. h.0 i ∷ map-like f g xs h.1 i

at_or-found : (P : ℕ → Type 0) (t : Bool) (x : ℕ) (o : Option ℕ) → P x → Found P o → Found P (at_or t x o)
at_or-found P true x o a f = a
at_or-found P false x o a f = f

pub first_found : (P : ℕ → Type 0) (p : ℕ → Bool) (xs : List ℕ) → All P xs → Found P (first p xs)
unfolding first
first_found P p [] h = tt
first_found P p (x ∷ xs) h = at_or-found P (p x) x (first p xs) h.0 (first_found P p xs h.1)

-- a store at one place of two lists that agree somewhere
pub set-like : {A : Type 0} (w v : List A) (k j : ℕ) (x d : A) → length w ≡ length v → get_or w j d ≡ get_or v j d → get_or (set w k x) j d ≡ get_or (set v k x) j d
set-like [] [] k j x d l e = e
set-like [] (y ∷ ys) k j x d l e = absurd (suc-ne-zero (length ys) (sym l))
set-like (y ∷ ys) [] k j x d l e = absurd (suc-ne-zero (length ys) l)
set-like (y ∷ ys) (u ∷ us) zero zero x d l e = refl
set-like (y ∷ ys) (u ∷ us) zero (suc j) x d l e = e
set-like (y ∷ ys) (u ∷ us) (suc k) zero x d l e = e
set-like (y ∷ ys) (u ∷ us) (suc k) (suc j) x d l e = set-like ys us k j x d (suc_inj l) e

pub all-of : (ts : List Bool) → T (all_of ts) → All T ts
unfolding all_of
all-of [] h = tt
all-of (t ∷ ts) h = (and_left t (all_of ts) h, all-of ts (and_right t (all_of ts) h))

pub of_all : (ts : List Bool) → All T ts → T (all_of ts)
unfolding all_of
of_all [] h = tt
of_all (t ∷ ts) h = both t (all_of ts) h.0 (of_all ts h.1)

-- a loop over the numbers from i up to e: one turn, and the end
module _ {S : Type 0} (f : ℕ → S → S) where
  pub run_up : (i e : ℕ) (s : S) → i < e → run f (up_from i (e - i)) s ≡ run f (up_from (i + 1) (e - (i + 1))) (f i s)
  unfolding run up_from
  run_up i e s h =
      let k : e - i ≡ suc (e - (i + 1)) = omega arith in
      ap (λ (n : ℕ). run f (up_from i n) s) k ∙ ap (λ (j : ℕ). run f (up_from j (e - (i + 1))) (f i s)) (sym (add-one i))

  pub run-up_end : (i e : ℕ) (s : S) → e ≤ i → run f (up_from i (e - i)) s ≡ s
  unfolding run up_from
  run-up_end i e s h = let k : e - i ≡ 0 = omega arith in ap (λ (n : ℕ). run f (up_from i n) s) k

-- a loop that has come to rest stays there
pub times-still : {S : Type 0} (f : S → S) (n : ℕ) (s : S) → f s ≡ s → times f n s ≡ s
unfolding times
times-still f zero s e = refl
times-still f (suc n) s e = ap (times f n) e ∙ times-still f n s e

-- what a search finds passes the test
pub first_passes : (P : ℕ → Type 0) (p : ℕ → Bool) (xs : List ℕ) → ((x : ℕ) → T (p x) → P x) → Found P (first p xs)
unfolding first
first_passes P p [] h = tt
first_passes P p (x ∷ xs) h = go (p x) (h x) (first_passes P p xs h)
  where
    go : (t : Bool) → (T t → P x) → Found P (first p xs) → Found P (at_or t x (first p xs))
    go true k r = k tt
    go false k r = r

-- a loop over what is kept tests as it goes
pub run-keep : {A S : Type 0} (p : A → Bool) (f : A → S → S) (xs : List A) (s : S) → run f (keep p xs) s ≡ run (λ x t. cond (p x) (f x t) t) xs s
unfolding run keep
run-keep p f [] s = refl
run-keep p f (x ∷ xs) s = go (p x) (λ t. run-keep p f xs t)
  where
    go : (c : Bool) → ((t : _) → run f (keep p xs) t ≡ run (λ y u. cond (p y) (f y u) u) xs t) → run f (cons_if c x (keep p xs)) s ≡ run (λ y u. cond (p y) (f y u) u) xs (cond c (f x s) s)
    go true ih = ih (f x s)
    go false ih = ih s

-- a search up from i to e: found here, or on from the next; nothing at the end
pub first-here : (p : ℕ → Bool) (i e : ℕ) → i < e → p i ≡ true → first p (up_from i (e - i)) ≡ Some i
unfolding first up_from
first-here p i e h t = let k : e - i ≡ suc (e - (i + 1)) = omega arith in ap (λ (n : ℕ). first p (up_from i n)) k ∙ rw t

pub first_on : (p : ℕ → Bool) (i e : ℕ) → i < e → p i ≡ false → first p (up_from (i + 1) (e - (i + 1))) ≡ first p (up_from i (e - i))
unfolding first up_from
first_on p i e h t =
    let k : e - i ≡ suc (e - (i + 1)) = omega arith in
    sym (ap (λ (n : ℕ). first p (up_from i n)) k ∙ rw t (ap (λ (j : ℕ). first p (up_from j (e - (i + 1)))) (sym (add-one i))))

pub first-end : (p : ℕ → Bool) (i e : ℕ) → e ≤ i → first p (up_from i (e - i)) ≡ None
unfolding first up_from
first-end p i e h = let k : e - i ≡ 0 = omega arith in ap (λ (n : ℕ). first p (up_from i n)) k

-- an invariant of a step that is made n times
pub times-keeps : {S : Type 0} (Q : S → Type 0) (f : S → S) → ((s : S) → Q s → Q (f s)) → (n : ℕ) (s : S) → Q s → Q (times f n s)
unfolding times
times-keeps Q f h zero s q = q
times-keeps Q f h (suc n) s q = times-keeps Q f h n (f s) (h s q)

-- two loops that do the same wherever Q holds
pub run-same : {A S : Type 0} (Q : S → Type 0) (f g : A → S → S) → ((x : A) (s : S) → Q s → f x s ≡ g x s) → ((x : A) (s : S) → Q s → Q (f x s))
    → (xs : List A) (s : S) → Q s → run f xs s ≡ run g xs s
unfolding run
run-same Q f g h k [] s q = refl
run-same Q f g h k (x ∷ xs) s q = run-same Q f g h k xs (f x s) (k x s q) ∙ ap (run g xs) (h x s q)

-- a loop over what a map makes
pub run-map : {A B S : Type 0} (g : A → B) (f : B → S → S) (xs : List A) (s : S) → run f (map g xs) s ≡ run (λ x t. f (g x) t) xs s
unfolding run
run-map g f [] s = refl
run-map g f (x ∷ xs) s = run-map g f xs (f (g x) s)

-- A step that changes nothing once it is told to stop, and else counts one on: n steps come to rest, or count n.
pub times-rests : {S : Type 0} (f : S → S) (going : S → Bool) (steps : S → ℕ) → ((s : S) → going s ≡ false → f s ≡ s) → ((s : S) → going s ≡ true → steps (f s) ≡ steps s + 1)
    → (n : ℕ) (s : S) → (going (times f n s) ≡ false) ⊎ (steps (times f n s) ≡ steps s + n)
unfolding times
times-rests f going steps still on zero s = inr (omega arith)
times-rests f going steps still on (suc n) s = go (going s) refl (times-rests f going steps still on n (f s))
  where
    go : (t : Bool) → going s ≡ t → (going (times f n (f s)) ≡ false) ⊎ (steps (times f n (f s)) ≡ steps (f s) + n)
        → (going (times f n (f s)) ≡ false) ⊎ (steps (times f n (f s)) ≡ steps s + suc n)
    go true e (inl h) = inl h
    go true e (inr h) = inr (omega (arith, h, on s e))
    go false e ih = inl (ap (λ (x : _). going (times f n x)) (still s e) ∙ ap going (times-still f n s (still s e)) ∙ e)

-- ---- the numbers a, a + 1, ..: the first, a part, the last

pub up-cons : (k to : ℕ) → k < to → up_from k (to - k) ≡ k ∷ up_from (k + 1) (to - (k + 1))
unfolding up_from
up-cons k to h = let e : to - k ≡ suc (to - (k + 1)) = omega arith in ap (λ (n : ℕ). up_from k n) e ∙ ap (λ (i : ℕ). k ∷ up_from i (to - (k + 1))) (sym (add-one k))

pub up-append : (a n m : ℕ) → up_from a (n + m) ≡ up_from a n ++ up_from (a + n) m
unfolding up_from
up-append a zero m = ap₂ (λ (j k : ℕ). up_from j k) (sym (add-zero a)) (zero-add m)
up-append a (suc n) m =
    let e : suc n + m ≡ suc (n + m) = omega arith in
    let q : suc a + n ≡ a + suc n = omega arith in
    ap (up_from a) e ∙ ap (λ (l : List ℕ). a ∷ l) (up-append (suc a) n m ∙ ap (λ (k : ℕ). up_from (suc a) n ++ up_from k m) q)

pub up-snoc : (a n : ℕ) → up_from a (n + 1) ≡ snoc (up_from a n) (a + n)
unfolding up_from
up-snoc a n = up-append a n 1

pub up-below : (a n m : ℕ) → a + n ≤ m → All (λ k. k < m) (up_from a n)
unfolding up_from
up-below a zero m h = tt
up-below a (suc n) m h = (omega arith, up-below (suc a) n m (omega arith))

module _ {S : Type 0} (f : ℕ → S → S) where
  -- the last turn of a loop
  pub run-suc : (a n : ℕ) (s : S) → run f (up_from a (n + 1)) s ≡ f (a + n) (run f (up_from a n) s)
  unfolding run
  run-suc a n s = ap (λ (l : List ℕ). run f l s) (up-snoc a n) ∙ run-append f (up_from a n) ((a + n) ∷ []) s

  -- a loop over what is left of a list: one turn, and the end
  pub run_at : (xs : List ℕ) (i : ℕ) → i < length xs → (s : S) → run f (drop i xs) s ≡ run f (drop (i + 1) xs) (f (get_or xs i 0) s)
  unfolding run
  run_at xs i h s = rw (add-one, drop-cons xs i 0 h)

  pub run-stop : (xs : List ℕ) (i : ℕ) → length xs ≤ i → (s : S) → run f (drop i xs) s ≡ s
  unfolding run
  run-stop xs i h s = rw (drop_of_length-le xs h)

  -- the same from the end of a list
  pub run-back : (xs : List ℕ) (i j : ℕ) (s : S) → j + 1 ≡ i → j < length xs → run f (reverse (take i xs)) s ≡ run f (reverse (take j xs)) (f (get_or xs j 0) s)
  unfolding run
  run-back xs i j s e h = rw (← e, add-one, take-suc xs j 0 h, aux_append (take j xs) (get_or xs j 0 ∷ []) [])
    where
      aux_append : {A : Type 0} (xs ys r : List A) → reverse_aux (xs ++ ys) r ≡ reverse_aux ys (reverse_aux xs r)
      aux_append [] ys r = refl
      aux_append (x ∷ xs) ys r = aux_append xs ys (x ∷ r)

  pub run-back_end : (xs : List ℕ) (i : ℕ) (s : S) → i ≤ 0 → run f (reverse (take i xs)) s ≡ s
  unfolding run
  run-back_end xs i s h = let e : i ≡ 0 = omega arith in rw e

-- a loop whose numbers are a less
pub run-shift : {S : Type 0} (f g : ℕ → S → S) (a n : ℕ) → ((i : ℕ) → i < n → (s : S) → f i s ≡ g (a + i) s)
    → (j m : ℕ) → j + m ≤ n → (s : S) → run f (up_from j m) s ≡ run g (up_from (a + j) m) s
unfolding run up_from
run-shift f g a n h j zero l s = refl
run-shift f g a n h j (suc m) l s =
    run-shift f g a n h (suc j) m (omega arith) (f j s)
    ∙ ap (λ (t : _). run g (up_from (a + suc j) m) t) (h j (omega arith) s)
    ∙ ap (λ (k : ℕ). run g (up_from k m) (g (a + j) s)) (add-suc a j)

-- turns that change nothing
pub run-still : {A S : Type 0} (f : A → S → S) (xs : List A) (s : S) → All (λ x. f x s ≡ s) xs → run f xs s ≡ s
unfolding run
run-still f [] s h = refl
run-still f (x ∷ xs) s h = ap (run f xs) h.0 ∙ run-still f xs s h.1

-- A test over a whole list, in a loop that stops at the first failure; and what a test that passed says. Assumes nothing.
use Prim.Native.Nat.{ℕ, zero, suc, ◌+◌, ◌-◌, ◌≤◌, ◌<◌}
use native.Mathlib.Omega.{arith}
use native.Mathlib.Numerals.{add-one}
use native.Mathlib.Nat.{not-suc-le-zero, le_of_suc-le-suc}
use mathlib.Core.Path.{◌≡◌, refl, ap, ◌∙◌, sym, subst}
use mathlib.Core.List.{List, [], ◌∷◌}
use mathlib.Core.Bool.{Bool, true, false, not, ◌&&◌, and-false}
use lib.Dec.{T}
use Rattle.std.specs.List.{list_all, AllPass}
use Rattle.std.specs.Bool.{IsTrue}
use Rattle.std.specs.Prelude.{◌↔◌}
use Rattle.std.proofs.lemmas.List.Sums.{AllPass-from_list_all, list_all-from_AllPass}
use lib.ListN.{length, get_or, drop, drop_of_length-le}
use lib.Seq.{drop-cons}
use borrow.Author.Tests.{not-true, not-false}
use Rattle.basics.specs.Loops.{every, all_of, up_from, snoc}
use Rattle.basics.proofs.Loops.{up-cons}

pub differ : true ≡ false → ⊥
differ e = let z : ◌≡◌ {A = ℕ} 0 1 = cc in omega arith

pub both : (a b : Bool) → (a && b) ≡ true → (a ≡ true) × (b ≡ true)
both true b e = (refl, e)
both false b e = absurd (differ (sym e))

-- a test that failed, negated
pub not_of : (t : Bool) → t ≡ false → T (not t)
not_of t e = subst (λ (s : Bool). T (not s)) (sym e) tt

pub every-at : {A : Type 0} (test : A → Bool) (l : List A) (d : A) (i : ℕ) → every test l ≡ true → i < length l → test (get_or l i d) ≡ true
unfolding every
every-at test [] d i e h = absurd (not-suc-le-zero h)
every-at test (x ∷ l) d zero e h = (both (test x) (every test l) e).0
every-at test (x ∷ l) d (suc i) e h = every-at test l d i (both (test x) (every test l) e).1 (le_of_suc-le-suc h)

-- a chain ends in `all`: the library's word for what it answers is the same test
pub every-list_all : {A : Type 0} (test : A → Bool) (l : List A) → every test l ≡ list_all test l
unfolding every
every-list_all test [] = refl
every-list_all test (x ∷ l) = ap (λ (b : Bool). test x && b) (every-list_all test l)

-- a loop or a chain whose answer says whether all pass
pub every-each : {A : Type 0} (test : A → Bool) (l : List A) (r : Bool) → IsTrue r ↔ AllPass test l → r ≡ every test l
every-each test l true e = sym (every-list_all test l ∙ list_all-from_AllPass test l (e.0 refl))
every-each test l false e = go (list_all test l) refl
  where
    go : (t : Bool) → list_all test l ≡ t → false ≡ every test l
    go true h = absurd (differ (sym (e.1 (AllPass-from_list_all test l h))))
    go false h = sym (every-list_all test l ∙ h)

-- over the numbers from i up to e
module _ (test : ℕ → Bool) (i e : ℕ) where
  module _ (h : i < e) where
    pub every-up_next : test i ≡ true → every test (up_from i (e - i)) ≡ every test (up_from (i + 1) (e - (i + 1)))
    unfolding every
    every-up_next t = ap (every test) (up-cons i e h) ∙ rw t

    pub every-up_fails : test i ≡ false → every test (up_from i (e - i)) ≡ false
    unfolding every
    every-up_fails t = ap (every test) (up-cons i e h) ∙ rw t

  pub every-up_end : e ≤ i → every test (up_from i (e - i)) ≡ true
  unfolding every up_from
  every-up_end h = let k : e - i ≡ 0 = omega arith in ap (λ (n : ℕ). every test (up_from i n)) k

pub every-up_at : (test : ℕ → Bool) (a n i : ℕ) → every test (up_from a n) ≡ true → i < n → test (a + i) ≡ true
unfolding every up_from
every-up_at test a zero i e h = absurd (not-suc-le-zero h)
every-up_at test a (suc n) zero e h = let k : a + 0 ≡ a = omega arith in ap test k ∙ (both (test a) (every test (up_from (suc a) n)) e).0
every-up_at test a (suc n) (suc i) e h =
    let k : a + suc i ≡ suc a + i = omega arith in
    ap test k ∙ every-up_at test (suc a) n i (both (test a) (every test (up_from (suc a) n)) e).1 (le_of_suc-le-suc h)

-- each test of a list holds
pub each : (l : List Bool) (k : ℕ) → all_of l ≡ true → k < length l → get_or l k true ≡ true
unfolding all_of
each [] k e h = refl
each (t ∷ l) zero e h = (both t (all_of l) e).0
each (t ∷ l) (suc k) e h = each l k (both t (all_of l) e).1 (le_of_suc-le-suc h)

-- one test of a list fails
pub one-fails : (l : List Bool) (k : ℕ) → get_or l k true ≡ false → all_of l ≡ false
unfolding all_of
one-fails [] k e = e
one-fails (t ∷ l) zero e = rw e
one-fails (t ∷ l) (suc k) e = ap (λ (b : Bool). t && b) (one-fails l k e) ∙ and-false t

-- all but the last one hold
pub last-is : (l : List Bool) (t : Bool) → all_of l ≡ true → all_of (snoc l t) ≡ t
unfolding all_of
last-is [] true e = refl
last-is [] false e = refl
last-is (u ∷ l) t e = rw (both u (all_of l) e).0 (last-is l t (both u (all_of l) e).1)

-- what the answer of a test says of its definition
pub yes : {r : Bool} (t : Bool) → r ≡ t → not r ≡ false → t ≡ true
yes {r} t e n = sym e ∙ not-false r n

pub no : {r : Bool} (t : Bool) → r ≡ t → not r ≡ true → t ≡ false
no {r} t e n = sym e ∙ not-true r n

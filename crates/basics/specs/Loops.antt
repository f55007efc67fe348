-- Loops and searches. A loop of the definitions is one of two: `run f xs s`, a step for each element of a list, and `times f n s`, a step n times.
-- A loop that ends early is the same loop with a step that changes nothing from there on.
-- `if` computes both branches, so no branch of a definition holds a call of the definition itself.
use Rattle.std.specs.Prelude.{List, [], ◌∷◌, ◌++◌, Bool, true, false, ◌&&◌, ◌||◌, ℕ, zero, suc, eqb, Option, Some, None}

module _ {A S : Type 0} where
  -- for x in xs { s = f(x, s) }
  unfoldable pub run : (A → S → S) → List A → S → S
  run f [] s = s
  run f (x ∷ xs) s = run f xs (f x s)

module _ {S : Type 0} where
  -- for _ in 0..n { s = f(s) }
  unfoldable pub times : (S → S) → ℕ → S → S
  times f zero s = s
  times f (suc n) s = times f n (f s)

module _ {A : Type 0} where
  -- x stands in front where the test passed
  abbrev pub cons_if : Bool → A → List A → List A
  cons_if true x xs = x ∷ xs
  cons_if false x xs = xs

  -- the elements that pass the test, in order
  unfoldable pub keep : (A → Bool) → List A → List A
  keep p [] = []
  keep p (x ∷ xs) = cons_if (p x) x (keep p xs)

  -- every element passes the test
  unfoldable pub every : (A → Bool) → List A → Bool
  every p [] = true
  every p (x ∷ xs) = p x && every p xs

  -- x at the end
  abbrev pub snoc : List A → A → List A
  snoc xs x = xs ++ (x ∷ [])

-- every test of the list passes
unfoldable pub all_of : List Bool → Bool
all_of [] = true
all_of (t ∷ ts) = t && all_of ts

-- the n numbers a, a + 1, ..
unfoldable pub up_from : ℕ → ℕ → List ℕ
up_from a zero = []
up_from a (suc n) = a ∷ up_from (suc a) n

-- x is one of the list
unfoldable pub member : ℕ → List ℕ → Bool
member x [] = false
member x (y ∷ ys) = eqb x y || member x ys

-- found here, or what the rest of the search answers
abbrev pub at_or : Bool → ℕ → Option ℕ → Option ℕ
at_or true x o = Some x
at_or false x o = o

-- the first element that passes, as a search answers it
unfoldable pub first : (ℕ → Bool) → List ℕ → Option ℕ
first p [] = None
first p (x ∷ xs) = at_or (p x) x (first p xs)

-- the two lists are equal, number by number
unfoldable pub same : List ℕ → List ℕ → Bool
same [] [] = true
same [] (y ∷ ys) = false
same (x ∷ xs) [] = false
same (x ∷ xs) (y ∷ ys) = eqb x y && same xs ys

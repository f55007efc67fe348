-- Lists whose elements all have a property: a part of one, one with a store in it, one backwards. Assumes nothing.
use mathlib.Core.Path.{sym}
use mathlib.Core.Logic.{◌≢◌}
use mathlib.Core.List.{List, [], ◌∷◌, reverse, reverse_aux}
use Prim.Native.Nat.{ℕ, zero, suc, ◌≤◌, ◌<◌}
use native.Mathlib.Omega.{arith}
use lib.ListN.{length, get_or, set, replicate}
use Rattle.basics.specs.Lists.{All}
use Rattle.basics.proofs.Loops.{All-any}
use Rattle.basics.proofs.Lists.{Apart}

pub All-set : {A : Type 0} (P : A → Type 0) (xs : List A) (i : ℕ) (v : A) → (i < length xs → P v) → All P xs → All P (set xs i v)
All-set P [] i v h a = tt
All-set P (x ∷ xs) zero v h a = (h (omega arith), a.1)
All-set P (x ∷ xs) (suc i) v h a = (a.0, All-set P xs i v (λ l. h (omega arith)) a.1)

-- a list of one value
pub replicate-all : {A : Type 0} (P : A → Type 0) (n : ℕ) (x : A) → P x → All P (replicate n x)
replicate-all P zero x p = tt
replicate-all P (suc n) x p = (p, replicate-all P n x p)

-- a store of no more than the most
pub set-most : (xs : List ℕ) (a v n : ℕ) → v ≤ n → ((x : ℕ) → get_or xs x 0 ≤ n) → (x : ℕ) → get_or (set xs a v) x 0 ≤ n
set-most [] a v n h f x = f x
set-most (y ∷ ys) zero v n h f zero = h
set-most (y ∷ ys) zero v n h f (suc x) = f (suc x)
set-most (y ∷ ys) (suc a) v n h f zero = f zero
set-most (y ∷ ys) (suc a) v n h f (suc x) = set-most ys a v n h (λ i. f (suc i)) x

-- ---- backwards

rev_apart : (xs ys : List ℕ) → Apart xs → Apart ys → All (λ x. All (λ y. y ≢ x) ys) xs → Apart (reverse_aux xs ys)
rev_apart [] ys a b c = b
rev_apart (x ∷ xs) ys a b c = rev_apart xs (x ∷ ys) a.1 (c.0, b) (join xs a.0 c.1)
  where
    join : (zs : List ℕ) → All (λ j. j ≢ x) zs → All (λ z. All (λ y. y ≢ z) ys) zs → All (λ z. All (λ y. y ≢ z) (x ∷ ys)) zs
    join [] p q = tt
    join (z ∷ zs) p q = ((λ e. p.0 (sym e), q.0), join zs p.1 q.1)

pub reverse-apart : (xs : List ℕ) → Apart xs → Apart (reverse xs)
reverse-apart xs a = rev_apart xs [] a tt (All-any _ (λ x. tt) xs)

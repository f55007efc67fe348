-- Units by row. What moves from one row to another leaves their sum as it is, so no row comes to more than the sum. Assumes nothing.
use mathlib.Core.Path.{◌≡◌, refl, sym, ap, ◌∙◌, subst}
use mathlib.Core.List.{List, [], ◌∷◌}
use Prim.Native.Nat.{ℕ, zero, suc, ◌+◌, ◌-◌, ◌*◌, ◌≤◌, ◌<◌, zero-le}
use native.Mathlib.Nat.{not-suc-le-zero, le_of_suc-le-suc}
use mathlib.Core.Logic.{◌≢◌}
use lib.Dec.{T, leb, leb→le}
use Rattle.basics.specs.Lists.{All}
use Rattle.basics.proofs.Loops.{and_left, and_right}
use Rattle.basics.proofs.Lists.{Apart}
use Rattle.rules_board.specs.Refuse.{pairwise, rising}
use native.Mathlib.Omega.{arith}
use lib.ListN.{length, get_or, set, replicate, length-set}
use lib.Seq.{get_or-set_same, get_or-set_other}

-- the sum of all rows
unfoldable pub all : List ℕ → ℕ
all [] = 0
all (x ∷ xs) = x + all xs

pub all_set : (xs : List ℕ) (i v : ℕ) → i < length xs → all (set xs i v) + get_or xs i 0 ≡ all xs + v
unfolding all
all_set [] i v h = absurd (not-suc-le-zero h)
all_set (x ∷ xs) zero v h = omega arith
all_set (x ∷ xs) (suc i) v h = let e = all_set xs i v (le_of_suc-le-suc h) in omega arith

pub all-at : (xs : List ℕ) (i : ℕ) → get_or xs i 0 ≤ all xs
unfolding all
all-at [] i = zero-le
all-at (x ∷ xs) zero = omega arith
all-at (x ∷ xs) (suc i) = let e = all-at xs i in omega arith

pub all_replicate : (n v : ℕ) → all (replicate n v) ≡ n * v
unfolding all
all_replicate zero v = omega arith
all_replicate (suc n) v = let e = all_replicate n v in omega arith

-- v more in row d
abbrev pub more : List ℕ → ℕ → ℕ → List ℕ
more xs d v = set xs d (get_or xs d 0 + v)

pub all_more : (xs : List ℕ) (d v : ℕ) → d < length xs → all (more xs d v) ≡ all xs + v
all_more xs d v h = let e = all_set xs d (get_or xs d 0 + v) h in omega arith

pub more_same : (xs : List ℕ) (d v : ℕ) → d < length xs → get_or (more xs d v) d 0 ≡ get_or xs d 0 + v
more_same xs d v h = get_or-set_same xs d (get_or xs d 0 + v) 0 h

-- row r is emptied, and row d has v more
abbrev pub shift : List ℕ → ℕ → ℕ → ℕ → List ℕ
shift xs r d v = more (set xs r 0) d v

pub length_shift : (xs : List ℕ) (r d v : ℕ) → length (shift xs r d v) ≡ length xs
length_shift xs r d v = length-set (set xs r 0) d (get_or (set xs r 0) d 0 + v) ∙ length-set xs r 0

pub all-shift : (xs : List ℕ) (r d v : ℕ) → r < length xs → d < length xs → all (shift xs r d v) + get_or xs r 0 ≡ all xs + v
all-shift xs r d v R D =
    let e = all_set xs r 0 R in
    let f = all_more (set xs r 0) d v (subst (λ n. d < n) (sym (length-set xs r 0)) D) in
    omega arith

-- a store adds no more than its value, and takes away what stood there
pub all-set_le : (xs : List ℕ) (i v : ℕ) → all (set xs i v) + get_or xs i 0 ≤ all xs + v
unfolding all
all-set_le [] i v = omega arith
all-set_le (x ∷ xs) zero v = omega arith
all-set_le (x ∷ xs) (suc i) v = let e = all-set_le xs i v in omega arith

-- a store of more, anywhere
pub get_or-grows : (xs : List ℕ) (i v k : ℕ) → get_or xs i 0 ≤ v → get_or xs k 0 ≤ get_or (set xs i v) k 0
get_or-grows [] i v k h = zero-le
get_or-grows (x ∷ xs) zero v zero h = h
get_or-grows (x ∷ xs) zero v (suc k) h = omega arith
get_or-grows (x ∷ xs) (suc i) v zero h = omega arith
get_or-grows (x ∷ xs) (suc i) v (suc k) h = get_or-grows xs i v k h

-- row r hands what it has to row d
abbrev pub hand : List ℕ → ℕ → ℕ → List ℕ
hand xs r d = set (set xs d (get_or xs d 0 + get_or xs r 0)) r 0

pub all-hand : (xs : List ℕ) (r d : ℕ) → all (hand xs r d) ≤ all xs
all-hand xs r d =
    let v = get_or xs d 0 + get_or xs r 0 in
    let i = all-set_le xs d v in
    let j = all-set_le (set xs d v) r 0 in
    let k = get_or-grows xs d v r (omega arith) in
    omega arith

-- ---- what a list of rows has together

-- the sum of some rows
unfoldable pub total : List ℕ → List ℕ → ℕ
total ds [] = 0
total ds (x ∷ xs) = get_or ds x 0 + total ds xs

total-other : (ds : List ℕ) (i v : ℕ) (xs : List ℕ) → All (λ x. x ≢ i) xs → total (set ds i v) xs ≡ total ds xs
unfolding total
total-other ds i v [] a = refl
total-other ds i v (x ∷ xs) a = let e = get_or-set_other ds i x v 0 a.0 in let f = total-other ds i v xs a.1 in omega arith

pub total-most : (ds xs : List ℕ) → Apart xs → All (λ x. x < length ds) xs → total ds xs ≤ all ds
unfolding total
total-most ds [] a h = zero-le
total-most ds (x ∷ xs) a h =
    let e = total-other ds x 0 xs a.0 in
    let f = total-most (set ds x 0) xs a.1 (subst (λ n. All (λ y. y < n) xs) (sym (length-set ds x 0)) h.1) in
    let g = all_set ds x 0 h.0 in
    omega arith

-- ---- the differences of a rising list

-- each number less the one before it
unfoldable pub steps : List ℕ → List ℕ
steps [] = []
steps (s ∷ []) = []
steps (s ∷ t ∷ ss) = (t - s) ∷ steps (t ∷ ss)

pub steps_length : (s : ℕ) (ss : List ℕ) → length (steps (s ∷ ss)) ≡ length ss
unfolding steps
steps_length s [] = refl
steps_length s (t ∷ ss) = ap suc (steps_length t ss)

pub steps_at : (s : ℕ) (ss : List ℕ) (r : ℕ) → r < length ss → get_or (steps (s ∷ ss)) r 0 ≡ get_or ss r 0 - get_or (s ∷ ss) r 0
unfolding steps
steps_at s [] r h = absurd (not-suc-le-zero h)
steps_at s (t ∷ ss) zero h = refl
steps_at s (t ∷ ss) (suc r) h = steps_at t ss r (le_of_suc-le-suc h)

pub steps_all : (s : ℕ) (ss : List ℕ) → T (rising (s ∷ ss)) → all (steps (s ∷ ss)) + s ≡ get_or (s ∷ ss) (length ss) 0
unfolding steps all pairwise
steps_all s [] h = omega arith
steps_all s (t ∷ ss) h =
    let e = steps_all t ss (and_right (leb s t) (rising (t ∷ ss)) h) in
    let l = leb→le s t (and_left (leb s t) (rising (t ∷ ss)) h) in
    omega arith

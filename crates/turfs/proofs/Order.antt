-- Numbers in order: what a test says of every number and the next one, it says of any two where it goes on from one to the next. Assumes nothing.
use Prim.Native.Nat.{ℕ, zero, suc, ◌+◌, ◌-◌, ◌≤◌, ◌<◌}
use native.Mathlib.Omega.{arith}
use native.Mathlib.Nat.{suc-add}
use mathlib.Core.Path.{◌≡◌, refl, sym, ◌∙◌, subst}
use mathlib.Core.List.{List, [], ◌∷◌}
use mathlib.Core.Bool.{Bool, true, false}
use lib.ListN.{length, get_or}
use lib.Dec.{ltb, leb}
use borrow.Author.Tests.{ltb-true, leb-true, le-leb}
use Rattle.std.specs.List.{IsAllAdjacentAnswer}
use Rattle.std.specs.Ordering.{nat_cmp, is_le, is_some_and}
use Rattle.std.proofs.Common.{Some}
use Rattle.std.proofs.lemmas.List.Sorted.{non_decreasing_from_is_sorted}
use Rattle.basics.proofs.Tests.{both, differ}
use Rattle.rules_board.specs.Refuse.{pairwise, ascending, rising}

pub pairwise-at : (t : ℕ → ℕ → Bool) (l : List ℕ) (i : ℕ) → pairwise t l ≡ true → i + 1 < length l → t (get_or l i 0) (get_or l (i + 1) 0) ≡ true
unfolding pairwise
pairwise-at t [] i e h = absurd (omega arith)
pairwise-at t (x ∷ []) i e h = absurd (omega arith)
pairwise-at t (x ∷ y ∷ l) zero e h = (both (t x y) (pairwise t (y ∷ l)) e).0
pairwise-at t (x ∷ y ∷ l) (suc i) e h = rw (suc-add i 1) (pairwise-at t (y ∷ l) i (both (t x y) (pairwise t (y ∷ l)) e).1 (omega arith))

module _ (t : ℕ → ℕ → Bool) (R : ℕ → ℕ → Type 0) (says : (x y : ℕ) → t x y ≡ true → R x y) (on : (x y z : ℕ) → R x y → R y z → R x z) where
  pairwise-to : (l : List ℕ) (i k : ℕ) → pairwise t l ≡ true → i + 1 + k < length l → R (get_or l i 0) (get_or l (i + 1 + k) 0)
  pairwise-to l i zero e h =
      let q : i + 1 + 0 ≡ i + 1 = omega arith in
      rw q (says (get_or l i 0) (get_or l (i + 1) 0) (pairwise-at t l i e (omega arith)))
  pairwise-to l i (suc k) e h =
      let q : i + 1 + suc k ≡ i + 1 + k + 1 = omega arith in
      rw q
      (on (get_or l i 0) (get_or l (i + 1 + k) 0) (get_or l (i + 1 + k + 1) 0) (pairwise-to l i k e (omega arith))
      (says (get_or l (i + 1 + k) 0) (get_or l (i + 1 + k + 1) 0) (pairwise-at t l (i + 1 + k) e (omega arith))))

pub ascending-to : (l : List ℕ) (i j : ℕ) → ascending l ≡ true → i < j → j < length l → get_or l i 0 < get_or l j 0
ascending-to l i j e h k =
    let q : j ≡ i + 1 + (j - (i + 1)) = omega arith in
    rw q (pairwise-to ltb (λ x y. x < y) ltb-true (λ x y z a b. omega arith) l i (j - (i + 1)) e (omega arith))

pub rising-to : (l : List ℕ) (i j : ℕ) → rising l ≡ true → i < j → j < length l → get_or l i 0 ≤ get_or l j 0
rising-to l i j e h k =
    let q : j ≡ i + 1 + (j - (i + 1)) = omega arith in
    rw q (pairwise-to leb (λ x y. x ≤ y) leb-true (λ x y z a b. omega arith) l i (j - (i + 1)) e (omega arith))

-- ---- what a call that goes over the pairs answers

pairwise-each : (t : ℕ → ℕ → Bool) (l : List ℕ) → ((k : ℕ) → k + 1 < length l → t (get_or l k 0) (get_or l (k + 1) 0) ≡ true) → pairwise t l ≡ true
unfolding pairwise
pairwise-each t [] h = refl
pairwise-each t (x ∷ []) h = refl
pairwise-each t (x ∷ y ∷ l) h = rw (h 0 (omega arith)) (pairwise-each t (y ∷ l) (λ k i. subst (λ (j : ℕ). t (get_or (y ∷ l) k 0) (get_or (x ∷ y ∷ l) j 0) ≡ true) (suc-add k 1) (h (suc k) (omega arith))))

pub pairwise-answer : (t : ℕ → ℕ → Bool) (l : List ℕ) (r : Bool) → IsAllAdjacentAnswer (λ x y b. b ≡ t x y) l r → r ≡ pairwise t l
pairwise-answer t l true h = sym (pairwise-each t l (λ k i. sym (h k 0 i)))
pairwise-answer t l false h = go (pairwise t l) refl
  where
    go : (b : Bool) → pairwise t l ≡ b → false ≡ pairwise t l
    go true e = absurd (differ (sym (h.2 0 ∙ pairwise-at t l h.0 e h.1)))
    go false e = sym e

pub rising-answer : (l : List ℕ) (r : Bool) → IsAllAdjacentAnswer (λ x y b. is_some_and is_le (Some (nat_cmp x y)) ≡ b) l r → r ≡ rising l
rising-answer l true h = sym (pairwise-each leb l (λ k i. le-leb _ _ (non_decreasing_from_is_sorted l true h k (k + 1) 0 (omega arith) i)))
rising-answer l false h = go (rising l) refl
  where
    go : (b : Bool) → rising l ≡ b → false ≡ rising l
    go true e =
        let w = non_decreasing_from_is_sorted l false h in
        absurd (omega (arith, w.2 0, leb-true _ _ (pairwise-at leb l w.0 e w.1)))
    go false e = sym e

-- Searches that can find one place only. Assumes nothing.
use Prim.Native.Nat.{ℕ, zero, suc, ◌+◌, ◌≤◌, ◌<◌}
use native.Mathlib.Omega.{arith}
use native.Mathlib.Decide.{ℕ_discrete}
use mathlib.Core.Path.{◌≡◌, refl, ap, ◌∙◌, sym, subst}
use mathlib.Core.Logic.{◌≢◌}
use mathlib.Core.Bool.{Bool, true, false}
use lib.Dec.{T}
use Rattle.basics.specs.Loops.{first, at_or, up_from}
use Rattle.std.specs.Prelude.{Some, None}
use Rattle.basics.specs.Lists.{All}

module _ (p : ℕ → Bool) where
  pub first-none : (a n : ℕ) → ((k : ℕ) → a ≤ k → k < a + n → p k ≡ false) → first p (up_from a n) ≡ None
  unfolding first up_from
  first-none a zero h = refl
  first-none a (suc n) h = rw (h a (omega arith) (omega arith)) (first-none (suc a) n (λ k l m. h k (omega arith) (omega arith)))

  pub first-only : (a n k : ℕ) → a ≤ k → k < a + n → p k ≡ true → ((j : ℕ) → a ≤ j → j < a + n → p j ≡ true → j ≡ k) → first p (up_from a n) ≡ Some k
  unfolding first up_from
  first-only a zero k l m t u = absurd (omega arith)
  first-only a (suc n) k l m t u = go (p a) refl (λ q. first-only (suc a) n k q (omega arith) t (λ j x y z. u j (omega arith) (omega arith) z))
    where
      go : (s : Bool) → p a ≡ s → (suc a ≤ k → first p (up_from (suc a) n) ≡ Some k) → at_or (p a) a (first p (up_from (suc a) n)) ≡ Some k
      go true e r = rw e (ap Some (u a (omega arith) (omega arith) e))
      go false e r =
          let ne : a ≢ k = λ q. subst T (sym (ap p q ∙ t) ∙ e) tt in
          rw e (r (omega (arith, ne)))

-- what the first place says of the others
pub first-nowhere : (p : ℕ → Bool) (a n : ℕ) → first p (up_from a n) ≡ None → (k : ℕ) → a ≤ k → k < a + n → p k ≡ false
unfolding first up_from
first-nowhere p a zero e k l m = absurd (omega arith)
first-nowhere p a (suc n) e k l m = go (p a) refl (ℕ_discrete a k) (λ q d. first-nowhere p (suc a) n q k d (omega arith))
  where
    go : (s : Bool) → p a ≡ s → Dec (a ≡ k) → (first p (up_from (suc a) n) ≡ None → suc a ≤ k → p k ≡ false) → p k ≡ false
    go true q d r = absurd (let z : ◌≡◌ {A = ℕ} 0 1 = cc (sym (ap (λ (t : Bool). at_or t a (first p (up_from (suc a) n))) q) ∙ e) in omega arith)
    go false q (yes d) r = ap p (sym d) ∙ q
    go false q (no d) r = r (sym (ap (λ (t : Bool). at_or t a (first p (up_from (suc a) n))) q) ∙ e) (omega (arith, d))

pub up-all : (P : ℕ → Type 0) (a n : ℕ) → ((k : ℕ) → a ≤ k → k < a + n → P k) → All P (up_from a n)
unfolding up_from
up-all P a zero h = tt
up-all P a (suc n) h = (h a (omega arith) (omega arith), up-all P (suc a) n (λ k l m. h k (omega arith) (omega arith)))

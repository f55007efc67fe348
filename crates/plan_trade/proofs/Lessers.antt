-- The lesser of two numbers. Assumes nothing.
use Prim.Native.Nat.{ℕ, ◌≤◌, ◌<◌}
use native.Mathlib.Omega.{arith}
use mathlib.Core.Path.{◌≡◌, refl, ap, sym}
use mathlib.Core.Logic.{◌⊎◌, inl, inr}
use mathlib.Core.Bool.{Bool, true, false, cond}
use lib.Dec.{ltb}
use borrow.Author.Tests.{ltb-true, ltb-false, lt-ltb, le-ltb}
use Rattle.plan_trade.specs.Steps.{lesser}

pub lesser-first : (a b : ℕ) → a < b → a ≡ lesser a b
unfolding lesser
lesser-first a b h = ap (λ (t : Bool). cond t a b) (sym (lt-ltb a b h))

pub lesser-second : (a b : ℕ) → b ≤ a → b ≡ lesser a b
unfolding lesser
lesser-second a b h = ap (λ (t : Bool). cond t a b) (sym (le-ltb a b h))

pub lesser-left : (a b : ℕ) → lesser a b ≤ a
unfolding lesser
lesser-left a b = go (ltb a b) refl
  where
    go : (t : Bool) → ltb a b ≡ t → cond t a b ≤ a
    go true q = omega arith
    go false q = ltb-false a b q

pub lesser-right : (a b : ℕ) → lesser a b ≤ b
unfolding lesser
lesser-right a b = go (ltb a b) refl
  where
    go : (t : Bool) → ltb a b ≡ t → cond t a b ≤ b
    go true q = omega (arith, ltb-true a b q)
    go false q = omega arith

pub lesser-is : (a b : ℕ) → (lesser a b ≡ a) ⊎ (lesser a b ≡ b)
unfolding lesser
lesser-is a b = go (ltb a b)
  where
    go : (t : Bool) → (cond t a b ≡ a) ⊎ (cond t a b ≡ b)
    go true = inl refl
    go false = inr refl

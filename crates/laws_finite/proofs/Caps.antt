-- A bound that grows with a count of changes and is always a value of the format: after t changes of no more than a unit each, `cap t` units. It doubles every 2 ^ 23 changes. Assumes nothing.
use mathlib.Core.Path.{◌≡◌, sym, ap, ◌∙◌, subst}
use mathlib.Core.Bool.{Bool, true, false, not}
use Prim.Native.Nat.{ℕ, zero, suc, ◌+◌, ◌*◌, ◌/◌, ◌%◌, ◌^◌, ◌≤◌, ◌<◌}
use native.Mathlib.Nat.{le_of_eq, mul_assoc, mul-le-mul_right, pow-succ'}
use native.Mathlib.Omega.{arith}
use lib.Dec.{T, ltb, ltb→lt, nltb→le}
use lib.Pow.{pow-add, pow_pos}
use lib.Ieee.{Float}
use Rattle.basics.specs.Floats.{◌+f◌, ◌-f◌}
use Rattle.laws_finite.proofs.Laws.{Under, Exact, exact, under_more, add-under, sub-under}

-- always a value of the format
unfoldable pub cap : ℕ → ℕ
cap t = (8388608 + t % 8388608) * 2 ^ (t / 8388608)

-- changes that keep far enough from the format's end
abbrev pub most-changes : ℕ
most-changes = 100000000

grown : (r p : ℕ) → 0 < p → (8388608 + r) * p + 1 ≤ (8388608 + (r + 1)) * p
grown r p h = omega arith

doubled : (p : ℕ) → 0 < p → (8388608 + 8388607) * p + 1 ≤ (8388608 + 0) * (2 * p)
doubled p h = omega arith

pub cap_step : (t : ℕ) → cap t + 1 ≤ cap (t + 1)
unfolding cap
cap_step t = go (ltb (t % 8388608 + 1) 8388608) (ltb→lt (t % 8388608 + 1) 8388608) (nltb→le (t % 8388608 + 1) 8388608)
  where
    go : (c : Bool) → (T c → t % 8388608 + 1 < 8388608) → (T (not c) → 8388608 ≤ t % 8388608 + 1)
        → (8388608 + t % 8388608) * 2 ^ (t / 8388608) + 1 ≤ (8388608 + (t + 1) % 8388608) * 2 ^ ((t + 1) / 8388608)
    go true i j =
        let l = i tt in
        let d : (t + 1) / 8388608 ≡ t / 8388608 = omega arith in
        let r : (t + 1) % 8388608 ≡ t % 8388608 + 1 = omega arith in
        rw (d, r) (grown (t % 8388608) (2 ^ (t / 8388608)) (pow_pos (t / 8388608)))
    go false i j =
        let l = j tt in
        let d : (t + 1) / 8388608 ≡ suc (t / 8388608) = omega arith in
        let r : (t + 1) % 8388608 ≡ 0 = omega arith in
        let f : t % 8388608 ≡ 8388607 = omega arith in
        rw (d, r, f, pow-succ' 2 (t / 8388608)) (doubled (2 ^ (t / 8388608)) (pow_pos (t / 8388608)))

pub cap_more : (t d : ℕ) → cap t ≤ cap (t + d)
cap_more t zero = le_of_eq (ap cap (omega arith))
cap_more t (suc d) = let i = cap_more t d in let j = cap_step (t + d) in let e : cap (t + d + 1) ≡ cap (t + suc d) = ap cap (omega arith) in omega arith

-- no more than what t changes of a unit of 2 ^ k come to
abbrev pub Capped : ℕ → ℕ → Float → Type 0
Capped k t x = Under (cap t * 2 ^ k) x

module _ (k : ℕ) (fits : k ≤ 84) where
  pub exact-cap : (t : ℕ) → t ≤ most-changes → Exact (cap t * 2 ^ k)
  unfolding cap
  exact-cap t h =
      subst Exact (ap (λ x. (8388608 + t % 8388608) * x) (pow-add 2 (t / 8388608) k) ∙ sym (mul_assoc (8388608 + t % 8388608) (2 ^ (t / 8388608)) (2 ^ k)))
      (exact (8388608 + t % 8388608) (t / 8388608 + k) (omega arith) (omega arith))

  pub capped_more : {x : Float} (t d : ℕ) → Capped k t x → Capped k (t + d) x
  capped_more t d p = under_more (cap (t + d) * 2 ^ k) (mul-le-mul_right (2 ^ k) (cap_more t d)) p

  one_more : (t : ℕ) → cap t * 2 ^ k + 1 * 2 ^ k ≤ cap (t + 1) * 2 ^ k
  one_more t = let i = mul-le-mul_right (2 ^ k) (cap_step t) in omega arith

  pub capped_add : {x y : Float} (t : ℕ) → t + 1 ≤ most-changes → Capped k t x → Under (1 * 2 ^ k) y → Capped k (t + 1) (x +f y)
  capped_add t h p q = add-under (cap (t + 1) * 2 ^ k) (exact-cap (t + 1) h) (one_more t) p q

  pub capped_sub : {x y : Float} (t : ℕ) → t + 1 ≤ most-changes → Capped k t x → Under (1 * 2 ^ k) y → Capped k (t + 1) (x -f y)
  capped_sub t h p q = sub-under (cap (t + 1) * 2 ^ k) (exact-cap (t + 1) h) (one_more t) p q

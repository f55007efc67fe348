-- A taker's comparisons are a giver's with the signs turned, also of zeros and of NaN: by the cases of a float. Assumes nothing.
use Prim.Native.Nat.{ℕ, zero, suc, ◌+◌}
use native.Mathlib.Omega.{arith}
use mathlib.Core.Path.{◌≡◌, refl, ap, ◌∙◌}
use mathlib.Core.Bool.{Bool, true, false, not, ◌||◌}
use lib.Dec.{ltb, leb-zero, leb-suc-zero, leb-suc-suc, eqb-zero-suc, eqb-suc-zero}
use lib.Ieee.{Float, nan, inf, fin, neg, lt, le, eq, of_bits, below, level}
use Rattle.basics.specs.Floats.{0f}
use Rattle.rules_plan.specs.Plan.{settled, wants, more}
use Rattle.rules_plan.specs.declared.Side.{Side}
use Rattle.rules_plan.specs.declared.Side.TheVariants.{Giving, Taking}
use Rattle.plan_tests.specs.Sides.{given}

-- -a < 0, and -a ≤ 0
below-zero : (s : Bool) (a z : ℕ) → z ≡ 0 → below (not s) a false z ≡ below false z s a
below-zero false a z q = let e : a + 0 ≡ a = omega arith in rw q (ap (ltb 0) e)
below-zero true a z q = rw q (ltb-zero a)
  where
    ltb-zero : (k : ℕ) → ltb k 0 ≡ false
    ltb-zero zero = refl
    ltb-zero (suc k) = leb-suc-zero (suc k)

upto_zero : (s : Bool) (a z : ℕ) → z ≡ 0 → (below (not s) a false z || level (not s) a false z) ≡ (below false z s a || level false z s a)
upto_zero false a z q = let e : a + 0 ≡ a = omega arith in rw q (ap (λ (k : ℕ). ltb 0 k || level true a false 0) e ∙ some a)
  where
    some : (k : ℕ) → (ltb 0 k || level true k false 0) ≡ (ltb 0 k || level false 0 false k)
    some zero = refl
    some (suc k) = let e : ltb 0 (suc k) ≡ true = leb-suc-suc 0 k ∙ leb-zero k in rw e refl
upto_zero true a z q = rw q (none a)
  where
    none : (k : ℕ) → (ltb k 0 || level false k false 0) ≡ level false 0 true k
    none zero = refl
    none (suc k) = let e : ltb (suc k) 0 ≡ false = leb-suc-zero (suc k) in rw (e, eqb-suc-zero k, eqb-zero-suc k)

neg_lt : (x : Float) → lt (neg x) 0f ≡ lt 0f x
unfolding lt neg of_bits
neg_lt nan = refl
neg_lt (inf s) = refl
neg_lt (fin s m e) = below-zero s _ _ (omega arith)

neg_le : (x : Float) → le (neg x) 0f ≡ le 0f x
unfolding le lt eq neg of_bits
neg_le nan = refl
neg_le (inf s) = refl
neg_le (fin s m e) = upto_zero s _ _ (omega arith)

neg_neg : (x : Float) → neg (neg x) ≡ x
unfolding neg
neg_neg nan = refl
neg_neg (inf false) = refl
neg_neg (inf true) = refl
neg_neg (fin false m e) = refl
neg_neg (fin true m e) = refl

pub settled-given : (side : Side) (x : Float) → le (given side x) 0f ≡ settled side x
settled-given Giving x = refl
settled-given Taking x = neg_le x

pub wants-given : (side : Side) (y : Float) → lt (given side y) 0f ≡ wants side y
wants-given Giving y = refl
wants-given Taking y = neg_lt y

pub more_given : (side : Side) (x y : Float) → lt (given side x) (neg (given side y)) ≡ more side x y
more_given Giving x y = refl
more_given Taking x y = ap (lt (neg x)) (neg_neg y)

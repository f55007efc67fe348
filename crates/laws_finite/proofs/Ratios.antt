-- The two parts into which a removal parts an amount: q and 1 - q, rounded, in units of 2 ^ -24, come to one unit more than 1. Assumes nothing.
use mathlib.Core.Path.{◌≡◌, refl, sym, ap, ◌∙◌, subst}
use mathlib.Core.Logic.{inl, inr}
use mathlib.Core.Bool.{Bool, true, false, ◌&&◌, ◌||◌, cond, true≢false}
use mathlib.Core.Logic.{⊎_elim}
use Prim.Native.Nat.{ℕ, zero, suc, ◌+◌, ◌-◌, ◌*◌, ◌/◌, ◌^◌, ◌≤◌, ◌<◌}
use native.Mathlib.Nat.{le_trans, le_of_eq, lt_of_lt_of_le, eq-or-lt_of_le, mul_comm, mul_assoc, mul_right_comm, mul_left_comm, mul-le-mul, mul-le-mul_right, le_of_mul-le-mul_right, mul-pos, div-add-mod', mod-lt, zero-mul}
use native.Mathlib.Omega.{arith}
use lib.IntN.{ℤ, pos}
use lib.Dec.{T, ltb, eqb, ltb→lt, eqb→eq}
use lib.Pow.{shl_lt}
use native.Mathlib.Bridge.{le_by_compare, IsLe}
use lib.Count.{count_trailing_zeros}
use lib.Ieee.{Float, nan, inf, fin, binary32, prec, emax, low, up, down, odd, units, round, neg, sum, add, sub, mul, div, lt, eq, le, of_bits, of_fields}
use lib.Ieee.Fits.{round_is, down_pos}
use lib.Ieee.Exact.{HasValue, round_exact}
use lib.Ieee.Order.{round_mono}
use borrow.Author.Tests.{le-ltb, ltb-false}
use Rattle.basics.specs.Floats.{0f, 1f, ◌+f◌, ◌-f◌, ◌*f◌, finite}
use Rattle.rules_mixture.specs.Mixture.{ratio}
use Rattle.basics.proofs.Loops.{and_left}
use Rattle.basics.proofs.Lists.{or_cases}
use Rattle.laws_finite.proofs.Laws.{Under, under, Exact, exact, round_within, weigh, under_finite, Up, up_fin}

-- q is not negative, and no more than A of 2 ^ -24
pub data Frac (A : ℕ) : Float → Type 0 where
  frac : {m : ℕ} {e : ℤ} → m * up e * 16777216 ≤ A * down e → Frac A (fin false m e)

cross : (m : ℕ) (e : ℤ) (n : ℕ) (d : ℤ) → T (le (fin false m e) (fin false n d)) → m * up e * down d ≤ n * up d * down e
unfolding le lt eq
cross m e n d t =
    ⊎_elim (λ h. let g = ltb→lt (m * up e * down d) (n * up d * down e) h in omega arith)
    (λ h. le_of_eq (eqb→eq (m * up e * down d) (n * up d * down e) (and_left (eqb (m * up e * down d) (n * up d * down e)) true h))) (or_cases (ltb (m * up e * down d) (n * up d * down e)) (eqb (m * up e * down d) (n * up d * down e) && true) t)

cancel : (m u d n B k D : ℕ) → 0 < k → n * D ≡ B * k → m * u * k ≤ n * d → m * u * D ≤ B * d
cancel m u d n B k D K e h =
    le_of_mul-le-mul_right (le_trans (le_of_eq (mul_right_comm (m * u) D k)) (le_trans (mul-le-mul_right D h) (le_of_eq (mul_right_comm n d D ∙ ap (λ x. x * d) e ∙ mul_right_comm B k d)))) K

from_le : (m : ℕ) (e : ℤ) (y : Float) (B : ℕ) → HasValue y false B 16777216 → T (le (fin false m e) y) → m * up e * 16777216 ≤ B * down e
from_le m e nan B v t = absurd v
from_le m e (inf s) B v t = absurd v
from_le m e (fin true n d) B v t = absurd (true≢false v.0)
from_le m e (fin false n d) B v t = cancel m (up e) (down e) (n * up d) B (down d) 16777216 (down_pos d) v.1 (cross m e n d t)

inf_not : (y : Float) (B : ℕ) → HasValue y false B 16777216 → T (le (inf false) y) → ⊥
unfolding le lt eq
inf_not nan B v t = v
inf_not (inf s) B v t = v
inf_not (fin s n d) B v t = t

odd_frac : (g q k l : ℕ) (y : Float) (B : ℕ) → HasValue y false B 16777216 → T (le (odd g false q k l) y) → Frac B (odd g false q k l)
unfolding odd
odd_frac g zero k l y B v t = frac (from_le zero (pos zero) y B v t)
odd_frac g (suc q) k l y B v t = frac (from_le _ _ y B v t)

units_frac : (q k : ℕ) (y : Float) (B : ℕ) → HasValue y false B 16777216 → T (le (units binary32 false q k) y) → Frac B (units binary32 false q k)
unfolding units
units_frac q k y B v = go (ltb (q * 2 ^ k) (2 ^ (low binary32 + suc (emax binary32))))
  where
    go : (c : Bool) → T (le (cond c (odd (suc (prec binary32)) false q k (low binary32)) (inf false)) y) → Frac B (cond c (odd (suc (prec binary32)) false q k (low binary32)) (inf false))
    go true t = odd_frac (suc (prec binary32)) q k (low binary32) y B v t
    go false t = absurd (inf_not y B v t)

value : (c : ℕ) → c ≤ 16777216 → HasValue (round binary32 false c 16777216) false c 16777216
unfolding IsLe
value c h = elim (eq-or-lt_of_le h) [
  | inl e ↦ subst (λ x. HasValue (round binary32 false x 16777216) false x 16777216) (sym e)
      (round_exact binary32 false 16777216 16777216 1 149 (omega arith) (le_by_compare 2 16777216 tt) (le_by_compare (suc (1 * 2 ^ 149)) (2 ^ 277) tt) refl)
  | inr l ↦ round_exact binary32 false c 16777216 c 125 (omega arith) l (lt_of_lt_of_le (shl_lt 24 125 l) (le_by_compare (2 ^ 149) (2 ^ 277) tt)) (sym (mul_assoc c (2 ^ 125) 16777216))
]

pub frac_round : (num den c : ℕ) → 0 < den → c ≤ 16777216 → num * 16777216 ≤ c * den → Frac c (round binary32 false num den)
frac_round num den c D C h =
    subst (Frac c) (sym (round_is binary32 false num den))
    (units_frac _ _ (round binary32 false c 16777216) c (value c C)
    (subst (λ z. T (le z (round binary32 false c 16777216))) (round_is binary32 false num den) (round_mono binary32 num den c 16777216 D (omega arith) h)))

-- ---- q and 1 - q

-- q is not negative, and at most 1
pub data Unit-part : Float → Type 0 where
  unit_part : {m : ℕ} {e : ℤ} → m * up e ≤ down e → Unit-part (fin false m e)

-- in units of 2 ^ -24, one more than the whole part
unfoldable pub floor : Float → ℕ
floor nan = 0
floor (inf s) = 0
floor (fin s m e) = m * up e * 16777216 / down e

pub floor_le : (w d : ℕ) → 0 < d → w ≤ d → (w * 16777216 / d ≤ 16777216) × ((w * 16777216 / d * d ≤ w * 16777216) × (w * 16777216 ≤ (w * 16777216 / d + 1) * d))
floor_le w d D h =
    let f = w * 16777216 / d in
    let e = div-add-mod' (w * 16777216) d in
    let l = mod-lt (w * 16777216) D in
    let i : f * d ≤ w * 16777216 = omega arith in
    let k : f * d ≤ 16777216 * d = omega arith in
    (le_of_mul-le-mul_right k D, (i, omega arith))

pub part-frac : {q : Float} → Unit-part q → Frac (floor q + 1) q
unfolding floor
part-frac (unit_part {m} {e} h) = frac (floor_le (m * up e) (down e) (down_pos e) h).1.1

rest_le : (f g w d : ℕ) → g + f ≡ 16777216 → f * d ≤ w * 16777216 → (1 * 1 * d - w * 1) * 16777216 ≤ g * (1 * d)
rest_le f g w d e h = let i = ap (λ x. x * d) e in omega arith

pub rest-frac : {q : Float} → Unit-part q → Frac (16777216 - floor q) (1f -f q)
unfolding floor sub add neg sum of_bits of_fields odd count_trailing_zeros
rest-frac (unit_part {m} {e} h) =
    let f = m * up e * 16777216 / down e in
    let i = floor_le (m * up e) (down e) (down_pos e) h in
    let i0 = i.0 in
    let l : m * up e * 1 ≤ 1 * 1 * down e = omega arith in
    let D = down_pos e in
    rw (le-ltb (1 * 1 * down e) (m * up e * 1) l)
    (frac_round (1 * 1 * down e - m * up e * 1) (1 * down e) (16777216 - f) (omega arith) (omega arith) (rest_le f (16777216 - f) (m * up e) (down e) (omega arith) i.1.0))

-- ---- an amount's part

scaled : (M A g w v n d U : ℕ) → w ≤ M * U * n → v * 16777216 ≤ A * d → M * A ≤ g * 16777216 → w * v ≤ g * U * (n * d)
scaled M A g w v n d U p q h =
    le_of_mul-le-mul_right {k = 16777216} (le_trans (le_of_eq (mul_assoc w v 16777216)) (le_trans (mul-le-mul p q)
    (le_trans (le_of_eq (simp (mul_assoc, mul_comm, mul_left_comm))) (le_trans (mul-le-mul_right (U * (n * d)) h) (le_of_eq (simp (mul_assoc, mul_comm, mul_left_comm))))))) (omega arith)

-- what is not negative and no more than m units of 2 ^ k
pub data Clear (B : ℕ) : Float → Type 0 where
  clear : {m : ℕ} {e : ℤ} → m * up e ≤ B * down e → Clear B (fin false m e)

pub clear-under : {B : ℕ} {x : Float} → Clear B x → Under B x
clear-under (clear h) = under h

odd_clear : (B g q k l : ℕ) → Under B (odd g false q k l) → Clear B (odd g false q k l)
unfolding odd
odd_clear B g zero k l (under p) = clear p
odd_clear B g (suc q) k l (under p) = clear p

no_inf : (B : ℕ) → Under B (inf false) → ⊥
unfolding finite
no_inf B t = under_finite t

units_clear : (B q k : ℕ) → Under B (units binary32 false q k) → Clear B (units binary32 false q k)
unfolding units
units_clear B q k = go (ltb (q * 2 ^ k) (2 ^ (low binary32 + suc (emax binary32))))
  where
    go : (c : Bool) → Under B (cond c (odd (suc (prec binary32)) false q k (low binary32)) (inf false)) → Clear B (cond c (odd (suc (prec binary32)) false q k (low binary32)) (inf false))
    go true t = odd_clear B (suc (prec binary32)) q k (low binary32) t
    go false t = absurd (no_inf B t)

round_clear : (num den B : ℕ) → 0 < den → Exact B → num ≤ B * den → Clear B (round binary32 false num den)
round_clear num den B D x h =
    subst (Clear B) (sym (round_is binary32 false num den)) (units_clear B _ _ (subst (Under B) (round_is binary32 false num den) (round_within false num den B D x h)))

module _ (k : ℕ) (fits : k ≤ 104) where
  pub mul-frac : {x q : Float} (M A g : ℕ) → M * A ≤ g * 16777216 → g < 2 ^ 24 → Clear (M * 2 ^ k) x → Frac A q → Clear (g * 2 ^ k) (x *f q)
  unfolding mul
  mul-frac M A g h l (clear {m} {e} p) (frac {m = n} {e = d} r) =
      round_clear (m * up e * (n * up d)) (down e * down d) (g * 2 ^ k) (mul-pos (down_pos e) (down_pos d)) (exact g k l fits) (scaled M A g (m * up e) (n * up d) (down e) (down d) (2 ^ k) p r h)

pub add-clear : {x y : Float} {A B : ℕ} (C : ℕ) → Exact C → A + B ≤ C → Clear A x → Clear B y → Clear C (x +f y)
unfolding add sum
add-clear {A} {B} C x h (clear {m} {e} p) (clear {m = n} {e = d} q) =
    round_clear (m * up e * down d + n * up d * down e) (down e * down d) C (mul-pos (down_pos e) (down_pos d)) x (weigh C (down e) (down d) (m * up e) (n * up d) A B p q h)

-- ---- the ratio of a removal

-- no NaN, and without a sign
data Plain : Float → Type 0 where
  plain_fin : {m : ℕ} {e : ℤ} → Plain (fin false m e)
  plain_inf : Plain (inf false)

odd_plain : (g q k l : ℕ) → Plain (odd g false q k l)
unfolding odd
odd_plain g zero k l = plain_fin
odd_plain g (suc q) k l = plain_fin

units_plain : (q k : ℕ) → Plain (units binary32 false q k)
unfolding units
units_plain q k = go (ltb (q * 2 ^ k) (2 ^ (low binary32 + suc (emax binary32))))
  where
    go : (c : Bool) → Plain (cond c (odd (suc (prec binary32)) false q k (low binary32)) (inf false))
    go true = odd_plain (suc (prec binary32)) q k (low binary32)
    go false = plain_inf

round_plain : (num den : ℕ) → Plain (round binary32 false num den)
round_plain num den = subst Plain (sym (round_is binary32 false num den)) (units_plain _ _)

one-part : Unit-part 1f
unfolding of_bits of_fields odd count_trailing_zeros IsLe
one-part = unit_part (le_by_compare 1 1 tt)

neither : (p q : Bool) → (p || q) ≡ false → p ≡ false
neither true q h = h
neither false q h = refl

plain-part : (y : Float) → Plain y → Unit-part (cond (le 1f y) 1f y)
unfolding le lt eq of_bits of_fields odd count_trailing_zeros
plain-part nan x' = elim x' [ ]
plain-part (inf true) x4 = elim x4 [ ]
plain-part (fin true m e) x5 = elim x5 [ ]
plain-part (inf false) plain_inf = one-part
plain-part (fin false m e) plain_fin = go (le 1f (fin false m e)) refl
  where
    go : (t : Bool) → le 1f (fin false m e) ≡ t → Unit-part (cond t 1f (fin false m e))
    go true h = one-part
    go false h = unit_part {m = m} {e = e} (let l = ltb-false (1 * 1 * down e) (m * up e * 1) (neither (ltb (1 * 1 * down e) (m * up e * 1)) _ h) in omega arith)

pub ratio-part : {C : ℕ} (a total : Float) → Up a → lt 0f a ≡ true → Clear C total → Unit-part (ratio a total)
unfolding ratio div lt of_bits of_fields odd count_trailing_zeros
ratio-part {C = C} nan total x3 p _ = elim x3 [ ]
ratio-part {C = C} (inf _) total x5 p _ = elim x5 [ ]
ratio-part {C = C} (fin false m e) nan _ p x13 = elim x13 [ ]
ratio-part {C = C} (fin false m e) (inf _) _ p x15 = elim x15 [ ]
ratio-part {C = C} (fin false m e) (fin true n d) _ p x19 = elim x19 [ ]
ratio-part {C = C} (fin true m e) total x10 p _ = elim x10 [ ]
ratio-part (fin false m e) (fin false n d) up_fin p (clear h) = go (eqb n 0) (eqb m 0) (eqb→eq m 0)
  where
    some : m ≡ 0 → ⊥
    some z = let l = ltb→lt (0 * 1 * down e) (m * up e * 1) (subst T (sym p) tt) in let k : m * up e ≡ 0 = ap (λ x. x * up e) z ∙ zero-mul (up e) in omega arith

    go : (i j : Bool) → (T j → m ≡ 0) → Unit-part (cond (le 1f (cond i (cond j nan (inf false)) (round binary32 false (m * up e * down d) (n * up d * down e)))) 1f (cond i (cond j nan (inf false)) (round binary32 false (m * up e * down d) (n * up d * down e))))
    go true true z = absurd (some (z tt))
    go true false z = plain-part (inf false) plain_inf
    go false j z = plain-part _ (round_plain (m * up e * down d) (n * up d * down e))

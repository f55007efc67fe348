-- Bounds on binary32 values. `Under B x` says that x is finite and no larger than B in size. A B that is a value of the format, `Exact B`,
-- bounds what a rounding leaves of anything that it bounds. Assumes nothing.
use mathlib.Core.Path.{◌≡◌, refl, sym, ap, ◌∙◌, subst}
use mathlib.Core.Bool.{Bool, true, false, ◌&&◌, cond, beq, true≢false}
use mathlib.Core.Logic.{⊎_elim}
use Prim.Native.Nat.{ℕ, zero, suc, ◌+◌, ◌-◌, ◌*◌, ◌^◌, ◌≤◌, ◌<◌}
use native.Mathlib.Nat.{le_trans, le_of_eq, lt_of_lt_of_le, mul-one, mul_comm, mul_assoc, mul_right_comm, mul_left_comm, zero-mul, mul-le-mul_right, mul-le-mul, mul-lt-mul_of_pos_right, le_of_mul-le-mul_right, mul-pos}
use native.Mathlib.Omega.{arith}
use native.Mathlib.Bridge.{le_by_compare, IsLe}
use lib.IntN.{ℤ, pos}
use lib.Dec.{T, ltb, eqb, ltb→lt, eqb→eq}
use lib.Pow.{pow-add, pow_pos, pow_mono, shl_lt}
use lib.Ieee.{Float, nan, inf, fin, binary32, prec, emax, low, up, down, odd, units, round, neg, sum, add, sub, mul, div, lt, eq, le, of_int, of_bits, of_fields, unlike}
use lib.Ieee.Fits.{round_is, down_pos}
use lib.Ieee.Back.{round_whole}
use lib.Count.{count_trailing_zeros}
use lib.Ieee.Exact.{HasValue, round_exact}
use lib.Ieee.Order.{round_mono}
use Rattle.basics.proofs.Loops.{and_left}
use Rattle.basics.proofs.Lists.{or_cases}
use Rattle.basics.specs.Floats.{0f, 1f, ◌+f◌, ◌-f◌, ◌*f◌, ◌/f◌, of_count, finite}

-- finite, and of a size of no more than B
pub data Under (B : ℕ) : Float → Type 0 where
  under : {s : Bool} {m : ℕ} {e : ℤ} → m * up e ≤ B * down e → Under B (fin s m e)

-- q * 2 ^ j, with q of no more digits than the format keeps
pub record Exact (B : ℕ) : Type 0 where
  pub q : ℕ
  pub j : ℕ
  pub small : q < 2 ^ 24
  pub fine : q * 2 ^ j < 2 ^ 128
  pub is : B ≡ q * 2 ^ j

-- ---- what `round` leaves

cancelled : (m u d n B k : ℕ) → 0 < k → n * 1 ≡ B * k → m * u * k ≤ n * d → m * u ≤ B * d
cancelled m u d n B k K e h = le_of_mul-le-mul_right (le_trans h (le_trans (mul-le-mul_right d (le_of_eq (sym (mul-one n) ∙ e))) (le_of_eq (mul_right_comm B k d)))) K

pub from_le : (m : ℕ) (e : ℤ) (y : Float) (B : ℕ) → HasValue y false B 1 → T (le (fin false m e) y) → m * up e ≤ B * down e
unfolding le lt eq
from_le m e nan B v t = absurd v
from_le m e (inf s) B v t = absurd v
from_le m e (fin true n d) B v t = absurd (true≢false v.0)
from_le m e (fin false n d) B v t =
    cancelled m (up e) (down e) (n * up d) B (down d) (down_pos d) v.1
    (⊎_elim (λ h. let g = ltb→lt (m * up e * down d) (n * up d * down e) h in omega arith)
    (λ h. le_of_eq (eqb→eq (m * up e * down d) (n * up d * down e) (and_left (eqb (m * up e * down d) (n * up d * down e)) true h))) (or_cases (ltb (m * up e * down d) (n * up d * down e)) (eqb (m * up e * down d) (n * up d * down e) && true) t))

pub inf_not_le : (y : Float) (B : ℕ) → HasValue y false B 1 → T (le (inf false) y) → ⊥
unfolding le lt eq
inf_not_le nan B v t = v
inf_not_le (inf s) B v t = v
inf_not_le (fin s n d) B v t = t

odd_under : (s : Bool) (g q k l : ℕ) (y : Float) (B : ℕ) → HasValue y false B 1 → T (le (odd g false q k l) y) → Under B (odd g s q k l)
unfolding odd
odd_under s g zero k l y B v t = under (from_le zero (pos zero) y B v t)
odd_under s g (suc q) k l y B v t = under (from_le _ _ y B v t)

units_under : (s : Bool) (q k : ℕ) (y : Float) (B : ℕ) → HasValue y false B 1 → T (le (units binary32 false q k) y) → Under B (units binary32 s q k)
unfolding units
units_under s q k y B v = go (ltb (q * 2 ^ k) (2 ^ (low binary32 + suc (emax binary32))))
  where
    go : (c : Bool) → T (le (cond c (odd (suc (prec binary32)) false q k (low binary32)) (inf false)) y) → Under B (cond c (odd (suc (prec binary32)) s q k (low binary32)) (inf s))
    go true t = odd_under s (suc (prec binary32)) q k (low binary32) y B v t
    go false t = absurd (inf_not_le y B v t)

scaled : (B q j l : ℕ) → B ≡ q * 2 ^ j → B * 2 ^ l ≡ q * 2 ^ (j + l) * 1
scaled B q j l e = ap (λ (x : ℕ). x * 2 ^ l) e ∙ mul_assoc q (2 ^ j) (2 ^ l) ∙ ap (λ (x : ℕ). q * x) (sym (pow-add 2 j l)) ∙ sym (mul-one (q * 2 ^ (j + l)))

fine_scaled : (q p k m l : ℕ) → 0 < l → p ≡ k * l → q * k < m → q * p < m * l
fine_scaled q p k m l L e h = rw (e, ← (mul_assoc q k l)) (mul-lt-mul_of_pos_right h L)

exact-value : (B : ℕ) → Exact B → HasValue (round binary32 false B 1) false B 1
exact-value B x =
    round_exact binary32 false B 1 x.q (x.j + 149) (omega arith) x.small
    (subst (λ (z : ℕ). x.q * 2 ^ (x.j + 149) < z) (sym (pow-add 2 128 149))
    (fine_scaled x.q (2 ^ (x.j + 149)) (2 ^ x.j) (2 ^ 128) (2 ^ 149) (pow_pos 149) (pow-add 2 x.j 149) x.fine))
    (scaled B x.q x.j 149 x.is)

pub round_within : (s : Bool) (num den B : ℕ) → 0 < den → Exact B → num ≤ B * den → Under B (round binary32 s num den)
round_within s num den B D x h =
    subst (λ z. Under B z) (sym (round_is binary32 s num den))
    (units_under s _ _ (round binary32 false B 1) B (exact-value B x)
    (subst (λ z. T (le z (round binary32 false B 1))) (round_is binary32 false num den) (round_mono binary32 num den B 1 D (omega arith) (omega arith))))

-- ---- the operations

-- two fractions that come to at most a number together
pub weigh : (x u v m n A B : ℕ) → m ≤ A * u → n ≤ B * v → A + B ≤ x → m * v + n * u ≤ x * (u * v)
weigh x u v m n A B p q h =
    let i = mul-le-mul_right v p in
    let j = mul-le-mul_right u q in
    let k = mul-le-mul_right (u * v) h in
    omega arith

sum-under : (s t : Bool) (a b c C : ℕ) → 0 < c → Exact C → a + b ≤ C * c → Under C (sum binary32 s a t b c)
unfolding sum
sum-under s t a b c C K x h = go (beq s t) (ltb a b)
  where
    go : (i j : Bool) → Under C (cond i (round binary32 s (a + b) c) (cond j (round binary32 t (b - a) c) (round binary32 (s && ltb b a) (a - b) c)))
    go true j = round_within s (a + b) c C K x h
    go false true = round_within t (b - a) c C K x (omega arith)
    go false false = round_within (s && ltb b a) (a - b) c C K x (omega arith)

pub add-under : {x y : Float} {A B : ℕ} (C : ℕ) → Exact C → A + B ≤ C → Under A x → Under B y → Under C (x +f y)
unfolding add
add-under {A} {B} C x h (under {s} {m} {e} p) (under {s = t} {m = n} {e = d} q) =
    sum-under s t (m * up e * down d) (n * up d * down e) (down e * down d) C (mul-pos (down_pos e) (down_pos d)) x
    (weigh C (down e) (down d) (m * up e) (n * up d) A B p q h)

pub neg_under : {x : Float} {A : ℕ} → Under A x → Under A (neg x)
unfolding neg
neg_under (under p) = under p

pub sub-under : {x y : Float} {A B : ℕ} (C : ℕ) → Exact C → A + B ≤ C → Under A x → Under B y → Under C (x -f y)
unfolding sub
sub-under C e h p q = add-under C e h p (neg_under q)

product : (m n A B u v C : ℕ) → m ≤ A * u → n ≤ B * v → A * B ≤ C → m * n ≤ C * (u * v)
product m n A B u v C p q h =
    le_trans (mul-le-mul p q) (le_trans (le_of_eq (simp (mul_assoc, mul_left_comm))) (mul-le-mul_right (u * v) h))

pub mul-under : {x y : Float} {A B : ℕ} (C : ℕ) → Exact C → A * B ≤ C → Under A x → Under B y → Under C (x *f y)
unfolding mul
mul-under {A} {B} C x h (under {s} {m} {e} p) (under {s = t} {m = n} {e = d} q) =
    round_within (unlike s t) (m * up e * (n * up d)) (down e * down d) C (mul-pos (down_pos e) (down_pos d)) x (product (m * up e) (n * up d) A B (down e) (down d) C p q h)

pub under_more : {x : Float} {A : ℕ} (B : ℕ) → A ≤ B → Under A x → Under B x
under_more B h (under {e} p) = under (le_trans p (mul-le-mul_right (down e) h))

pub under_finite : {x : Float} {A : ℕ} → Under A x → T (finite x)
unfolding finite
under_finite (under p) = tt

pub zero-under : Under 0 0f
unfolding of_bits of_fields odd IsLe
zero-under = under (le_by_compare 0 0 tt)

pub one-under : Under 1 1f
unfolding of_bits of_fields odd IsLe count_trailing_zeros
one-under = under (le_by_compare 1 1 tt)

-- ---- a quotient by a count

quotient : (m u n A C v w : ℕ) → m ≤ A * u → A ≤ C * n → w * 1 ≡ n * v → m * v ≤ C * (w * u)
quotient m u n A C v w p h e =
    le_trans (mul-le-mul_right v (le_trans p (mul-le-mul_right u h)))
    (le_of_eq (subst (λ z. C * n * u * v ≡ C * (z * u)) (sym e ∙ mul-one w) (simp (mul_assoc, mul_comm, mul_left_comm))))

some : (w n v : ℕ) → 0 < n → 0 < v → w * 1 ≡ n * v → 0 < w
some w n v N K e = let j = mul-pos N K in omega arith

none : (w u : ℕ) → 0 < w * u → w ≡ 0 → ⊥
none w u h e = let i : w * u ≡ 0 = ap (λ z. z * u) e ∙ zero-mul u in omega arith

pub div_value : {x : Float} {A : ℕ} (y : Float) (n C : ℕ) → 0 < n → HasValue y false n 1 → Exact C → A ≤ C * n → Under A x → Under C (x /f y)
unfolding div
div_value nan n C N v x h p = absurd v
div_value (inf t) n C N v x h p = absurd v
div_value {A} (fin t w d) n C N v x h (under {s} {m} {e} p) = go (eqb w 0) (eqb→eq w 0)
  where
    pos : 0 < w * up d
    pos = some (w * up d) n (down d) N (down_pos d) v.1

    go : (c : Bool) → (T c → w ≡ 0) → Under C (cond c (cond (eqb m 0) nan (inf (unlike s t))) (round binary32 (unlike s t) (m * up e * down d) (w * up d * down e)))
    go true z = absurd (none w (up d) pos (z tt))
    go false z =
        round_within (unlike s t) (m * up e * down d) (w * up d * down e) C (mul-pos pos (down_pos e)) x
        (quotient (m * up e) (down e) n A C (down d) (w * up d) p h v.1)

pub div-count : {x : Float} {A : ℕ} (n C : ℕ) → 0 < n → n ≤ 2 ^ 24 → Exact C → A ≤ C * n → Under A x → Under C (x /f of_count n)
unfolding of_int
div-count n C N m x h p = div_value (of_count n) n C N (round_whole binary32 false n m) x h p

-- ---- bounds that a format holds

pub exact : (q j : ℕ) → q < 2 ^ 24 → j ≤ 104 → Exact (q * 2 ^ j)
exact q j h k = record { q = q; j = j; small = h; fine = lt_of_lt_of_le (shl_lt 24 j h) (pow_mono {j = 128} (omega arith)); is = refl }

-- ---- in units of 2 ^ k

-- no more than m units of 2 ^ k
abbrev pub Within : ℕ → ℕ → Float → Type 0
Within k m x = Under (m * 2 ^ k) x

units_sum : (m n p u : ℕ) → m + n ≤ p → m * u + n * u ≤ p * u
units_sum m n p u h = let i = mul-le-mul_right u h in omega arith

module _ (k : ℕ) (fits : k ≤ 104) where
  pub within-add : {x y : Float} (m n p : ℕ) → m + n ≤ p → p < 2 ^ 24 → Within k m x → Within k n y → Within k p (x +f y)
  within-add m n p h l a b = add-under (p * 2 ^ k) (exact p k l fits) (units_sum m n p (2 ^ k) h) a b

  pub within-sub : {x y : Float} (m n p : ℕ) → m + n ≤ p → p < 2 ^ 24 → Within k m x → Within k n y → Within k p (x -f y)
  within-sub m n p h l a b = sub-under (p * 2 ^ k) (exact p k l fits) (units_sum m n p (2 ^ k) h) a b

  pub within_more : {x : Float} (m p : ℕ) → m ≤ p → Within k m x → Within k p x
  within_more m p h a = under_more (p * 2 ^ k) (mul-le-mul_right (2 ^ k) h) a

  pub within-zero : (p : ℕ) → Within k p 0f
  within-zero p = under_more (p * 2 ^ k) (omega arith) zero-under

  -- m units shared among n
  pub within-div : {x : Float} (m n p : ℕ) → 0 < n → n ≤ 2 ^ 24 → m ≤ p * n → p < 2 ^ 24 → Within k m x → Within k p (x /f of_count n)
  within-div m n p N s h l a = div-count n (p * 2 ^ k) N s (exact p k l fits) (le_trans (mul-le-mul_right (2 ^ k) h) (le_of_eq (mul_right_comm p n (2 ^ k)))) a

  -- a part of no more than the whole
  pub within-part : {x q : Float} (m : ℕ) → m < 2 ^ 24 → Within k m x → Under 1 q → Within k m (x *f q)
  within-part m l a b = mul-under (m * 2 ^ k) (exact m k l fits) (le_of_eq (mul-one (m * 2 ^ k))) a b

-- ---- a sum of two that are not of one sign is no larger than the larger

-- finite, without a sign
pub data Up : Float → Type 0 where
  up_fin : {m : ℕ} {e : ℤ} → Up (fin false m e)

-- finite, with a sign
pub data Down : Float → Type 0 where
  down_fin : {m : ℕ} {e : ℤ} → Down (fin true m e)

larger : (C a b u v : ℕ) → a ≤ C * u → b ≤ C * v → (a * v ≤ C * (u * v)) × (b * u ≤ C * (u * v))
larger C a b u v p q = let i = mul-le-mul_right v p in let j = mul-le-mul_right u q in (omega arith, omega arith)

opposed : (s t : Bool) (a b c C : ℕ) → beq s t ≡ false → 0 < c → Exact C → a ≤ C * c → b ≤ C * c → Under C (sum binary32 s a t b c)
unfolding sum
opposed s t a b c C n K x p q = rw n (go (ltb a b))
  where
    go : (j : Bool) → Under C (cond j (round binary32 t (b - a) c) (round binary32 (s && ltb b a) (a - b) c))
    go true = round_within t (b - a) c C K x (omega arith)
    go false = round_within (s && ltb b a) (a - b) c C K x (omega arith)

pub up-down : {x y : Float} (C : ℕ) → Exact C → Up x → Down y → Under C x → Under C y → Under C (x +f y)
unfolding add
up-down C x (up_fin {m} {e}) (down_fin {m = n} {e = d}) (under p) (under q) =
    opposed false true (m * up e * down d) (n * up d * down e) (down e * down d) C refl (mul-pos (down_pos e) (down_pos d)) x
    (larger C (m * up e) (n * up d) (down e) (down d) p q).0 (larger C (m * up e) (n * up d) (down e) (down d) p q).1

pub down-up : {x y : Float} (C : ℕ) → Exact C → Down x → Up y → Under C x → Under C y → Under C (x +f y)
unfolding add
down-up C x (down_fin {m} {e}) (up_fin {m = n} {e = d}) (under p) (under q) =
    opposed true false (m * up e * down d) (n * up d * down e) (down e * down d) C refl (mul-pos (down_pos e) (down_pos d)) x
    (larger C (m * up e) (n * up d) (down e) (down d) p q).0 (larger C (m * up e) (n * up d) (down e) (down d) p q).1

-- The highest bit of a pattern is the value's sign, since reading the pattern back gives the value. Assumes nothing.
use mathlib.Core.Path.{◌≡◌, refl, ap, sym, ◌∙◌, subst}
use mathlib.Core.Bool.{Bool, true, false, not, cond}
use Prim.Native.Nat.{ℕ, zero, suc, ◌+◌, ◌%◌, ◌/◌, ◌<◌}
use native.Mathlib.Omega.{arith}
use native.Mathlib.Decide.{dec_lt}
use lib.Dec.{T, ltb, leb, eqb}
use lib.Ieee.{Float, nan, inf, fin, Format, binary32, prec, low, hid, ones, top, odd, of_fields, of_bits, to_bits, fits, is_nan, lt}
use lib.Ieee.Bits.{of_bits-to_bits}
use borrow.Author.Tests.{lt-ltb, le-ltb, le-leb, lt-leb}
use Rattle.basics.specs.Floats.{finite_sign_clear}
use Rattle.basics.proofs.Tests.{differ}

sign_of : Float → Bool
sign_of nan = false
sign_of (inf s) = s
sign_of (fin s m e) = s

sign_odd : (d : ℕ) (s : Bool) (q k l : ℕ) → sign_of (odd d s q k l) ≡ s
unfolding odd sign_of
sign_odd d s zero k l = refl
sign_odd d s (suc q) k l = refl

sign_fields : (f : Format) (s : Bool) (x t : ℕ) → T (not (is_nan (of_fields f s x t))) → sign_of (of_fields f s x t) ≡ s
unfolding of_fields sign_of is_nan
sign_fields f s zero t n = sign_odd (prec f) s t 0 (low f)
sign_fields f s (suc x) t n = outer (eqb (suc x) (ones f)) (eqb t 0) n
  where
    o : Float
    o = odd (prec f) s (hid f + t) x (low f)

    outer : (a b : Bool) → T (not (is_nan (cond a (cond b (inf s) nan) o))) → sign_of (cond a (cond b (inf s) nan) o) ≡ s
    outer true true n = refl
    outer true false n = absurd n
    outer false b n = sign_odd (prec f) s (hid f + t) x (low f)

-- a value that has a pattern of its own
sign_bit : (f : Format) (v : Float) → T (fits f v) → T (not (is_nan v)) → leb (top f) (to_bits f v) ≡ sign_of v
unfolding of_bits
sign_bit f v h n =
    let w : ℕ = to_bits f v in
    let e : of_bits f w ≡ v = of_bits-to_bits f v h in
    sym (sign_fields f (leb (top f) w) (w % top f / hid f) (w % hid f) (subst (λ (x : Float). T (not (is_nan x))) (sym e) n)) ∙ ap sign_of e

below_or_not : (a b : ℕ) → ltb a b ≡ not (leb b a)
below_or_not a b = go (dec_lt a b)
  where
    go : Dec (a < b) → ltb a b ≡ not (leb b a)
    go (yes h) = lt-ltb a b h ∙ ap not (sym (lt-leb b a h))
    go (no h) = le-ltb a b (omega arith) ∙ ap not (sym (le-leb b a (omega arith)))

-- neither a NaN nor the highest value: what a value below another one can be
abbrev pub NotTop : Float → Type 0
NotTop nan = ⊥
NotTop (inf true) = Unit {0}
NotTop (inf false) = ⊥
NotTop (fin s m e) = Unit {0}

pub not_nan : (x : Float) → NotTop x → T (not (is_nan x))
unfolding is_nan
not_nan nan h = absurd h
not_nan (inf s) h = tt
not_nan (fin s m e) h = tt

-- then the highest bit decides
pub sign_clear : (x : Float) → fits binary32 x ≡ true → NotTop x → ltb (to_bits binary32 x) 2147483648 ≡ finite_sign_clear x
unfolding sign_of finite_sign_clear
sign_clear x f h =
    below_or_not (to_bits binary32 x) 2147483648
    ∙ ap not (sign_bit binary32 x (subst T (sym f) tt) (not_nan x h))
    ∙ go x h
  where
    go : (x : Float) → NotTop x → not (sign_of x) ≡ finite_sign_clear x
    go nan h = absurd h
    go (inf true) h = refl
    go (inf false) h = absurd h
    go (fin s m e) h = refl

pub below_inf : (x : Float) → lt x (inf false) ≡ true → NotTop x
unfolding lt
below_inf nan e = differ (sym e)
below_inf (inf true) e = tt
below_inf (inf false) e = differ (sym e)
below_inf (fin s m e') e = tt

pub not_below_inf : (x : Float) → lt x (inf false) ≡ false → finite_sign_clear x ≡ false
unfolding lt finite_sign_clear
not_below_inf nan e = refl
not_below_inf (inf s) e = refl
not_below_inf (fin s m e') e = absurd (differ e)

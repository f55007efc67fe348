-- binary32: each operation rounds once. Constants stand as the code's do, by their bits.
use Rattle.std.specs.Prelude.{Bool, true, false, not, List, map, ℕ, pos, Float}
use Rattle.std.specs.Float.{nan, inf, fin, binary32}
use Rattle.std.specs.Float.Ieee.{add, sub, mul, div, of_int, of_bits, to_bits}

-- 0.0, 1.0
abbrev pub 0f : Float
0f = of_bits binary32 0

abbrev pub 1f : Float
1f = of_bits binary32 0x3f80_0000

-- `x + y` and so on
abbrev pub ◌+f◌ : Float → Float → Float
x +f y = add binary32 x y

abbrev pub ◌-f◌ : Float → Float → Float
x -f y = sub binary32 x y

abbrev pub ◌*f◌ : Float → Float → Float
x *f y = mul binary32 x y

abbrev pub ◌/f◌ : Float → Float → Float
x /f y = div binary32 x y

infixl 65 ◌+f◌
infixl 65 ◌-f◌
infixl 70 ◌*f◌
infixl 70 ◌/f◌
-- `x.abs()`
abbrev pub abs : Float → Float
abs nan = nan
abs (inf s) = inf false
abs (fin s m e) = fin false m e

-- neither an infinity nor a NaN
unfoldable pub finite : Float → Bool
finite nan = false
finite (inf s) = false
finite (fin s m e) = true

-- finite with the sign bit clear
unfoldable pub finite_sign_clear : Float → Bool
finite_sign_clear nan = false
finite_sign_clear (inf s) = false
finite_sign_clear (fin s m e) = not s

-- `x.to_bits()`
abbrev pub bits_of : Float → ℕ
bits_of x = to_bits binary32 x

-- `f32::from_bits(w)`
abbrev pub of_word : ℕ → Float
of_word w = of_bits binary32 w

-- `n as f32`
abbrev pub of_count : ℕ → Float
of_count n = of_int binary32 (pos n)

-- results compare by bits
unfoldable pub bits : List Float → List ℕ
bits xs = map bits_of xs

-- whole amounts
unfoldable pub whole : List ℕ → List Float
whole ns = map of_count ns

-- amounts by their bits
unfoldable pub exact : List ℕ → List Float
exact ns = map of_word ns

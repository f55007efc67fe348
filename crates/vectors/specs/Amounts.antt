-- Amounts by their bits; one NaN is as good as another.
use Rattle.std.specs.Prelude.{Bool, ℕ, ◌%◌, eqb, ltb, Float, if◌then◌else◌}
use Rattle.std.specs.Float.Ieee.{eq}
use Rattle.basics.specs.Floats.{0f, ◌/f◌, bits_of, of_word}

-- the bits of a NaN
abbrev pub nan_pattern : ℕ → Bool
nan_pattern b = ltb 0x7f80_0000 (b % 0x8000_0000)

-- the amount with these bits
unfoldable pub amount : ℕ → Float
amount b = if nan_pattern b then 0f /f 0f else of_word b

-- an amount has these bits
unfoldable pub same_bits : Float → ℕ → Bool
same_bits x b = if eq x x then eqb (bits_of x) b else nan_pattern b

-- Which patterns are no NaN's: one comparison. Assumes nothing.
use mathlib.Core.Bool.{not}
use Prim.Native.Nat.{ℕ, ◌%◌, ◌≤◌}
use lib.Dec.{T}
use lib.Ieee.{binary32, nan_bits}
use lib.Ieee.Bits.{nan_bits_above}
use borrow.Author.Tests.{le-ltb}

-- at most the infinity's pattern, but for the sign
pub pattern : (b : ℕ) → b % 0x8000_0000 ≤ 0x7f80_0000 → T (not (nan_bits binary32 b))
pattern b h = rw (nan_bits_above binary32 b) (rw (le-ltb 0x7f80_0000 (b % 0x8000_0000) h) tt)

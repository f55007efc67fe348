-- What the way back tells of a turf, but for the rip, takes 48 bytes at most, by either setting of the arrows. Assumes nothing.
use mathlib.Core.List.{◌∷◌}
use mathlib.Core.Bool.{Bool, true, false, cond}
use Prim.Native.Nat.{ℕ, ◌≤◌}
use native.Mathlib.Nat.{le_refl}
use native.Mathlib.Omega.{arith}
use lib.Dec.{eqb}
use lib.Ieee.{Float}
use Rattle.rules_events.specs.Events.{fields_of, words_bytes, encode, encode_all}
use Rattle.rules_events.specs.declared.Event.TheVariants.{HighPressure}
use Rattle.events.proofs.Sizes.{size}
use Rattle.rules_back.specs.Back.{as_text, to_space, differences}
use Rattle.rules_back.specs.Worked as worked  -- checked before the laws

either : (i j : ℕ) (x y : Float) (text last : Bool) → size (HighPressure i ∷ cond text as_text to_space i j x y last) ≤ 48
unfolding encode_all encode fields_of words_bytes
either i j x y true true = le_refl 48
either i j x y true false = omega arith
either i j x y false true = le_refl 48
either i j x y false false = omega arith

pub told-size : (arrows i j : ℕ) (x y : Float) (last : Bool) → size (HighPressure i ∷ differences arrows i j x y last) ≤ 48
unfolding differences
told-size arrows i j x y last = either i j x y (eqb arrows 0) last

-- How far a vector that is whole goes. Assumes nothing.
use Prim.Native.Nat.{ℕ, ◌<◌, ◌≤◌}
use native.Mathlib.Omega.{arith}
use mathlib.Core.Path.{◌≡◌, refl}
use mathlib.Core.Bool.{Bool, true, false, cond}
use mathlib.Core.List.{List}
use lib.Dec.{ltb}
use lib.Ieee.{Float}
use lib.ListN.{length}
use borrow.Author.Tests.{ltb-false}
use Rattle.std.specs.Option.{IfSome}
use Rattle.std.specs.declared.option.Option.{Option}
use Rattle.std.specs.declared.option.Option.TheVariants.{None, Some}
use Rattle.vectors.specs.Vectors.{onward}
use Rattle.vectors_same.specs.Same.{CellsHeld}
use Rattle.vectors_same.specs.declared.Vector.{Vector}

next_of : (l n : ℕ) (v : Vector) → v.next ≡ n → 0 < n → (t : Bool) → ltb l n ≡ t → IfSome {T = Vector} (cond t None (Some v)) (λ v. (0 < v.next) × (v.next ≤ l))
next_of l n v q p true e = tt
next_of l n v q p false e = (omega (arith, q), omega (arith, q, ltb-false l n e))

-- the next vector begins behind this one, and within the numbers
pub held_next : {ns words events answer : List ℕ} {gas floats : List Float} {at : ℕ} {r : Option Vector} → CellsHeld ns gas words floats events answer at r
    → IfSome {T = Vector} r (λ v. (0 < v.next) × (v.next ≤ length ns))
unfolding onward
held_next {ns} h = rw h.says (next_of _ _ _ refl (omega (arith, h.stands.next)) _ refl)

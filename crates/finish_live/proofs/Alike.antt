-- A list without one place. Assumes nothing.
use mathlib.Core.Path.{◌≡◌, ap, ap₂, ◌∙◌}
use mathlib.Core.List.{List}
use Prim.Native.Nat.{ℕ, ◌+◌, ◌-◌, ◌≤◌, ◌<◌}
use native.Mathlib.Omega.{arith}
use lib.ListN.{length, get_or, take, drop, length-append, length-drop, get_or-append}
use lib.Seq.{length-take-le, get_or-take, get_or-drop, get_or-append-add}
use Rattle.finish_zones.specs.Zones.{without}

module _ (p : ℕ) (l : List ℕ) (h : p < length l) where
  pub without-length : length (without p l) ≡ length l - 1
  without-length = length-append (take p l) (drop (p + 1) l) ∙ ap₂ (λ (x y : ℕ). x + y) (length-take-le p l (omega arith)) (length-drop (p + 1) l) ∙ omega arith

  pub without-low : (i : ℕ) → i < p → get_or (without p l) i 0 ≡ get_or l i 0
  without-low i q = get_or-append (take p l) (drop (p + 1) l) 0 i (omega (arith, length-take-le p l (omega arith))) ∙ get_or-take p l i 0 q

  pub without-high : (i : ℕ) → p ≤ i → get_or (without p l) i 0 ≡ get_or l (i + 1) 0
  without-high i q =
      let t : length (take p l) ≡ p = length-take-le p l (omega arith) in
      let e : i ≡ length (take p l) + (i - p) = omega arith in
      let e' : p + 1 + (i - p) ≡ i + 1 = omega arith in
      ap (λ (x : ℕ). get_or (without p l) x 0) e ∙ get_or-append-add (take p l) (drop (p + 1) l) (i - p) 0 ∙ get_or-drop (p + 1) l (i - p) 0 ∙ ap (λ (x : ℕ). get_or l x 0) e'

-- Weights lifted one by one are weights copied and then cleared. Assumes nothing.
use mathlib.Core.Path.{◌≡◌, refl, ap, ◌∙◌}
use mathlib.Core.List.{List}
use mathlib.Core.Bool.{Bool, true, false, cond}
use Prim.Native.Nat.{ℕ, zero, suc, ◌+◌, ◌-◌, ◌≤◌, ◌<◌}
use native.Mathlib.Omega.{arith}
use lib.Dec.{eqb}
use lib.ListN.{get_or, set}
use lib.Seq.{get_or-set_other, set_comm}
use lib.Ieee.{Float, nan}
use Rattle.basics.specs.Loops.{run, up_from}
use Rattle.basics.specs.Floats.{0f}
use Rattle.finish_send.specs.Sending.{save_at, zero_at, lift_at}

module _ (words : List ℕ) (z up : ℕ) where
  -- a later link's copy and an earlier link's 0 don't meet
  swap : (j k : ℕ) (f : List Float) → j < k → j < up → save_at words z up k (zero_at words z j f) ≡ zero_at words z j (save_at words z up k f)
  swap j k f h l = go (eqb (get_or words k 0) (z + 1)) (eqb (get_or words j 0) (z + 1))
    where
      go : (t u : Bool) → cond t (set (cond u (set f j 0f) f) (up + k) (get_or (cond u (set f j 0f) f) k nan)) (cond u (set f j 0f) f) ≡ cond u (set (cond t (set f (up + k) (get_or f k nan)) f) j 0f) (cond t (set f (up + k) (get_or f k nan)) f)
      go true true = ap (set (set f j 0f) (up + k)) (get_or-set_other f j k 0f nan (λ e. omega (arith, e))) ∙ set_comm f j (up + k) 0f (get_or f k nan) (λ e. omega (arith, e))
      go true false = refl
      go false true = refl
      go false false = refl

  swaps : (j a n : ℕ) (f : List Float) → j < a → j < up → run (save_at words z up) (up_from a n) (zero_at words z j f) ≡ zero_at words z j (run (save_at words z up) (up_from a n) f)
  unfolding run up_from
  swaps j a zero f h l = refl
  swaps j a (suc n) f h l = ap (run (save_at words z up) (up_from (suc a) n)) (swap j a f h l) ∙ swaps j (suc a) n (save_at words z up a f) (omega arith) l

  one : (k : ℕ) (f : List Float) → lift_at words z up k f ≡ zero_at words z k (save_at words z up k f)
  one k f = go (eqb (get_or words k 0) (z + 1))
    where
      go : (t : Bool) → cond t (set (set f (up + k) (get_or f k nan)) k 0f) f ≡ cond t (set (cond t (set f (up + k) (get_or f k nan)) f) k 0f) (cond t (set f (up + k) (get_or f k nan)) f)
      go true = refl
      go false = refl

  lifted_by : (a n : ℕ) (f : List Float) → a + n ≤ up → run (lift_at words z up) (up_from a n) f ≡ run (zero_at words z) (up_from a n) (run (save_at words z up) (up_from a n) f)
  unfolding run up_from
  lifted_by a zero f h = refl
  lifted_by a (suc n) f h =
      ap (run (lift_at words z up) (up_from (suc a) n)) (one a f) ∙ lifted_by (suc a) n (zero_at words z a (save_at words z up a f)) (omega arith)
      ∙ ap (run (zero_at words z) (up_from (suc a) n)) (swaps a (suc a) n (save_at words z up a f) (omega arith) (omega arith))

  pub lifted-apart : (from to : ℕ) (f : List Float) → from ≤ to → to ≤ up
      → run (lift_at words z up) (up_from from (to - from)) f ≡ run (zero_at words z) (up_from from (to - from)) (run (save_at words z up) (up_from from (to - from)) f)
  lifted-apart from to f h l = lifted_by from (to - from) f (omega arith)

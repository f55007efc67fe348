-- Cells filled one after the other by a rule. Assumes nothing.
use Prim.Native.Nat.{ℕ, ◌+◌, ◌<◌}
use native.Mathlib.Omega.{arith}
use native.Mathlib.Nat.{eq-or-lt_of_le}
use mathlib.Core.Path.{◌≡◌, ◌∙◌}
use mathlib.Core.Logic.{◌⊎◌, inl, inr}
use mathlib.Core.List.{List}
use lib.ListN.{length, get_or, set}
use lib.Seq.{get_or-set_same, get_or-set_other}

-- the first i cells follow a rule
abbrev pub Begun : {A : Type 0} → List A → A → (ℕ → A) → ℕ → Type 0
Begun l d rule i = (j : ℕ) → j < i → get_or l j d ≡ rule j

-- one more does
pub one_more : {A : Type 0} (l : List A) (d : A) (rule : ℕ → A) (i : ℕ) (x : A) → i < length l → x ≡ rule i → Begun l d rule i
    → Begun (set l i x) d rule (i + 1)
one_more l d rule i x h e b j k = one_of (eq-or-lt_of_le {n = j} {m = i} (omega arith))
  where
    one_of : (j ≡ i) ⊎ (j < i) → get_or (set l i x) j d ≡ rule j
    one_of (inl p) = rw p (get_or-set_same l i x d h ∙ e)
    one_of (inr q) = get_or-set_other l i j x d (λ (p : j ≡ i). omega arith) ∙ b j q

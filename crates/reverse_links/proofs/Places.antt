-- Stores place by place: a store changes one place. Assumes nothing.
use Prim.Native.Nat.{ℕ, ◌+◌, ◌≤◌, ◌<◌}
use native.Mathlib.Omega.{arith}
use native.Mathlib.Decide.{ℕ_discrete}
use mathlib.Core.Path.{◌≡◌, refl, ap, ◌∙◌, sym, subst}
use mathlib.Core.Logic.{inl, inr, ⊎_elim}
use mathlib.Core.List.{List, ◌++◌}
use lib.ListN.{length, get_or, set, take, drop, replicate, length-set}
use lib.Seq.{get_or-set_same, get_or-set_other}
use Rattle.basics.proofs.Parts.{cleared-length, cleared-far, cleared_at}
use Rattle.reverse_links.specs.Words.{But}

pub but_none : {lo hi : ℕ} {w : List ℕ} → But lo hi w w
but_none = record { len = refl; same = λ i o. refl }

pub but_set : {lo hi : ℕ} {w w' : List ℕ} (p x : ℕ) → lo ≤ p → p < hi → But lo hi w w' → But lo hi w (set w' p x)
but_set {lo} {hi} {w} {w'} p x l m b = record {
  len = length-set w' p x ∙ b.len;
  same = λ i o. get_or-set_other w' p i x 0 (⊎_elim (λ q e. absurd (omega (arith, q, e, l))) (λ q e. absurd (omega (arith, q, e, m))) o) ∙ b.same i o;
}

pub but_then : {lo hi lo' hi' : ℕ} {w w' w'' : List ℕ} → lo ≤ lo' → hi' ≤ hi → But lo hi w w' → But lo' hi' w' w'' → But lo hi w w''
but_then l m b c = record {
  len = c.len ∙ b.len;
  same = λ i o. c.same i (⊎_elim (λ q. inl (omega (arith, q, l))) (λ q. inr (omega (arith, q, m))) o) ∙ b.same i o;
}

-- words that were cleared are zeros, and all else is as it was
pub but_cleared : (at m : ℕ) (w : List ℕ) {w' : List ℕ} → at + m ≤ length w → w' ≡ take at w ++ (replicate m 0 ++ drop m (drop at w)) → But at (at + m) w w' × ((i : ℕ) → i < m → get_or w' (at + i) 0 ≡ 0)
but_cleared at m w h e = (
  record { len = ap length e ∙ cleared-length at m w h; same = λ i o. ap (λ (l : List ℕ). get_or l i 0) e ∙ cleared-far at m w h i o },
  λ i k. ap (λ (l : List ℕ). get_or l (at + i) 0) e ∙ cleared_at at m w h i k,
)

-- what holds of every place below i, and at i, holds of every place below i + 1
pub one_more : {P : ℕ → Type 0} (i : ℕ) → ((j : ℕ) → j < i → P j) → P i → (j : ℕ) → j < i + 1 → P j
one_more {P} i h p j l = go (ℕ_discrete j i)
  where
    go : Dec (j ≡ i) → P j
    go (yes e) = subst P (sym e) p
    go (no e) = h j (omega (arith, e))

-- one more word is zero
pub cleared : (at i : ℕ) (w : List ℕ) → at + i < length w → ((a : ℕ) → a < i → get_or w (at + a) 0 ≡ 0) → (a : ℕ) → a < i + 1 → get_or (set w (at + i) 0) (at + a) 0 ≡ 0
cleared at i w l h = one_more i (λ a m. get_or-set_other w (at + i) (at + a) 0 0 (λ e. omega (arith, e, m)) ∙ h a m) (get_or-set_same w (at + i) 0 0 l)

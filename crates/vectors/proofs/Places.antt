-- A list by its two ends; going on from list to list. Assumes nothing.
use Prim.Native.Nat.{ℕ, suc, ◌+◌, ◌-◌, ◌≤◌, ◌<◌}
use native.Mathlib.Omega.{arith}
use mathlib.Core.Path.{◌≡◌, ap, ap₂, sym, ◌∙◌}
use mathlib.Core.List.{List}
use Rattle.basics.specs.Loops.{times}
use Rattle.vectors.specs.Vectors.{onward, number, span_at, table_at}
use Rattle.vectors.specs.declared.Span.{Span}

abbrev span : ℕ → ℕ → Span
span f t = record { from = f; to = t }

-- a list by the places that were found
pub spans : (ns : List ℕ) (at : ℕ) {f x t : ℕ} → f ≡ onward at 1 → x ≡ number ns at → t ≡ onward f x → span f t ≡ span_at ns at
spans ns at a b c = ap₂ span a (c ∙ ap₂ onward a b)

-- the lists that are left to go through lead from here to the place that is looked for
pub record Through (ns : List ℕ) (k i at : ℕ) : Type 0 where
  pub leads : times (λ p. (span_at ns p).to) (k - i) at ≡ table_at ns k

pub through_none : (ns : List ℕ) (k : ℕ) → Through ns k 0 1
through_none ns k = record { leads = ap (λ (n : ℕ). times (λ p. (span_at ns p).to) n 1) (omega arith) }

pub through_next : (ns : List ℕ) (k i at : ℕ) (s : Span) → i < k → s ≡ span_at ns at → Through ns k i at → Through ns k (i + 1) s.to
unfolding times
through_next ns k i at s h e q =
    let one : k - i ≡ suc (k - (i + 1)) = omega arith in
    record { leads = ap (λ (x : Span). times (λ p. (span_at ns p).to) (k - (i + 1)) x.to) e ∙ ap (λ (n : ℕ). times (λ p. (span_at ns p).to) n at) (sym one) ∙ q.leads }

pub through_all : (ns : List ℕ) (k i at : ℕ) → k ≤ i → Through ns k i at → at ≡ table_at ns k
unfolding times
through_all ns k i at h q =
    let none : k - i ≡ 0 = omega arith in
    ap (λ (n : ℕ). times (λ p. (span_at ns p).to) n at) (sym none) ∙ q.leads

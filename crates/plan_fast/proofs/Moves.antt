-- One move of the fast pass: what the code adds is what the definition stores, but for numbers that stay. Assumes nothing.
use Prim.Native.Nat.{ℕ, ◌+◌, ◌≤◌, ◌<◌}
use native.Mathlib.Omega.{arith}
use mathlib.Core.Path.{◌≡◌, refl, ap, ◌∙◌, sym}
use mathlib.Core.List.{List}
use mathlib.Core.Bool.{Bool, true, false, cond}
use lib.Dec.{eqb}
use lib.ListN.{get_or, set}
use lib.Seq.{get_or-take}
use lib.Ieee.{Float, nan}
use borrow.Author.Tests.{eq-eqb, ne_eqb}
use Rattle.basics.specs.Floats.{◌+f◌, ◌-f◌}
use Rattle.std.specs.Prelude.{Option, Some}
use Rattle.basics.specs.Lists.{Found}
use Rattle.basics.proofs.Regions.{cut-get}
use Rattle.scratch.specs.Layout.{plan_words, reverse_at, fast_at, delta_at}
use Rattle.scratch.specs.View.{owner_in, reverse_in, fast_in}
use Rattle.plan_state.specs.Held.{Area, area, PlanView, plan_view, PlanFits, PlanDoes}
use Rattle.plan_edges.specs.Steps.{back_link, adjust_at}
use Rattle.plan_state.proofs.Stores.{does-as, does-then, does-none, delta-at, delta-set, fast-at, owner_at, reverse-at}
use Rattle.plan_edges.proofs.Weights.{back_found}
use Rattle.plan_state.proofs.Adjusts.{adjusted}
use Rattle.plan_fast.specs.Steps.{tally_step, move_at, fast_via}

module _ (n e r a : ℕ) (there back : Option ℕ) (x : Float) (w : List ℕ) (f f' : List Float) (h : PlanFits n e (area w f)) (hr : r < n) (ha : a < n)
    (ht : Found (λ k. k < e) there) (hb : Found (λ k. k < e) back) (s : f' ≡ adjust_at there back x f) where
  moved_at : PlanDoes n e (λ o p. move_at there back r x a p) (area w f)
      (area w (set (set f' (delta_at r e) (get_or f' (delta_at r e) nan -f x)) (delta_at a e) (get_or (set f' (delta_at r e) (get_or f' (delta_at r e) nan -f x)) (delta_at a e) nan +f x)))
  unfolding move_at
  moved_at =
      let y : Float = get_or f' (delta_at r e) nan -f x in
      let f'' : List Float = set f' (delta_at r e) y in
      let u : Float = get_or f'' (delta_at a e) nan +f x in
      let d₁ = adjusted n e there back x w f f' ht hb s h in
      let d₂ = delta-set n e r w f' hr d₁.fit y in
      let d₃ = delta-set n e a w f'' ha d₂.fit u in
      let ey : get_or f' (delta_at r e) nan ≡ get_or (plan_view n e (area w f)).plan.delta r nan = delta-at n e r w f' hr ∙ ap (λ (v : PlanView). get_or v.plan.delta r nan) d₁.same in
      let eu : get_or f'' (delta_at a e) nan ≡ get_or (set (plan_view n e (area w f)).plan.delta r y) a nan =
      delta-at n e a w f'' ha ∙ ap (λ (v : PlanView). get_or v.plan.delta a nan) d₂.same ∙ ap (λ (v : PlanView). get_or (set v.plan.delta r y) a nan) d₁.same in
      does-as (does-then _ (does-then _ d₁ d₂) d₃) (rw (eu, ey))

  -- the same, with the places as the code has them
  pub moved : (i j : ℕ) → i ≡ delta_at r e → j ≡ delta_at a e → PlanDoes n e (λ o p. move_at there back r x a p) (area w f) (area w (set (set f' i (get_or f' i nan -f x)) j (get_or (set f' i (get_or f' i nan -f x)) j nan +f x)))
  moved i j ei ej = rw (ei, ej) moved_at

-- ---- one link

module _ (n e : ℕ) (w : List ℕ) (z k a c : ℕ) (hk : k < e) (ha : a < n) where
  own : get_or w k 0 ≡ get_or (owner_in e w) k 0
  own = sym (get_or-take e w k 0 hk)

  mark : (at : ℕ) → at ≡ fast_at a n e → get_or w at 0 ≡ get_or (fast_in n e w) a 0
  mark at ea = cut-get (plan_words n e) w 0 3 a at (omega arith) ha (omega (arith, ea))

  pub tally_foreign : (get_or w k 0 ≡ z + 1 → ⊥) → c ≡ tally_step (owner_in e w) (fast_in n e w) z k a c
  unfolding tally_step
  tally_foreign o = simp (ne_eqb _ _ (λ i. o (own ∙ i)))

  pub tally_marked : get_or w k 0 ≡ z + 1 → (at : ℕ) → at ≡ fast_at a n e → (get_or w at 0 ≡ 0 → ⊥) → c ≡ tally_step (owner_in e w) (fast_in n e w) z k a c
  unfolding tally_step
  tally_marked o at ea m = simp (eq-eqb _ _ (sym own ∙ o), ne_eqb _ _ (λ i. m (mark at ea ∙ i)))

  pub tally_more : get_or w k 0 ≡ z + 1 → (at : ℕ) → at ≡ fast_at a n e → get_or w at 0 ≡ 0 → c + 1 ≡ tally_step (owner_in e w) (fast_in n e w) z k a c
  unfolding tally_step
  tally_more o at ea m = simp (eq-eqb _ _ (sym own ∙ o), eq-eqb _ _ (sym (mark at ea) ∙ m))

  pub tally_le : tally_step (owner_in e w) (fast_in n e w) z k a c ≤ c + 1
  unfolding tally_step
  tally_le = go (eqb (get_or (owner_in e w) k 0) (z + 1)) (eqb (get_or (fast_in n e w) a 0) 0)
    where
      go : (s t : Bool) → cond s (cond t (c + 1) c) c ≤ c + 1
      go true true = omega arith
      go true false = omega arith
      go false t = omega arith

module _ (n e z r k a : ℕ) (x : Float) (w : List ℕ) (f : List Float) (h : PlanFits n e (area w f)) (hk : k < e) (ha : a < n) where
  abbrev Steps : Area → Type 0
  Steps B = PlanDoes n e (λ o p. fast_via (plan_view n e (area w f)).reverse z r x o k a p) (area w f) B

  fast-is : (at : ℕ) → at ≡ fast_at a n e → get_or w at 0 ≡ get_or (plan_view n e (area w f)).plan.fast a 0
  fast-is at ea = ap (λ (i : ℕ). get_or w i 0) ea ∙ fast-at n e a w f ha

  pub fast-foreign : (get_or w k 0 ≡ z + 1 → ⊥) → Steps (area w f)
  unfolding fast_via
  fast-foreign o = does-none _ h (simp (ne_eqb _ _ (λ i. o (owner_at n e k w f hk ∙ i))))

  pub fast-marked : get_or w k 0 ≡ z + 1 → (at : ℕ) → at ≡ fast_at a n e → (get_or w at 0 ≡ 0 → ⊥) → Steps (area w f)
  unfolding fast_via
  fast-marked o at ea m = does-none _ h (simp (eq-eqb _ _ (sym (owner_at n e k w f hk) ∙ o), ne_eqb _ _ (λ i. m (fast-is at ea ∙ i))))

  module _ (hp : get_or (plan_view n e (area w f)).reverse k 0 ≤ e) where
    pub fast-p : get_or w (reverse_at k e) 0 ≤ e
    fast-p = rw (reverse-at n e k w f hk) hp

    module _ (back : Option ℕ) (eb : back ≡ back_link (reverse_in e w) (owner_in e w) z k) where
      pub fast-back : Found (λ j. j < e) back
      unfolding plan_view
      fast-back = back_found (reverse_in e w) (owner_in e w) z k e back eb hp

      there : back ≡ back_link (plan_view n e (area w f)).reverse (plan_view n e (area w f)).owner z k
      unfolding plan_view
      there = eb

      pub fast-more : get_or w k 0 ≡ z + 1 → (at : ℕ) → at ≡ fast_at a n e → get_or w at 0 ≡ 0 → {B : Area} → PlanDoes n e (λ o p. move_at (Some k) back r x a p) (area w f) B → Steps B
      unfolding fast_via
      fast-more o at ea m d =
          does-as d
          (simp (eq-eqb _ _ (sym (owner_at n e k w f hk) ∙ o), eq-eqb _ _ (sym (fast-is at ea) ∙ m))
          (ap (λ (b : Option ℕ). move_at (Some k) b r x a (plan_view n e (area w f)).plan) there))

pub fast-same : (n e z r k a : ℕ) (x : Float) (w : List ℕ) (f f' : List Float) {A B : Area} → PlanDoes n e (λ o p. fast_via (plan_view n e (area w f)).reverse z r x o k a p) A B
    → PlanDoes n e (λ o p. fast_via (plan_view n e (area w f')).reverse z r x o k a p) A B
unfolding plan_view
fast-same n e z r k a x w f f' d = d

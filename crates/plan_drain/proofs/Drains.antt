-- The way back: what the code adds and clears is what the definition stores, but for numbers that stay. Assumes nothing.
use Prim.Native.Nat.{ℕ, zero, suc, ◌+◌, ◌-◌, ◌≤◌, ◌<◌}
use native.Mathlib.Omega.{arith}
use mathlib.Core.Path.{◌≡◌, ap, ◌∙◌, sym}
use mathlib.Core.List.{List, [], ◌∷◌, reverse}
use mathlib.Core.Bool.{true, false}
use lib.ListN.{length, get_or, set, take, drop, length-drop}
use lib.Seq.{get_or-take, get_or-drop}
use lib.Ieee.{Float, nan, ne}
use borrow.Author.Tests.{eq-eqb, ne_eqb}
use Rattle.basics.specs.Floats.{0f, ◌+f◌}
use Rattle.basics.specs.Loops.{run}
use Rattle.std.specs.Prelude.{Option, Some}
use Rattle.basics.specs.Lists.{Found}
use Rattle.basics.proofs.Loops.{run-back, run-back_end}
use Rattle.scratch.specs.Layout.{plan_words, reverse_at, via_at, queue_at, amount_at}
use Rattle.scratch.specs.View.{owner_in, reverse_in}
use Rattle.basics.proofs.Regions.{cut-length}
use Rattle.rules_plan.specs.Plan.{Plan, load}
use Rattle.rules_plan.specs.declared.MonstermosInfo.{MonstermosInfo}
use Rattle.plan_state.specs.Held.{Area, area, PlanView, plan_view, PlanFits, PlanDoes}
use Rattle.plan_edges.specs.Steps.{back_link, adjust_at}
use Rattle.plan_state.proofs.Stores.{does-as, does-then, does-none, amount-at, amount-set, via-at, queue-at, reverse-at}
use Rattle.plan_edges.proofs.Weights.{back_found}
use Rattle.plan_state.proofs.Adjusts.{adjusted}
use Rattle.plan_trade.specs.Search.{Within}
use Rattle.plan_trade.specs.Steps.{hand_on, drain_via}

-- ---- one turf

module _ (n e r d : ℕ) (there back : Option ℕ) (w : List ℕ) (f f' : List Float) (h : PlanFits n e (area w f)) (hr : r < n) (hd : d < n)
    (ht : Found (λ k. k < e) there) (hb : Found (λ k. k < e) back) where
  handed_at : f' ≡ adjust_at there back (get_or f (amount_at r e) nan) f
      → PlanDoes n e (λ o p. hand_on there back r d p) (area w f) (area w (set (set f' (amount_at d e) (get_or f' (amount_at d e) nan +f get_or f (amount_at r e) nan)) (amount_at r e) 0f))
  unfolding hand_on
  handed_at s =
      let x : Float = get_or f (amount_at r e) nan in
      let y : Float = get_or f' (amount_at d e) nan +f x in
      let d₁ = adjusted n e there back x w f f' ht hb s h in
      let d₂ = amount-set n e d w f' hd d₁.fit y in
      let d₃ = amount-set n e r w (set f' (amount_at d e) y) hr d₂.fit 0f in
      let ex : x ≡ get_or (plan_view n e (area w f)).plan.amount r nan = amount-at n e r w f hr in
      let ey : get_or f' (amount_at d e) nan ≡ get_or (plan_view n e (area w f)).plan.amount d nan = amount-at n e d w f' hd ∙ ap (λ (v : PlanView). get_or v.plan.amount d nan) d₁.same in
      does-as (does-then _ (does-then _ d₁ d₂) d₃) (rw (ey, ex))

  -- the same, with the places as the code has them
  pub handed : (i j : ℕ) → i ≡ amount_at r e → j ≡ amount_at d e → f' ≡ adjust_at there back (get_or f i nan) f
      → PlanDoes n e (λ o p. hand_on there back r d p) (area w f) (area w (set (set f' j (get_or f' j nan +f get_or f i nan)) i 0f))
  handed i j ei ej s = rw (ei, ej) (handed_at (rw ei at s))

module _ (n e z r : ℕ) (i : MonstermosInfo) (w : List ℕ) (f : List Float) (ei : i ≡ load (plan_view n e (area w f)).plan r) (h : PlanFits n e (area w f)) where
  abbrev Drains : Area → Type 0
  Drains B = PlanDoes n e (λ o p. drain_via (plan_view n e (area w f)).reverse (plan_view n e (area w f)).via z o r p) (area w f) B

  pub drained_none : ne i.amount 0f ≡ false → Drains (area w f)
  unfolding drain_via
  drained_none t = does-none _ h (simp (rw ei at t))

  pub drained_still : ne i.amount 0f ≡ true → i.direction ≡ 0 → Drains (area w f)
  unfolding drain_via
  drained_still t d = does-none _ h (simp (rw ei at t, eq-eqb _ _ (rw ei at d)))

  drained_by : {B : Area} (k : ℕ) (there : Option ℕ) → k ≡ get_or (plan_view n e (area w f)).via r 0 → there ≡ back_link (plan_view n e (area w f)).reverse (plan_view n e (area w f)).owner z k
      → ne i.amount 0f ≡ true → (i.direction ≡ 0 → ⊥) → PlanDoes n e (λ o p. hand_on there (Some k) r (i.direction - 1) p) (area w f) B → Drains B
  unfolding drain_via
  drained_by k there ek et t d q = does-as q (rw (et, ek, ei) (simp (rw ei at t, ne_eqb _ _ (rw ei at d))))

  -- what the way back reads
  module _ (hr : r < n) (hw : Within n e (plan_view n e (area w f)) r) (some : i.direction ≡ 0 → ⊥) (at : ℕ) (ea : at ≡ via_at r e) where
    within : (i.direction - 1 < n) × ((get_or (plan_view n e (area w f)).via r 0 < e) × (get_or (plan_view n e (area w f)).reverse (get_or (plan_view n e (area w f)).via r 0) 0 ≤ e))
    within = hw.at (i.direction - 1) (ap (λ (j : MonstermosInfo). j.direction) (sym ei) ∙ omega (arith, some))

    pub back-row : i.direction - 1 < n
    back-row = within.0

    via-is : get_or w at 0 ≡ get_or (plan_view n e (area w f)).via r 0
    via-is = ap (λ (m : ℕ). get_or w m 0) ea ∙ via-at n e r w f hr

    pub back-k : get_or w at 0 < e
    back-k = rw via-is within.1.0

    pub back_p : get_or w (reverse_at (get_or w at 0) e) 0 ≤ e
    back_p = rw (via-is, reverse-at n e (get_or (plan_view n e (area w f)).via r 0) w f within.1.0) within.1.1

    module _ (there : Option ℕ) (et : there ≡ back_link (reverse_in e w) (owner_in e w) z (get_or w at 0)) where
      pub back-there : Found (λ j. j < e) there
      back-there =
          back_found (reverse_in e w) (owner_in e w) z (get_or w at 0) e there et
          (rw (get_or-take e (drop e w) (get_or w at 0) 0 back-k, get_or-drop e w (get_or w at 0) 0) back_p)

      pub drained : {B : Area} → ne i.amount 0f ≡ true → PlanDoes n e (λ o p. hand_on there (Some (get_or w at 0)) r (i.direction - 1) p) (area w f) B → Drains B
      unfolding plan_view
      drained t q = drained_by (get_or w at 0) there via-is et t some q

-- ---- the loop

pub back_end : {S : Type 0} (f : ℕ → S → S) (q : List ℕ) (i from : ℕ) (s : S) → i ≤ from → run f (reverse (take (i - from) q)) s ≡ s
back_end f q i from s h = run-back_end f q (i - from) s (omega arith)

pub take-few : {A : Type 0} (k : ℕ) (xs : List A) → length (take k xs) ≤ k
take-few zero xs = omega arith
take-few (suc k) [] = omega arith
take-few (suc k) (x ∷ xs) = omega (arith, take-few k xs)

pub queue-length : (n e : ℕ) (a : Area) → PlanFits n e a → length (plan_view n e a).queue ≡ n
unfolding plan_view
queue-length n e a h = cut-length (plan_words n e) a.words 4 (omega arith) (omega (arith, h.words))

-- in the loop the words stay, and so does all that is read of them
module _ (n e from j : ℕ) (w : List ℕ) (f₀ : List Float) (at : ℕ) (ea : at ≡ queue_at n e) (l : j < n) where
  row_is : get_or w (at + j) 0 ≡ get_or (plan_view n e (area w f₀)).queue j 0
  row_is = ap (λ (m : ℕ). get_or w (m + j) 0) ea ∙ queue-at n e j w f₀ l

  pub row_within : (f : List Float) → (get_or (plan_view n e (area w f₀)).queue j 0 < n) × Within n e (plan_view n e (area w f₀)) (get_or (plan_view n e (area w f₀)).queue j 0)
      → (get_or w (at + j) 0 < n) × Within n e (plan_view n e (area w f)) (get_or w (at + j) 0)
  unfolding plan_view
  row_within f g = rw row_is (g.0, record { at = g.1.at })

  pub row_next : (G : ℕ → Plan → Plan) (i : ℕ) → j + 1 ≡ i → from ≤ j → length (plan_view n e (area w f₀)).queue ≡ n → (p : Plan)
      → run G (reverse (take (i - from) (drop from (plan_view n e (area w f₀)).queue))) p
      ≡ run G (reverse (take (j - from) (drop from (plan_view n e (area w f₀)).queue))) (G (get_or w (at + j) 0) p)
  row_next G i e' h long p =
      let q : List ℕ = (plan_view n e (area w f₀)).queue in
      let k : from + (j - from) ≡ j = omega (arith, h) in
      let row : get_or (drop from q) (j - from) 0 ≡ get_or w (at + j) 0 = get_or-drop from q (j - from) 0 ∙ ap (λ (m : ℕ). get_or q m 0) k ∙ sym row_is in
      run-back G (drop from q) (i - from) (j - from) p (omega (arith, e', h)) (omega (arith, l, long, h, length-drop from q))
      ∙ ap (λ (x : ℕ). run G (reverse (take (j - from) (drop from q))) (G x p)) row

pub drained_same : (n e z r : ℕ) (w : List ℕ) (f f₀ : List Float) {A B : Area} → PlanDoes n e (λ o p. drain_via (plan_view n e (area w f)).reverse (plan_view n e (area w f)).via z o r p) A B
    → PlanDoes n e (λ o p. drain_via (plan_view n e (area w f₀)).reverse (plan_view n e (area w f₀)).via z o r p) A B
unfolding plan_view
drained_same n e z r w f f₀ d = d

-- ---- all rows of the queue, from its end

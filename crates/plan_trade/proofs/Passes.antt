-- A link that is passed with nothing to trade. Assumes nothing.
use Prim.Native.Nat.{ℕ, ◌+◌, ◌<◌}
use mathlib.Core.Path.{◌≡◌, refl, ap, ◌∙◌, sym}
use mathlib.Core.List.{List}
use mathlib.Core.Bool.{true, false}
use lib.ListN.{get_or, set, take}
use lib.Ieee.{Float, nan}
use Rattle.basics.specs.Loops.{member}
use Rattle.scratch.specs.Layout.{via_at, queue_at, places_at, delta_at}
use Rattle.rules_plan.specs.Plan.{Seek, settled, wants, meet}
use Rattle.rules_plan.specs.declared.Side.{Side}
use Rattle.index_set.specs.Line.{array}
use Rattle.plan_state.specs.Held.{Area, area, plan_view, PlanDoes}
use Rattle.plan_state.proofs.Stores.{does-as, delta-at}
use Rattle.plan_trade.specs.Search.{Seeking, Sought, Passes}
use Rattle.plan_trade.specs.Steps.{point, along}
use Rattle.plan_trade.proofs.Trades.{meet-none}
use Rattle.plan_trade.proofs.Seeks.{keeps-none, idle-none, link-foreign, link-queued, link-seeking, link-new, link-keeps, link-idle, link-deltas}

-- a step that has nothing to do
pub passes_none : {side : Side} {n e z r from to : ℕ} {neighbours : List ℕ} {count : ℕ} (f : ℕ → List ℕ → Seek → Seek) {a : Area} → Seeking n e count a
    → ((g : ℕ) → g < n → settled side (get_or a.floats (delta_at g e) nan) ≡ false → Sought n e (f g) count count a a) → Passes side n e f z r from to neighbours count count a a
passes_none f h s = record { seeking = h; sought = s; met = keeps-none; idle = λ first. idle-none; deltas = λ g hg. refl }

module _ (side : Side) (r k z n e count : ℕ) (neighbours w : List ℕ) (f : List Float) (h : Seeking n e count (area w f)) (hk : k < e) (ha : get_or neighbours k 0 < n) where
  -- where the link ends
  abbrev a : ℕ
  a = get_or neighbours k 0

  -- the link k
  abbrev PassOne : ℕ → Area → Type 0
  PassOne c A = Passes side n e (λ g o s. along side g r neighbours z o k s) z r k (k + 1) neighbours count c (area w f) A

  pub pass-foreign : (get_or w k 0 ≡ z + 1 → ⊥) → PassOne count (area w f)
  unfolding along
  pass-foreign o = passes_none _ h (λ g hg t. link-foreign side g r k a z n e count w f h hk hg ha o)

  module _ (queue places : ℕ) (eq : queue ≡ queue_at n e) (ep : places ≡ places_at n e) (o : get_or w k 0 ≡ z + 1) where
    pub pass-queued : true ≡ member a (take count (array n queue w)) → PassOne count (area w f)
    unfolding along
    pass-queued m = passes_none _ h (λ g hg t. link-queued side g r k a z n e count w f h hk hg ha queue places eq ep o t m)

    module _ (m : false ≡ member a (take count (array n queue w))) (own : ℕ) (eo : own ≡ delta_at a e) (wu : wants side (get_or f own nan) ≡ false) (w' : List ℕ)
        (s : w' ≡ set (set w (queue + count) a) (places + a) count) (at : ℕ) (ev : at ≡ via_at a e) (w₂ : List ℕ) (f₂ : List Float)
        (d : PlanDoes n e (λ o p. point a (r + 1) p) (area (set w' at k) f) (area w₂ f₂)) where
      u : wants side (get_or f (delta_at a e) nan) ≡ false
      u = sym (ap (λ (i : ℕ). wants side (get_or f i nan)) eo) ∙ wu

      none : wants side (get_or (plan_view n e (area (set w' at k) f)).plan.delta a nan) ≡ false
      none = rw (delta-at n e a (set w' at k) f ha) at u

      meets : (g : ℕ) → PlanDoes n e (λ o p. meet side g r a p) (area (set w' at k) f) (area w₂ f₂)
      meets g = does-as d (meet-none side g r a (plan_view n e (area (set w' at k) f)).plan none)

      -- what doesn't hang on the turf in hand holds as if it were a
      pub pass-new : PassOne (count + 1) (area w₂ f₂)
      unfolding along
      pass-new = record {
        seeking = link-seeking side a r k a z n e count w f h hk ha ha queue places eq ep o m w' s at ev (meets a);
        sought = λ g hg t. link-new side g r k a z n e count w f h hk hg ha queue places eq ep o m w' s at ev (meets g) t;
        met = link-keeps side a r k a z n e count w f h hk ha ha queue places eq ep o m w' s at ev (meets a) neighbours refl;
        idle = λ first. link-idle side a r k a z n e count w f h hk ha ha queue places eq ep o m w' s at ev (meets a) false first first (sym none) refl;
        deltas = link-deltas side a r k a z n e count w f h hk ha ha queue places eq ep o m w' s at ev (meets a) (rw (delta-at n e a w f ha) at u) w₂ f₂ refl;
      }

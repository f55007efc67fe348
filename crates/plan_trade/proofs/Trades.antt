-- A turf that is met: what the code stores is what the definition stores, but for numbers that stay. Assumes nothing.
use Prim.Native.Nat.{ℕ, ◌+◌, ◌<◌}
use native.Mathlib.Decide.{ℕ_discrete}
use mathlib.Core.Path.{◌≡◌, refl, ap, ◌∙◌, sym}
use mathlib.Core.Logic.{◌≢◌}
use mathlib.Core.List.{List}
use mathlib.Core.Bool.{Bool, true, false, cond}
use lib.ListN.{length, get_or, set, length-set}
use lib.Seq.{set-get_or, get_or-set_same, get_or-set_other}
use lib.Ieee.{Float, nan}
use Rattle.basics.specs.Floats.{0f, ◌+f◌, ◌-f◌}
use Rattle.scratch.specs.Layout.{direction_at, delta_at, amount_at}
use Rattle.rules_plan.specs.Plan.{Plan, load, store, with_delta, wants, more, trade, meet}
use Rattle.rules_plan.specs.declared.MonstermosInfo.{MonstermosInfo}
use Rattle.rules_plan.specs.declared.Side.{Side}
use Rattle.plan_state.specs.Held.{Area, area, plan_view, PlanFits, PlanDoes}
use Rattle.plan_state.proofs.Stores.{does-as, does-then, store_same, amount-set, direction-set, delta-at}
use Rattle.plan_trade.specs.declared.Both.{Both}
use Rattle.plan_trade.specs.Steps.{bargain, point}

module _ (side : Side) (hand met : MonstermosInfo) where
  pub bargain-none : wants side met.delta ≡ false → record { hand = hand; met = met } ≡ bargain side hand met
  unfolding bargain
  bargain-none w = simp w

  pub bargain-all : wants side met.delta ≡ true → more side hand.delta met.delta ≡ true
      → record {
        hand = with_delta 0f hand;
        met = record { delta = met.delta +f hand.delta; amount = met.amount -f hand.delta; direction = met.direction; fast = met.fast };
      } ≡ bargain side hand met
  unfolding bargain
  bargain-all w m = simp (w, m)

  pub bargain-some : wants side met.delta ≡ true → more side hand.delta met.delta ≡ false
      → record {
        hand = with_delta (hand.delta +f met.delta) hand;
        met = record { delta = 0f; amount = met.amount +f met.delta; direction = met.direction; fast = met.fast };
      } ≡ bargain side hand met
  unfolding bargain
  bargain-some w m = simp (w, m)

pub traded : (n e g a : ℕ) (side : Side) (hand met : MonstermosInfo) (both : Both) (A : Area) → hand ≡ load (plan_view n e A).plan g → met ≡ load (plan_view n e A).plan a
    → both ≡ bargain side hand met → {B C : Area} → PlanDoes n e (λ o p. store p a both.met) A B → PlanDoes n e (λ o p. store p g both.hand) B C
    → PlanDoes n e (λ o p. trade side g a p) A C
unfolding bargain trade
traded n e g a side hand met both A eh em eb d d' = does-as (does-then _ d d') (rw (eb, eh, em))

-- a turf that doesn't want changes nothing
abbrev trade_if : Bool → Side → ℕ → ℕ → Plan → Plan
trade_if can side g a s =
    let x = (load s g).delta in
    let i = load s a in
    let all = more side x i.delta in
    let met : MonstermosInfo = record {
      delta = cond can (cond all (i.delta +f x) 0f) i.delta;
      amount = cond can (cond all (i.amount -f x) (i.amount +f i.delta)) i.amount;
      direction = i.direction;
      fast = i.fast;
    } in
    store (store s a met) g (with_delta (cond can (cond all 0f (x +f i.delta)) x) (load s g))

trade-none : (side : Side) (g a : ℕ) (s : Plan) → wants side (get_or s.delta a nan) ≡ false → s ≡ trade side g a s
unfolding trade
trade-none side g a s w =
    sym (ap (λ (c : Bool). trade_if c side g a s) w ∙ ap (λ (p : Plan). store p g (load s g)) (store_same s a) ∙ store_same s g)

pointed_is : (r a : ℕ) (s : Plan) → point a (r + 1) s ≡ store s a (record { delta = (load s a).delta; amount = 0f; direction = r + 1; fast = (load s a).fast })
unfolding point
pointed_is r a s = sym (λ i. record {
  weight = s.weight;
  delta = set-get_or s.delta a nan i;
  amount = set s.amount a 0f;
  direction = set s.direction a (r + 1);
  fast = set-get_or s.fast a 0 i;
})

-- a turf that doesn't want was only pointed
pub meet-none : (side : Side) (g r a : ℕ) (s : Plan) → wants side (get_or s.delta a nan) ≡ false → point a (r + 1) s ≡ meet side g r a s
unfolding meet point
meet-none side g r a s t = trade-none side g a (point a (r + 1) s) t ∙ ap (trade side g a) (pointed_is r a s)

pub pointed : (n e a d : ℕ) (w : List ℕ) (f : List Float) → a < n → PlanFits n e (area w f)
    → PlanDoes n e (λ o p. point a d p) (area w f) (area (set w (direction_at a e) d) (set f (amount_at a e) 0f))
unfolding point
pointed n e a d w f l h = let d₁ = direction-set n e a w f l h d in does-then _ d₁ (amount-set n e a (set w (direction_at a e) d) f l d₁.fit 0f)

module _ (n e g r a : ℕ) (side : Side) {A : Area} {w : List ℕ} {f : List Float} (l : a < n) (d : PlanDoes n e (λ o p. point a (r + 1) p) A (area w f)) where
  test : get_or f (delta_at a e) nan ≡ get_or (plan_view n e A).plan.delta a nan
  unfolding point
  test = delta-at n e a w f l ∙ ap (λ v. get_or v.plan.delta a nan) d.same

  pub wanted : (at : ℕ) → at ≡ delta_at a e → {t : Bool} → t ≡ wants side (get_or f at nan) → t ≡ wants side (get_or (plan_view n e A).plan.delta a nan)
  wanted at ea q = q ∙ ap (λ (i : ℕ). wants side (get_or f i nan)) ea ∙ ap (wants side) test

  pub met-none : (at : ℕ) → at ≡ delta_at a e → wants side (get_or f at nan) ≡ false → PlanDoes n e (λ o p. meet side g r a p) A (area w f)
  met-none at ea t = does-as d (meet-none side g r a (plan_view n e A).plan (sym (wanted at ea refl) ∙ t))

  pub met_some : {C : Area} → PlanDoes n e (λ o p. trade side g a p) (area w f) C → PlanDoes n e (λ o p. meet side g r a p) A C
  unfolding meet
  met_some d' = does-as (does-then _ d d') (ap (trade side g a) (pointed_is r a (plan_view n e A).plan))

-- a list after a number was set twice, and another one to what it was
set-others : (xs : List Float) (a b g : ℕ) (x y : Float) → g < length xs → b ≢ a → get_or (set (set (set xs a x) a y) g (get_or (set xs a x) g nan)) b nan ≡ get_or xs b nan
set-others xs a b g x y l h = pick (ℕ_discrete b g)
  where
    pick : Dec (b ≡ g) → get_or (set (set (set xs a x) a y) g (get_or (set xs a x) g nan)) b nan ≡ get_or xs b nan
    pick (yes q) =
        let long : g < length (set (set xs a x) a y) = rw (length-set (set xs a x) a y, length-set xs a x) l in
        rw q (get_or-set_same (set (set xs a x) a y) g (get_or (set xs a x) g nan) nan long ∙ get_or-set_other xs a g x nan (λ r. h (q ∙ r)))
    pick (no q) = get_or-set_other (set (set xs a x) a y) g b (get_or (set xs a x) g nan) nan q ∙ get_or-set_other (set xs a x) a b y nan h ∙ get_or-set_other xs a b x nan h

-- the amounts after a turf was met: no other turf's changes, and one that doesn't want has none
pub meet-others : (side : Side) (g r a b : ℕ) (s : Plan) → g < length s.amount → b ≢ a → get_or (meet side g r a s).amount b nan ≡ get_or s.amount b nan
unfolding meet trade
meet-others side g r a b s l h = set-others s.amount a b g 0f _ l h

pub meet-here : (side : Side) (g r a : ℕ) (s : Plan) → a < length s.amount → wants side (get_or s.delta a nan) ≡ false → get_or (meet side g r a s).amount a nan ≡ 0f
unfolding point
meet-here side g r a s l t = ap (λ (p : Plan). get_or p.amount a nan) (sym (meet-none side g r a s t)) ∙ get_or-set_same s.amount a 0f nan l

-- the directions after a turf was met
pub meet-direction : (side : Side) (g r a : ℕ) (s : Plan) → (meet side g r a s).direction ≡ set s.direction a (r + 1)
unfolding meet trade
meet-direction side g r a s =
    ap (λ (d : List ℕ). set d g (get_or (set s.direction a (r + 1)) g 0)) (set-get_or (set s.direction a (r + 1)) a 0) ∙ set-get_or (set s.direction a (r + 1)) g 0

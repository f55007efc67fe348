-- The steps of a search as the code takes them: by link, and only what changes is stored.
use Rattle.std.specs.Prelude.{ℕ, ◌+◌, ◌-◌, List, not, ◌&&◌, eqb, ltb, get_or, set, if◌then◌else◌, Option, Some}
use Rattle.std.specs.Float.{nan}
use Rattle.std.specs.Float.Ieee.{ne}
use Rattle.basics.specs.Floats.{0f, ◌+f◌, ◌-f◌}
use Rattle.rules_plan.specs.Plan.{Plan, Seek, load, with_delta, wants, more, seek_to}
use Rattle.rules_plan.specs.declared.MonstermosInfo.{MonstermosInfo}
use Rattle.rules_plan.specs.declared.Side.{Side}
use Rattle.plan_edges.specs.Steps.{back_link, adjust_at}
use Rattle.plan_trade.specs.declared.Both.{Both}

-- the lesser one
unfoldable pub lesser : ℕ → ℕ → ℕ
lesser a b = if ltb a b then a else b

-- what `trade` comes to for the turf in hand and the turf that is met
unfoldable pub bargain : Side → MonstermosInfo → MonstermosInfo → Both
bargain side hand met =
    let x = hand.delta in
    let y = met.delta in
    let can = wants side y in
    let all = more side x y in
    record {
      hand = with_delta (if can then (if all then 0f else x +f y) else x) hand;
      met = record {
        delta = if can then (if all then y +f x else 0f) else y;
        amount = if can then (if all then met.amount -f x else met.amount +f y) else met.amount;
        direction = met.direction;
        fast = met.fast;
      };
    }

-- a turf that is met for the first time: it points at d - 1 and has moved nothing yet
unfoldable pub point : ℕ → ℕ → Plan → Plan
point a d s = record { weight = s.weight; delta = s.delta; amount = set s.amount a 0f; direction = set s.direction a d; fast = s.fast }

-- the link k of the turf r, if the zone owns it
unfoldable pub along : Side → ℕ → ℕ → List ℕ → ℕ → List ℕ → ℕ → Seek → Seek
along side g r neighbours z o k s = if eqb (get_or o k 0) (z + 1) then seek_to side g r (get_or neighbours k 0) s else s

-- `drain_to` with both edges at hand
unfoldable pub hand_on : Option ℕ → Option ℕ → ℕ → ℕ → Plan → Plan
hand_on there back r d s =
    let x = get_or s.amount r nan in
    record {
      weight = adjust_at there back x s.weight;
      delta = s.delta;
      amount = set (set s.amount d (get_or s.amount d nan +f x)) r 0f;
      direction = s.direction;
      fast = s.fast;
    }

-- `drain` over the link over which the turf was met
unfoldable pub drain_via : List ℕ → List ℕ → ℕ → List ℕ → ℕ → Plan → Plan
drain_via reverse via z o r s =
    let k = get_or via r 0 in
    let i = load s r in
    if ne i.amount 0f && not (eqb i.direction 0) then hand_on (back_link reverse o z k) (Some k) r (i.direction - 1) s else s

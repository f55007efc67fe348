-- The steps of the fast pass as the code takes them: by link, and only what changes is stored.
use Rattle.std.specs.Prelude.{ℕ, ◌+◌, List, eqb, get_or, set, Float, if◌then◌else◌, Option, Some}
use Rattle.std.specs.Float.{nan}
use Rattle.basics.specs.Floats.{◌+f◌, ◌-f◌}
use Rattle.rules_plan.specs.Plan.{Plan}
use Rattle.plan_edges.specs.Steps.{back_link, adjust_at}
use Rattle.plan_fast.specs.declared.Share.{Share}

-- one more, if the zone owns the link k and the row a, where it ends, has no fast mark
unfoldable pub tally_step : List ℕ → List ℕ → ℕ → ℕ → ℕ → ℕ → ℕ
tally_step o fast z k a c = if eqb (get_or o k 0) (z + 1) then (if eqb (get_or fast a 0) 0 then c + 1 else c) else c

-- `fast_move` with both edges at hand
unfoldable pub move_at : Option ℕ → Option ℕ → ℕ → Float → ℕ → Plan → Plan
move_at there back r x a s =
    let less = set s.delta r (get_or s.delta r nan -f x) in
    record {
      weight = adjust_at there back x s.weight;
      delta = set less a (get_or less a nan +f x);
      amount = s.amount;
      direction = s.direction;
      fast = s.fast;
    }

-- the move over the link k to the row a, if it is an eligible one
unfoldable pub fast_via : List ℕ → ℕ → ℕ → Float → List ℕ → ℕ → ℕ → Plan → Plan
fast_via reverse z r x o k a s =
    if eqb (get_or o k 0) (z + 1) then (if eqb (get_or s.fast a 0) 0 then move_at (Some k) (back_link reverse o z k) r x a s else s) else s

-- the link k of a giver that shares
abbrev pub share_over : Share → List ℕ → List ℕ → List ℕ → ℕ → Plan → Plan
share_over share neighbours reverse o k s = fast_via reverse share.z share.r share.x o k (get_or neighbours k 0) s

-- What a caller hands over and gets: the zones of a fill are such as planning asks for, and the plan is the whole board's. Assumes nothing.
use Prim.Native.Nat.{ℕ, ◌+◌, ◌-◌, ◌≤◌, ◌<◌}
use native.Mathlib.Omega.{arith}
use mathlib.Core.Path.{◌≡◌, ap, ap₂, ◌∙◌, sym, subst}
use mathlib.Core.List.{List, map}
use lib.ListN.{length, drop, length-drop, length-map}
use lib.Seq.{length-take-le}
use lib.Ieee.{Float}
use Rattle.basics.specs.Loops.{run, up_from}
use Rattle.basics.proofs.Lists.{up_from-length}
use Rattle.basics.proofs.Regions.{cut-length}
use Rattle.rules_board.specs.Board.{Board, turf_count, link_count}
use Rattle.turfs.proofs.Line.{Line, line-short}
use Rattle.index_set.specs.Line.{Below}
use Rattle.index_set.proofs.Queue.{all-below}
use Rattle.scratch.specs.Layout.{word_sizes}
use Rattle.scratch.specs.View.{owner_in, nodes_in}
use Rattle.rules_plan.specs.Plan.{planned_zone}
use Rattle.rules_finish.specs.Turns.{Zone, zone_at}
use Rattle.rules_equalize.specs.Equalize.{Filled, planned_all}
use Rattle.plan_state.specs.Held.{area, plan_view}
use Rattle.plan_all.specs.Zones.{zone_of, nodes_from, PlanRoom, Zoned, blank, PlansAll}
use Rattle.plan_all.proofs.Plans.{zone-is}

-- ---- before

-- zones whose nodes stand one after the other, each with a node, none twice
pub zoned_of : (b : Board) {e zones : ℕ} {w : List ℕ} {f : List Float} (zs : List Zone) → PlanRoom (turf_count b) e w f → zones ≤ turf_count b
    → zs ≡ map (zone_of (turf_count b) e w f) (up_from 0 zones)
    → ((z : ℕ) → z < zones → (nodes_from (turf_count b) e w z ≤ nodes_from (turf_count b) e w (z + 1)) × (nodes_from (turf_count b) e w (z + 1) ≤ turf_count b + e))
    → ((z : ℕ) → z < length zs → (1 ≤ length (zone_at zs z).nodes) × Line b (zone_at zs z).nodes)
    → Zoned (turf_count b) e zones w f
zoned_of b {e} {zones} {w} {f} zs r few same rise has =
    let n : ℕ = turf_count b in
    let count : length zs ≡ zones = ap length same ∙ length-map (up_from 0 zones) (zone_of n e w f) ∙ up_from-length 0 zones in
    let node : (z : ℕ) → z < zones → zone_at zs z ≡ zone_of n e w f z = λ z l. ap (λ (v : List Zone). zone_at v z) same ∙ zone-is (zone_of n e w f) zones z l in
    let long : length (nodes_in n e w) ≡ n + e = cut-length (word_sizes n e) w 11 (omega arith) (omega (arith, r.words)) in
    let size : (z : ℕ) → z < zones → length (zone_at zs z).nodes ≡ nodes_from n e w (z + 1) - nodes_from n e w z =
    λ z l.
    ap (λ (v : Zone). length v.nodes) (node z l)
    ∙ length-take-le (nodes_from n e w (z + 1) - nodes_from n e w z) (drop (nodes_from n e w z) (nodes_in n e w))
    (omega (arith, (rise z l).0, (rise z l).1, long, length-drop (nodes_from n e w z) (nodes_in n e w))) in
    record {
      room = r;
      few = few;
      each = λ z l.
          let h = has z (omega (arith, l, count)) in
          record {
            some = omega (arith, h.0, size z l);
            few = omega (arith, size z l, line-short b (zone_at zs z).nodes h.1);
            within = (rise z l).1;
            rows = subst (λ (v : Zone). Below n v.nodes) (node z l) (all-below n (zone_at zs z).nodes h.1.rows);
          };
    }

-- ---- afterwards

-- the plan of the whole board, of what filling came to
pub planned-filled : (b : Board) (s : Filled) {zones : ℕ} {gas : List Float} {w w' : List ℕ} {f f' : List Float}
    → PlansAll (turf_count b) (link_count b) zones b gas w w' f f' → s.owner ≡ owner_in (link_count b) w
    → s.zones ≡ map (zone_of (turf_count b) (link_count b) w f) (up_from 0 zones) → (plan_view (turf_count b) (link_count b) (area w' f')).plan ≡ planned_all b gas s
unfolding planned_all
planned-filled b s {zones} {gas = gas} {w = w} {f = f} p eo ez =
    p.plan
    ∙ ap₂ (λ (o : List ℕ) (zs : List Zone). run (λ z q. planned_zone b o z gas (zone_at zs z).nodes (zone_at zs z).moles q) (up_from 0 (length zs)) (blank (turf_count b) (link_count b))) (sym eo) (sym ez)

-- Weights that are adjusted are a step of the plan: they stand first among the floats. Assumes nothing.
use Prim.Native.Nat.{ℕ, ◌<◌}
use native.Mathlib.Omega.{arith}
use mathlib.Core.Path.{◌≡◌, refl, ap, ◌∙◌}
use mathlib.Core.List.{List, []}
use lib.ListN.{length, get_or, set}
use lib.Ieee.{Float, nan}
use Rattle.basics.specs.Floats.{◌+f◌, ◌-f◌}
use Rattle.basics.specs.Regions.{cut, region}
use Rattle.std.specs.Prelude.{Option, Some, None}
use Rattle.basics.specs.Lists.{Found}
use Rattle.basics.proofs.Regions.{cut-set, cut-get}
use Rattle.scratch.specs.Layout.{plan_words, plan_floats}
use Rattle.rules_plan.specs.Edges.{alter}
use Rattle.rules_plan.specs.Plan.{reweigh}
use Rattle.plan_edges.specs.Steps.{adjust_at}
use Rattle.plan_edges.proofs.Weights.{adjust-length}
use Rattle.plan_state.specs.Held.{area, plan_view_in, plan_view, PlanFits, PlanDoes}

-- one weight that is altered
cut-alter : (n e : ℕ) (s : Option ℕ) (f : Float → Float) (w : List Float) → Found (λ k. k < e) s
    → cut (plan_floats n e) (alter s f w) ≡ set (cut (plan_floats n e) w) 0 (alter s f (region (plan_floats n e) 0 w))
cut-alter n e (Some k) f w h =
    cut-set (plan_floats n e) w 0 k (f (get_or w k nan)) k (omega arith) h (omega arith)
    ∙ ap (λ (x : Float). set (cut (plan_floats n e) w) 0 (set (region (plan_floats n e) 0 w) k (f x))) (cut-get (plan_floats n e) w nan 0 k k (omega arith) h (omega arith))
cut-alter n e None f w h = refl

pub adjusted : (n e : ℕ) (there back : Option ℕ) (x : Float) (w : List ℕ) (f f' : List Float) → Found (λ k. k < e) there → Found (λ k. k < e) back
    → f' ≡ adjust_at there back x f → PlanFits n e (area w f)
    → PlanDoes n e (λ o p. reweigh (adjust_at there back x) p) (area w f) (area w f')
unfolding plan_view adjust_at
adjusted n e there back x w f f' ht hb s h =
    let c : cut (plan_floats n e) f' ≡ set (cut (plan_floats n e) f) 0 (adjust_at there back x (region (plan_floats n e) 0 f)) =
    ap (cut (plan_floats n e)) s ∙ cut-alter n e back (λ y. y -f x) (alter there (λ y. y +f x) f) hb
    ∙ ap (λ rs. set rs 0 (alter back (λ y. y -f x) (get_or rs 0 []))) (cut-alter n e there (λ y. y +f x) f ht) in
    record {
      fit = record { words = h.words; floats = rw (ap length s ∙ adjust-length there back x f) h.floats; turfs = h.turfs; links = h.links };
      same = ap (plan_view_in (cut (plan_words n e) w)) c;
    }

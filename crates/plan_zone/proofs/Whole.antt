-- `process_zone` as a whole: three steps of the plan, one after the other. Assumes nothing.
use Prim.Native.Nat.{ℕ}
use mathlib.Core.Path.{◌≡◌, ap, ◌∙◌, sym}
use mathlib.Core.List.{List}
use lib.Ieee.{Float}
use Rattle.basics.specs.Floats.{0f, ◌-f◌, ◌/f◌, of_count}
use Rattle.rules_board.specs.Board.{Board}
use Rattle.rules_plan.specs.Plan.{store, fast_pass, share_out, deltas, planned_zone}
use Rattle.plan_state.specs.Held.{Area, PlanView, plan_view, PlanDoes, Nodes, nodes_of}
use Rattle.plan_state.proofs.Stores.{does-as, does-frame, frame_then}
use Rattle.plan_state.proofs.Nodes.{nodes-length}
use Rattle.plan_zone.specs.Zone.{Plans}

pub delta-set : {n e r : ℕ} (x y average : Float) {a a' : Area} → x ≡ y
    → PlanDoes n e (λ o p. store p r (record { delta = x -f average; amount = 0f; direction = 0; fast = 0 })) a a'
    → PlanDoes n e (λ o p. store p r (record { delta = y -f average; amount = 0f; direction = 0; fast = 0 })) a a'
delta-set {n} {e} {r} x y average {a} q d =
    does-as d (ap (λ (m : Float). store (plan_view n e a).plan r (record { delta = m -f average; amount = 0f; direction = 0; fast = 0 })) q)

pub processed : (b : Board) (n e first count z : ℕ) (gas : List Float) (moles : Float) {a a' a'' a''' : Area} → Nodes n e first count a
    → PlanDoes n e (λ o p. deltas b o z gas (nodes_of n e (plan_view n e a) first count) (moles /f of_count count) p) a a'
    → PlanDoes n e (λ o p. fast_pass b o z (nodes_of n e (plan_view n e a') first count) p) a' a''
    → Plans n e (λ o p. share_out b o z (nodes_of n e (plan_view n e a'') first count) p) a'' a'''
    → Plans n e (λ o p. planned_zone b o z gas (nodes_of n e (plan_view n e a) first count) moles p) a a'''
unfolding planned_zone
processed b n e first count z gas moles {a} {a'} {a''} h d d' q = record {
  fit = q.fit;
  frame = frame_then (frame_then (does-frame d) (does-frame d')) q.frame;
  plan = q.plan
      ∙ ap (λ (v : PlanView). share_out b v.owner z (nodes_of n e v first count) v.plan) d'.same
      ∙ ap (λ (v : PlanView). share_out b v.owner z (nodes_of n e v first count) (fast_pass b v.owner z (nodes_of n e v first count) v.plan)) d.same
      ∙ ap (λ (m : ℕ). share_out b (plan_view n e a).owner z (nodes_of n e (plan_view n e a) first count) (fast_pass b (plan_view n e a).owner z (nodes_of n e (plan_view n e a) first count)
      (deltas b (plan_view n e a).owner z gas (nodes_of n e (plan_view n e a) first count) (moles /f of_count m) (plan_view n e a).plan))) (sym (nodes-length h));
}

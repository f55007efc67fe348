-- Links that are passed with nothing to trade, one after the other. Assumes nothing.
use Prim.Native.Nat.{ℕ, ◌+◌, ◌-◌, ◌≤◌, ◌<◌}
use native.Mathlib.Omega.{arith}
use mathlib.Core.Path.{◌≡◌, ap, ◌∙◌, sym, subst}
use mathlib.Core.List.{List}
use Rattle.basics.specs.Loops.{run, up_from}
use Rattle.basics.proofs.Loops.{run-suc, run-up_end}
use Rattle.rules_plan.specs.Plan.{Seek, settled}
use Rattle.rules_plan.specs.declared.Side.{Side}
use Rattle.plan_state.specs.Held.{Area, plan_view}
use Rattle.plan_trade.specs.Search.{Seeking, seek_of, Sought, Passes}
use Rattle.plan_trade.specs.Steps.{along}
use Rattle.plan_trade.proofs.Seeks.{sought-none, idle_then}
use Rattle.plan_trade.proofs.Passes.{passes_none}
use Rattle.plan_search.proofs.Rows.{leaves-then, keeps-within, keeps_then}

sought-then : {n e c c' c'' : ℕ} {f h : List ℕ → Seek → Seek} (k : List ℕ → Seek → Seek) {a b d : Area} → Sought n e f c c' a b → Sought n e h c' c'' b d
    → ((o : List ℕ) (s : Seek) → h o (f o s) ≡ k o s) → Sought n e k c c'' a d
sought-then {n} {e} {c' = c'} {h = h} k {a} {b} p q s = record {
  seeking = q.seeking;
  rest = leaves-then p.rest q.rest;
  same = λ looked.
      q.same looked
      ∙ ap (λ (o : List ℕ). h o (seek_of (plan_view n e b) c' looked)) p.rest.frame.owner
      ∙ ap (h (plan_view n e a).owner) (p.same looked)
      ∙ s _ _;
}

module _ (side : Side) (r : ℕ) (neighbours : List ℕ) (z n e at to count : ℕ) where
  -- the links from `at` up to k
  abbrev pub PassUpTo : ℕ → ℕ → Area → Area → Type 0
  PassUpTo k c A B = Passes side n e (λ g o s. run (along side g r neighbours z o) (up_from at (k - at)) s) z r at to neighbours count c A B

  pub passes_start : {A : Area} → Seeking n e count A → PassUpTo at count A A
  passes_start h = passes_none _ h (λ g hg t. sought-none _ h (λ looked. sym (run-up_end _ at at _ (omega arith))))

  pub passes_next : {c c' : ℕ} {A B C : Area} (k : ℕ) → at ≤ k → k < to → PassUpTo k c A B
      → Passes side n e (λ g o s. along side g r neighbours z o k s) z r k (k + 1) neighbours c c' B C → PassUpTo (k + 1) c' A C
  passes_next k l h p q = record {
    seeking = q.seeking;
    sought = λ g hg t. sought-then _ (p.sought g hg t) (q.sought g hg (ap (settled side) (p.deltas g hg) ∙ t)) (turn g);
    met = keeps_then p.met (keeps-within l (omega arith) q.met);
    idle = λ first. idle_then (p.idle first) (q.idle first);
    deltas = λ g hg. q.deltas g hg ∙ p.deltas g hg;
  }
    where
      turn : (g : ℕ) (o : List ℕ) (s : Seek) → along side g r neighbours z o k (run (along side g r neighbours z o) (up_from at (k - at)) s)
          ≡ run (along side g r neighbours z o) (up_from at (k + 1 - at)) s
      turn g o s =
          let one : k + 1 - at ≡ k - at + 1 = omega arith in
          let here : at + (k - at) ≡ k = omega arith in
          sym (ap (λ (m : ℕ). run (along side g r neighbours z o) (up_from at m) s) one
          ∙ run-suc (along side g r neighbours z o) at (k - at) s
          ∙ ap (λ (j : ℕ). along side g r neighbours z o j (run (along side g r neighbours z o) (up_from at (k - at)) s)) here)

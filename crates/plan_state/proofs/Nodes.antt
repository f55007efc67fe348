-- Loops over the nodes of a zone, which stand past the words that planning changes. Assumes nothing.
use Prim.Native.Nat.{ℕ, ◌+◌, ◌-◌, ◌≤◌, ◌<◌}
use native.Mathlib.Omega.{arith}
use mathlib.Core.Path.{◌≡◌, refl, ap, ◌∙◌, sym, subst}
use mathlib.Core.List.{List}
use lib.ListN.{length, get_or, take, drop, length-drop}
use lib.Seq.{get_or-take, get_or-drop, length-take-le}
use Rattle.basics.specs.Loops.{run}
use Rattle.scratch.specs.Layout.{plan_words, found_at}
use Rattle.basics.proofs.Regions.{cut-rest}
use Rattle.basics.proofs.Loops.{run_at, run-stop}
use Rattle.rules_board.specs.Board.{Board}
use Rattle.rules_plan.specs.Plan.{Plan}
use Rattle.index_set.proofs.Queue.{Below-at}
use Rattle.reverse_links.specs.Reverse.{Reverses}
use Rattle.plan_state.specs.Held.{Area, PlanView, plan_view, PlanFits, on_plan, PlanDoes, Frame, Nodes, nodes_of}

-- ---- in a loop

-- what is left to do, f, from here on comes to what the whole, f₀, comes to from the start
pub record Onto (n e : ℕ) (f f₀ : List ℕ → Plan → Plan) (a a' : Area) : Type 0 where
  pub fit : PlanFits n e a'
  pub on : on_plan f (plan_view n e a') ≡ on_plan f₀ (plan_view n e a)

pub onto_next : {n e : ℕ} {f f₀ : List ℕ → Plan → Plan} {a a' a'' : Area} (h f' : List ℕ → Plan → Plan) → Onto n e f f₀ a a' → PlanDoes n e h a' a''
    → ((o : List ℕ) (p : Plan) → f o p ≡ f' o (h o p)) → Onto n e f' f₀ a a''
onto_next {n} {e} {a' = a'} h f' b d s = record {
  fit = d.fit;
  on = ap (on_plan f') d.same ∙ sym (ap (λ (p : Plan). on_plan (λ u v. p) (plan_view n e a')) (s (plan_view n e a').owner (plan_view n e a').plan)) ∙ b.on;
}

pub onto_end : {n e : ℕ} {f f₀ : List ℕ → Plan → Plan} {a a' : Area} → Onto n e f f₀ a a' → ((o : List ℕ) (p : Plan) → f o p ≡ p) → PlanDoes n e f₀ a a'
onto_end {n} {e} {a' = a'} b s = record {
  fit = b.fit;
  same = sym (ap (λ (p : Plan). on_plan (λ u v. p) (plan_view n e a')) (s (plan_view n e a').owner (plan_view n e a').plan)) ∙ b.on;
}

pub onto_frame : {n e : ℕ} {f f₀ : List ℕ → Plan → Plan} {a a' : Area} → Onto n e f f₀ a a' → Frame n e a a'
onto_frame b = record {
  owner = ap (λ (v : PlanView). v.owner) b.on;
  reverse = ap (λ (v : PlanView). v.reverse) b.on;
  rest_w = ap (λ (v : PlanView). v.rest_w) b.on;
  rest_f = ap (λ (v : PlanView). v.rest_f) b.on;
}

-- the reverses stand as they stood
pub reverses-kept : {n e m : ℕ} {b : Board} {a a' : Area} → Reverses b m (plan_view n e a).reverse → Frame n e a a' → Reverses b m (plan_view n e a').reverse
reverses-kept {m = m} {b = b} v f = subst (Reverses b m) (sym f.reverse) v

-- ---- the nodes

pub rest-is : (n e : ℕ) (a : Area) → (plan_view n e a).rest_w ≡ drop (found_at n e) a.words
unfolding plan_view
rest-is n e a =
    let k : e + (e + (n + n + (n + (n + (n + (n + 0)))))) ≡ found_at n e = omega arith in
    cut-rest (plan_words n e) a.words ∙ ap (λ (m : ℕ). drop m a.words) k

module _ {n e first count : ℕ} {a : Area} (h : Nodes n e first count a) where
  pub nodes-length : length (nodes_of n e (plan_view n e a) first count) ≡ count
  nodes-length =
      length-take-le count (drop (first - found_at n e) (plan_view n e a).rest_w)
      (omega (arith, h.room, h.past, length-drop (first - found_at n e) (plan_view n e a).rest_w, ap length (rest-is n e a), length-drop (found_at n e) a.words))

  module _ (i : ℕ) (l : i < count) where
    -- a node, as the code reads it
    pub node_at : get_or a.words (first + i) 0 ≡ get_or (nodes_of n e (plan_view n e a) first count) i 0
    node_at =
        let k : found_at n e + (first - found_at n e + i) ≡ first + i = omega (arith, h.past) in
        sym (get_or-take count (drop (first - found_at n e) (plan_view n e a).rest_w) i 0 l ∙ get_or-drop (first - found_at n e) (plan_view n e a).rest_w i 0
        ∙ ap (λ (r : List ℕ). get_or r (first - found_at n e + i) 0) (rest-is n e a) ∙ get_or-drop (found_at n e) a.words (first - found_at n e + i) 0
        ∙ ap (λ (m : ℕ). get_or a.words m 0) k)

    pub node-below : get_or a.words (first + i) 0 < n
    node-below = rw node_at (Below-at n (nodes_of n e (plan_view n e a) first count) i h.rows (rw nodes-length l))

-- planning leaves them as they are
pub nodes-same : {n e : ℕ} (first count : ℕ) {a a' : Area} → Frame n e a a' → nodes_of n e (plan_view n e a') first count ≡ nodes_of n e (plan_view n e a) first count
nodes-same {n} {e} first count f = ap (λ (r : List ℕ). take count (drop (first - found_at n e) r)) f.rest_w

pub nodes-kept : {n e first count : ℕ} {a a' : Area} → Nodes n e first count a → Frame n e a a' → length a'.words ≡ length a.words → Nodes n e first count a'
nodes-kept {first = first} {count = count} h f l = record { some = h.some; few = h.few; past = h.past; room = omega (arith, h.room, l); rows = rw (nodes-same first count f) h.rows }

module _ {n e first count : ℕ} {a a' : Area} (h : Nodes n e first count a) (fr : Frame n e a a') (len : length a'.words ≡ length a.words) (i : ℕ) where
  pub node-now : i < count → get_or a'.words (first + i) 0 ≡ get_or (nodes_of n e (plan_view n e a) first count) i 0
  node-now l = node_at (nodes-kept h fr len) i l ∙ ap (λ (xs : List ℕ). get_or xs i 0) (nodes-same first count fr)

  pub now_below : i < count → get_or a'.words (first + i) 0 < n
  now_below l = node-below (nodes-kept h fr len) i l

  pub walk-next : i < count → {S : Type 0} (f : ℕ → S → S) (s : S)
      → run f (drop i (nodes_of n e (plan_view n e a) first count)) s ≡ run f (drop (i + 1) (nodes_of n e (plan_view n e a) first count)) (f (get_or a'.words (first + i) 0) s)
  walk-next l f s = rw (node-now l) (run_at f (nodes_of n e (plan_view n e a) first count) i (rw (nodes-length h) l) s)

  pub walk_end : count ≤ i → {S : Type 0} (f : ℕ → S → S) (s : S) → run f (drop i (nodes_of n e (plan_view n e a) first count)) s ≡ s
  walk_end l f s = run-stop f (nodes_of n e (plan_view n e a) first count) i (rw (nodes-length h) l) s

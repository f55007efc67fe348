-- The list of givers or takers, and what is done for each of it. Assumes nothing.
use Prim.Native.Nat.{ℕ, ◌+◌, ◌-◌, ◌≤◌, ◌<◌}
use native.Mathlib.Omega.{arith}
use native.Mathlib.Numerals.{add-one}
use mathlib.Core.Path.{◌≡◌, refl, ap, ap₂, ◌∙◌, sym}
use mathlib.Core.List.{List, [], ◌∷◌, ◌++◌, append-nil, append_assoc}
use mathlib.Core.Bool.{Bool, true, false, cond}
use lib.ListN.{length, get_or, set, take, drop, length-set, drop_of_length-le}
use lib.Seq.{get_or-take, length-take-le, drop-cons, take-suc-set}
use lib.Ieee.{Float, nan}
use borrow.Author.Tests.{lt-ltb, le-ltb}
use Rattle.basics.specs.Loops.{run, keep, cons_if}
use Rattle.basics.specs.Regions.{cut}
use Rattle.basics.proofs.Regions.{cut-set, cut-length}
use Rattle.basics.proofs.Loops.{run_at, run-stop}
use Rattle.scratch.specs.Layout.{plan_words, plan_floats, list_at, delta_at}
use Rattle.rules_board.specs.Board.{Board}
use Rattle.rules_plan.specs.Plan.{Plan, picks, chosen, serve, fast_turf, log2, fast_pass, share_out}
use Rattle.rules_plan.specs.declared.Side.{Side}
use Rattle.rules_plan.specs.declared.Side.TheVariants.{Giving, Taking}
use Rattle.index_set.specs.Line.{Below}
use Rattle.index_set.proofs.Queue.{Below-at}
use Rattle.plan_state.specs.Held.{Area, area, PlanView, plan_view_in, plan_view, PlanFits, PlanDoes, Frame, Serves, Nodes, nodes_of}
use Rattle.plan_state.proofs.Stores.{frame-none, frame_then, does-none, does-as, delta-at, list-at}
use Rattle.plan_state.proofs.Nodes.{nodes-length, node_at, node-below, nodes-same, nodes-kept}
use Rattle.plan_zone.specs.Zone.{Picked, Plans}
use Rattle.plan_tests.specs.Sides.{side_of}
use Rattle.plan_zone.proofs.Counts.{chosen-all}

-- ---- the list grows

pub record Picking (n e : ℕ) (p : ℕ → Bool) (xs : List ℕ) (k i : ℕ) (a a' : Area) : Type 0 where
  pub fit : PlanFits n e a'
  pub few : k ≤ i
  pub frame : Frame n e a a'
  pub plan : (plan_view n e a').plan ≡ (plan_view n e a).plan
  pub on : take k (plan_view n e a').list ++ keep p (drop i xs) ≡ keep p xs

module _ {n e : ℕ} (p : ℕ → Bool) (xs : List ℕ) {k i : ℕ} {a : Area} {w : List ℕ} {f : List Float} (b : Picking n e p xs k i a (area w f)) (l : i < length xs) where
  next-list : keep p (drop i xs) ≡ cons_if (p (get_or xs i 0)) (get_or xs i 0) (keep p (drop (i + 1) xs))
  unfolding keep
  next-list = rw (add-one i, drop-cons xs i 0 l)

  picking_no : p (get_or xs i 0) ≡ false → Picking n e p xs k (i + 1) a (area w f)
  picking_no t = record {
    fit = b.fit;
    few = omega (arith, b.few);
    frame = b.frame;
    plan = b.plan;
    on = sym (ap (λ (ys : List ℕ). take k (plan_view n e (area w f)).list ++ ys) (next-list ∙ ap (λ (c : Bool). cons_if c (get_or xs i 0) (keep p (drop (i + 1) xs))) t)) ∙ b.on;
  }

  module _ (list : ℕ) (el : list ≡ list_at n e) (hk : k < n) where
    picking_yes : p (get_or xs i 0) ≡ true → (r : ℕ) → r ≡ get_or xs i 0 → Picking n e p xs (k + 1) (i + 1) a (area (set w (list + k) r) f)
    unfolding plan_view
    picking_yes t r er =
        let v : PlanView = plan_view n e (area w f) in
        let u = ap (λ ws. plan_view_in ws (cut (plan_floats n e) f)) (cut-set (plan_words n e) w 6 k r (list + k) (omega arith) hk (omega (arith, el))) in
        let long : length v.list ≡ n = cut-length (plan_words n e) w 6 (omega arith) (omega (arith, b.fit.words)) in
        let rest : List ℕ = keep p (drop (i + 1) xs) in
        record {
          fit = record { words = simp length-set b.fit.words; floats = b.fit.floats; turfs = b.fit.turfs; links = b.fit.links };
          few = omega (arith, b.few);
          frame = record {
            owner = ap (λ (x : PlanView). x.owner) u ∙ b.frame.owner;
            reverse = ap (λ (x : PlanView). x.reverse) u ∙ b.frame.reverse;
            rest_w = ap (λ (x : PlanView). x.rest_w) u ∙ b.frame.rest_w;
            rest_f = ap (λ (x : PlanView). x.rest_f) u ∙ b.frame.rest_f;
          };
          plan = ap (λ (x : PlanView). x.plan) u ∙ b.plan;
          on = ap (λ (x : PlanView). take (k + 1) x.list ++ rest) u
              ∙ ap (λ (ys : List ℕ). ys ++ rest) (ap (λ (m : ℕ). take m (set v.list k r)) (add-one k) ∙ take-suc-set v.list k r (omega (arith, long)))
              ∙ append_assoc (take k v.list) (r ∷ []) rest
              ∙ ap (λ (x : ℕ). take k v.list ++ (x ∷ rest)) er
              ∙ sym (ap (λ (ys : List ℕ). take k v.list ++ ys) (next-list ∙ ap (λ (c : Bool). cons_if c (get_or xs i 0) rest) t))
              ∙ b.on;
        }

    -- one node, as `choose` does it
    pub picking_next : (t : Bool) → p (get_or xs i 0) ≡ t → (r : ℕ) → r ≡ get_or xs i 0 → (k' : ℕ) → k' ≡ cond t (k + 1) k → (w' : List ℕ)
        → w' ≡ cond t (set w (list + k) r) w → Picking n e p xs k' (i + 1) a (area w' f)
    picking_next true t r er k' ek w' ew = rw (ek, ew) (picking_yes t r er)
    picking_next false t r er k' ek w' ew = rw (ek, ew) (picking_no t)

pub picking_end : {n e : ℕ} (side : Side) (xs : List ℕ) (s : Plan) {k i : ℕ} {a a' : Area} → Picking n e (λ r. picks side (get_or s.delta r nan)) xs k i a a' → i ≤ n → length xs ≤ i
    → Picked n e (chosen side xs s) k a a'
unfolding chosen keep
picking_end {n} {e} side xs s {k} {i} {a} {a'} b m l = record {
  fit = b.fit;
  few = omega (arith, b.few);
  frame = b.frame;
  plan = b.plan;
  list =
      sym (ap (λ (ys : List ℕ). take k (plan_view n e a').list ++ keep (λ r. picks side (get_or s.delta r nan)) ys) (drop_of_length-le xs l) ∙ append-nil (take k (plan_view n e a').list))
      ∙ b.on;
}

-- the test that the code makes at a node
module _ {n e first count k i : ℕ} {w₀ w : List ℕ} {f : List Float} (h : Nodes n e first count (area w₀ f)) (side : Side)
    (b : Picking n e (λ r. picks side (get_or (plan_view n e (area w₀ f)).plan.delta r nan)) (nodes_of n e (plan_view n e (area w₀ f)) first count) k i (area w₀ f) (area w f))
    (len : length w ≡ length w₀) (l : i < count) where
  now : Nodes n e first count (area w f)
  now = nodes-kept h b.frame len

  pub pick-row : get_or w (first + i) 0 ≡ get_or (nodes_of n e (plan_view n e (area w₀ f)) first count) i 0
  pick-row = node_at now i l ∙ ap (λ (xs : List ℕ). get_or xs i 0) (nodes-same first count b.frame)

  pub pick-below : get_or w (first + i) 0 < n
  pick-below = node-below now i l

  pub pick-test : picks side (get_or (plan_view n e (area w₀ f)).plan.delta (get_or (nodes_of n e (plan_view n e (area w₀ f)) first count) i 0) nan) ≡ picks side (get_or f (delta_at (get_or w (first + i) 0) e) nan)
  pick-test =
      sym (ap (picks side) (delta-at n e (get_or w (first + i) 0) w f pick-below)
      ∙ ap (λ (s : Plan). picks side (get_or s.delta (get_or w (first + i) 0) nan)) b.plan
      ∙ ap (λ (r : ℕ). picks side (get_or (plan_view n e (area w₀ f)).plan.delta r nan)) pick-row)

-- ---- each of the list

pub record Along (n e : ℕ) (g g₀ : List ℕ → Plan → Plan) (a a' : Area) : Type 0 where
  pub fit : PlanFits n e a'
  pub frame : Frame n e a a'
  pub list : (plan_view n e a').list ≡ (plan_view n e a).list
  pub on : g (plan_view n e a).owner (plan_view n e a').plan ≡ g₀ (plan_view n e a).owner (plan_view n e a).plan

pub along-next : {n e : ℕ} {g g₀ : List ℕ → Plan → Plan} {a a' a'' : Area} (h g' : List ℕ → Plan → Plan) → Along n e g g₀ a a' → Serves n e h a' a''
    → ((o : List ℕ) (p : Plan) → g o p ≡ g' o (h o p)) → Along n e g' g₀ a a''
along-next {n} {e} {a = a} {a' = a'} h g' b d s = record {
  fit = d.fit;
  frame = frame_then b.frame d.frame;
  list = d.list ∙ b.list;
  on = ap (g' (plan_view n e a).owner) (d.plan ∙ ap (λ (o : List ℕ). h o (plan_view n e a').plan) b.frame.owner) ∙ sym (s _ _) ∙ b.on;
}

pub along-end : {n e : ℕ} {g g₀ : List ℕ → Plan → Plan} {a a' : Area} → Along n e g g₀ a a' → ((o : List ℕ) (p : Plan) → g o p ≡ p) → Serves n e g₀ a a'
along-end b s = record { fit = b.fit; frame = b.frame; list = b.list; plan = sym (s _ _) ∙ b.on }

module _ {n e count : ℕ} {h h₀ : List ℕ → Plan → Plan} {a : Area} {w : List ℕ} {f : List Float} (m : count ≤ n) (rows : Below n (take count (plan_view n e a).list))
    (t : Along n e h h₀ a (area w f)) (at : ℕ) (ea : at ≡ list_at n e) (i : ℕ) where
  list-long : length (plan_view n e (area w f)).list ≡ n
  unfolding plan_view
  list-long = cut-length (plan_words n e) w 6 (omega arith) (omega (arith, t.fit.words))

  long : length (take count (plan_view n e a).list) ≡ count
  long = length-take-le count (plan_view n e a).list (omega (arith, list-long, ap length t.list))

  pub list-row : i < count → get_or w (at + i) 0 ≡ get_or (take count (plan_view n e a).list) i 0
  list-row l =
      ap (λ (j : ℕ). get_or w (j + i) 0) ea ∙ list-at n e i w f (omega (arith, l, m)) ∙ ap (λ (ys : List ℕ). get_or ys i 0) t.list ∙ sym (get_or-take count (plan_view n e a).list i 0 l)

  pub list-below : i < count → get_or w (at + i) 0 < n
  list-below l = rw (list-row l) (Below-at n (take count (plan_view n e a).list) i rows (rw long l))

  pub list-next : i < count → {S : Type 0} (g : ℕ → S → S) (s : S)
      → run g (drop i (take count (plan_view n e a).list)) s ≡ run g (drop (i + 1) (take count (plan_view n e a).list)) (g (get_or w (at + i) 0) s)
  list-next l g s = rw (list-row l) (run_at g (take count (plan_view n e a).list) i (rw long l) s)

  pub list-end : count ≤ i → {S : Type 0} (g : ℕ → S → S) (s : S) → run g (drop i (take count (plan_view n e a).list)) s ≡ s
  list-end l g s = run-stop g (take count (plan_view n e a).list) i (rw long l) s

-- ---- which side

keep-below : (n : ℕ) (p : ℕ → Bool) (xs : List ℕ) → Below n xs → Below n (keep p xs)
unfolding keep Below
keep-below n p [] b = tt
keep-below n p (x ∷ xs) b = go (p x) (keep p xs) b.0 (keep-below n p xs b.1)
  where
    go : (t : Bool) (ys : List ℕ) → x < n → Below n ys → Below n (cons_if t x ys)
    go true ys h c = (h, c)
    go false ys h c = c

pub chosen-below : {n e first count k : ℕ} (side : Side) (s : Plan) {a a' : Area} → Nodes n e first count a → Picked n e (chosen side (nodes_of n e (plan_view n e a) first count) s) k a a'
    → Below n (take k (plan_view n e a').list)
unfolding chosen
chosen-below {n} {e} {first} {count} side s {a} h q = rw q.list (keep-below n (λ r. picks side (get_or s.delta r nan)) (nodes_of n e (plan_view n e a) first count) h.rows)

pub shared-out : (b : Board) {n e first count : ℕ} (z g k : ℕ) (side : Side) {a a' a'' : Area} → Nodes n e first count a
    → g ≡ length (chosen Giving (nodes_of n e (plan_view n e a) first count) (plan_view n e a).plan) → side ≡ side_of g (count - g)
    → Picked n e (chosen side (nodes_of n e (plan_view n e a) first count) (plan_view n e a).plan) k a a'
    → Serves n e (λ o p. run (serve b o z side) (take k (plan_view n e a').list) p) a' a''
    → Plans n e (λ o p. share_out b o z (nodes_of n e (plan_view n e a) first count) p) a a''
unfolding share_out
shared-out b {n} {e} {first} {count} z g k side {a} {a'} {a''} h eg es q d =
    let xs : List ℕ = nodes_of n e (plan_view n e a) first count in
    let s : Plan = (plan_view n e a).plan in
    let o : List ℕ = (plan_view n e a).owner in
    let et : count - g ≡ length (chosen Taking xs s) = omega (arith, eg, chosen-all xs s, nodes-length h) in
    let side₁ : side ≡ side_of (length (chosen Giving xs s)) (length (chosen Taking xs s)) = es ∙ ap₂ side_of eg et in
    record {
      fit = d.fit;
      frame = frame_then q.frame d.frame;
      plan = d.plan
          ∙ ap₂ (λ (x : List ℕ) (p : Plan). run (serve b x z side) (take k (plan_view n e a').list) p) q.frame.owner q.plan
          ∙ ap (λ (ys : List ℕ). run (serve b o z side) ys s) q.list
          ∙ ap (λ (t : Side). run (serve b o z t) (chosen t xs s) s) side₁;
    }

-- ---- whether the fast pass runs

module _ (b : Board) {n e first count : ℕ} (z g most : ℕ) {a : Area} (h : Nodes n e first count a) (eg : g ≡ length (chosen Giving (nodes_of n e (plan_view n e a) first count) (plan_view n e a).plan)) (em : most ≡ log2 count) where
  takers : count - g ≡ length (chosen Taking (nodes_of n e (plan_view n e a) first count) (plan_view n e a).plan)
  takers = omega (arith, eg, chosen-all (nodes_of n e (plan_view n e a) first count) (plan_view n e a).plan, nodes-length h)

  most-is : most ≡ log2 (length (nodes_of n e (plan_view n e a) first count))
  most-is = em ∙ ap log2 (sym (nodes-length h))

  pub pass-few : PlanFits n e a → g ≤ most → PlanDoes n e (λ o p. fast_pass b o z (nodes_of n e (plan_view n e a) first count) p) a a
  unfolding fast_pass
  pass-few f l =
      does-none (λ o p. fast_pass b o z (nodes_of n e (plan_view n e a) first count) p) f
      (simp (le-ltb (log2 (length (nodes_of n e (plan_view n e a) first count))) (length (chosen Giving (nodes_of n e (plan_view n e a) first count) (plan_view n e a).plan)) (omega (arith, l, eg, most-is))))

  pub pass-takers : PlanFits n e a → most < g → count - g ≤ most → PlanDoes n e (λ o p. fast_pass b o z (nodes_of n e (plan_view n e a) first count) p) a a
  unfolding fast_pass
  pass-takers f l k =
      does-none (λ o p. fast_pass b o z (nodes_of n e (plan_view n e a) first count) p) f
      (simp (
        lt-ltb (log2 (length (nodes_of n e (plan_view n e a) first count))) (length (chosen Giving (nodes_of n e (plan_view n e a) first count) (plan_view n e a).plan)) (omega (arith, l, eg, most-is)),
        le-ltb (log2 (length (nodes_of n e (plan_view n e a) first count))) (length (chosen Taking (nodes_of n e (plan_view n e a) first count) (plan_view n e a).plan)) (omega (arith, k, takers, most-is)),
      ))

  pub pass_on : {a' : Area} → most < g → most < count - g → PlanDoes n e (λ o p. run (fast_turf b o z) (nodes_of n e (plan_view n e a) first count) p) a a'
      → PlanDoes n e (λ o p. fast_pass b o z (nodes_of n e (plan_view n e a) first count) p) a a'
  unfolding fast_pass
  pass_on l k d =
      does-as d
      (simp (
        lt-ltb (log2 (length (nodes_of n e (plan_view n e a) first count))) (length (chosen Giving (nodes_of n e (plan_view n e a) first count) (plan_view n e a).plan)) (omega (arith, l, eg, most-is)),
        lt-ltb (log2 (length (nodes_of n e (plan_view n e a) first count))) (length (chosen Taking (nodes_of n e (plan_view n e a) first count) (plan_view n e a).plan)) (omega (arith, k, takers, most-is)),
      ))

-- The fast pass of one turf: the links that are eligible are those that the loop counts, and their reverses are the definition's edges. Assumes nothing.
use Prim.Native.Nat.{ℕ, ◌+◌, ◌-◌, ◌≤◌, ◌<◌}
use native.Mathlib.Omega.{arith}
use mathlib.Core.Path.{◌≡◌, refl, ap, ap₂, ◌∙◌, sym, subst}
use mathlib.Core.List.{List, [], ◌∷◌}
use mathlib.Core.Bool.{Bool, true, false, cond}
use lib.Dec.{eqb}
use lib.IntN.{pos}
use lib.ListN.{length, get_or, set}
use lib.Seq.{set-get_or}
use lib.Ieee.{Float, lt, of_int, binary32}
use Rattle.basics.specs.Floats.{0f, ◌+f◌, ◌-f◌, ◌/f◌}
use Rattle.basics.specs.Loops.{run, keep, up_from}
use Rattle.std.specs.Prelude.{Option, Some}
use Rattle.basics.specs.Lists.{All}
use Rattle.basics.proofs.Loops.{run-both, run-keep}
use Rattle.scratch.specs.View.{owner_in, fast_in}
use Rattle.rules_board.specs.Board.{Board, end, links_of}
use Rattle.rules_plan.specs.Edges.{edges_of, edge, adjust}
use Rattle.rules_plan.specs.Plan.{Plan, load, store, reweigh, with_delta, count_of, eligible, fast_move, fast_turf}
use Rattle.rules_plan.specs.declared.MonstermosInfo.{MonstermosInfo}
use Rattle.reverse_links.specs.Reverse.{InRow, Linked, Reverses}
use Rattle.plan_state.specs.Held.{Area, area, PlanView, plan_view, PlanDoes}
use Rattle.plan_edges.specs.Steps.{back_link, adjust_at}
use Rattle.plan_state.proofs.Stores.{set_delta, does-as, does-then, does-frame, store-delta}
use Rattle.plan_state.proofs.Links.{edge-there, edge-back, reverse-within}
use Rattle.plan_tests.specs.Sides.{marked}
use Rattle.plan_fast.specs.Steps.{tally_step, move_at, fast_via}

-- ---- one move

-- with the definition's edges, only the deltas and the weights change
move_is : (b : Board) (o : List ℕ) (z r : ℕ) (x : Float) (a : ℕ) (s : Plan) → move_at (edge b o z r a) (edge b o z a r) r x a s ≡ fast_move b o z r x a s
unfolding move_at fast_move adjust adjust_at
move_is b o z r x a s =
    let p : Plan = reweigh (adjust_at (edge b o z r a) (edge b o z a r) x) s in
    let q : Plan = set_delta r ((load p r).delta -f x) p in
    sym (ap (λ (u : Plan). store u a (with_delta ((load u a).delta +f x) (load u a))) (store-delta p r ((load p r).delta -f x)) ∙ store-delta q a ((load q a).delta +f x))

run-count : {A : Type 0} (xs : List A) (c : ℕ) → run (λ x d. d + 1) xs c ≡ c + length xs
unfolding run
run-count [] c = omega arith
run-count (x ∷ xs) c = run-count xs (c + 1) ∙ omega arith

links-all : (b : Board) (n r : ℕ) → Linked n b.starts b.neighbours → r < n → All (InRow b.starts r) (links_of b r)
unfolding links_of
links-all b n r t h = up-all (get_or b.starts r 0) (get_or b.starts (r + 1) 0 - get_or b.starts r 0) (λ k l m. record { from = l; to = omega (arith, t.rise r h) })
  where
    up-all : (a m : ℕ) → ((k : ℕ) → a ≤ k → k < a + m → InRow b.starts r k) → All (InRow b.starts r) (up_from a m)
    up-all a m g = Rattle.reverse_links.proofs.Firsts.up-all (InRow b.starts r) a m g

module _ (b : Board) (o : List ℕ) (z r : ℕ) where
  -- the count is the number of eligible links
  counted : (p : Plan) → run (λ k c. tally_step o p.fast z k (end b k) c) (links_of b r) 0 ≡ length (eligible b o z p r)
  unfolding tally_step eligible edges_of
  counted p =
      sym (run-keep (λ k. eqb (get_or o k 0) (z + 1)) (λ k c. cond (eqb (get_or p.fast (end b k) 0) 0) (c + 1) c) (links_of b r) 0)
      ∙ sym (run-keep (λ k. eqb (get_or p.fast (end b k) 0) 0) (λ k c. c + 1) (keep (λ k. eqb (get_or o k 0) (z + 1)) (links_of b r)) 0)
      ∙ run-count (keep (λ k. eqb (get_or p.fast (end b k) 0) 0) (keep (λ k. eqb (get_or o k 0) (z + 1)) (links_of b r))) 0
      ∙ omega arith

  -- a move leaves the fast marks as they are
  move_fast : (x : Float) (a : ℕ) (t : Plan) → (fast_move b o z r x a t).fast ≡ t.fast
  unfolding fast_move
  move_fast x a t = set-get_or (set t.fast r (get_or t.fast r 0)) a 0 ∙ set-get_or t.fast r 0

  module _ (n : ℕ) (t : Linked n b.starts b.neighbours) (rev : List ℕ) (v : Reverses b n rev) (h : r < n) where
    -- a step by the link is a step by the edges
    step : (x : Float) (k : ℕ) (s : Plan) → InRow b.starts r k
        → fast_via rev z r x o k (end b k) s ≡ cond (eqb (get_or o k 0) (z + 1)) (cond (eqb (get_or s.fast (end b k) 0) 0) (fast_move b o z r x (end b k) s) s) s
    unfolding fast_via
    step x k s i = go (eqb (get_or o k 0) (z + 1)) refl
      where
        go : (c : Bool) → eqb (get_or o k 0) (z + 1) ≡ c
            → cond c (cond (eqb (get_or s.fast (end b k) 0) 0) (move_at (Some k) (back_link rev o z k) r x (end b k) s) s) s
            ≡ cond c (cond (eqb (get_or s.fast (end b k) 0) 0) (fast_move b o z r x (end b k) s) s) s
        go false c = refl
        go true c =
            let own : get_or o k 0 ≡ z + 1 = lib.Dec.eqb→eq _ _ (subst lib.Dec.T (sym c) tt) in
            ap (λ (p : Plan). cond (eqb (get_or s.fast (end b k) 0) 0) p s)
            (sym (ap₂ (λ (p q : Option ℕ). move_at p q r x (end b k) s) (edge-there b n t o z r k h i own) (edge-back b n t o z rev v r k h i)) ∙ move_is b o z r x (end b k) s)

    -- so that a mark may be looked at when its link's turn comes
    moves : (x : Float) (p : Plan) → run (λ k s. fast_via rev z r x o k (end b k) s) (links_of b r) p
        ≡ run (λ k s. fast_move b o z r x (end b k) s) (eligible b o z p r) p
    unfolding eligible edges_of
    moves x p =
        (run-both (InRow b.starts r) (λ u v. (u ≡ v) × (v.fast ≡ p.fast))
        (λ k s. fast_via rev z r x o k (end b k) s)
        (λ k s. cond (eqb (get_or o k 0) (z + 1)) (cond (eqb (get_or p.fast (end b k) 0) 0) (fast_move b o z r x (end b k) s) s) s)
        (λ k u v m q. (
          ap (fast_via rev z r x o k (end b k)) q.0 ∙ step x k v m
              ∙ ap (λ (l : List ℕ). cond (eqb (get_or o k 0) (z + 1)) (cond (eqb (get_or l (end b k) 0) 0) (fast_move b o z r x (end b k) v) v) v) q.1,
          still (eqb (get_or o k 0) (z + 1)) (eqb (get_or p.fast (end b k) 0) 0) (end b k) v q.1,
        ))
        (links_of b r) p p (links-all b n r t h) (refl, refl)).0
        ∙ sym (run-keep (λ k. eqb (get_or p.fast (end b k) 0) 0) (λ k s. fast_move b o z r x (end b k) s) (keep (λ k. eqb (get_or o k 0) (z + 1)) (links_of b r)) p
        ∙ run-keep (λ k. eqb (get_or o k 0) (z + 1)) (λ k s. cond (eqb (get_or p.fast (end b k) 0) 0) (fast_move b o z r x (end b k) s) s) (links_of b r) p)
      where
        still : (s u : Bool) (a : ℕ) (v : Plan) → v.fast ≡ p.fast → (cond s (cond u (fast_move b o z r x a v) v) v).fast ≡ p.fast
        still true true a v q = move_fast x a v ∙ q
        still true false a v q = q
        still false u a v q = q

-- ---- one turf

-- what the turf comes to, from its state i
abbrev shared : Board → List ℕ → ℕ → ℕ → Plan → MonstermosInfo → List ℕ → Plan
shared b o z r s i ks =
    run (λ k t. fast_move b o z r (i.delta /f count_of ks) (end b k) t) ks (store s r (marked i))

fast-is : (n e : ℕ) (w : List ℕ) (f : List Float) → fast_in n e w ≡ (plan_view n e (area w f)).plan.fast
unfolding plan_view
fast-is n e w f = refl

owner-is : (n e : ℕ) (w : List ℕ) (f : List Float) → owner_in e w ≡ (plan_view n e (area w f)).owner
unfolding plan_view
owner-is n e w f = refl

module _ (b : Board) (n e z r : ℕ) (i : MonstermosInfo) (A : Area) (ei : i ≡ load (plan_view n e A).plan r) where
  whole : (s : Plan) (o : List ℕ) → i ≡ load s r → shared b o z r s i (cond (lt 0f i.delta) (eligible b o z (store s r (marked i)) r) []) ≡ fast_turf b o z r s
  unfolding fast_turf
  whole s o q = ap (λ (j : MonstermosInfo). shared b o z r s j (cond (lt 0f j.delta) (eligible b o z (store s r (marked j)) r) [])) q

  pub fast-none : {B : Area} → lt 0f i.delta ≡ false → PlanDoes n e (λ o p. store p r (marked i)) A B → PlanDoes n e (λ o p. fast_turf b o z r p) A B
  unfolding run
  fast-none t d =
      does-as d
      (sym (ap (λ (c : Bool). shared b (plan_view n e A).owner z r (plan_view n e A).plan i (cond c (eligible b (plan_view n e A).owner z (store (plan_view n e A).plan r (marked i)) r) [])) t)
      ∙ whole (plan_view n e A).plan (plan_view n e A).owner ei)

  module _ (t : Linked n b.starts b.neighbours) (h : r < n) (v : Reverses b n (plan_view n e A).reverse) (w : List ℕ) (f : List Float)
      (d : PlanDoes n e (λ o p. store p r (marked i)) A (area w f)) where
    rev_is : (plan_view n e (area w f)).reverse ≡ (plan_view n e A).reverse
    rev_is = (does-frame d).reverse

    -- the reverses of its links are among the links
    pub fast-within : length b.neighbours ≡ e → (k : ℕ) → get_or b.starts r 0 ≤ k → k < get_or b.starts (r + 1) 0 → get_or (plan_view n e (area w f)).reverse k 0 ≤ e
    fast-within len k l m = rw rev_is (omega (arith, len, reverse-within b n t (plan_view n e A).owner z (plan_view n e A).reverse v r k h (record { from = l; to = m })))

    pub fast-some : (count : ℕ) {C : Area} → lt 0f i.delta ≡ true
        → count ≡ run (λ k c. tally_step (owner_in e w) (fast_in n e w) z k (end b k) c) (up_from (get_or b.starts r 0) (get_or b.starts (r + 1) 0 - get_or b.starts r 0)) 0
        → PlanDoes n e (λ o p. run (λ k s. fast_via (plan_view n e (area w f)).reverse z r (i.delta /f of_int binary32 (pos count)) o k (end b k) s)
        (up_from (get_or b.starts r 0) (get_or b.starts (r + 1) 0 - get_or b.starts r 0)) p) (area w f) C
        → PlanDoes n e (λ o p. fast_turf b o z r p) A C
    unfolding links_of
    fast-some count c ec d' =
        let o : List ℕ = (plan_view n e A).owner in
        let s : Plan = (plan_view n e A).plan in
        let p : Plan = store s r (marked i) in
        let ks : List ℕ = eligible b o z p r in
        let rev : List ℕ = (plan_view n e A).reverse in
        let eo : owner_in e w ≡ o = owner-is n e w f ∙ ap (λ (u : PlanView). u.owner) d.same in
        let ef : fast_in n e w ≡ p.fast = fast-is n e w f ∙ ap (λ (u : PlanView). u.plan.fast) d.same in
        let c₁ : count ≡ length ks =
        ec ∙ ap₂ (λ (x y : List ℕ). run (λ k c. tally_step x y z k (end b k) c) (links_of b r) 0) eo ef
        ∙ counted b o z r p in
        does-as (does-then _ d d')
        (ap (λ (l : List ℕ). run (λ k u. fast_via l z r (i.delta /f of_int binary32 (pos count)) o k (end b k) u) (links_of b r) p) rev_is
        ∙ moves b o z r n t rev v h (i.delta /f of_int binary32 (pos count)) p
        ∙ ap (λ (m : ℕ). run (λ k u. fast_move b o z r (i.delta /f of_int binary32 (pos m)) (end b k) u) ks p) c₁
        ∙ sym (ap (λ (x : Bool). shared b o z r s i (cond x ks [])) c)
        ∙ whole s o ei)

-- a marked state that was stored
pub stored : {n e r : ℕ} {m : MonstermosInfo} {A B : Area} (i : MonstermosInfo) → m ≡ marked i → PlanDoes n e (λ o p. store p r m) A B → PlanDoes n e (λ o p. store p r (marked i)) A B
stored {n} {e} {r} {A = A} {B = B} i q d = subst (λ (j : MonstermosInfo). PlanDoes n e (λ o p. store p r j) A B) q d

-- One giver or taker: the search from it, and the way back over the links by which turfs were met, which are the definition's edges. Assumes nothing.
use Prim.Native.Nat.{ℕ, zero, suc, ◌+◌, ◌-◌, ◌<◌}
use native.Mathlib.Omega.{arith}
use native.Mathlib.Nat.{not-suc-le-zero}
use mathlib.Core.Path.{◌≡◌, refl, ap, ap₂, ◌∙◌, sym, subst}
use mathlib.Core.List.{List, [], ◌∷◌, reverse}
use mathlib.Core.Bool.{Bool, true, false, not, ◌&&◌, cond}
use lib.Dec.{eqb}
use lib.ListN.{length, get_or, set, take}
use lib.Seq.{get_or-take, length-take-le, set-get_or, get_or-set_same}
use lib.Ieee.{Float, nan, ne}
use Rattle.basics.specs.Floats.{0f, ◌+f◌}
use Rattle.basics.specs.Loops.{run, times, member}
use Rattle.basics.specs.Regions.{cut}
use Rattle.std.specs.Prelude.{Option, Some}
use Rattle.basics.specs.Lists.{All}
use Rattle.basics.proofs.Loops.{run-both}
use Rattle.basics.proofs.Lists.{All-back, All-each}
use Rattle.basics.proofs.Regions.{cut-set, cut-length}
use Rattle.scratch.specs.Layout.{plan_words, plan_floats, queue_at, places_at}
use Rattle.rules_board.specs.Board.{Board, turf_count}
use Rattle.rules_plan.specs.Edges.{edge, adjust}
use Rattle.rules_plan.specs.Plan.{Plan, Seek, load, store, reweigh, with_amount, drain_to, drain, serve, seek_next}
use Rattle.rules_plan.specs.declared.MonstermosInfo.{MonstermosInfo}
use Rattle.rules_plan.specs.declared.Side.{Side}
use Rattle.index_set.specs.Line.{Below, Apart, Line}
use Rattle.index_set.proofs.Queue.{take_more, line-more}
use Rattle.reverse_links.specs.Reverse.{Linked, Reverses}
use Rattle.plan_state.specs.Held.{Area, area, PlanView, plan_view_in, plan_view, PlanFits, PlanDoes, Serves}
use Rattle.plan_edges.specs.Steps.{back_link, adjust_at}
use Rattle.plan_state.proofs.Stores.{does-frame, store-amount, set_amount, direction-length, amount-length}
use Rattle.plan_state.proofs.Links.{link-below, edge-there, edge-back, reverse-within}
use Rattle.plan_trade.specs.Search.{Seeking, seek_of, Leaves, Searched, LeadsOver, MetOver, AllMet, Idle, Within}
use Rattle.plan_trade.specs.Steps.{hand_on, drain_via}
use Rattle.plan_trade.proofs.Seeks.{none_left}
use Rattle.plan_search.proofs.Rows.{leaves-then}
use Rattle.plan_search.proofs.Search.{queue-below}
use Rattle.plan_trade.proofs.Nears.{Near, near_times}

-- ---- the way back by the links is the way back by the edges

-- with the definition's edges, only the amounts and the weights change
hand-is : (b : Board) (o : List ℕ) (z r d : ℕ) (s : Plan) → hand_on (edge b o z r d) (edge b o z d r) r d s ≡ drain_to b o z r d s
unfolding hand_on drain_to adjust adjust_at
hand-is b o z r d s =
    let x : Float = (load s r).amount in
    let p : Plan = reweigh (adjust_at (edge b o z r d) (edge b o z d r) x) s in
    let q : Plan = set_amount d ((load p d).amount +f x) p in
    sym (ap (λ (u : Plan). store u r (with_amount 0f (load s r))) (store-amount p d ((load p d).amount +f x)) ∙ store-amount q r 0f)

module _ (b : Board) (n : ℕ) (t : Linked n b.starts b.neighbours) (rev via o dirs : List ℕ) (v : Reverses b n rev) (z : ℕ) where
  -- a turf that points at d was met over a link of the zone from there
  abbrev Way : ℕ → Type 0
  Way r = (d : ℕ) → get_or dirs r 0 ≡ d + 1 → LeadsOver n b.starts b.neighbours d (get_or via r 0) r × (get_or o (get_or via r 0) 0 ≡ z + 1)

  via-edges : (r d : ℕ) (s : Plan) → LeadsOver n b.starts b.neighbours d (get_or via r 0) r → get_or o (get_or via r 0) 0 ≡ z + 1
      → hand_on (back_link rev o z (get_or via r 0)) (Some (get_or via r 0)) r d s ≡ drain_to b o z r d s
  via-edges r d s l w =
      let k : ℕ = get_or via r 0 in
      let there : edge b o z d r ≡ Some k = ap (edge b o z d) (sym l.ends) ∙ edge-there b n t o z d k l.row l.link w in
      let back : edge b o z r d ≡ back_link rev o z k = ap (λ (x : ℕ). edge b o z x d) (sym l.ends) ∙ edge-back b n t o z rev v d k l.row l.link in
      sym (ap₂ (λ (x y : Option ℕ). hand_on x y r d s) back there) ∙ hand-is b o z r d s

  step : (r : ℕ) (s : Plan) → s.direction ≡ dirs → Way r → drain_via rev via z o r s ≡ drain b o z r s
  unfolding drain_via drain
  step r s q w = go (ne (load s r).amount 0f) (get_or s.direction r 0) refl
    where
      go : (m : Bool) (x : ℕ) → get_or s.direction r 0 ≡ x
          → cond (m && not (eqb (get_or s.direction r 0) 0)) (hand_on (back_link rev o z (get_or via r 0)) (Some (get_or via r 0)) r (get_or s.direction r 0 - 1) s) s
          ≡ cond (m && not (eqb (get_or s.direction r 0) 0)) (drain_to b o z r (get_or s.direction r 0 - 1) s) s
      go false x e = refl
      go true zero e = rw e
      go true (suc d) e =
          let e₁ : get_or dirs r 0 ≡ (get_or s.direction r 0 - 1) + 1 = ap (λ (l : List ℕ). get_or l r 0) (sym q) ∙ omega (arith, e) in
          let u = w (get_or s.direction r 0 - 1) e₁ in
          ap (λ (p : Plan). cond (true && not (eqb (get_or s.direction r 0) 0)) p s) (via-edges r (get_or s.direction r 0 - 1) s u.0 u.1)

  drain-direction : (r : ℕ) (s : Plan) → (drain b o z r s).direction ≡ s.direction
  unfolding drain drain_to
  drain-direction r s = go (ne (load s r).amount 0f && not (eqb (get_or s.direction r 0) 0)) (get_or s.direction r 0 - 1)
    where
      go : (c : Bool) (d : ℕ) → (cond c (drain_to b o z r d s) s).direction ≡ s.direction
      go true d = ap (λ (l : List ℕ). set l r (get_or s.direction r 0)) (set-get_or s.direction d 0) ∙ set-get_or s.direction r 0
      go false d = refl

  pub drain-by_via : (xs : List ℕ) (s : Plan) → s.direction ≡ dirs → All Way xs → run (drain_via rev via z o) xs s ≡ run (drain b o z) xs s
  drain-by_via xs s q w =
      (run-both Way (λ x y. (x ≡ y) × (y.direction ≡ dirs)) (drain_via rev via z o) (drain b o z)
      (λ r x y h e. (ap (drain_via rev via z o r) e.0 ∙ step r y e.1 h, drain-direction r y ∙ e.1)) xs s s w (refl, q)).0

-- ---- the turf in hand stands at the queue's start

pub points_nowhere : (n e g : ℕ) (x y : Float) (m : ℕ) {A B : Area} → PlanFits n e A → g < n → PlanDoes n e (λ o p. store p g (record { delta = x; amount = y; direction = 0; fast = m })) A B
    → get_or (plan_view n e B).plan.direction g 0 ≡ 0
points_nowhere n e g x y m {A} h l d =
    ap (λ (v : PlanView). get_or v.plan.direction g 0) d.same ∙ get_or-set_same (plan_view n e A).plan.direction g 0 0 (omega (arith, direction-length n e A h))

pub moves-nothing : (n e g : ℕ) (x : Float) (m : ℕ) {A B : Area} → PlanFits n e A → g < n → PlanDoes n e (λ o p. store p g (record { delta = x; amount = 0f; direction = 0; fast = m })) A B
    → ne (get_or (plan_view n e B).plan.amount g nan) 0f ≡ false
moves-nothing n e g x m {A} h l d =
    ap (λ (v : PlanView). ne (get_or v.plan.amount g nan) 0f) d.same
    ∙ ap (λ (y : Float). ne y 0f) (get_or-set_same (plan_view n e A).plan.amount g 0f nan (omega (arith, l, amount-length n e A h)))
    ∙ none_left

-- a queue with no rows, whatever the words hold
seeking-none : (n e : ℕ) (a : Area) → PlanFits n e a → Seeking n e 0 a
unfolding plan_view Below Apart
seeking-none n e a h = record {
  fit = h;
  line = record {
    queue_n = cut-length (plan_words n e) a.words 4 (omega arith) (omega (arith, h.words));
    places_n = cut-length (plan_words n e) a.words 5 (omega arith) (omega (arith, h.words));
    few = omega arith;
    rows = tt;
    apart = tt;
    placed = λ i l. absurd (not-suc-le-zero l);
  };
}

module _ (n e g : ℕ) (w w' : List ℕ) (f : List Float) (h : PlanFits n e (area w f)) (hg : g < n) (queue places : ℕ) (eq : queue ≡ queue_at n e) (ep : places ≡ places_at n e)
    (s : w' ≡ set (set w (queue + 0) g) (places + g) 0) where
  empty : member g (take 0 (plan_view n e (area w f)).queue) ≡ false
  unfolding member
  empty = refl

  begun-view : plan_view n e (area w' f) ≡ record {
    owner = (plan_view n e (area w f)).owner;
    reverse = (plan_view n e (area w f)).reverse;
    plan = (plan_view n e (area w f)).plan;
    via = (plan_view n e (area w f)).via;
    queue = set (plan_view n e (area w f)).queue 0 g;
    places = set (plan_view n e (area w f)).places g 0;
    list = (plan_view n e (area w f)).list;
    rest_w = (plan_view n e (area w f)).rest_w;
    rest_f = (plan_view n e (area w f)).rest_f;
  }
  unfolding plan_view
  begun-view =
      rw s (ap (λ rs. plan_view_in rs (cut (plan_floats n e) f))
      (cut-set (plan_words n e) (set w (queue + 0) g) 5 g 0 (places + g) (omega arith) hg (omega arith)
      ∙ ap (λ rs. set rs 5 (set (get_or rs 5 []) g 0)) (cut-set (plan_words n e) w 4 0 g (queue + 0) (omega arith) (omega arith) (omega arith))))

  pub begun : Seeking n e 1 (area w' f)
  begun = record {
    fit = record { words = rw s (simp lib.ListN.length-set h.words); floats = h.floats; turfs = h.turfs; links = h.links };
    line = subst (λ (v : PlanView). Line n 1 v.queue v.places) (sym begun-view) (line-more (seeking-none n e (area w f) h).line g hg empty);
  }

  -- it points nowhere
  pub begun-met : (z : ℕ) (starts neighbours : List ℕ) → get_or (plan_view n e (area w f)).plan.direction g 0 ≡ 0 → AllMet n z starts neighbours (plan_view n e (area w' f)) 1
  begun-met z starts neighbours q i l =
      let e₀ : i ≡ 0 = omega arith in
      let row : get_or (plan_view n e (area w' f)).queue i 0 ≡ g =
      ap₂ (λ (x : PlanView) (j : ℕ). get_or x.queue j 0) begun-view e₀ ∙ get_or-set_same (plan_view n e (area w f)).queue 0 g 0 (omega (arith, (seeking-none n e (area w f) h).line.queue_n)) in
      let dir : get_or (plan_view n e (area w' f)).plan.direction g 0 ≡ 0 = ap (λ (x : PlanView). get_or x.plan.direction g 0) begun-view ∙ q in
      subst (MetOver n z starts neighbours (plan_view n e (area w' f))) (sym row) (record { over = λ d x. absurd (omega (arith, dir, x)) })

  begun-seek : seek_of (plan_view n e (area w' f)) 1 0 ≡ record { queue = g ∷ []; looked = 0; plan = (plan_view n e (area w f)).plan }
  begun-seek =
      ap (λ (v : PlanView). seek_of v 1 0) begun-view
      ∙ ap (λ (q : List ℕ). record { queue = q; looked = 0; plan = (plan_view n e (area w f)).plan })
      (take_more (seeking-none n e (area w f) h).line g hg empty)

  -- it has nothing to hand on
  pub begun-idle : (first : ℕ) → ne (get_or (plan_view n e (area w f)).plan.amount g nan) 0f ≡ false → Idle (plan_view n e (area w' f)) 1 first
  begun-idle first q i l k =
      let e₀ : i ≡ 0 = omega arith in
      let row : get_or (plan_view n e (area w' f)).queue i 0 ≡ g =
      ap₂ (λ (x : PlanView) (j : ℕ). get_or x.queue j 0) begun-view e₀ ∙ get_or-set_same (plan_view n e (area w f)).queue 0 g 0 (omega (arith, (seeking-none n e (area w f) h).line.queue_n)) in
      rw row (ap (λ (x : PlanView). ne (get_or x.plan.amount g nan) 0f) begun-view ∙ q)

  -- the search leaves rows that point at rows it looked at
  pub searched_near : (b : Board) (z count seen : ℕ) (side : Side) {C : Area} → get_or (plan_view n e (area w f)).plan.direction g 0 ≡ 0
      → Searched n e (λ o t. times (seek_next b o z side g) n t) 1 count seen (area w' f) C → Near seen (seek_of (plan_view n e C) count seen)
  searched_near b z count seen side {C} still q =
      let o : List ℕ = (plan_view n e (area w' f)).owner in
      let s₀ : Seek = seek_of (plan_view n e (area w' f)) 1 0 in
      let start : Near 0 s₀ = subst (Near 0) (sym begun-seek) (record { within = omega arith; at = λ i l d x. absurd (points i l d x) }) in
      let t : Seek = times (seek_next b o z side g) n s₀ in
      let same : seek_of (plan_view n e C) count seen ≡ t = λ i. record { queue = q.queue i; looked = q.looked i; plan = q.plan i } in
      subst (λ (u : Seek). Near u.looked u) (sym same) (near_times b o z side g n s₀ start)
    where
      points : (i : ℕ) → i < 1 → (d : ℕ) → get_or (plan_view n e (area w f)).plan.direction (get_or (g ∷ []) i 0) 0 ≡ d + 1 → ⊥
      points i l d x =
          let e₀ : i ≡ 0 = omega arith in
          absurd (omega (arith, still, ap (λ (j : ℕ). get_or (plan_view n e (area w f)).plan.direction (get_or (g ∷ []) j 0) 0) (sym e₀) ∙ x))

  begun-leaves : Leaves n e (area w f) (area w' f)
  begun-leaves = record {
    frame = record {
      owner = ap (λ (v : PlanView). v.owner) begun-view;
      reverse = ap (λ (v : PlanView). v.reverse) begun-view;
      rest_w = ap (λ (v : PlanView). v.rest_w) begun-view;
      rest_f = ap (λ (v : PlanView). v.rest_f) begun-view;
    };
    list = ap (λ (v : PlanView). v.list) begun-view;
  }

  -- the reverses stand as they stood
  pub reverses-after : {b : Board} {st : List ℕ → Plan → Plan} {F : List ℕ → Seek → Seek} {count seen : ℕ} {A C : Area} → Reverses b n (plan_view n e A).reverse → PlanDoes n e st A (area w f)
      → Searched n e F 1 count seen (area w' f) C → Reverses b n (plan_view n e C).reverse
  reverses-after {b} v d q = subst (Reverses b n) (sym (q.rest.frame.reverse ∙ begun-leaves.frame.reverse ∙ (does-frame d).reverse)) v

  pub served : (b : Board) → turf_count b ≡ n → (z count seen : ℕ) (side : Side) (i : MonstermosInfo) {A C D : Area} → i ≡ load (plan_view n e A).plan g
      → PlanDoes n e (λ o p. store p g (record { delta = i.delta; amount = 0f; direction = 0; fast = i.fast })) A (area w f)
      → Searched n e (λ o t. times (seek_next b o z side g) n t) 1 count seen (area w' f) C
      → PlanDoes n e (λ o p. run (drain b o z) (reverse (take count (plan_view n e C).queue)) p) C D
      → Serves n e (λ o p. serve b o z side g p) A D
  unfolding serve
  served b many z count seen side i {A} {C} {D} ei d₁ q d₂ =
      let o : List ℕ = (plan_view n e A).owner in
      let fr : Leaves n e A (area w' f) = leaves-then (record { frame = does-frame d₁; list = ap (λ (v : PlanView). v.list) d₁.same }) begun-leaves in
      let o₁ : (plan_view n e (area w' f)).owner ≡ o = fr.frame.owner in
      let o₂ : (plan_view n e C).owner ≡ o = q.rest.frame.owner ∙ o₁ in
      let start : Plan = store (plan_view n e A).plan g (record { delta = get_or (plan_view n e A).plan.delta g nan; amount = 0f; direction = 0; fast = get_or (plan_view n e A).plan.fast g 0 }) in
      let p₁ : (plan_view n e (area w f)).plan ≡ start =
      ap (λ (v : PlanView). v.plan) d₁.same
      ∙ ap (λ (j : MonstermosInfo). store (plan_view n e A).plan g (record { delta = j.delta; amount = 0f; direction = 0; fast = j.fast })) ei in
      let t₁ : seek_of (plan_view n e (area w' f)) 1 0 ≡ record { queue = g ∷ []; looked = 0; plan = start } = begun-seek ∙ ap (λ (p : Plan). record { queue = g ∷ []; looked = 0; plan = p }) p₁ in
      let t₂ = ap₂ (λ (x : List ℕ) (u : Seek). times (seek_next b x z side g) n u) o₁ t₁ in
      let t₃ = t₂ ∙ ap (λ (m : ℕ). times (seek_next b o z side g) m (record { queue = g ∷ []; looked = 0; plan = start })) (sym many) in
      let all : Leaves n e A D = leaves-then (leaves-then fr q.rest) (record { frame = does-frame d₂; list = ap (λ (v : PlanView). v.list) d₂.same }) in
      record {
        fit = d₂.fit;
        frame = all.frame;
        list = all.list;
        plan = ap (λ (v : PlanView). v.plan) d₂.same
            ∙ ap (λ (x : List ℕ). run (drain b x z) (reverse (take count (plan_view n e C).queue)) (plan_view n e C).plan) o₂
            ∙ ap₂ (λ (y : List ℕ) (p : Plan). run (drain b o z) (reverse y) p) q.queue q.plan
            ∙ ap (λ (u : Seek). run (drain b o z) (reverse u.queue) u.plan) t₃;
      }

-- ---- the way back after the search

module _ (n e z count : ℕ) (b : Board) (t : Linked n b.starts b.neighbours) (len : length b.neighbours ≡ e) {C : Area} (h : Seeking n e count C) (m : AllMet n z b.starts b.neighbours (plan_view n e C) count)
    (v : Reverses b n (plan_view n e C).reverse) where
  -- what it reads is within the areas
  met-within : (i : ℕ) → i < count → Within n e (plan_view n e C) (get_or (plan_view n e C).queue i 0)
  met-within i l = record {
    at = λ d q.
        let u = ((m i l).over d q).0 in (
          u.row,
          (
            omega (arith, len, link-below b n t (plan_view n e C).owner z d _ u.row u.link),
            omega (arith, len, reverse-within b n t (plan_view n e C).owner z (plan_view n e C).reverse v d _ u.row u.link),
          ),
        );
  }

  pub rows-within : (i : ℕ) → i < count → (get_or (plan_view n e C).queue i 0 < n) × Within n e (plan_view n e C) (get_or (plan_view n e C).queue i 0)
  rows-within i l = (queue-below h i l, met-within i l)

  pub drained_by_edges : {D : Area} → PlanDoes n e (λ o p. run (drain_via (plan_view n e C).reverse (plan_view n e C).via z o) (reverse (take count (plan_view n e C).queue)) p) C D
      → PlanDoes n e (λ o p. run (drain b o z) (reverse (take count (plan_view n e C).queue)) p) C D
  drained_by_edges d =
      let long : length (take count (plan_view n e C).queue) ≡ count = length-take-le count (plan_view n e C).queue (omega (arith, h.line.few, h.line.queue_n)) in
      Rattle.plan_state.proofs.Stores.does-as d
      (drain-by_via b n t (plan_view n e C).reverse (plan_view n e C).via (plan_view n e C).owner (plan_view n e C).plan.direction v z
      (reverse (take count (plan_view n e C).queue)) (plan_view n e C).plan refl
      (All-back _ (take count (plan_view n e C).queue)
      (All-each _ (take count (plan_view n e C).queue) 0 (λ i l. let k : i < count = omega (arith, long, l) in rw (get_or-take count (plan_view n e C).queue i 0 k) (m i k).over))))

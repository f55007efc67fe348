-- One link of a search: a new row joins the queue with its place and its link, and is met. Assumes nothing.
use Prim.Native.Nat.{ℕ, ◌+◌, ◌≤◌, ◌<◌}
use native.Mathlib.Omega.{arith}
use native.Mathlib.Decide.{ℕ_discrete}
use mathlib.Core.Path.{◌≡◌, refl, ap, ◌∙◌, sym, subst}
use mathlib.Core.Logic.{◌≢◌}
use mathlib.Core.List.{List, []}
use mathlib.Core.Bool.{Bool, true, false, cond}
use lib.Dec.{eqb}
use lib.ListN.{length, get_or, set, take, drop, length-set}
use lib.Seq.{get_or-take, get_or-set_same, get_or-set_other, length-take-le}
use lib.Ieee.{Float, nan, ne, eq, of_bits, of_fields}
use borrow.Author.Tests.{eq-eqb, ne_eqb}
use Rattle.basics.specs.Floats.{0f}
use Rattle.basics.specs.Loops.{member, snoc}
use Rattle.basics.specs.Regions.{cut}
use Rattle.scratch.specs.Layout.{plan_words, plan_floats, via_at, queue_at, places_at, delta_at}
use Rattle.basics.proofs.Regions.{cut-set, region-part}
use Rattle.rules_plan.specs.Plan.{Plan, Seek, settled, wants, meet, seek_to}
use Rattle.rules_plan.specs.declared.Side.{Side}
use Rattle.index_set.specs.Line.{Line, array, HoldsSet}
use Rattle.index_set.proofs.Queue.{not_member, count-below, take_more, line-more}
use Rattle.plan_state.specs.Held.{Area, area, PlanView, plan_view_in, plan_view, PlanFits, on_plan, PlanDoes}
use Rattle.plan_state.proofs.Stores.{frame-none, owner_at, delta-at, direction-length, via-length, amount-length, paired, via-view}
use Rattle.plan_trade.specs.Search.{Seeking, seek_of, Leaves, Sought, LeadsOver, MetOver, AllMet, KeepsMet, Idle, KeepsIdle}
use Rattle.plan_trade.specs.Steps.{lesser, point}
use Rattle.plan_trade.proofs.Lessers.{lesser-left, lesser-right}
use Rattle.plan_trade.proofs.Trades.{meet-none, meet-direction, meet-others, meet-here}

pub leaves_none : {n e : ℕ} {a : Area} → Leaves n e a a
leaves_none = record { frame = frame-none; list = refl }

pub sought-none : {n e count : ℕ} (f : List ℕ → Seek → Seek) {a : Area} → Seeking n e count a
    → ((looked : ℕ) → seek_of (plan_view n e a) count looked ≡ f (plan_view n e a).owner (seek_of (plan_view n e a) count looked)) → Sought n e f count count a a
sought-none f h s = record { seeking = h; rest = leaves_none; same = s }

pub keeps-none : {n e z r from to : ℕ} {neighbours : List ℕ} {count : ℕ} {a : Area} → KeepsMet n e z r from to neighbours count count a a
keeps-none = record { keeps = λ starts l m. m }

pub idle-none : {n e count first : ℕ} {a : Area} → KeepsIdle n e count first count first a a
idle-none = record { keeps = λ m. m }

pub idle_then : {n e c c' c'' f f' f'' : ℕ} {a a' a'' : Area} → KeepsIdle n e c f c' f' a a' → KeepsIdle n e c' f' c'' f'' a' a'' → KeepsIdle n e c f c'' f'' a a''
idle_then k l = record { keeps = λ m. l.keeps (k.keeps m) }

-- 0 is nothing to hand on
pub none_left : ne 0f 0f ≡ false
unfolding ne eq of_bits of_fields
none_left = refl

-- ---- the definition's step

module _ (side : Side) (g r a : ℕ) (s : Seek) where
  pub to-settled : settled side (get_or s.plan.delta g nan) ≡ true → s ≡ seek_to side g r a s
  unfolding seek_to
  to-settled h = simp h

  to-queued : settled side (get_or s.plan.delta g nan) ≡ false → member a s.queue ≡ true → s ≡ seek_to side g r a s
  unfolding seek_to
  to-queued h m = simp (h, m)

  to-new : settled side (get_or s.plan.delta g nan) ≡ false → member a s.queue ≡ false
      → record { queue = snoc s.queue a; looked = s.looked; plan = meet side g r a s.plan } ≡ seek_to side g r a s
  unfolding seek_to
  to-new h m = simp (h, m)

-- ---- the turf that is met joins those that were met

-- what the view comes to, but for the plan
pub record Joins (count r k a : ℕ) (v v' : PlanView) : Type 0 where
  pub owner : v'.owner ≡ v.owner
  pub queue : v'.queue ≡ set v.queue count a
  pub via : v'.via ≡ set v.via a k
  pub direction : v'.plan.direction ≡ set v.plan.direction a (r + 1)

module _ (n z count r k a : ℕ) (starts neighbours : List ℕ) (v v' : PlanView) (j : Joins count r k a v v') (l : Line n count v.queue v.places)
    (new : member a (take count v.queue) ≡ false) where
  met-before : (i : ℕ) → i < count → MetOver n z starts neighbours v (get_or v.queue i 0) → MetOver n z starts neighbours v' (get_or v'.queue i 0)
  met-before i h m =
      let long : length (take count v.queue) ≡ count = length-take-le count v.queue (omega (arith, l.few, l.queue_n)) in
      let b : ℕ = get_or v.queue i 0 in
      let q : get_or v'.queue i 0 ≡ b = ap (λ (xs : List ℕ). get_or xs i 0) j.queue ∙ get_or-set_other v.queue count i a 0 (λ x. omega arith) in
      let ne : b ≢ a = λ x. not_member a (take count v.queue) new i (rw long h) (get_or-take count v.queue i 0 h ∙ x) in
      let ed : get_or v'.plan.direction b 0 ≡ get_or v.plan.direction b 0 = ap (λ (xs : List ℕ). get_or xs b 0) j.direction ∙ get_or-set_other v.plan.direction a b (r + 1) 0 ne in
      let ek : get_or v'.via b 0 ≡ get_or v.via b 0 = ap (λ (xs : List ℕ). get_or xs b 0) j.via ∙ get_or-set_other v.via a b k 0 ne in
      subst (MetOver n z starts neighbours v') (sym q) (record { over = λ d x. rw (ek, j.owner) (m.over d (sym ed ∙ x)) })

  met-here : a < length v.plan.direction → a < length v.via → count < length v.queue → LeadsOver n starts neighbours r k a → get_or v.owner k 0 ≡ z + 1
      → MetOver n z starts neighbours v' (get_or v'.queue count 0)
  met-here hd hv hq t o =
      let q : get_or v'.queue count 0 ≡ a = ap (λ (xs : List ℕ). get_or xs count 0) j.queue ∙ get_or-set_same v.queue count a 0 hq in
      let ed : get_or v'.plan.direction a 0 ≡ r + 1 = ap (λ (xs : List ℕ). get_or xs a 0) j.direction ∙ get_or-set_same v.plan.direction a (r + 1) 0 hd in
      let ek : get_or v'.via a 0 ≡ k = ap (λ (xs : List ℕ). get_or xs a 0) j.via ∙ get_or-set_same v.via a k 0 hv in
      subst (MetOver n z starts neighbours v') (sym q)
      (record { over = λ d x. let e : d ≡ r = omega (arith, ed, x) in rw (ek, e, j.owner) (t, o) })

-- ---- a link

abbrev linked : Side → ℕ → ℕ → ℕ → ℕ → ℕ → List ℕ → Seek → Seek
linked side g r k a z o s = cond (eqb (get_or o k 0) (z + 1)) (seek_to side g r a s) s

module _ (side : Side) (g r k a z n e count : ℕ) (w : List ℕ) (f : List Float) (h : Seeking n e count (area w f)) (hk : k < e) (hg : g < n) (ha : a < n) where
  pub link-foreign : (get_or w k 0 ≡ z + 1 → ⊥) → Sought n e (linked side g r k a z) count count (area w f) (area w f)
  link-foreign o = sought-none (linked side g r k a z) h (λ looked. rw (ne_eqb _ _ (λ i. o (owner_at n e k w f hk ∙ i))))

  module _ (queue places : ℕ) (eq : queue ≡ queue_at n e) (ep : places ≡ places_at n e) where
    queue-is : (plan_view n e (area w f)).queue ≡ array n queue w
    unfolding plan_view
    queue-is =
        let q : e + (e + (n + n + (n + 0))) ≡ queue = omega arith in
        region-part (plan_words n e) w 4 (omega arith) ∙ ap (λ (m : ℕ). take n (drop m w)) q

    places_is : (plan_view n e (area w f)).places ≡ array n places w
    unfolding plan_view
    places_is =
        let q : e + (e + (n + n + (n + (n + 0)))) ≡ places = omega arith in
        region-part (plan_words n e) w 5 (omega arith) ∙ ap (λ (m : ℕ). take n (drop m w)) q

    pub link-holds : HoldsSet n count queue places w
    link-holds = record {
      room = (omega (arith, h.fit.words), omega (arith, h.fit.words));
      line = subst (λ (p : List ℕ). Line n count (array n queue w) p) places_is (subst (λ (q : List ℕ). Line n count q (plan_view n e (area w f)).places) queue-is h.line);
    }

    module _ (o : get_or w k 0 ≡ z + 1) where
      ours : (s : Seek) → seek_to side g r a s ≡ linked side g r k a z (plan_view n e (area w f)).owner s
      ours s = rw (eq-eqb _ _ (sym (owner_at n e k w f hk) ∙ o))

      pub link-queued : settled side (get_or f (delta_at g e) nan) ≡ false → true ≡ member a (take count (array n queue w)) → Sought n e (linked side g r k a z) count count (area w f) (area w f)
      link-queued t m =
          sought-none (linked side g r k a z) h
          (λ looked. to-queued side g r a _ (rw (delta-at n e g w f hg) at t) (ap (λ (q : List ℕ). member a (take count q)) queue-is ∙ sym m) ∙ ours _)

      module _ (m : false ≡ member a (take count (array n queue w))) where
        new : member a (take count (plan_view n e (area w f)).queue) ≡ false
        new = ap (λ (q : List ℕ). member a (take count q)) queue-is ∙ sym m

        pub link-room : count < n
        link-room = count-below h.line a ha new

        unfoldable pushed : PlanView
        pushed = record {
          owner = (plan_view n e (area w f)).owner;
          reverse = (plan_view n e (area w f)).reverse;
          plan = (plan_view n e (area w f)).plan;
          via = set (plan_view n e (area w f)).via a k;
          queue = set (plan_view n e (area w f)).queue count a;
          places = set (plan_view n e (area w f)).places a count;
          list = (plan_view n e (area w f)).list;
          rest_w = (plan_view n e (area w f)).rest_w;
          rest_f = (plan_view n e (area w f)).rest_f;
        }

        module _ (w' : List ℕ) (s : w' ≡ set (set w (queue + count) a) (places + a) count) (at : ℕ) (ev : at ≡ via_at a e) where
          abbrev lined : PlanView
          lined = record {
            owner = (plan_view n e (area w f)).owner;
            reverse = (plan_view n e (area w f)).reverse;
            plan = (plan_view n e (area w f)).plan;
            via = (plan_view n e (area w f)).via;
            queue = set (plan_view n e (area w f)).queue count a;
            places = set (plan_view n e (area w f)).places a count;
            list = (plan_view n e (area w f)).list;
            rest_w = (plan_view n e (area w f)).rest_w;
            rest_f = (plan_view n e (area w f)).rest_f;
          }

          line_view : plan_view n e (area w' f) ≡ lined
          unfolding plan_view
          line_view =
              rw s (ap (λ rs. plan_view_in rs (cut (plan_floats n e) f))
              (cut-set (plan_words n e) (set w (queue + count) a) 5 a count (places + a) (omega arith) ha (omega arith)
              ∙ ap (λ rs. set rs 5 (set (get_or rs 5 []) a count)) (cut-set (plan_words n e) w 4 count a (queue + count) (omega arith) link-room (omega arith))))

          push-view : plan_view n e (area (set w' at k) f) ≡ pushed
          unfolding pushed
          push-view = rw ev (via-view n e a w' f ha k ∙ ap (λ (v : PlanView). paired v v.plan.direction (set v.via a k) v.plan.delta v.plan.amount) line_view)

          module _ {A : Area} (d : PlanDoes n e (λ o p. meet side g r a p) (area (set w' at k) f) A) where
            after : plan_view n e A ≡ on_plan (λ o p. meet side g r a p) pushed
            after = d.same ∙ ap (on_plan (λ o p. meet side g r a p)) push-view

            pub link-seeking : Seeking n e (count + 1) A
            unfolding pushed
            link-seeking = record { fit = d.fit; line = subst (λ (v : PlanView). Line n (count + 1) v.queue v.places) (sym after) (line-more h.line a ha new) }

            pub link-new : settled side (get_or f (delta_at g e) nan) ≡ false → Sought n e (linked side g r k a z) count (count + 1) (area w f) A
            unfolding pushed
            link-new t = record {
              seeking = link-seeking;
              rest = record {
                frame = record {
                  owner = ap (λ (v : PlanView). v.owner) after;
                  reverse = ap (λ (v : PlanView). v.reverse) after;
                  rest_w = ap (λ (v : PlanView). v.rest_w) after;
                  rest_f = ap (λ (v : PlanView). v.rest_f) after;
                };
                list = ap (λ (v : PlanView). v.list) after;
              };
              same = λ looked.
                  ap (λ (v : PlanView). seek_of v (count + 1) looked) after
                  ∙ ap (λ (q : List ℕ). record { queue = q; looked = looked; plan = meet side g r a (plan_view n e (area w f)).plan }) (take_more h.line a ha new)
                  ∙ to-new side g r a _ (rw (delta-at n e g w f hg) at t) new
                  ∙ ours _;
            }

            joins : Joins count r k a (plan_view n e (area w f)) (plan_view n e A)
            unfolding pushed
            joins = record {
              owner = ap (λ (v : PlanView). v.owner) after;
              queue = ap (λ (v : PlanView). v.queue) after;
              via = ap (λ (v : PlanView). v.via) after;
              direction = ap (λ (v : PlanView). v.plan.direction) after ∙ meet-direction side g r a (plan_view n e (area w f)).plan;
            }

            pub link-keeps : (neighbours : List ℕ) → get_or neighbours k 0 ≡ a → KeepsMet n e z r k (k + 1) neighbours count (count + 1) (area w f) A
            link-keeps neighbours ea = record {
              keeps = λ starts l m i hi. pick starts (subst (LeadsOver n starts neighbours r k) ea (l k (omega arith) (omega arith))) m i hi (ℕ_discrete i count);
            }
              where
                pick : (starts : List ℕ) → LeadsOver n starts neighbours r k a → AllMet n z starts neighbours (plan_view n e (area w f)) count → (i : ℕ) → i < count + 1 → Dec (i ≡ count)
                    → MetOver n z starts neighbours (plan_view n e A) (get_or (plan_view n e A).queue i 0)
                pick starts l m i hi (yes q) =
                    subst (λ (x : ℕ). MetOver n z starts neighbours (plan_view n e A) (get_or (plan_view n e A).queue x 0)) (sym q)
                    (met-here n z count r k a starts neighbours (plan_view n e (area w f)) (plan_view n e A) joins h.line new (omega (arith, direction-length n e (area w f) h.fit)) (omega (arith, via-length n e (area w f) h.fit))
                    (omega (arith, h.line.queue_n, link-room)) l (sym (owner_at n e k w f hk) ∙ o))
                pick starts l m i hi (no q) =
                    met-before n z count r k a starts neighbours (plan_view n e (area w f)) (plan_view n e A) joins h.line new i (omega (arith, q)) (m i (omega (arith, q)))

            pub link-idle : (traded : Bool) (first first' : ℕ) → traded ≡ wants side (get_or (plan_view n e (area (set w' at k) f)).plan.delta a nan)
                → first' ≡ cond traded (lesser first count) first → KeepsIdle n e count first (count + 1) first' (area w f) A
            unfolding pushed
            link-idle traded first first' et ef = record { keeps = λ m i hi hf. pick traded refl m i hi hf (ℕ_discrete i count) }
              where
                v : PlanView
                v = plan_view n e (area w f)

                plan_after : (plan_view n e A).plan ≡ meet side g r a v.plan
                plan_after = ap (λ (x : PlanView). x.plan) after

                delta-same : (plan_view n e (area (set w' at k) f)).plan.delta ≡ v.plan.delta
                delta-same = ap (λ (x : PlanView). x.plan.delta) push-view

                before : first' ≤ first
                before = go traded refl
                  where
                    go : (b : Bool) → traded ≡ b → first' ≤ first
                    go true q = let u : first' ≡ lesser first count = ef ∙ ap (λ (x : Bool). cond x (lesser first count) first) q in omega (arith, u, lesser-left first count)
                    go false q = let u : first' ≡ first = ef ∙ ap (λ (x : Bool). cond x (lesser first count) first) q in omega (arith, u)

                idle-here : traded ≡ false → ne (get_or (plan_view n e A).plan.amount a nan) 0f ≡ false
                idle-here q =
                    let t : wants side (get_or v.plan.delta a nan) ≡ false = ap (λ (d : List Float). wants side (get_or d a nan)) (sym delta-same) ∙ sym et ∙ q in
                    ap (λ (x : Float). ne x 0f) (ap (λ (p : Plan). get_or p.amount a nan) plan_after ∙ meet-here side g r a v.plan (omega (arith, amount-length n e (area w f) h.fit)) t) ∙ none_left

                pick : (b : Bool) → traded ≡ b → Idle v count first → (i : ℕ) → i < count + 1 → i < first' → Dec (i ≡ count)
                    → ne (get_or (plan_view n e A).plan.amount (get_or (plan_view n e A).queue i 0) nan) 0f ≡ false
                pick true u m i hi hf (yes q) = let x : first' ≡ lesser first count = ef ∙ ap (λ (x : Bool). cond x (lesser first count) first) u in absurd (omega (arith, x, lesser-right first count, q, hf))
                pick false u m i hi hf (yes q) =
                    let row : get_or (plan_view n e A).queue i 0 ≡ a = ap (λ (x : ℕ). get_or (plan_view n e A).queue x 0) q ∙ ap (λ (xs : List ℕ). get_or xs count 0) joins.queue ∙ get_or-set_same v.queue count a 0 (omega (arith, h.line.queue_n, link-room)) in
                    rw row (idle-here u)
                pick b u m i hi hf (no q) =
                    let l : i < count = omega (arith, q) in
                    let row : get_or (plan_view n e A).queue i 0 ≡ get_or v.queue i 0 = ap (λ (xs : List ℕ). get_or xs i 0) joins.queue ∙ get_or-set_other v.queue count i a 0 (λ x. omega arith) in
                    let long : length (take count v.queue) ≡ count = length-take-le count v.queue (omega (arith, h.line.few, h.line.queue_n)) in
                    let other : get_or v.queue i 0 ≢ a = λ x. not_member a (take count v.queue) new i (rw long l) (get_or-take count v.queue i 0 l ∙ x) in
                    let same = ap (λ (p : Plan). get_or p.amount (get_or v.queue i 0) nan) plan_after ∙ meet-others side g r a (get_or v.queue i 0) v.plan (omega (arith, amount-length n e (area w f) h.fit)) other in
                    rw row (ap (λ (x : Float). ne x 0f) same ∙ m i l (omega (arith, before)))

            -- a turf that doesn't want leaves every delta as it is
            pub link-deltas : wants side (get_or (plan_view n e (area w f)).plan.delta a nan) ≡ false → (w₂ : List ℕ) (f₂ : List Float) → A ≡ area w₂ f₂
                → (b : ℕ) → b < n → get_or f₂ (delta_at b e) nan ≡ get_or f (delta_at b e) nan
            unfolding pushed point
            link-deltas u w₂ f₂ ea b hb =
                delta-at n e b w₂ f₂ hb
                ∙ ap (λ (x : Area). get_or (plan_view n e x).plan.delta b nan) (sym ea)
                ∙ ap (λ (x : PlanView). get_or x.plan.delta b nan) after
                ∙ ap (λ (x : Plan). get_or x.delta b nan) (sym (meet-none side g r a (plan_view n e (area w f)).plan u))
                ∙ sym (delta-at n e b w f hb)

            -- a turf in hand that didn't trade isn't settled
            pub link-open : settled side (get_or f (delta_at g e) nan) ≡ false → (traded : Bool) → traded ≡ wants side (get_or (plan_view n e (area (set w' at k) f)).plan.delta a nan)
                → (w₂ : List ℕ) (f₂ : List Float) → A ≡ area w₂ f₂ → (own : ℕ) → own ≡ delta_at g e → (done : Bool) → done ≡ cond traded (settled side (get_or f₂ own nan)) false
                → done ≡ settled side (get_or f₂ (delta_at g e) nan)
            unfolding pushed
            link-open t traded et w₂ f₂ ea own eo done ed = go traded refl
              where
                delta-same : (plan_view n e (area (set w' at k) f)).plan.delta ≡ (plan_view n e (area w f)).plan.delta
                delta-same = ap (λ (x : PlanView). x.plan.delta) push-view

                done-as : done ≡ cond traded (settled side (get_or f₂ (delta_at g e) nan)) false
                done-as = ed ∙ ap (λ (x : ℕ). cond traded (settled side (get_or f₂ x nan)) false) eo

                go : (b : Bool) → traded ≡ b → done ≡ settled side (get_or f₂ (delta_at g e) nan)
                go true q = done-as ∙ ap (λ (x : Bool). cond x (settled side (get_or f₂ (delta_at g e) nan)) false) q
                go false q =
                    let u : wants side (get_or (plan_view n e (area w f)).plan.delta a nan) ≡ false = ap (λ (d : List Float). wants side (get_or d a nan)) (sym delta-same) ∙ sym et ∙ q in
                    done-as ∙ ap (λ (x : Bool). cond x (settled side (get_or f₂ (delta_at g e) nan)) false) q ∙ sym (ap (settled side) (link-deltas u w₂ f₂ ea g hg) ∙ t)

-- One link of a turf, then its links one after the other. A link that the turf has not taken yet has no owner. Assumes nothing.
use Prim.Native.Nat.{ℕ, ◌+◌, ◌-◌, ◌≤◌, ◌<◌}
use native.Mathlib.Omega.{arith}
use mathlib.Core.Path.{◌≡◌, refl, ap, ◌∙◌, sym, subst}
use mathlib.Core.List.{List, [], ◌∷◌, ◌++◌, append-nil, append_assoc}
use mathlib.Core.Bool.{Bool, true, false, not, ◌&&◌, ◌||◌, cond}
use lib.Dec.{eqb}
use lib.ListN.{length, get_or, set, drop, length-drop}
use lib.Seq.{length-take-le}
use borrow.Author.Tests.{eq-eqb, ne_eqb}
use Rattle.basics.specs.Loops.{run, up_from, snoc}
use Rattle.basics.specs.Lists.{one}
use Rattle.basics.proofs.Loops.{run-suc, run-up_end, run-same}
use Rattle.scratch.specs.Layout.{found_at}
use Rattle.scratch.specs.View.{queue_in, nodes_in}
use Rattle.rules_board.specs.Board.{Board, turf_count, link_count, id_of, end, enabled, planetary, immutable, firelock, links_of}
use Rattle.turfs.specs.declared.LentTables.{LentTables}
use Rattle.turfs.specs.Tables.{board_of, Near}
use Rattle.turfs.proofs.Near.{near-inside, near-end}
use Rattle.rules_events.specs.declared.Event.{Event}
use Rattle.rules_events.specs.declared.Event.TheVariants.{DepressurizeWanted, PlanetWanted}
use Rattle.events.proofs.Areas.{wrote-length}
use Rattle.rules_fill.specs.Fill.{Reach, insert, reach_link}
use Rattle.fill_links.specs.Steps.{met_over, met_at, edge_to, mark_found, push, ask_space, ask_planet, discover, reach_met}
use Rattle.fill_links.specs.Held.{ReachView, reach_view, on_reach, ReachFits, Bounded, FillDoes, Moves, Discovers, Reaches}
use Rattle.fill_links.specs.Asked.{TablesFit, Walking, EdgeFits, PushFits, LinkFits}
use Rattle.fill_links.specs.declared.Reached.{Reached}
use Rattle.fill_links.specs.declared.Slot.{Slot}
use Rattle.fill_links.specs.declared.Met.{Met}
use Rattle.fill_links.proofs.Does.{does-plain, does-then, does-as}
use Rattle.fill_links.proofs.Stores.{owner_at, found-at, nodes-long, queue_long, marked_more, moves-then}
use Rattle.fill_links.proofs.Asks.{moves-does}
use Rattle.fill_links.proofs.Bounds.{node-room, queue-room, bytes-room, bounds-met, met-beside}

-- ---- what the view counts

module _ {n e kept : ℕ} {s : Reached} {w : List ℕ} (h : ReachFits n e kept s w) (es : List Event) where
  pub queue-length : length (reach_view n e kept s w es).reach.queue ≡ s.queued
  unfolding reach_view
  queue-length = length-take-le s.queued (queue_in n e w) (omega (arith, queue_long n e w h.words, h.queue))

  pub nodes-length : length (reach_view n e kept s w es).reach.nodes ≡ s.nodes
  unfolding reach_view
  nodes-length = length-take-le s.nodes (drop kept (nodes_in n e w)) (simp (length-drop, nodes-long n e w h.words) (omega (arith, h.nodes)))

  pub owner-view : (k : ℕ) → k < e → get_or w k 0 ≡ get_or (reach_view n e kept s w es).reach.owner k 0
  unfolding reach_view
  owner-view k l = owner_at n e w h.words k l

-- the bounds of what a step leaves
pub does-bounds : (n e z kept : ℕ) (f : Reach → Reach) (s s' : Reached) (w w' : List ℕ) {i j : ℕ} {a a' : List ℕ} → FillDoes (on_reach f) (reach_view n e kept s w) (reach_view n e kept s' w') i j a a'
    → {used : ℕ} {area : List ℕ} → Bounded n e z kept (f (reach_view n e kept s w []).reach) used area → Bounded n e z kept (reach_view n e kept s' w' []).reach used area
unfolding reach_view
does-bounds n e z kept f s s' w w' d {used} {area} b = subst (λ (r : Reach). Bounded n e z kept r used area) (sym (ap (λ (v : ReachView). v.reach) (d.same []))) b

-- the owners that it leaves
does-owner : (n e kept : ℕ) (f : Reach → Reach) (s s' : Reached) (w w' : List ℕ) {i j : ℕ} {a a' : List ℕ} → FillDoes (on_reach f) (reach_view n e kept s w) (reach_view n e kept s' w') i j a a'
    → (k : ℕ) → get_or (reach_view n e kept s' w' []).reach.owner k 0 ≡ get_or (f (reach_view n e kept s w []).reach).owner k 0
unfolding reach_view
does-owner n e kept f s s' w w' d k = ap (λ (v : ReachView). get_or v.reach.owner k 0) (d.same [])

-- ---- one link

met-old : (m : Met) (k z id : ℕ) (r : Reach) → eqb (get_or r.found m.row 0) 0 ≡ false → mark_found m.row (edge_to m k z r) ≡ reach_met m k z id r
unfolding reach_met
met-old m k z id r t = simp t

met-new : (m : Met) (k z id : ℕ) (r : Reach) → eqb (get_or r.found m.row 0) 0 ≡ true → discover m id (mark_found m.row (edge_to m k z r)) ≡ reach_met m k z id r
unfolding reach_met
met-new m k z id r t = simp t

module _ (m : Met) (k id : ℕ) {n e : ℕ} {slot : Slot} {s : Reached} {w area : List ℕ} (at-link : Walking n e slot s w area) (fits : LinkFits n e m k w) where
  abbrev z : ℕ
  z = slot.z

  abbrev kept : ℕ
  kept = slot.kept

  h : ReachFits n e kept s w
  h = at-link.fit

  b : Bounded n e z kept (reach_view n e kept s w []).reach s.used area
  b = at-link.bounds

  hk : k < e
  hk = fits.link

  hm : m.row < n
  hm = fits.row

  unowned : get_or (reach_view n e kept s w []).reach.owner k 0 ≡ 0
  unowned = sym (owner-view h [] k hk) ∙ fits.free

  pub edge-asks : EdgeFits n e slot m k s w
  edge-asks = record {
    fit = h;
    link = hk;
    row = hm;
    zone = b.zone;
    room = omega (arith, node-room m k z id n e kept (reach_view n e kept s w []).reach b hk hm unowned, nodes-length h []);
  }

  module _ {t : Reached} {w₁ : List ℕ} (d : Moves n e kept (edge_to m k z) s t w w₁) (at : ℕ) (ea : at ≡ found_at n e + m.row) where
    both : Moves n e kept (λ r. mark_found m.row (edge_to m k z r)) s t w (set w₁ at 1)
    both = moves-then d (marked_more m.row t kept n e w₁ d.fit hm at ea)

    was : (es : List Event) → get_or w₁ at 0 ≡ get_or (reach_view n e kept s w es).reach.found m.row 0
    unfolding reach_view edge_to
    was es = found-at n e w₁ d.fit.words m.row at ea hm ∙ ap (λ (v : ReachView). get_or v.reach.found m.row 0) (d.same es)

    room : s.used ≤ length area
    room = omega (arith, b.bytes)

    pub reach-old : (get_or w₁ at 0 ≡ 0 → ⊥) → Reaches n e z kept (reach_met m k z id) s t w (set w₁ at 1) area area
    reach-old ne =
        let old : (es : List Event) → eqb (get_or (reach_view n e kept s w es).reach.found m.row 0) 0 ≡ false = λ es. ne_eqb _ _ (λ i. ne (was es ∙ i)) in
        let x : FillDoes (on_reach (reach_met m k z id)) (reach_view n e kept s w) (reach_view n e kept t (set w₁ at 1)) s.used t.used area area =
        does-as (moves-does both room) (λ es. ap (λ (r : Reach). on_reach (λ _. r) (reach_view n e kept s w es)) (met-old m k z id (reach_view n e kept s w es).reach (old es))) in
        record {
          fit = both.fit;
          bounds = does-bounds n e z kept (reach_met m k z id) s t w (set w₁ at 1) x (bounds-met m k z id n e kept (reach_view n e kept s w []).reach b hk hm unowned (omega (arith, d.used)) refl);
          does = x;
        }

    module _ (zero-at : get_or w₁ at 0 ≡ 0) where
      new : (es : List Event) → get_or (reach_view n e kept s w es).reach.found m.row 0 ≡ 0
      new es = sym (was es) ∙ zero-at

      same_queue : length (reach_view n e kept t (set w₁ at 1) []).reach.queue ≡ length (reach_view n e kept s w []).reach.queue
      unfolding mark_found edge_to
      same_queue = ap (λ (v : ReachView). length v.reach.queue) (both.same [])

      pub discover-asks : PushFits n e slot m t (set w₁ at 1) × (t.used + 16 ≤ length area)
      discover-asks = (
        record {
          fit = both.fit;
          row = hm;
          room = omega (arith, queue-length both.fit [], same_queue, queue-room m k z id n e kept (reach_view n e kept s w []).reach b hk hm (new []));
        },
        omega (arith, d.used, bytes-room m k z id n e kept (reach_view n e kept s w []).reach b hk hm (new [])),
      )

      pub reach-new : {u : Reached} {w' area' : List ℕ} → Discovers n e kept (discover m id) t u (set w₁ at 1) w' area area' → Reaches n e z kept (reach_met m k z id) s u w w' area area'
      reach-new {u} {w'} {area'} x =
          let y : FillDoes (on_reach (reach_met m k z id)) (reach_view n e kept s w) (reach_view n e kept u w') s.used u.used area area' =
          does-as (does-then (moves-does both room) x.does)
          (λ es. ap (λ (r : Reach). on_reach (λ _. r) (reach_view n e kept s w es)) (met-new m k z id (reach_view n e kept s w es).reach (eq-eqb _ _ (new es)))) in
          let o : one (eqb (get_or (reach_view n e kept s w []).reach.found m.row 0) 0) ≡ 1 = ap one (eq-eqb _ _ (new [])) in
          record {
            fit = x.fit;
            bounds = does-bounds n e z kept (reach_met m k z id) s u w w' y (bounds-met m k z id n e kept (reach_view n e kept s w []).reach b hk hm unowned (omega (arith, d.used, x.few, o)) (wrote-length x.does.wrote));
            does = y;
          }

-- ---- the neighbour that is met

pub met-row : {b : Board} → TablesFit b → (k : ℕ) → k < link_count b → (m : Met) → m ≡ met_at b k → m.row < turf_count b
unfolding met_at
met-row {b} t k l m e = subst (λ (x : Met). x.row < turf_count b) (sym e) (t.ends k l)

-- one of the neighbours of a turf, a part of the link list
module _ {b : Board} (t : TablesFit b) {r : ℕ} (l : r < turf_count b) {from : ℕ} {near : List ℕ} (p : Near b r from near) (i : ℕ) (h : i < length near) where
  pub near-row : get_or near i 0 < turf_count b
  near-row = rw (near-end t.parts l p i h) (t.ends (from + i) (omega (arith, near-inside t.parts l p)))

  pub near-met : (m : Met) → m ≡ met_over b (get_or near i 0) (from + i) → m ≡ met_at b (from + i)
  unfolding met_at
  near-met m e = e ∙ ap (λ (x : ℕ). met_over b x (from + i)) (near-end t.parts l p i h)

module _ (b : Board) (z r k : ℕ) where
  abbrev a : ℕ
  a = end b k

  abbrev asks : Bool → Bool → List Event
  asks x y = cond x (DepressurizeWanted (id_of b r) ∷ []) [] ++ cond y (PlanetWanted (id_of b r) ∷ []) []

  -- the definition's link is the code's
  link-met : (s : Reach) → reach_met (met_at b k) k z (id_of b r) s ≡ reach_link b z r k s
  unfolding reach_link reach_met met_at edge_to mark_found push ask_space ask_planet discover
  link-met s = go (eqb (get_or s.found a 0) 0) s.ignored
    where
      on : Bool
      on = enabled b a

      sp : Bool
      sp = immutable b a

      pl : Bool
      pl = planetary b a && firelock b k

      same : List ℕ → Bool → List Event → Reach
      same q ig es = record {
        found = set s.found a 1;
        queue = q;
        nodes = cond on (insert a s.nodes) s.nodes;
        owner = cond on (set s.owner k (z + 1)) s.owner;
        ignored = ig;
        events = es;
      }

      pushed : List ℕ
      pushed = cond on (snoc s.queue a) s.queue

      space : List Event
      space = cond sp (DepressurizeWanted (id_of b r) ∷ []) []

      planet : List Event
      planet = cond pl (PlanetWanted (id_of b r) ∷ []) []

      go : (t ig : Bool)
          → cond t (cond ig (same pushed ig s.events) (same pushed (ig || sp) ((s.events ++ space) ++ planet))) (same s.queue ig s.events)
          ≡ same (cond (t && on) (snoc s.queue a) s.queue) (ig || (t && not ig && sp)) (s.events ++ asks (t && not ig && sp) (t && not ig && pl))
      go true true = ap (same pushed true) (sym (append-nil s.events))
      go true false = ap (same pushed sp) (append_assoc s.events space planet)
      go false true = ap (same s.queue true) (sym (append-nil s.events))
      go false false = ap (same s.queue false) (sym (append-nil s.events))

-- ---- one link after the other

-- the code's link k of the turf with this id
abbrev pub reach_by : Board → ℕ → ℕ → ℕ → Reach → Reach
reach_by b z id k r = reach_met (met_at b k) k z id r

pub met-step : (b : Board) (z id k : ℕ) (m : Met) → m ≡ met_at b k → (r : Reach) → reach_met m k z id r ≡ reach_by b z id k r
met-step b z id k m e r = ap (λ (x : Met). reach_met x k z id r) e

-- the links from `from` up to k are walked: those up to `to` that are left have no owner
pub record Walked (n e z kept : ℕ) (f : ℕ → Reach → Reach) (from to k : ℕ) (s s' : Reached) (w w' area area' : List ℕ) : Type 0 where
  pub done : Reaches n e z kept (λ r. run f (up_from from (k - from)) r) s s' w w' area area'
  pub free : (j : ℕ) → k ≤ j → j < to → get_or w' j 0 ≡ 0
  pub order : from ≤ k
  pub within : k ≤ to

-- a walk by another name
reaches_as : {n e z kept : ℕ} {f : Reach → Reach} (g : Reach → Reach) {s s' : Reached} {w w' area area' : List ℕ} → Reaches n e z kept f s s' w w' area area'
    → ((r : Reach) → f r ≡ g r) → Reaches n e z kept g s s' w w' area area'
reaches_as {n} {e} {z} {kept} g {s} {w = w} d q = record {
  fit = d.fit;
  bounds = d.bounds;
  does = does-as d.does (λ es. ap (λ (r : Reach). on_reach (λ _. r) (reach_view n e kept s w es)) (q (reach_view n e kept s w es).reach));
}

module _ {n e z kept : ℕ} (f : ℕ → Reach → Reach) {from to : ℕ} {s : Reached} {w area : List ℕ} where
  pub walked_start : (k : ℕ) → k ≡ from → ReachFits n e kept s w → Bounded n e z kept (reach_view n e kept s w []).reach s.used area → from ≤ to → ((j : ℕ) → from ≤ j → j < to → get_or w j 0 ≡ 0)
      → Walked n e z kept f from to k s s w w area area
  walked_start k here h b up free = subst (λ (j : ℕ). Walked n e z kept f from to j s s w w area area) (sym here) (record {
    done = record {
      fit = h;
      bounds = b;
      does = does-plain (omega (arith, b.bytes)) (λ es. ap (λ (r : Reach). on_reach (λ _. r) (reach_view n e kept s w es)) (sym (run-up_end f from from (reach_view n e kept s w es).reach (omega arith))));
    };
    free = free;
    order = omega arith;
    within = up;
  })

  module _ {k : ℕ} {t : Reached} {w₁ area₁ : List ℕ} (v : Walked n e z kept f from to k s t w w₁ area area₁) (l : k < to) (inside : to ≤ e) where
    pub walked-free : get_or w₁ k 0 ≡ 0
    walked-free = v.free k (omega arith) l

    pub walked_next : (m : Met) (id : ℕ) → ((r : Reach) → reach_met m k z id r ≡ f k r) → {u : Reached} {w₂ area₂ : List ℕ}
        → Reaches n e z kept (reach_met m k z id) t u w₁ w₂ area₁ area₂ → (k' : ℕ) → k' ≡ k + 1 → Walked n e z kept f from to k' s u w w₂ area area₂
    walked_next m id g {u} {w₂} {area₂} x k' next = subst (λ (j : ℕ). Walked n e z kept f from to j s u w w₂ area area₂) (sym next) (record {
      done = record {
        fit = x.fit;
        bounds = x.bounds;
        does = does-as (does-then v.done.does x.does) (λ es. ap (λ (r : Reach). on_reach (λ _. r) (reach_view n e kept s w es)) (step (reach_view n e kept s w es).reach));
      };
      free = left;
      order = omega (arith, v.order);
      within = omega arith;
    })
      where
        step : (r : Reach) → reach_met m k z id (run f (up_from from (k - from)) r) ≡ run f (up_from from (k + 1 - from)) r
        step r =
            let here : from + (k - from) ≡ k = omega (arith, v.order) in
            let more : k - from + 1 ≡ k + 1 - from = omega (arith, v.order) in
            g (run f (up_from from (k - from)) r) ∙ ap (λ (i : ℕ). f i (run f (up_from from (k - from)) r)) (sym here) ∙ sym (run-suc f from (k - from) r)
            ∙ ap (λ (i : ℕ). run f (up_from from i) r) more

        left : (j : ℕ) → k + 1 ≤ j → j < to → get_or w₂ j 0 ≡ 0
        left j a c =
            owner-view x.fit [] j (omega arith) ∙ does-owner n e kept (reach_met m k z id) t u w₁ w₂ x.does j ∙ met-beside m k z id (reach_view n e kept t w₁ []).reach j (λ p. omega (arith, p))
            ∙ sym (owner-view v.done.fit [] j (omega arith)) ∙ v.free j (omega arith) c

  walked_end : {k : ℕ} {s' : Reached} {w' area' : List ℕ} → Walked n e z kept f from to k s s' w w' area area' → to ≤ k → Reaches n e z kept (λ r. run f (up_from from (to - from)) r) s s' w w' area area'
  walked_end {k} {s'} {w'} {area'} v l =
      subst (λ (i : ℕ). Reaches n e z kept (λ r. run f (up_from from (i - from)) r) s s' w w' area area') (omega (arith, v.within)) v.done

-- the links of the turf r: the number of gases is read nowhere
pub links-walked : (tables : LentTables) (r : ℕ) {n e z kept from to k : ℕ} {s s' : Reached} {w w' area area' : List ℕ}
    → let b = board_of tables 0 in Walked n e z kept (reach_by b z (id_of b r)) from to k s s' w w' area area' → from ≡ get_or b.starts r 0 → to ≡ get_or b.starts (r + 1) 0 → to ≤ k
    → (gases : ℕ) → Reaches n e z kept (λ q. run (reach_link (board_of tables gases) z r) (links_of (board_of tables gases) r) q) s s' w w' area area'
unfolding met_at enabled immutable planetary firelock links_of
links-walked tables r {z = z} {from = from} {to} v ef et l gases =
    let b : Board = board_of tables gases in
    reaches_as (λ q. run (reach_link b z r) (links_of b r) q) (walked_end (reach_by b z (id_of b r)) v l)
    (λ q. run-same (λ _. Unit {0}) (reach_by b z (id_of b r)) (reach_link b z r) (λ k x _. link-met b z r k x) (λ _ _ _. tt) (up_from from (to - from)) q tt ∙ rw (ef, et))

-- Stores in the work area, as steps of the walk: each changes one array, and the nodes' places stay right. Assumes nothing.
use Prim.Native.Nat.{ℕ, ◌+◌, ◌-◌, ◌≤◌, ◌<◌}
use native.Mathlib.Omega.{arith}
use native.Mathlib.Numerals.{add-one}
use native.Mathlib.Nat.{not-suc-le-zero}
use mathlib.Core.Path.{◌≡◌, refl, ap, ap₂, ◌∙◌, sym}
use mathlib.Core.Logic.{inl, inr}
use mathlib.Core.List.{List, []}
use mathlib.Core.Bool.{Bool, true, false}
use lib.ListN.{length, get_or, set, take, drop, length-set, length-drop}
use lib.Seq.{take-set-lt, drop-set-lt, take-set-le, drop-set-add, get_or-take, get_or-drop, length-take-le, take-suc-set, ext_get_or}
use Rattle.basics.specs.Loops.{member, snoc}
use Rattle.basics.specs.Regions.{cut}
use Rattle.basics.proofs.Regions.{cut-set, cut-get, cut-length}
use Rattle.basics.proofs.Stores.{Far}
use Rattle.index_set.specs.Line.{Below, Apart, array, HoldsSet}
use Rattle.index_set.proofs.Queue.{line-more, count-below}
use Rattle.scratch.specs.Layout.{word_sizes, queue_at, places_at, found_at, zone_nodes_at, marks_at}
use Rattle.scratch.specs.View.{owner_in, queue_in, found_in, nodes_in}
use Rattle.rules_events.specs.declared.Event.{Event}
use Rattle.rules_fill.specs.Fill.{Reach, insert}
use Rattle.fill_links.specs.Steps.{edge_to, mark_found, push}
use Rattle.fill_links.specs.Held.{ReachView, reach_view_in, reach_view, on_reach, ReachFits, Moves}
use Rattle.fill_links.specs.declared.Reached.{Reached}
use Rattle.fill_links.specs.declared.Met.{Met}

-- ---- the n words from `at` on

module _ (n at i x : ℕ) (w : List ℕ) where
  pub array-far : Far at n i → array n at (set w i x) ≡ array n at w
  array-far (inl h) = ap (take n) (drop-set-lt at w i x h)
  array-far (inr h) =
      let e : i ≡ at + (i - at) = omega arith in
      ap (λ (j : ℕ). take n (drop at (set w j x))) e ∙ ap (take n) (drop-set-add at w (i - at) x) ∙ take-set-le n (drop at w) (i - at) x (omega arith)

  pub array-here : i < n → array n at (set w (at + i) x) ≡ set (array n at w) i x
  array-here h = ap (take n) (drop-set-add at w i x) ∙ take-set-lt n (drop at w) i x h

-- an empty set, whatever the words hold
pub holds_none : (n queue places : ℕ) (w : List ℕ) → (queue + n ≤ length w) × (places + n ≤ length w) → HoldsSet n 0 queue places w
unfolding Below Apart
holds_none n queue places w r = record {
  room = r;
  line = record {
    queue_n = length-take-le n (drop queue w) (simp length-drop (omega (arith, r.0)));
    places_n = length-take-le n (drop places w) (simp length-drop (omega (arith, r.1)));
    few = omega arith;
    rows = tt;
    apart = tt;
    placed = λ i l. absurd (not-suc-le-zero l);
  };
}

module _ {n count queue places : ℕ} {w : List ℕ} (h : HoldsSet n count queue places w) where
  -- a store beside the set
  pub holds_far : (i x : ℕ) → Far queue n i → Far places n i → HoldsSet n count queue places (set w i x)
  holds_far i x f g = record {
    room = (rw (length-set w i x) h.room.0, rw (length-set w i x) h.room.1);
    line = rw (array-far n queue i x w f, array-far n places i x w g) h.line;
  }

  -- a row joins the set
  pub holds_more : (a : ℕ) → a < n → member a (take count (array n queue w)) ≡ false → places + n ≤ queue → HoldsSet n (count + 1) queue places (set (set w (queue + count) a) (places + a) count)
  holds_more a l m apart =
      let c : count < n = count-below h.line a l m in
      let w₁ : List ℕ = set w (queue + count) a in
      let q : array n queue (set w₁ (places + a) count) ≡ set (array n queue w) count a = array-far n queue (places + a) count w₁ (inl (omega arith)) ∙ array-here n queue count a w c in
      let p : array n places (set w₁ (places + a) count) ≡ set (array n places w) a count =
      array-here n places a count w₁ l ∙ ap (λ (v : List ℕ). set v a count) (array-far n places (queue + count) a w (inr (omega arith))) in
      record {
        room = (simp length-set h.room.0, simp length-set h.room.1);
        line = rw (q, p) (line-more h.line a l m);
      }

-- ---- what the code reads

module _ (n e : ℕ) (w : List ℕ) (long : marks_at n e + n ≤ length w) where
  enough : zone_nodes_at n e + (n + e) ≤ length w
  enough = omega arith

  pub owner_at : (k : ℕ) → k < e → get_or w k 0 ≡ get_or (owner_in e w) k 0
  owner_at k h = cut-get (word_sizes n e) w 0 0 k k (omega arith) h (omega arith)

  pub found-at : (a at : ℕ) → at ≡ found_at n e + a → a < n → get_or w at 0 ≡ get_or (found_in n e w) a 0
  found-at a at p h = cut-get (word_sizes n e) w 0 7 a at (omega arith) h (omega arith)

  pub queue-at : (i at : ℕ) → at ≡ queue_at n e + i → i < n → get_or w at 0 ≡ get_or (queue_in n e w) i 0
  queue-at i at p h = cut-get (word_sizes n e) w 0 4 i at (omega arith) h (omega arith)

  pub nodes-long : length (nodes_in n e w) ≡ n + e
  nodes-long = cut-length (word_sizes n e) w 11 (omega arith) (omega arith)

  pub queue_long : length (queue_in n e w) ≡ n
  queue_long = cut-length (word_sizes n e) w 4 (omega arith) (omega arith)

  pub found-long : length (found_in n e w) ≡ n
  found-long = cut-length (word_sizes n e) w 7 (omega arith) (omega arith)

  pub owner-long : length (owner_in e w) ≡ e
  owner-long = cut-length (word_sizes n e) w 0 (omega arith) (omega arith)

  -- the nodes of a zone, by the array and by the words
  pub nodes-array : (kept count : ℕ) → kept + count ≤ n + e → count ≤ n → take count (array n (zone_nodes_at n e + kept) w) ≡ take count (drop kept (nodes_in n e w))
  nodes-array kept count h l =
      let a : length (take count (array n (zone_nodes_at n e + kept) w)) ≡ count =
      length-take-le count (array n (zone_nodes_at n e + kept) w) (rw (length-take-le n (drop (zone_nodes_at n e + kept) w) (simp length-drop (omega arith))) l) in
      let c : length (take count (drop kept (nodes_in n e w))) ≡ count =
      length-take-le count (drop kept (nodes_in n e w)) (simp (length-drop, nodes-long) (omega arith)) in
      ext_get_or 0 _ _ (a ∙ sym c) (λ i k.
      let j : i < count = omega (arith, a) in
      get_or-take count (array n (zone_nodes_at n e + kept) w) i 0 j ∙ get_or-take n (drop (zone_nodes_at n e + kept) w) i 0 (omega arith) ∙ get_or-drop (zone_nodes_at n e + kept) w i 0
      ∙ cut-get (word_sizes n e) w 0 11 (kept + i) (zone_nodes_at n e + kept + i) (omega arith) (omega arith) (omega arith)
      ∙ sym (get_or-take count (drop kept (nodes_in n e w)) i 0 j ∙ get_or-drop kept (nodes_in n e w) i 0))

-- ---- nothing done

pub moves-none : {n e kept : ℕ} (f : Reach → Reach) {s : Reached} {w : List ℕ} → ReachFits n e kept s w → ((es : List Event) → (reach_view n e kept s w es).reach ≡ f (reach_view n e kept s w es).reach) → Moves n e kept f s s w w
moves-none {n} {e} {kept} f {s} {w} h g = record {
  fit = h;
  used = refl;
  same = λ es. ap (λ (r : Reach). on_reach (λ _. r) (reach_view n e kept s w es)) (g es);
}

-- ---- an edge

pub edge-off : (m : Met) (k z : ℕ) (r : Reach) → m.on ≡ false → r ≡ edge_to m k z r
unfolding edge_to
edge-off m k z r o = simp o

pub edge-known : (m : Met) (k z : ℕ) (r : Reach) → m.on ≡ true → member m.row r.nodes ≡ true
    → record { found = r.found; queue = r.queue; nodes = r.nodes; owner = set r.owner k (z + 1); ignored = r.ignored; events = r.events } ≡ edge_to m k z r
unfolding edge_to insert
edge-known m k z r o i = simp (o, i)

pub edge-new : (m : Met) (k z : ℕ) (r : Reach) → m.on ≡ true → member m.row r.nodes ≡ false
    → record { found = r.found; queue = r.queue; nodes = snoc r.nodes m.row; owner = set r.owner k (z + 1); ignored = r.ignored; events = r.events } ≡ edge_to m k z r
unfolding edge_to insert
edge-new m k z r o i = simp (o, i)

pub moves-then : {n e kept : ℕ} {f g : Reach → Reach} {s s' s'' : Reached} {w w' w'' : List ℕ} → Moves n e kept f s s' w w' → Moves n e kept g s' s'' w' w'' → Moves n e kept (λ r. g (f r)) s s'' w w''
moves-then {g = g} d d' = record { fit = d'.fit; used = d'.used ∙ d.used; same = λ es. d'.same es ∙ ap (on_reach g) (d.same es) }

pub moves-as : {n e kept : ℕ} {f : Reach → Reach} (g : Reach → Reach) {s s' : Reached} {w w' : List ℕ} → Moves n e kept f s s' w w'
    → ((es : List Event) → f (reach_view n e kept s w es).reach ≡ g (reach_view n e kept s w es).reach) → Moves n e kept g s s' w w'
moves-as {n} {e} {kept} g {s} {w = w} d i = record {
  fit = d.fit;
  used = d.used;
  same = λ es. d.same es ∙ ap (λ (r : Reach). on_reach (λ _. r) (reach_view n e kept s w es)) (i es);
}

-- the link k has an owner
abbrev own : ℕ → ℕ → Reach → Reach
own k z r = record { found = r.found; queue = r.queue; nodes = r.nodes; owner = set r.owner k (z + 1); ignored = r.ignored; events = r.events }

-- the row a is a node
abbrev pub join : ℕ → Reach → Reach
join a r = record { found = r.found; queue = r.queue; nodes = snoc r.nodes a; owner = r.owner; ignored = r.ignored; events = r.events }

module _ {s : Reached} {kept n e : ℕ} {w : List ℕ} (h : ReachFits n e kept s w) where
  own-more : (k z : ℕ) → k < e → Moves n e kept (own k z) s s w (set w k (z + 1))
  unfolding reach_view
  own-more k z hk = record {
    fit = record {
      sizes = h.sizes;
      words = rw (length-set w k (z + 1)) h.words;
      nodes = h.nodes;
      queue = h.queue;
      line = holds_far h.line k (z + 1) (inl (omega arith)) (inl (omega arith));
    };
    used = refl;
    same = λ es. ap (reach_view_in kept s es) (cut-set (word_sizes n e) w 0 k (z + 1) k (omega arith) hk (omega arith));
  }

  -- the nodes in the view and in the words
  in_nodes : (a : ℕ) (es : List Event) → member a (reach_view n e kept s w es).reach.nodes ≡ member a (take s.nodes (array n (zone_nodes_at n e + kept) w))
  unfolding reach_view
  in_nodes a es = sym (ap (member a) (nodes-array n e w h.words kept s.nodes h.nodes h.line.line.few))

  pub join_more : (a : ℕ) → a < n → kept + s.nodes < n + e → member a (take s.nodes (array n (zone_nodes_at n e + kept) w)) ≡ false
      → Moves n e kept (join a) s (record { queued = s.queued; nodes = s.nodes + 1; ignored = s.ignored; used = s.used }) w
      (set (set w (zone_nodes_at n e + kept + s.nodes) a) (places_at n e + a) s.nodes)
  unfolding reach_view
  join_more a ha room i =
      let ns : List ℕ = nodes_in n e w in
      let t : Reached = record { queued = s.queued; nodes = s.nodes + 1; ignored = s.ignored; used = s.used } in
      let c₁ = cut-set (word_sizes n e) w 11 (kept + s.nodes) a (zone_nodes_at n e + kept + s.nodes) (omega arith) room (omega arith) in
      let c₂ = cut-set (word_sizes n e) (set w (zone_nodes_at n e + kept + s.nodes) a) 5 a s.nodes (places_at n e + a) (omega arith) ha (omega arith) in
      let c = c₂ ∙ ap (λ (ws : List (List ℕ)). set ws 5 (set (get_or ws 5 []) a s.nodes)) c₁ in
      let new : take (s.nodes + 1) (drop kept (set ns (kept + s.nodes) a)) ≡ snoc (take s.nodes (drop kept ns)) a =
      ap (take (s.nodes + 1)) (drop-set-add kept ns s.nodes a) ∙ ap (λ (j : ℕ). take j (set (drop kept ns) s.nodes a)) (add-one s.nodes)
      ∙ take-suc-set (drop kept ns) s.nodes a (simp (length-drop, nodes-long n e w h.words) (omega arith)) in
      let old : take kept (set ns (kept + s.nodes) a) ≡ take kept ns = take-set-le kept ns (kept + s.nodes) a (omega arith) in
      record {
        fit = record {
          sizes = h.sizes;
          words = simp length-set h.words;
          nodes = omega arith;
          queue = h.queue;
          line = holds_more h.line a ha i (omega arith);
        };
        used = refl;
        same = λ es. ap (reach_view_in kept t es) c ∙ ap₂ (λ (x y : List ℕ). view_of (reach_view n e kept s w es) x y) new old;
      }
    where
      view_of : ReachView → List ℕ → List ℕ → ReachView
      view_of v x y = record {
        reach = record { found = v.reach.found; queue = v.reach.queue; nodes = x; owner = v.reach.owner; ignored = v.reach.ignored; events = v.reach.events };
        still = record {
          reverse = v.still.reverse;
          met = v.still.met;
          fast = v.still.fast;
          list = v.still.list;
          cursor = v.still.cursor;
          live = v.still.live;
          starts = v.still.starts;
          before = y;
          rest = v.still.rest;
        };
      }

module _ (m : Met) (k z : ℕ) (s : Reached) (kept n e : ℕ) (w : List ℕ) (h : ReachFits n e kept s w) (hk : k < e) where
  pub edge_none : m.on ≡ false → Moves n e kept (edge_to m k z) s s w w
  edge_none o = moves-none (edge_to m k z) h (λ es. edge-off m k z _ o)

  module _ (on : m.on ≡ true) (at places : ℕ) (ea : at ≡ zone_nodes_at n e) (ep : places ≡ places_at n e) where
    abbrev w₁ : List ℕ
    w₁ = set w k (z + 1)

    owned : Moves n e kept (own k z) s s w w₁
    owned = own-more h k z hk

    module _ (t : Bool) (i : t ≡ member m.row (take s.nodes (array n (at + kept) w₁))) where
      here : member m.row (take s.nodes (array n (zone_nodes_at n e + kept) w₁)) ≡ t
      here = sym (i ∙ ap (λ (x : ℕ). member m.row (take s.nodes (array n (x + kept) w₁))) ea)

      before : (es : List Event) → member m.row (reach_view n e kept s w es).reach.nodes ≡ t
      before es =
          in_nodes h m.row es
          ∙ ap (λ (l : List ℕ). member m.row (take s.nodes l)) (sym (array-far n (zone_nodes_at n e + kept) k (z + 1) w (inl (omega arith)))) ∙ here

    pub edge-old : true ≡ member m.row (take s.nodes (array n (at + kept) w₁)) → Moves n e kept (edge_to m k z) s s w w₁
    edge-old i = moves-as (edge_to m k z) owned (λ es. edge-known m k z _ on (before true i es))

    module _ (hm : m.row < n) (room : kept + s.nodes < n + e) (i : false ≡ member m.row (take s.nodes (array n (at + kept) w₁))) where
      pub edge-room : (at + kept + s.nodes < length w₁) × ((places + m.row < length w₁) × (s.nodes < 4096))
      edge-room =
          let l = owned.fit.words in
          let c : s.nodes < n = count-below owned.fit.line.line m.row hm (here false i) in
          (omega (arith, l, ea), (omega (arith, l, ep), omega (arith, h.sizes.turfs)))

      pub edge_more : (w' : List ℕ) → w' ≡ set (set w₁ (at + kept + s.nodes) m.row) (places + m.row) s.nodes
          → Moves n e kept (edge_to m k z) s (record { queued = s.queued; nodes = s.nodes + 1; ignored = s.ignored; used = s.used }) w w'
      edge_more w' ew =
          rw (ew ∙ ap₂ (λ (x p : ℕ). set (set w₁ (x + kept + s.nodes) m.row) (p + m.row) s.nodes) ea ep)
          (moves-as (edge_to m k z) (moves-then owned (join_more owned.fit m.row hm room (here false i))) (λ es. edge-new m k z _ on (before false i es)))

-- ---- a push

pub push-off : (m : Met) (r : Reach) → m.on ≡ false → r ≡ push m r
unfolding push
push-off m r o = simp o

push-on : (m : Met) (r : Reach) → m.on ≡ true
    → record { found = r.found; queue = snoc r.queue m.row; nodes = r.nodes; owner = r.owner; ignored = r.ignored; events = r.events } ≡ push m r
unfolding push
push-on m r o = simp o

module _ (m : Met) (s : Reached) (kept n e : ℕ) (w : List ℕ) (h : ReachFits n e kept s w) where
  pub push-none : m.on ≡ false → Moves n e kept (push m) s s w w
  push-none o = moves-none (push m) h (λ es. push-off m _ o)

  pub push-more : m.on ≡ true → s.queued < n → (at : ℕ) → at ≡ queue_at n e → (w' : List ℕ) → w' ≡ set w (at + s.queued) m.row
      → Moves n e kept (push m) s (record { queued = s.queued + 1; nodes = s.nodes; ignored = s.ignored; used = s.used }) w w'
  unfolding reach_view
  push-more on l at ea w' ew =
      let q : List ℕ = queue_in n e w in
      let e₁ : w' ≡ set w (queue_at n e + s.queued) m.row = ew ∙ ap (λ (p : ℕ). set w (p + s.queued) m.row) ea in
      let t : Reached = record { queued = s.queued + 1; nodes = s.nodes; ignored = s.ignored; used = s.used } in
      let c = ap (cut (word_sizes n e)) e₁ ∙ cut-set (word_sizes n e) w 4 s.queued m.row (queue_at n e + s.queued) (omega arith) l (omega arith) in
      let new : take (s.queued + 1) (set q s.queued m.row) ≡ snoc (take s.queued q) m.row =
      ap (λ (j : ℕ). take j (set q s.queued m.row)) (add-one s.queued) ∙ take-suc-set q s.queued m.row (rw (queue_long n e w h.words) l) in
      record {
        fit = record {
          sizes = h.sizes;
          words = rw e₁ (simp length-set h.words);
          nodes = h.nodes;
          queue = omega arith;
          line = rw e₁ (holds_far h.line (queue_at n e + s.queued) m.row (inl (omega arith)) (inl (omega arith)));
        };
        used = refl;
        same = λ es.
            ap (reach_view_in kept t es) c
            ∙ ap (λ (x : List ℕ). on_reach (λ r. record { found = r.found; queue = x; nodes = r.nodes; owner = r.owner; ignored = r.ignored; events = r.events }) (reach_view n e kept s w es)) new
            ∙ ap (λ (r : Reach). on_reach (λ _. r) (reach_view n e kept s w es)) (push-on m _ on);
      }

-- ---- a mark

module _ (a : ℕ) (s : Reached) (kept n e : ℕ) (w : List ℕ) (h : ReachFits n e kept s w) (ha : a < n) where
  pub marked_more : (at : ℕ) → at ≡ found_at n e + a → Moves n e kept (mark_found a) s s w (set w at 1)
  unfolding reach_view mark_found
  marked_more at ea = record {
    fit = record {
      sizes = h.sizes;
      words = rw (length-set w at 1) h.words;
      nodes = h.nodes;
      queue = h.queue;
      line = holds_far h.line at 1 (inl (omega arith)) (inr (omega arith));
    };
    used = refl;
    same = λ es. ap (reach_view_in kept s es) (cut-set (word_sizes n e) w 7 a 1 at (omega arith) ha (omega arith));
  }

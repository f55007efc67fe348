-- A whole fill: its first turf, then pop after pop until there is none, or one ended it. A turf that waits in the queue has links without owner, since no other
-- zone popped it. Assumes nothing.
use Prim.Native.Nat.{ℕ, zero, suc, ◌+◌, ◌≤◌, ◌<◌}
use native.Mathlib.Omega.{arith}
use native.Mathlib.Numerals.{add-one}
use native.Mathlib.Nat.{le_refl, add-zero}
use mathlib.Core.Path.{◌≡◌, refl, ap, ap₂, ◌∙◌, sym, subst}
use mathlib.Core.List.{List, [], ◌∷◌, ◌++◌}
use mathlib.Core.Bool.{true, false, ◌&&◌}
use lib.Dec.{ltb}
use lib.Ieee.{Float}
use lib.ListN.{length, get_or, set, length-set}
use borrow.Author.Tests.{ltb-true, eq-eqb}
use Rattle.basics.specs.Loops.{times, member}
use Rattle.basics.specs.Floats.{0f}
use Rattle.basics.proofs.Loops.{times-still}
use Rattle.scratch.specs.Layout.{queue_at, places_at, found_at, zone_nodes_at, marks_at, Sizes}
use Rattle.rules_board.specs.Board.{Board, turf_count, link_count}
use Rattle.turfs.specs.Tables.{Accepted}
use Rattle.rules_events.specs.declared.Event.{Event}
use Rattle.rules_fill.specs.Fill.{Reach, Fill, is_on, pop_next, fill}
use Rattle.fill_links.specs.Steps.{mark_found, push}
use Rattle.fill_links.specs.Held.{reach_view, ReachFits, Bounds, Bounded, FillDoes, Moves, zeros}
use Rattle.rules_fill.specs.declared.Going.{Going}
use Rattle.rules_fill.specs.declared.Going.TheVariants.{On, Broken, Over}
use Rattle.fill_links.specs.declared.Met.{Met}
use Rattle.fill_links.proofs.Does.{does-plain, does-then, does-as}
use Rattle.fill_links.proofs.Stores.{holds_none, found-long, owner-long, marked_more, push-more, join_more, moves-then}
use Rattle.fill_links.proofs.Bounds.{zeros-set, zeros-most}
use Rattle.fill_links.proofs.Links.{queue-length, owner-view}
use Rattle.laws_fill.specs.Start.{start_fill}
use Rattle.laws_fill.proofs.Owned.{Fresh, pops-fresh}
use Rattle.laws_fill.proofs.Rest.{going, still}
use Rattle.fill_zone.specs.Held.{FillView, fill_in, fill_view, on_fill, none, filled_from, Floods, Moved, ZoneStarts, AtStart, Begins, StartFits, ZoneFits}
use Rattle.fill_links.specs.Asked.{Free}
use Rattle.fill_zone.specs.declared.Flood.{Flood}
use Rattle.fill_zone.proofs.Boards.{sizes-of, parts, source_is}
use Rattle.fill_zone.proofs.Pops.{row_at, row_below}

-- ---- the first turf

module _ (row used tests kept n e : ℕ) (w : List ℕ) (sz : Sizes n e) (hr : row < n) (hk : kept < n + e) (long : marks_at n e + n ≤ length w) where
  pub none-fit : ReachFits n e kept (none used) w
  none-fit = record {
    sizes = sz;
    words = long;
    nodes = omega arith;
    queue = omega arith;
    line = holds_none n (zone_nodes_at n e + kept) (places_at n e) w (omega arith, omega arith);
  }

  abbrev first : Flood
  first = record { reach = record { queued = 1; nodes = 1; ignored = false; used = used }; popped = 0; moles = 0f; planet = false; tests = tests; state = On }

  module _ (fa qa na pa : ℕ) (ef : fa ≡ found_at n e) (eq : qa ≡ queue_at n e) (en : na ≡ zone_nodes_at n e) (ep : pa ≡ places_at n e) where
    abbrev w₁ : List ℕ
    w₁ = set w (fa + row) 1

    abbrev w₂ : List ℕ
    w₂ = set w₁ qa row

    pub started : (w' : List ℕ) → w' ≡ set (set w₂ (na + kept + 0) row) (pa + row) 0 → ZoneStarts n e kept used (λ found owner es. start_fill row found owner es tests) first w w'
    unfolding reach_view mark_found push member
    started w' ew =
        let m : Met = record { row = row; on = true; space = false; planet = false } in
        let d₁ : Moves n e kept (mark_found row) (none used) (none used) w w₁ = marked_more row (none used) kept n e w none-fit hr (fa + row) (omega arith) in
        let d₂ : Moves n e kept (push m) (none used) (record { queued = 0 + 1; nodes = 0; ignored = false; used = used }) w₁ w₂ =
        push-more m (none used) kept n e w₁ d₁.fit refl (omega arith) qa eq w₂ (ap (λ (i : ℕ). set w₁ i row) (sym (add-zero qa))) in
        let d₃ = join_more d₂.fit row hr (omega arith) refl in
        let d = moves-then (moves-then d₁ d₂) d₃ in
        let e₁ : w' ≡ set (set w₂ (zone_nodes_at n e + kept + 0) row) (places_at n e + row) 0 = ew ∙ ap₂ (λ (x p : ℕ). set (set w₂ (x + kept + 0) row) (p + row) 0) en ep in
        subst (λ (v : List ℕ). ZoneStarts n e kept used (λ found owner es. start_fill row found owner es tests) first w v) (sym e₁)
        (record { fit = d.fit; same = λ es. ap (fill_in first) (d.same es) })

-- ---- pop after pop

times-suc : {S : Type 0} (f : S → S) (n : ℕ) (s : S) → times f (suc n) s ≡ f (times f n s)
unfolding times
times-suc f zero s = refl
times-suc f (suc n) s = times-suc f n (f s)

times-last : {S : Type 0} (f : S → S) (n : ℕ) (s : S) → f (times f n s) ≡ times f (n + 1) s
times-last f n s = sym (ap (λ (k : ℕ). times f k s) (add-one n) ∙ times-suc f n s)

times-rest : {S : Type 0} (f : S → S) (p n : ℕ) (s : S) → p ≤ n → f (times f p s) ≡ times f p s → times f p s ≡ times f n s
unfolding times
times-rest f zero n s l e = sym (times-still f n s e)
times-rest f (suc p) zero s l e = absurd (omega arith)
times-rest f (suc p) (suc n) s l e = times-rest f p n (f s) (omega arith) e

pub going_on : (g : Going) (p q : ℕ) → (is_on g && ltb p q) ≡ true → (g ≡ On) × (p < q)
going_on On p q e = (refl, ltb-true p q e)
going_on Broken p q e = absurd (let z : ◌≡◌ {A = ℕ} 0 1 = cc in omega arith)
going_on Over p q e = absurd (let z : ◌≡◌ {A = ℕ} 0 1 = cc in omega arith)

-- so many pops after the fill's first turf
pub record Popping (b : Board) (gas : List Float) (limit allowance z kept : ℕ) (t t' : Flood) (w w' area area' : List ℕ) : Type 0 where
  pub done : Floods (turf_count b) (link_count b) z kept (times (pop_next b gas limit allowance z) t'.popped) t t' w w' area area'
  pub few : t'.popped ≤ turf_count b
  pub clock : t'.state ≡ On → t'.tests ≤ allowance

module _ {b : Board} {m : ℕ} (h : Accepted b m) (gas : List Float) (limit allowance z kept used tests row : ℕ) {w area : List ℕ} (y : ZoneFits b z kept used row w area) where
  abbrev n : ℕ
  n = turf_count b

  abbrev e : ℕ
  e = link_count b

  abbrev found₀ : List ℕ
  found₀ = (reach_view n e kept (none used) w []).reach.found

  abbrev owner₀ : List ℕ
  owner₀ = (reach_view n e kept (none used) w []).reach.owner

  owners : length owner₀ ≡ e
  unfolding reach_view
  owners = owner-long n e w y.words

  marks : length found₀ ≡ n
  unfolding reach_view
  marks = found-long n e w y.words

  start-bounds : Bounds n e z kept (set found₀ row 1) (row ∷ []) (row ∷ []) owner₀ used area
  start-bounds =
      let less : zeros (set found₀ row 1) + 1 ≡ zeros found₀ = zeros-set found₀ row 1 true (rw marks y.row) (eq-eqb _ _ y.new) (omega arith) in
      record {
        zone = y.zone;
        marks = length-set found₀ row 1 ∙ marks;
        owners = owners;
        rows = (y.row, tt);
        line = omega (arith, less, zeros-most found₀, marks);
        nodes = omega (arith, y.nodes);
        bytes = omega (arith, less, y.bytes);
      }

  module _ {t : Flood} {w₁ : List ℕ} (s : ZoneStarts n e kept used (λ found owner es. start_fill row found owner es tests) t w w₁)
      (at : AtStart used tests t) where
    first-bounds : Bounded n e z kept (reach_view n e kept t.reach w₁ []).reach t.reach.used area
    unfolding reach_view
    first-bounds =
        subst (λ (r : Reach). Bounded n e z kept r t.reach.used area) (sym (ap (λ (v : FillView). v.fill.reach) (s.same [])))
        (subst (λ (k : ℕ). Bounds n e z kept (set found₀ row 1) (row ∷ []) (row ∷ []) owner₀ k area) (sym at.bytes) start-bounds)

    pub popping_start : tests ≤ allowance → Popping b gas limit allowance z kept t t w₁ w₁ area area
    unfolding times
    popping_start l = record {
      done = subst (λ (k : ℕ). Floods n e z kept (times (pop_next b gas limit allowance z) k) t t w₁ w₁ area area) (sym at.none)
          (record { fit = s.fit; bounds = first-bounds; does = does-plain (omega (arith, first-bounds.bytes)) (λ es. refl) });
      few = omega (arith, at.none);
      clock = λ _. rw at.clock l;
    }

    module _ {t' : Flood} {w' area' : List ℕ} (v : Popping b gas limit allowance z kept t t' w₁ w' area area') where
      -- the definition's fill so far
      so_far : (es : List Event) → (fill_view n e kept t' w' (es ++ v.done.does.more)).fill
          ≡ times (pop_next b gas limit allowance z) t'.popped (filled_from (λ found owner fs. start_fill row found owner fs tests) (reach_view n e kept (none used) w es)).fill
      so_far es = ap (λ (x : FillView). x.fill) (v.done.does.same es) ∙ ap (λ (x : FillView). times (pop_next b gas limit allowance z) t'.popped x.fill) (s.same es)

      fresh : Fresh b h z owner₀ t'.popped (fill_view n e kept t' w' v.done.does.more).fill.reach
      unfolding reach_view
      fresh =
          subst (λ (x : Fill). Fresh b h z owner₀ x.popped x.reach) (sym (so_far []))
          (pops-fresh b h z owner₀ gas limit allowance t'.popped row found₀ [] tests marks owners y.row y.new y.unowned)

      pub popping_free : (l : t'.popped < t'.reach.queued) → Free b.starts (get_or w' (queue_at n e + t'.popped) 0) w'
      popping_free l k a c =
          let r : ℕ = get_or w' (queue_at n e + t'.popped) 0 in
          let es : List Event = v.done.does.more in
          let hr : r < n = row_below v.done.fit v.done.bounds t'.popped l (queue_at n e) refl in
          owner-view v.done.fit es k (omega (arith, (parts h).end r hr))
          ∙ fresh.waiting t'.popped k (le_refl t'.popped) (rw (queue-length v.done.fit es) l)
          (source_is h r hr k a c ∙ row_at v.done.fit v.done.bounds t'.popped l (queue_at n e) refl es)

      pub popping_next : t'.popped < t'.reach.queued → {t'' : Flood} {w'' area'' : List ℕ} → Floods n e z kept (pop_next b gas limit allowance z) t' t'' w' w'' area' area'' → Moved allowance t' t''
          → Popping b gas limit allowance z kept t t'' w₁ w'' area area''
      popping_next l {t''} {w''} {area''} d q = record {
        done = subst (λ (k : ℕ). Floods n e z kept (times (pop_next b gas limit allowance z) k) t t'' w₁ w'' area area'') (sym q.popped) (record {
          fit = d.fit;
          bounds = d.bounds;
          does = does-as (does-then v.done.does d.does)
              (λ es. ap (λ (x : Fill). on_fill (λ _. x) (fill_view n e kept t w₁ es)) (times-last (pop_next b gas limit allowance z) t'.popped (fill_view n e kept t w₁ es).fill));
        });
        few = omega (arith, q.popped, l, v.done.fit.queue);
        clock = q.clock;
      }

      pub popping_end : (is_on t'.state && ltb t'.popped t'.reach.queued) ≡ false
          → Begins n e z kept used (λ found owner es. fill b gas limit allowance z row found owner es tests) t' w w' area area'
      unfolding fill
      popping_end stop = record {
        fit = v.done.fit;
        bounds = v.done.bounds;
        does =
            does-as (does-then (subst (λ (k : ℕ). FillDoes (filled_from (λ found owner es. start_fill row found owner es tests)) (reach_view n e kept (none used) w) (fill_view n e kept t w₁) used k area area) (sym at.bytes)
            (does-plain (omega (arith, y.bytes)) s.same)) v.done.does)
            (λ es. ap (λ (x : Fill). filled_from (λ _ _ _. x) (reach_view n e kept (none used) w es))
            (times-rest (pop_next b gas limit allowance z) t'.popped n (filled_from (λ found owner fs. start_fill row found owner fs tests) (reach_view n e kept (none used) w es)).fill v.few
            (still b gas limit allowance z (times (pop_next b gas limit allowance z) t'.popped (filled_from (λ found owner fs. start_fill row found owner fs tests) (reach_view n e kept (none used) w es)).fill) (rests es))));
      }
        where
          rests : (es : List Event) → going (times (pop_next b gas limit allowance z) t'.popped (filled_from (λ found owner fs. start_fill row found owner fs tests) (reach_view n e kept (none used) w es)).fill) ≡ false
          rests es =
              subst (λ (x : Fill). going x ≡ false) (so_far es)
              (ap (λ (k : ℕ). is_on t'.state && ltb t'.popped k) (queue-length v.done.fit (es ++ v.done.does.more)) ∙ stop)

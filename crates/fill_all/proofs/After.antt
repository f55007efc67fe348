-- What a fill leaves of what filling has come to: a kept zone stands after those before it, an ignored one gave back what it took. Assumes nothing.
use Prim.Native.Nat.{ℕ, ◌+◌, ◌-◌, ◌≤◌, ◌<◌}
use native.Mathlib.Omega.{arith}
use native.Mathlib.Decide.{dec_lt}
use mathlib.Core.Path.{◌≡◌, refl, ap, ap₂, ◌∙◌, sym, subst}
use mathlib.Core.List.{List, [], ◌∷◌, ◌++◌, map}
use mathlib.Core.Bool.{Bool, true, false, cond}
use lib.Ieee.{Float, nan}
use lib.ListN.{length, get_or, set, take, drop, length-set, length-map}
use lib.Seq.{get_or-set_same, get_or-set_other, length-take-le}
use Rattle.basics.specs.Loops.{run, up_from, snoc}
use Rattle.basics.specs.Regions.{cut}
use Rattle.basics.proofs.Loops.{All-imp, All-get_or, map-like, up-below, up-snoc}
use Rattle.basics.proofs.Lists.{up_from-length, map-append}
use Rattle.basics.proofs.Regions.{cut-set, cut-length}
use Rattle.std.specs.Prelude.{Some}
use Rattle.basics.proofs.Parts.{take_in}
use Rattle.scratch.specs.Layout.{word_sizes, float_sizes, starts_at, moles_at}
use Rattle.scratch.specs.View.{owner_in, queue_in, found_in, starts_in}
use Rattle.rules_board.specs.Board.{Board, turf_count, link_count}
use Rattle.turfs.specs.Tables.{Accepted}
use Rattle.rules_events.specs.declared.Event.{Event}
use Rattle.rules_fill.specs.Fill.{Fill, is_over, fill}
use Rattle.fill_links.specs.Held.{zeros}
use Rattle.fill_links.specs.Held as link
use Rattle.fill_links.proofs.Does.{does-plain}
use Rattle.fill_links.proofs.Bounds.{zeros-some}
use Rattle.fill_links.proofs.Stores.{found-long, owner-long}
use Rattle.fill_links.proofs.Links.{nodes-length}
use Rattle.fill_zone.specs.Held.{FillView, fill_view, Begins, ZoneFits}
use Rattle.fill_zone.specs.declared.Flood.{Flood}
use Rattle.fill_zone.proofs.Boards.{parts}
use Rattle.fill_ignored.specs.Held.{give_back, pushed}
use Rattle.fill_ignored.specs.Asked.{Spans, PushedFits}
use Rattle.fill_ignored.proofs.Back.{given_back}
use Rattle.rules_finish.specs.Turns.{Zone}
use Rattle.rules_equalize.specs.Equalize.{Ask, Filled, after_fill, passed_over, fill_from, hot_row}
use Rattle.fill_all.specs.Held.{zone_in, filled_view_in, filled_view, on_filled, Stored, FillOpen, Fills, Keeps, Drops}
use Rattle.fill_all.specs.Asked.{KeepFits}
use Rattle.fill_all.specs.declared.Filling.{Filling}

-- ---- a turf that is passed over

pub fills-none : {n e : ℕ} (g : Filled → Filled) {s : Filling} {w : List ℕ} {f : List Float} {area : List ℕ} → Stored n e s w f → s.used ≤ length area
    → ((es : List Event) → (filled_view n e s w f es).filled ≡ g (filled_view n e s w f es).filled) → Fills n e g s s w w f f area area
fills-none {n} {e} g {s} {w} {f} h l q = record {
  stored = h;
  does = does-plain l (λ es. ap (λ (x : Filled). on_filled (λ _. x) (filled_view n e s w f es)) (q es));
}

-- ---- zones that stay

-- other starts, nodes and totals that agree where a zone reads them
zones-like : (z : ℕ) (ss ss' ns ns' : List ℕ) (ms ms' : List Float) → ((i : ℕ) → i < z → (get_or ss' i 0 ≡ get_or ss i 0) × ((get_or ss' (i + 1) 0 ≡ get_or ss (i + 1) 0) × (get_or ms' i nan ≡ get_or ms i nan)))
    → (k : ℕ) → take k ns' ≡ take k ns → ((i : ℕ) → i < z → (get_or ss i 0 ≤ get_or ss (i + 1) 0) × (get_or ss (i + 1) 0 ≤ k))
    → map (zone_in ss' ns' ms') (up_from 0 z) ≡ map (zone_in ss ns ms) (up_from 0 z)
zones-like z ss ss' ns ns' ms ms' same k front rise = map-like (zone_in ss' ns' ms') (zone_in ss ns ms) (up_from 0 z) (All-imp (λ i. i < z) _ (up_from 0 z) (λ i h. one i h) (up-below 0 z z (omega arith)))
  where
    one : (i : ℕ) → i < z → zone_in ss' ns' ms' i ≡ zone_in ss ns ms i
    one i h =
        let q = same i h in
        let r = rise i h in
        let m : ℕ = get_or ss (i + 1) 0 - get_or ss i 0 in
        let p : take m (drop (get_or ss i 0) ns') ≡ take m (drop (get_or ss i 0) ns) =
        sym (take_in ns' (get_or ss i 0) m k (omega arith)) ∙ ap (λ (l : List ℕ). take m (drop (get_or ss i 0) l)) front ∙ take_in ns (get_or ss i 0) m k (omega arith) in
        rw (q.0, q.1.0, q.1.1) (ap (λ (l : List ℕ). record { nodes = l; moles = get_or ms i nan }) p)

-- one zone more
zones-more : (z : ℕ) (ss ns : List ℕ) (ms : List Float) → map (zone_in ss ns ms) (up_from 0 (z + 1)) ≡ snoc (map (zone_in ss ns ms) (up_from 0 z)) (zone_in ss ns ms z)
zones-more z ss ns ms = ap (map (zone_in ss ns ms)) (up-snoc 0 z) ∙ map-append (zone_in ss ns ms) (up_from 0 z) ((0 + z) ∷ []) ∙ ap (λ (k : ℕ). snoc (map (zone_in ss ns ms) (up_from 0 z)) (zone_in ss ns ms k)) (omega arith)

-- ---- a fill from the turf `row`

module _ {b : Board} {m : ℕ} (h : Accepted b m) (gas : List Float) (q : Ask) (row : ℕ) {s : Filling} {w : List ℕ} {f : List Float} {area : List ℕ} (st : Stored (turf_count b) (link_count b) s w f)
    (op : FillOpen b q.allowance s w area) (hr : row < turf_count b) (new : get_or (found_in (turf_count b) (link_count b) w) row 0 ≡ 0) where
  abbrev n : ℕ
  n = turf_count b

  abbrev e : ℕ
  e = link_count b

  abbrev found₀ : List ℕ
  found₀ = found_in n e w

  abbrev owner₀ : List ℕ
  owner₀ = owner_in e w

  one-zone : s.zones < n
  one-zone = omega (arith, op.zones, zeros-some found₀ row (rw (found-long n e w st.words) hr) new)

  pub zone-fits : s.zones < 4096
  zone-fits = omega (arith, one-zone, st.sizes.turfs)

  pub fill-ready : ZoneFits b s.zones s.nodes s.used row w area
  unfolding link.reach_view
  fill-ready = record { row = hr; zone = one-zone; words = st.words; new = new; unowned = op.unowned; nodes = st.nodes; bytes = op.bytes }

  -- the definition's fill, after the events es
  abbrev T : List Event → Fill
  T es = fill b gas q.limit q.allowance s.zones row found₀ owner₀ es s.tests

  module _ {t : Flood} {w₁ area₁ : List ℕ}
      (B : Begins n e s.zones s.nodes s.used (λ found owner es. fill b gas q.limit q.allowance s.zones row found owner es s.tests) t w w₁ area area₁) where
    abbrev ws : List (List ℕ)
    ws = cut (word_sizes n e) w

    abbrev ws₁ : List (List ℕ)
    ws₁ = cut (word_sizes n e) w₁

    -- what the words hold after the fill
    came : (es : List Event) → fill_view n e s.nodes t w₁ (es ++ B.does.more) ≡ record {
      fill = T es;
      still = record { reverse = get_or ws 1 []; met = get_or ws 2 []; fast = get_or ws 3 []; list = get_or ws 6 []; cursor = get_or ws 8 []; live = get_or ws 9 []; starts = get_or ws 10 []; before = take s.nodes (get_or ws 11 []); rest = get_or ws 12 [] };
    }
    unfolding link.reach_view
    came es = B.does.same es

    rows_in : (i : ℕ) → i < t.reach.queued → get_or (pushed n e t.reach.queued w₁) i 0 < n
    unfolding link.reach_view
    rows_in i l = All-get_or (λ x. x < n) (pushed n e t.reach.queued w₁) i 0 B.bounds.rows (rw long l)
      where
        long : length (pushed n e t.reach.queued w₁) ≡ t.reach.queued
        long = length-take-le t.reach.queued (queue_in n e w₁) (omega (arith, B.fit.queue, Rattle.fill_links.proofs.Stores.queue_long n e w₁ B.fit.words))

    pub after-asks : KeepFits n e s t w₁ f × (PushedFits n e t.reach.queued w₁ × Spans n e b.starts)
    after-asks = (
      record { sizes = st.sizes; words = B.fit.words; floats = st.floats; zones = one-zone; nodes = B.fit.nodes },
      (
        record { sizes = st.sizes; words = B.fit.words; few = B.fit.queue; rows = rows_in },
        record { count = h.starts; rise = (parts h).rise; end = (parts h).end },
      ),
    )

    -- the step of the definition
    module _ (pass : (es : List Event) → passed_over b gas q row found₀ ≡ false) where
      step : (es : List Event) → after_fill (T es) (filled_view n e s w f es).filled ≡ hot_row b gas q (Some row) (filled_view n e s w f es).filled
      unfolding filled_view hot_row fill_from
      step es =
          sym (ap (λ (c : Bool). cond c (filled_view n e s w f es).filled (fill_from b gas q row (filled_view n e s w f es).filled)) (pass es)
          ∙ ap (λ (z : ℕ). after_fill (fill b gas q.limit q.allowance z row found₀ owner₀ es s.tests) (filled_view n e s w f es).filled)
          (length-map (up_from 0 s.zones) (zone_in (get_or ws 10 []) (get_or ws 11 []) (get_or (cut (float_sizes n e) f) 3 [])) ∙ up_from-length 0 s.zones))

      -- an ignored zone
      module _ (ig : t.reach.ignored ≡ true) {r : Filling} {w' : List ℕ} {f' : List Float} (d : Drops n e b.starts s t r w₁ w' f f') where
        abbrev r₁ : Filling
        r₁ = record { zones = s.zones; nodes = s.nodes; tests = t.tests; used = t.reach.used; cancelled = is_over t.state }

        owners : (es : List Event) → owner_in e w' ≡ owner₀
        unfolding link.reach_view
        owners es =
            ap (λ (x : List (List ℕ)). get_or x 0 []) d.words
            ∙ ap (λ (v : FillView). run (give_back b.starts) v.fill.reach.queue v.fill.reach.owner) (came es)
            ∙ given_back h s.zones found₀ owner₀ gas q.limit q.allowance row es s.tests (found-long n e w st.words) (owner-long n e w st.words) hr new op.unowned

        -- an array but the owners
        array : (k : ℕ) → get_or (cut (word_sizes n e) w') (k + 1) [] ≡ get_or ws₁ (k + 1) []
        array k = ap (λ (x : List (List ℕ)). get_or x (k + 1) []) d.words ∙ other ws₁ _ k
          where
            other : (xs : List (List ℕ)) (x : List ℕ) (k : ℕ) → get_or (set xs 0 x) (k + 1) [] ≡ get_or xs (k + 1) []
            other xs x k = get_or-set_other xs 0 (k + 1) x [] (λ i. omega (arith, i))

        dropped_view : (es : List Event) → filled_view n e r₁ w' f (es ++ B.does.more) ≡ record { filled = after_fill (T es) (filled_view n e s w f es).filled; around = (filled_view n e s w f es).around }
        unfolding filled_view link.reach_view after_fill
        dropped_view es =
            let X = came es in
            let ig' : (T es).reach.ignored ≡ true = sym (ap (λ (v : FillView). v.fill.reach.ignored) X) ∙ ig in
            λ i. record {
              filled = record {
                found = (array 6 ∙ ap (λ (v : FillView). v.fill.reach.found) X) i;
                owner = (owners es ∙ sym (ap (λ (c : Bool). cond c owner₀ (T es).reach.owner) ig')) i;
                zones = (zones-like s.zones (get_or ws 10 []) (get_or (cut (word_sizes n e) w') 10 []) (get_or ws 11 []) (get_or (cut (word_sizes n e) w') 11 []) (get_or (cut (float_sizes n e) f) 3 []) (get_or (cut (float_sizes n e) f) 3 [])
                    (λ j l. let p : get_or (cut (word_sizes n e) w') 10 [] ≡ get_or ws 10 [] = array 9 ∙ ap (λ (v : FillView). v.still.starts) X in
                    (ap (λ (x : List ℕ). get_or x j 0) p, (ap (λ (x : List ℕ). get_or x (j + 1) 0) p, refl)))
                    s.nodes (ap (take s.nodes) (array 10) ∙ ap (λ (v : FillView). v.still.before) X) (λ j l. (st.rise j l, st.below (j + 1) (omega arith)))
                    ∙ sym (ap (λ (c : Bool). cond c (filled_view n e s w f es).filled.zones (snoc (filled_view n e s w f es).filled.zones (record { nodes = (T es).reach.nodes; moles = (T es).moles }))) ig')) i;
                tests = ap (λ (v : FillView). v.fill.tests) X i;
                events = ap (λ (v : FillView). v.fill.reach.events) X i;
                cancelled = ap (λ (v : FillView). is_over v.fill.state) X i;
              };
              around = record {
                reverse = (array 0 ∙ ap (λ (v : FillView). v.still.reverse) X) i;
                met = (array 1 ∙ ap (λ (v : FillView). v.still.met) X) i;
                fast = (array 2 ∙ ap (λ (v : FillView). v.still.fast) X) i;
                list = (array 5 ∙ ap (λ (v : FillView). v.still.list) X) i;
                cursor = (array 7 ∙ ap (λ (v : FillView). v.still.cursor) X) i;
                live = (array 8 ∙ ap (λ (v : FillView). v.still.live) X) i;
                rest_w = (array 11 ∙ ap (λ (v : FillView). v.still.rest) X) i;
                weight = get_or (cut (float_sizes n e) f) 0 [];
                states = get_or (cut (float_sizes n e) f) 1 [];
                lifted = get_or (cut (float_sizes n e) f) 2 [];
                rest_r = get_or (cut (float_sizes n e) f) 4 [];
              };
            }

        starts-same : get_or (cut (word_sizes n e) w') 10 [] ≡ get_or ws 10 []
        unfolding link.reach_view
        starts-same = array 9 ∙ ap (λ (v : FillView). v.still.starts) (came [])

        dropped_stored : Stored n e r₁ w' f
        dropped_stored = record {
          sizes = st.sizes;
          words = rw d.long B.fit.words;
          floats = st.floats;
          zones = st.zones;
          first = rw starts-same st.first;
          last = rw starts-same st.last;
          rise = rw starts-same st.rise;
          below = rw starts-same st.below;
          nodes = rw (owners []) st.nodes;
        }

        pub dropped_fills : Fills n e (hot_row b gas q (Some row)) s r w w' f f' area area₁
        dropped_fills =
            subst (λ (x : List Float). Fills n e (hot_row b gas q (Some row)) s r w w' f x area area₁) (sym d.floats)
            (subst (λ (x : Filling). Fills n e (hot_row b gas q (Some row)) s x w w' f f area area₁) (sym d.answer) (record {
              stored = dropped_stored;
              does = record {
                more = B.does.more;
                same = λ es. dropped_view es ∙ ap (λ (x : Filled). on_filled (λ _. x) (filled_view n e s w f es)) (step es);
                wrote = B.does.wrote;
              };
            }))

      -- a kept zone
      module _ (ig : t.reach.ignored ≡ false) where
        abbrev v : ℕ
        v = s.nodes + t.reach.nodes

        abbrev r₂ : Filling
        r₂ = record { zones = s.zones + 1; nodes = v; tests = t.tests; used = t.reach.used; cancelled = is_over t.state }

        abbrev w₂ : List ℕ
        w₂ = set w₁ (starts_at n e + s.zones + 1) v

        abbrev f₂ : List Float
        f₂ = set f (moles_at n e + s.zones) t.moles

        abbrev ss₁ : List ℕ
        ss₁ = get_or ws₁ 10 []

        abbrev ss₂ : List ℕ
        ss₂ = set ss₁ (s.zones + 1) v

        abbrev ms : List Float
        ms = get_or (cut (float_sizes n e) f) 3 []

        words-cut : cut (word_sizes n e) w₂ ≡ set ws₁ 10 ss₂
        words-cut = cut-set (word_sizes n e) w₁ 10 (s.zones + 1) v (starts_at n e + s.zones + 1) (omega arith) (omega (arith, one-zone)) (omega arith)

        floats-cut : cut (float_sizes n e) f₂ ≡ set (cut (float_sizes n e) f) 3 (set ms s.zones t.moles)
        floats-cut = cut-set (float_sizes n e) f 3 s.zones t.moles (moles_at n e + s.zones) (omega arith) one-zone (omega arith)

        starts-were : ss₁ ≡ get_or ws 10 []
        unfolding link.reach_view
        starts-were = ap (λ (x : FillView). x.still.starts) (came [])

        starts-long : length ss₁ ≡ n + 1
        starts-long = cut-length (word_sizes n e) w₁ 10 (omega arith) (omega (arith, B.fit.words))

        moles-long : length ms ≡ n
        moles-long = cut-length (float_sizes n e) f 3 (omega arith) (omega (arith, st.floats))

        start-new : get_or ss₂ (s.zones + 1) 0 ≡ v
        start-new = get_or-set_same ss₁ (s.zones + 1) v 0 (omega (arith, starts-long, one-zone))

        start-old : (i : ℕ) → i ≤ s.zones → get_or ss₂ i 0 ≡ get_or (get_or ws 10 []) i 0
        start-old i l = get_or-set_other ss₁ (s.zones + 1) i v 0 (λ x. omega (arith, x)) ∙ ap (λ (x : List ℕ). get_or x i 0) starts-were

        last-zone : (es : List Event) → zone_in ss₂ (get_or ws₁ 11 []) (set ms s.zones t.moles) s.zones ≡ record { nodes = (T es).reach.nodes; moles = (T es).moles }
        unfolding link.reach_view
        last-zone es =
            let size : v - s.nodes ≡ t.reach.nodes = omega arith in
            rw (start-new, start-old s.zones (omega arith), st.last, get_or-set_same ms s.zones t.moles nan (rw moles-long one-zone), size)
            (ap (λ (x : FillView). record { nodes = x.fill.reach.nodes; moles = x.fill.moles }) (came es))

        zones-kept : (es : List Event) → map (zone_in ss₂ (get_or ws₁ 11 []) (set ms s.zones t.moles)) (up_from 0 (s.zones + 1))
            ≡ snoc (map (zone_in (get_or ws 10 []) (get_or ws 11 []) ms) (up_from 0 s.zones)) (record { nodes = (T es).reach.nodes; moles = (T es).moles })
        zones-kept es =
            zones-more s.zones ss₂ (get_or ws₁ 11 []) (set ms s.zones t.moles)
            ∙ ap₂ (λ (x : List Zone) (y : Zone). snoc x y)
            (zones-like s.zones (get_or ws 10 []) ss₂ (get_or ws 11 []) (get_or ws₁ 11 []) ms (set ms s.zones t.moles)
            (λ j l. (start-old j (omega arith), (start-old (j + 1) (omega arith), get_or-set_other ms s.zones j t.moles nan (λ x. omega (arith, x)))))
            s.nodes nodes-were (λ j l. (st.rise j l, st.below (j + 1) (omega arith))))
            (last-zone es)
          where
            nodes-were : take s.nodes (get_or ws₁ 11 []) ≡ take s.nodes (get_or ws 11 [])
            nodes-were = unfold link.reach_view in ap (λ (x : FillView). x.still.before) (came [])

        kept-view : (es : List Event) → filled_view_in r₂ (es ++ B.does.more) (set ws₁ 10 ss₂) (set (cut (float_sizes n e) f) 3 (set ms s.zones t.moles))
            ≡ record { filled = after_fill (T es) (filled_view n e s w f es).filled; around = (filled_view n e s w f es).around }
        unfolding filled_view link.reach_view after_fill
        kept-view es =
            let X = came es in
            let ig' : (T es).reach.ignored ≡ false = sym (ap (λ (x : FillView). x.fill.reach.ignored) X) ∙ ig in
            λ i. record {
              filled = record {
                found = ap (λ (x : FillView). x.fill.reach.found) X i;
                owner = (ap (λ (x : FillView). x.fill.reach.owner) X ∙ sym (ap (λ (c : Bool). cond c owner₀ (T es).reach.owner) ig')) i;
                zones = (zones-kept es ∙ sym (ap (λ (c : Bool). cond c (filled_view n e s w f es).filled.zones (snoc (filled_view n e s w f es).filled.zones (record { nodes = (T es).reach.nodes; moles = (T es).moles }))) ig')) i;
                tests = ap (λ (x : FillView). x.fill.tests) X i;
                events = ap (λ (x : FillView). x.fill.reach.events) X i;
                cancelled = ap (λ (x : FillView). is_over x.fill.state) X i;
              };
              around = record {
                reverse = ap (λ (x : FillView). x.still.reverse) X i;
                met = ap (λ (x : FillView). x.still.met) X i;
                fast = ap (λ (x : FillView). x.still.fast) X i;
                list = ap (λ (x : FillView). x.still.list) X i;
                cursor = ap (λ (x : FillView). x.still.cursor) X i;
                live = ap (λ (x : FillView). x.still.live) X i;
                rest_w = ap (λ (x : FillView). x.still.rest) X i;
                weight = get_or (cut (float_sizes n e) f) 0 [];
                states = get_or (cut (float_sizes n e) f) 1 [];
                lifted = get_or (cut (float_sizes n e) f) 2 [];
                rest_r = get_or (cut (float_sizes n e) f) 4 [];
              };
            }

        owner-left : s.nodes + t.reach.nodes + zeros (owner_in e w₁) ≤ s.zones + 1 + e
        unfolding link.reach_view
        owner-left = omega (arith, B.bounds.nodes, nodes-length B.fit [])

        kept-stored : Stored n e r₂ w₂ f₂
        kept-stored = record {
          sizes = st.sizes;
          words = rw (length-set w₁ (starts_at n e + s.zones + 1) v) B.fit.words;
          floats = rw (length-set f (moles_at n e + s.zones) t.moles) st.floats;
          zones = omega (arith, one-zone);
          first = now 0 ∙ start-old 0 (omega arith) ∙ st.first;
          last = now (s.zones + 1) ∙ start-new;
          rise = λ i l. rise i l (dec_lt i s.zones);
          below = λ i l. rw (now i) (below i l (dec_lt s.zones i));
          nodes = subst (λ (x : List ℕ). v + zeros x ≤ s.zones + 1 + e) (sym (ap (λ (x : List (List ℕ)). get_or x 0 []) words-cut)) owner-left;
        }
          where
            now : (i : ℕ) → get_or (starts_in n e w₂) i 0 ≡ get_or ss₂ i 0
            now i = ap (λ (x : List (List ℕ)). get_or (get_or x 10 []) i 0) words-cut

            below : (i : ℕ) → i ≤ s.zones + 1 → Dec (s.zones < i) → get_or ss₂ i 0 ≤ v
            below i l (yes x) = let p : i ≡ s.zones + 1 = omega arith in rw p (omega (arith, start-new))
            below i l (no x) = omega (arith, start-old i (omega arith), st.below i (omega arith))

            rise : (i : ℕ) → i < s.zones + 1 → Dec (i < s.zones) → get_or (starts_in n e w₂) i 0 ≤ get_or (starts_in n e w₂) (i + 1) 0
            rise i l (yes x) = rw (now i, now (i + 1), start-old i (omega arith), start-old (i + 1) (omega arith)) (st.rise i x)
            rise i l (no x) =
                let p : i ≡ s.zones = omega arith in
                rw (now i, now (i + 1), p, start-new, start-old s.zones (omega arith), st.last) (omega arith)

        pub kept_fills : {r : Filling} {w' : List ℕ} {f' : List Float} → Keeps n e s t r w₁ w' f f' → Fills n e (hot_row b gas q (Some row)) s r w w' f f' area area₁
        kept_fills {r} {w'} {f'} k =
            subst (λ (x : List Float). Fills n e (hot_row b gas q (Some row)) s r w w' f x area area₁) (sym k.floats)
            (subst (λ (x : List ℕ). Fills n e (hot_row b gas q (Some row)) s r w x f f₂ area area₁) (sym k.words)
            (subst (λ (x : Filling). Fills n e (hot_row b gas q (Some row)) s x w w₂ f f₂ area area₁) (sym k.answer) (record {
              stored = kept-stored;
              does = record {
                more = B.does.more;
                same = λ es. seen es ∙ kept-view es ∙ ap (λ (x : Filled). on_filled (λ _. x) (filled_view n e s w f es)) (step es);
                wrote = B.does.wrote;
              };
            })))
          where
            seen : (es : List Event) → filled_view n e r₂ w₂ f₂ (es ++ B.does.more) ≡ filled_view_in r₂ (es ++ B.does.more) (set ws₁ 10 ss₂) (set (cut (float_sizes n e) f) 3 (set ms s.zones t.moles))
            seen es = unfold filled_view in ap₂ (filled_view_in r₂ (es ++ B.does.more)) words-cut floats-cut

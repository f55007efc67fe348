-- Edge by edge: links with nothing to send are passed over, and one that has something is sent, so what is left to send falls by one. Assumes nothing.
use mathlib.Core.Path.{◌≡◌, refl, ap, ap₂, ◌∙◌, sym, subst}
use mathlib.Core.List.{List}
use mathlib.Core.Bool.{Bool, true, false, ◌&&◌}
use Prim.Native.Nat.{ℕ, zero, suc, ◌+◌, ◌-◌, ◌≤◌, ◌<◌}
use native.Mathlib.Omega.{arith}
use native.Mathlib.Nat.{le_trans, zero-add}
use lib.Dec.{eqb}
use lib.ListN.{length, get_or}
use lib.Ieee.{Float, nan, lt}
use Rattle.basics.specs.Loops.{run, up_from}
use Rattle.basics.specs.Floats.{0f}
use Rattle.basics.specs.Lists.{one, count}
use Rattle.basics.proofs.Tests.{both, differ}
use Rattle.basics.proofs.Loops.{up-cons}
use Rattle.rules_board.specs.Board.{Board, turf_count, link_count, mixture_count, mix_of, end}
use Rattle.turfs.specs.Tables.{Accepted}
use Rattle.rules_mixture.specs.Mixture.{total}
use Rattle.mixture.specs.Held.{HoldsGas}
use Rattle.mixture.proofs.Parts.{holds_of}
use Rattle.reverse_links.specs.Reverse.{InRow}
use Rattle.rules_plan.specs.Edges.{owned}
use Rattle.laws_plan.proofs.Sizes.{alter-size}
use Rattle.plan_edges.specs.Steps.{back_link}
use Rattle.plan_state.proofs.Links.{reverse-within}
use Rattle.rules_finish.specs.Lifted.{above, pending, Held, send_held}
use Rattle.laws_finish.proofs.Weights.{Below, alter-below, alter-less}
use Rattle.laws_finish.proofs.Unfinished.{unfinished-below}
use Rattle.scratch.specs.View.{owner_in, reverse_in}
use Rattle.finish_send.specs.Areas.{FinishAreas, lifted_from, weight_on, lifted_on, Shows, FinishFits, Kept}
use Rattle.finish_send.specs.Sending.{is_marked, Next, SendFits, Sends, pair_as, to_send, Going, Progress, SentTo}
use Rattle.finish_send.proofs.Ranges.{run-parts, run-last, run_none, run-idle}
use Rattle.finish_send.proofs.Shown.{owner_at, reverse-at, lifted-at, kept-none, kept_then, sent_kept, sent_lifted, sent_weight, sent_used, sent_shows}

-- ---- how many pass

count_same : (p q : ℕ → Bool) (a n : ℕ) → ((j : ℕ) → a ≤ j → j < a + n → p j ≡ q j) → count p (up_from a n) ≡ count q (up_from a n)
unfolding count up_from
count_same p q a zero h = refl
count_same p q a (suc n) h = ap₂ (λ (x y : ℕ). x + y) (ap one (h a (omega arith) (omega arith))) (count_same p q (suc a) n (λ j l u. h j (omega arith) (omega arith)))

module _ (p : ℕ → Bool) where
  -- this one and the rest
  count-here : (k to : ℕ) → k < to → count p (up_from k (to - k)) ≡ one (p k) + count p (up_from (k + 1) (to - (k + 1)))
  unfolding count
  count-here k to h = ap (count p) (up-cons k to h)

  -- none of those before m
  count-skip : (k n m to : ℕ) → m ≡ k + n → m ≤ to → ((j : ℕ) → k ≤ j → j < m → p j ≡ false) → count p (up_from k (to - k)) ≡ count p (up_from m (to - m))
  count-skip k zero m to e h none = let q : m ≡ k = omega arith in ap (λ (i : ℕ). count p (up_from i (to - i))) (sym q)
  count-skip k (suc n) m to e h none =
      count-here k to (omega arith) ∙ ap (λ (x : Bool). one x + count p (up_from (k + 1) (to - (k + 1)))) (none k (omega arith) (omega arith)) ∙ zero-add (count p (up_from (k + 1) (to - (k + 1))))
      ∙ count-skip (k + 1) n m to (omega arith) h (λ j l u. none j (omega arith) u)

module _ (b : Board) (words : List ℕ) (z k to : ℕ) (h : to ≤ link_count b) where
  -- what the zone's links hold decides
  pub to-send_alike : (f f' : List Float) → ((j : ℕ) → k ≤ j → j < to → owned b (owner_in (link_count b) words) z j ≡ true → get_or (lifted_on b f') j nan ≡ get_or (lifted_on b f) j nan)
      → to_send b words f' z k to ≡ to_send b words f z k to
  unfolding to_send
  to-send_alike f f' e = count_same (is_marked words f' z (lifted_from b) true) (is_marked words f z (lifted_from b) true) k (to - k) (λ j l u. each j l (omega arith))
    where
      each : (j : ℕ) → k ≤ j → j < to → is_marked words f' z (lifted_from b) true j ≡ is_marked words f z (lifted_from b) true j
      each j l u = go (eqb (get_or words j 0) (z + 1)) refl
        where
          go : (t : Bool) → eqb (get_or words j 0) (z + 1) ≡ t → t && above (get_or f' (lifted_from b + j) nan) ≡ t && above (get_or f (lifted_from b + j) nan)
          go true o =
              ap above (lifted-at b f' j (omega arith) ∙ e j l u (ap (λ (x : ℕ). eqb x (z + 1)) (sym (owner_at (link_count b) j words (omega arith))) ∙ o) ∙ sym (lifted-at b f j (omega arith)))
          go false o = refl

  to-send_same : (f f' : List Float) → lifted_on b f' ≡ lifted_on b f → to_send b words f' z k to ≡ to_send b words f z k to
  to-send_same f f' e = to-send_alike f f' (λ j l u o. ap (λ (x : List Float). get_or x j nan) e)

  to-send_skip : (f : List Float) (m : ℕ) → Next (is_marked words f z (lifted_from b) true) k to m → to_send b words f z k to ≡ to_send b words f z m to
  unfolding to_send
  to-send_skip f m n = count-skip (is_marked words f z (lifted_from b) true) k (m - k) m to (omega (arith, n.low)) n.high n.none

  to-send_here : (f : List Float) → k < to → is_marked words f z (lifted_from b) true k ≡ true → to_send b words f z k to ≡ 1 + to_send b words f z (k + 1) to
  unfolding to_send
  to-send_here f l t = count-here (is_marked words f z (lifted_from b) true) k to l ∙ ap (λ (x : Bool). one x + count (is_marked words f z (lifted_from b) true) (up_from (k + 1) (to - (k + 1)))) t

-- ---- one link

pub ready-kept : {b : Board} {words : List ℕ} {a a' : FinishAreas} → FinishFits b words a.gas a.floats → Kept b a a' → FinishFits b words a'.gas a'.floats
ready-kept {b} r k = record {
  board = subst (λ (n : ℕ). Accepted b n) (sym k.gas) r.board;
  linked = r.linked;
  reverse = r.reverse;
  words = r.words;
  floats = omega (arith, r.floats, k.floats);
}

module _ (b : Board) (words : List ℕ) (stop : Bool) (z r : ℕ) where
  abbrev owner : List ℕ
  owner = owner_in (link_count b) words

  abbrev P : List Float → ℕ → Bool
  P f = is_marked words f z (lifted_from b) true

  -- the definition's test is the code's
  pub test_is : (a : FinishAreas) (h : Held) (k : ℕ) → Shows b a h → k < link_count b → owned b owner z k && above (get_or h.lifted k nan) ≡ P a.floats k
  test_is a h k v l =
      ap₂ (λ (x : ℕ) (y : Float). eqb x (z + 1) && above y) (sym (owner_at (link_count b) k words l)) (ap (λ (l : List Float). get_or l k nan) (sym v.lifted) ∙ sym (lifted-at b a.floats k l))

  pair_idle : (f : ℕ → Held → Held) (a : FinishAreas) (h : Held) (k : ℕ) → Shows b a h → k < link_count b → P a.floats k ≡ false → pair_as b owner z stop f r k h ≡ h
  unfolding pair_as
  pair_idle f a h k v l t = rw (test_is a h k v l ∙ t)

  pair_sends : (f : ℕ → Held → Held) (a : FinishAreas) (h : Held) (k : ℕ) → Shows b a h → k < link_count b → P a.floats k ≡ true
      → stop && lt (total b a.gas r) (get_or a.floats (lifted_from b + k) nan) ≡ false → pair_as b owner z stop f r k h ≡ send_held b owner z r k (get_or a.floats (lifted_from b + k) nan) h
  unfolding pair_as
  pair_sends f a h k v l t e =
      let x : get_or h.lifted k nan ≡ get_or a.floats (lifted_from b + k) nan = ap (λ (l : List Float). get_or l k nan) (sym v.lifted) ∙ sym (lifted-at b a.floats k l) in
      let s : stop && lt (total b h.done.gas r) (get_or h.lifted k nan) ≡ false = ap₂ (λ (g : List Float) (y : Float). stop && lt (total b g r) y) (sym v.gas) x ∙ e in
      rw (test_is a h k v l ∙ t, s, x)

  module _ (from to : ℕ) (a : FinishAreas) where
    abbrev Made : ℕ → FinishAreas → Type 0
    Made at a' = Progress b words stop z r from to at a a'

    pub made_none : from ≤ to → Made from a
    made_none h = record {
      kept = kept-none b a;
      low = omega arith;
      high = h;
      lifted = refl;
      fewer = omega arith;
      room = omega arith;
      shows = λ f h' v. subst (Shows b a) (sym (run_none (pair_as b owner z stop f r) from h')) v;
    }

    module _ (e : to ≤ link_count b) where
      -- links with nothing to send
      pub made-skip : (i k : ℕ) (a' : FinishAreas) → Made i a' → Next (P a'.floats) i to k → Made k a'
      made-skip i k a' m n = record {
        kept = m.kept;
        low = omega (arith, m.low, n.low);
        high = n.high;
        lifted = m.lifted;
        fewer = m.fewer;
        room = omega (arith, m.room, to-send_skip b words z i to e a'.floats k n);
        shows = λ f h v.
            let F = pair_as b owner z stop f r in
            let g = run F (up_from from (i - from)) h in
            let w : Shows b a' g = m.shows f h v in
            subst (Shows b a')
            (sym (run-parts F from i k h m.low n.low
            ∙ run-idle F i (k - i) g (λ j l u. pair_idle f a' g j w (omega (arith, u, n.low, n.high, e)) (n.none j l (omega (arith, u, n.low))))))
            w;
      }

      -- a link that has something to send
      pub made-send : (k : ℕ) (a' a'' : FinishAreas) → Made k a' → FinishFits b words a.gas a.floats → r < turf_count b → InRow b.starts r k → k < to → P a'.floats k ≡ true
          → stop && lt (total b a'.gas r) (get_or a'.floats (lifted_from b + k) nan) ≡ false
          → Sends b r k z (get_or a'.floats (lifted_from b + k) nan) words a' a''
          → Made (k + 1) a''
      made-send k a' a'' m ready row i l t enough s =
          let below : k < link_count b = omega arith in
          let x = get_or a'.floats (lifted_from b + k) nan in
          let ready' = ready-kept ready m.kept in
          let lifted = sent_lifted b words z r k a' a'' ready' row i below x s in
          let back = back_link (reverse_in (link_count b) words) owner z k in
          let weight = sent_weight b words z r k a' a'' ready' row i below x s in
          record {
            kept = kept_then m.kept (sent_kept b words z r k a' a'' ready' row i below x s);
            low = omega (arith, m.low);
            high = omega arith;
            lifted = lifted ∙ m.lifted;
            fewer = le_trans (unfinished-below b owner z _ _ (subst (λ (w : List Float). Below w (weight_on b a'.floats)) (sym weight) (alter-below back (weight_on b a'.floats) (weight_on b a'.floats) (λ j o. o)))) m.fewer;
            room =
                let less : pending (weight_on b a''.floats) ≤ pending (weight_on b a'.floats) = subst (λ (w : List Float). pending w ≤ pending (weight_on b a'.floats)) (sym weight) (alter-less back (weight_on b a'.floats)) in
                omega (arith, m.room, less, sent_used b words z r k a' a'' ready' row i below x s, to-send_same b words z (k + 1) to e a'.floats a''.floats lifted, to-send_here b words z k to e a'.floats l t);
            shows = λ f h v.
                let F = pair_as b owner z stop f r in
                let g = run F (up_from from (k - from)) h in
                let w : Shows b a' g = m.shows f h v in
                subst (Shows b a'') (sym (run-last F from k h m.low ∙ pair_sends f a' g k w below t enough)) (sent_shows b words z r k a' a'' ready' row i below x s g w);
          }

pub sent_size : {b : Board} {r k z : ℕ} {x : Float} {words : List ℕ} {a a' : FinishAreas} → Sends b r k z x words a a' → length a'.floats ≡ length a.floats
sent_size {b = b} {k = k} {z = z} {words = words} {a = a} s = ap length s.weights ∙ alter-size (back_link (reverse_in (link_count b) words) (owner_in (link_count b) words) z k) (λ y. 0f) a.floats

-- ---- the loop, whose lifted weights start at `up`

-- at the loop's head
pub record At (b : Board) (words : List ℕ) (stop : Bool) (z r up from to : ℕ) (a : FinishAreas) (k : ℕ) (a' : FinishAreas) : Type 0 where
  pub made : Progress b words stop z r from to k a a'
  pub here : k < to → is_marked words a'.floats z up true k ≡ true

module _ (b : Board) (words : List ℕ) (stop : Bool) (z r up from to : ℕ) (a : FinishAreas) (u : up ≡ lifted_from b) (g : Going b words z r from to a) where
  within : to ≤ link_count b
  within = le_trans g.high (g.ready.linked.within r g.row)

  in_row : (k : ℕ) → from ≤ k → k < to → InRow b.starts r k
  in_row k l h = record { from = omega (arith, g.low); to = omega (arith, g.high) }

  abbrev Here : ℕ → FinishAreas → Type 0
  Here k a' = At b words stop z r up from to a k a'

  -- what the calls in the loop ask
  pub few-links : to ≤ 24576
  few-links = omega (arith, within, g.ready.board.links)

  pub edge-room : (k : ℕ) (f : List Float) → length f ≡ length a.floats → k ≤ to → (z < 4096) × ((k ≤ to) × ((to ≤ length words) × (up + to ≤ length f)))
  edge-room k f q l = let e = within in (g.zone, (l, (omega (arith, g.ready.words), omega (arith, u, g.ready.floats, q))))

  pub total-room : (a' : FinishAreas) → Kept b a a' → (r < length b.mixtures) × HoldsGas a'.gas b.gases (mix_of b r)
  total-room a' q = (
    omega (arith, g.ready.board.mixes, g.row),
    holds_of a'.gas (mixture_count b) b.gases (mix_of b r) (q.gas ∙ g.ready.board.fits) (g.ready.board.mixed r),
  )

  found : (i k : ℕ) (a' : FinishAreas) → Progress b words stop z r from to i a a' → Next (is_marked words a'.floats z up true) i to k → Here k a'
  found i k a' m n = record {
    made = made-skip b words stop z r from to a within i k a' m (subst (λ (x : ℕ). Next (is_marked words a'.floats z x true) i to k) u n);
    here = n.here;
  }

  pub loop-start : (k : ℕ) → Next (is_marked words a.floats z up true) from to k → Here k a
  loop-start k n = found from k a (made_none b words stop z r from to a g.order) n

  pub send-fits : (k : ℕ) (a' : FinishAreas) → Here k a' → k < to
      → SendFits b r k z (get_or a'.floats (up + k) nan) words a'
  send-fits k a' m l =
      let p = m.made in
      let rd = ready-kept g.ready p.kept in
      let e : to ≤ link_count b = within in
      let here = subst (λ (x : ℕ). is_marked words a'.floats z x true k ≡ true) u (m.here l) in
      let n = to-send_here b words z k to within a'.floats l here in
      record {
        zone = g.zone;
        turfs = rd.board.turfs.1;
        links = rd.board.links;
        link = omega (arith, e);
        area = rd.words;
        back = subst (λ (x : ℕ). x ≤ link_count b) (sym (reverse-at (link_count b) k words (omega (arith, e))))
            (reverse-within b (turf_count b) rd.linked (owner_in (link_count b) words) z (reverse_in (link_count b) words) rd.reverse r k g.row (in_row k p.low l));
        weights = omega (arith, rd.floats);
        rows = (g.row, rd.board.ends k);
        moves = record {
          small = omega (arith, rd.board.mixes, rd.board.turfs.1);
          mixed = (omega (arith, rd.board.mixes, g.row), omega (arith, rd.board.mixes, rd.board.ends k));
          mixes = (rd.board.mixed r, rd.board.mixed (end b k));
          amounts = rd.board.fits;
        };
        room = omega (arith, p.room, n, g.room, p.kept.events);
        positive = (both (eqb (get_or words k 0) (z + 1)) (above (get_or a'.floats (up + k) nan)) (m.here l)).1;
      }

  pub loop-next : (k j : ℕ) (a' a'' : FinishAreas) (has : Float) (short : Bool) → Here k a' → k < to → has ≡ total b a'.gas r → short ≡ false
      → short ≡ stop && lt has (get_or a'.floats (up + k) nan)
      → Sends b r k z (get_or a'.floats (up + k) nan) words a' a''
      → Next (is_marked words a''.floats z up true) (k + 1) to j → Here j a''
  loop-next k j a' a'' has short m l t q is s n =
      found (k + 1) j a''
      (made-send b words stop z r from to a within k a' a'' m.made g.ready g.row (in_row k m.made.low l) l (subst (λ (x : ℕ). is_marked words a'.floats z x true k ≡ true) u (m.here l))
      (subst (λ (x : ℕ). stop && lt (total b a'.gas r) (get_or a'.floats (x + k) nan) ≡ false) u (ap (λ (y : Float). stop && lt y (get_or a'.floats (up + k) nan)) (sym t) ∙ sym is ∙ q))
      (subst (λ (x : ℕ). Sends b r k z (get_or a'.floats (x + k) nan) words a' a'') u s)) n

  pub stopped : (k : ℕ) (a' : FinishAreas) (has : Float) (short : Bool) → Here k a' → k < to → has ≡ total b a'.gas r → short ≡ true
      → short ≡ stop && lt has (get_or a'.floats (up + k) nan)
      → SentTo b words stop z r from to k a a'
  stopped k a' has short m l t q is =
      let s = both stop (lt has (get_or a'.floats (up + k) nan)) (sym is ∙ q) in
      record {
        made = m.made;
        whole = λ e. absurd (differ (sym s.0 ∙ e));
        short = λ h. (subst (λ (x : ℕ). is_marked words a'.floats z x true k ≡ true) u (m.here l), subst (λ (x : ℕ). lt (total b a'.gas r) (get_or a'.floats (x + k) nan) ≡ true) u (ap (λ (y : Float). lt y (get_or a'.floats (up + k) nan)) (sym t) ∙ s.1));
      }

  pub all-sent : (k : ℕ) (a' : FinishAreas) → Here k a' → to ≤ k → SentTo b words stop z r from to to a a'
  all-sent k a' m l =
      let e : k ≡ to = omega (arith, m.made.high) in
      record { made = subst (λ (x : ℕ). Progress b words stop z r from to x a a') e m.made; whole = λ q. refl; short = λ h. absurd (omega arith) }

-- The way back may pass over rows that have nothing to hand on and that no row points at. Assumes nothing.
use Prim.Native.Nat.{ℕ, zero, suc, ◌+◌, ◌-◌, ◌≤◌, ◌<◌}
use native.Mathlib.Omega.{arith}
use native.Mathlib.Nat.{add-zero, sub-zero}
use mathlib.Core.Path.{◌≡◌, refl, ap, ◌∙◌, sym, subst}
use mathlib.Core.Logic.{◌≢◌, ◌⊎◌, inl, inr}
use mathlib.Core.List.{List, [], ◌∷◌, reverse}
use mathlib.Core.Bool.{Bool, true, false, not, ◌&&◌, cond}
use lib.Dec.{eqb}
use lib.ListN.{length, get_or, set, take, drop, length-drop}
use lib.Seq.{get_or-take, get_or-drop, get_or-set_other, length-take-le}
use lib.Ieee.{Float, nan, ne}
use borrow.Author.Tests.{ne_eqb}
use Rattle.basics.specs.Floats.{0f, ◌+f◌}
use Rattle.std.specs.Prelude.{Some}
use Rattle.plan_edges.specs.Steps.{back_link}
use Rattle.basics.specs.Loops.{run}
use Rattle.basics.specs.Lists.{All}
use Rattle.basics.proofs.Loops.{All-imp, run-back, run-still}
use Rattle.basics.proofs.Lists.{All-back, All-each}
use Rattle.rules_plan.specs.Plan.{Plan, load}
use Rattle.plan_state.specs.Held.{Area, area, PlanView, plan_view, PlanDoes}
use Rattle.plan_state.proofs.Stores.{does-as, does-then}
use Rattle.plan_trade.specs.Search.{Seeking, seek_of, Idle, Within}
use Rattle.plan_trade.specs.Steps.{lesser, hand_on, drain_via}
use Rattle.plan_trade.proofs.Lessers.{lesser-left, lesser-right, lesser-is}
use Rattle.plan_drain.proofs.Drains.{take-few}
use Rattle.plan_trade.proofs.Nears.{Among, Near}

-- a queue from its end, in two parts
run-parts : {S : Type 0} (f : ℕ → S → S) (q : List ℕ) (from k to : ℕ) (s : S) → to ≡ from + k → to ≤ length q
    → run f (reverse (take to q)) s ≡ run f (reverse (take from q)) (run f (reverse (take k (drop from q))) s)
unfolding run
run-parts f q from zero to s e l = ap (λ (x : ℕ). run f (reverse (take x q)) s) (e ∙ add-zero from)
run-parts f q from (suc k) to s e l =
    let j : ℕ = from + k in
    let there : get_or (drop from q) k 0 ≡ get_or q j 0 = get_or-drop from q k 0 in
    run-back f q to j s (omega (arith, e)) (omega (arith, e, l))
    ∙ run-parts f q from k j (f (get_or q j 0) s) refl (omega (arith, e, l))
    ∙ ap (λ (x : ℕ). run f (reverse (take from q)) (run f (reverse (take k (drop from q))) (f x s))) (sym there)
    ∙ ap (run f (reverse (take from q))) (sym (run-back f (drop from q) (suc k) k s (omega arith) (omega (arith, e, l, length-drop from q))))

module _ (rev via : List ℕ) (z : ℕ) (o : List ℕ) where
  abbrev pub D : ℕ → Plan → Plan
  D r s = drain_via rev via z o r s

  keeps-direction : (r : ℕ) (s : Plan) → (D r s).direction ≡ s.direction
  unfolding drain_via hand_on
  keeps-direction r s = go (ne (load s r).amount 0f && not (eqb (load s r).direction 0))
    where
      go : (c : Bool) → (cond c (hand_on (back_link rev o z (get_or via r 0)) (Some (get_or via r 0)) r ((load s r).direction - 1) s) s).direction ≡ s.direction
      go true = refl
      go false = refl

  idle-stays : (r : ℕ) (s : Plan) → ne (get_or s.amount r nan) 0f ≡ false → D r s ≡ s
  unfolding drain_via
  idle-stays r s t = simp t

  -- a row that hands on changes its own amount and that of the row it points at
  keeps-amount : (b r : ℕ) (s : Plan) → b ≢ r → ((d : ℕ) → get_or s.direction r 0 ≡ d + 1 → b ≢ d) → get_or (D r s).amount b nan ≡ get_or s.amount b nan
  unfolding drain_via hand_on
  keeps-amount b r s h k = go (ne (load s r).amount 0f) (get_or s.direction r 0) refl
    where
      go : (c : Bool) (x : ℕ) → get_or s.direction r 0 ≡ x
          → get_or (cond (c && not (eqb x 0)) (hand_on (back_link rev o z (get_or via r 0)) (Some (get_or via r 0)) r (x - 1) s) s).amount b nan ≡ get_or s.amount b nan
      go false x e = refl
      go true zero e = refl
      go true (suc d) e =
          let t : ℕ = suc d - 1 in
          let y : Float = get_or s.amount t nan +f get_or s.amount r nan in
          rw (ne_eqb (suc d) 0 (λ q. absurd (omega (arith, q))))
          (get_or-set_other (set s.amount t y) r b 0f nan h ∙ get_or-set_other s.amount t b y nan (k t (e ∙ omega arith)))

  -- the row b is none of these, and none of these points at it
  abbrev Far : List ℕ → ℕ → ℕ → Type 0
  Far dirs b r = (b ≢ r) × ((d : ℕ) → get_or dirs r 0 ≡ d + 1 → b ≢ d)

  run-amount : (b : ℕ) (rs : List ℕ) (s : Plan) → All (Far s.direction b) rs → get_or (run D rs s).amount b nan ≡ get_or s.amount b nan
  unfolding run
  run-amount b [] s h = refl
  run-amount b (r ∷ rs) s h =
      run-amount b rs (D r s) (subst (λ (ds : List ℕ). All (Far ds b) rs) (sym (keeps-direction r s)) h.1) ∙ keeps-amount b r s h.0.0 h.0.1

  -- the first `low` rows come after those from `first` on
  module _ (q : List ℕ) (count first looked : ℕ) (s : Plan) (few : count ≤ length q) (before : first ≤ count) (seen : looked ≤ count)
      (apart : (i j : ℕ) → i < count → j < count → get_or q i 0 ≡ get_or q j 0 → i ≡ j)
      (near : (i : ℕ) → i < count → (d : ℕ) → get_or s.direction (get_or q i 0) 0 ≡ d + 1 → Among looked q d)
      (idle : (i : ℕ) → i < first → ne (get_or s.amount (get_or q i 0) nan) 0f ≡ false) where
    abbrev pub low : ℕ
    low = lesser first looked

    low_first : low ≤ first
    low_first = lesser-left first looked

    abbrev pub after : Plan
    after = run D (reverse (take (count - first) (drop first q))) s

    span-at : (from k i : ℕ) → i < length (take k (drop from q)) → get_or (take k (drop from q)) i 0 ≡ get_or q (from + i) 0
    span-at from k i l = get_or-take k (drop from q) i 0 (omega (arith, l, take-few k (drop from q))) ∙ get_or-drop from q i 0

    span_long : (from k i : ℕ) → i < length (take k (drop from q)) → i < k
    span_long from k i l = omega (arith, l, take-few k (drop from q))

    -- a row that is passed over
    far : (i : ℕ) → low ≤ i → i < first → (j : ℕ) → first ≤ j → j < count → Far s.direction (get_or q i 0) (get_or q j 0)
    far i lo hi j f c = (λ x. absurd (omega (arith, apart i j (omega arith) c x)), λ d t x. pointed d (near j c d t) x)
      where
        past : looked ≤ i
        past = pick (lesser-is first looked)
          where
            pick : (low ≡ first) ⊎ (low ≡ looked) → looked ≤ i
            pick (inl e) = absurd (omega (arith, e, lo, hi))
            pick (inr e) = omega (arith, e, lo)

        pointed : (d : ℕ) → Among looked q d → get_or q i 0 ≡ d → ⊥
        pointed d a x = absurd (omega (arith, past, a.below, apart i a.place (omega arith) (omega (arith, a.below, seen)) (x ∙ sym a.row)))

    passed : run D (reverse (take (first - low) (drop low q))) after ≡ after
    passed =
        run-still D (reverse (take (first - low) (drop low q))) after
        (All-imp (λ r. ne (get_or after.amount r nan) 0f ≡ false) (λ r. D r after ≡ after) (reverse (take (first - low) (drop low q))) (λ r t. idle-stays r after t) (All-back (λ r. ne (get_or after.amount r nan) 0f ≡ false) (take (first - low) (drop low q)) (All-each (λ r. ne (get_or after.amount r nan) 0f ≡ false) (take (first - low) (drop low q)) 0 (λ i l.
        let k : i < first - low = span_long low (first - low) i l in
        let hi : low + i < first = omega (arith, k) in
        let keeps : get_or after.amount (get_or q (low + i) 0) nan ≡ get_or s.amount (get_or q (low + i) 0) nan =
        run-amount (get_or q (low + i) 0) (reverse (take (count - first) (drop first q))) s
        (All-back _ (take (count - first) (drop first q)) (All-each _ (take (count - first) (drop first q)) 0 (λ j m.
        rw (span-at first (count - first) j m) (far (low + i) (omega arith) hi (first + j) (omega arith) (omega (arith, span_long first (count - first) j m)))))) in
        rw (span-at low (first - low) i l) (ap (λ (x : Float). ne x 0f) keeps ∙ idle (low + i) hi)))))

    pub skips : run D (reverse (take count q)) s ≡ run D (reverse (take low q)) after
    skips =
        run-parts D q first (count - first) count s (omega (arith, before)) few
        ∙ run-parts D q low (first - low) first after (omega (arith, low_first)) (omega (arith, before, few))
        ∙ ap (run D (reverse (take low q))) passed

-- ---- the way back by the code

-- what it reads, while only the floats change
pub rows-later : (n e count : ℕ) (w : List ℕ) (f f' : List Float)
    → ((i : ℕ) → i < count → (get_or (plan_view n e (area w f)).queue i 0 < n) × Within n e (plan_view n e (area w f)) (get_or (plan_view n e (area w f)).queue i 0))
    → (m : ℕ) → m ≤ count → (i : ℕ) → i < m → (get_or (plan_view n e (area w f')).queue i 0 < n) × Within n e (plan_view n e (area w f')) (get_or (plan_view n e (area w f')).queue i 0)
unfolding plan_view
rows-later n e count w f f' h m l i k = let g = h i (omega (arith, l)) in (g.0, record { at = g.1.at })

module _ (n e z count traded first looked low : ℕ) (w : List ℕ) (f : List Float) (h : Seeking n e count (area w f)) (ef : first ≡ lesser traded count) (el : low ≡ lesser first looked)
    (near : Near looked (seek_of (plan_view n e (area w f)) count looked)) (idle : Idle (plan_view n e (area w f)) count traded) where
  abbrev v : PlanView
  v = plan_view n e (area w f)

  long : length (take count v.queue) ≡ count
  long = length-take-le count v.queue (omega (arith, h.line.few, h.line.queue_n))

  pub first-few : first ≤ count
  first-few = omega (arith, ef, lesser-right traded count)

  pub low-few : low ≤ count
  low-few = omega (arith, el, lesser-left first looked, first-few)

  near-in : (i : ℕ) → i < count → (d : ℕ) → get_or v.plan.direction (get_or v.queue i 0) 0 ≡ d + 1 → Among looked v.queue d
  near-in i l d q =
      let a = near.at i (rw long l) d (rw (get_or-take count v.queue i 0 l) q) in
      record { place = a.place; below = a.below; row = sym (get_or-take count v.queue a.place 0 (omega (arith, a.below, near.within, long))) ∙ a.row }

  apart_in : (i j : ℕ) → i < count → j < count → get_or v.queue i 0 ≡ get_or v.queue j 0 → i ≡ j
  apart_in i j l m q = sym (h.line.placed i l) ∙ ap (λ (x : ℕ). get_or v.places x 0) q ∙ h.line.placed j m

  pub skipped : (f' : List Float) {B : Area} → PlanDoes n e (λ o p. run (drain_via (plan_view n e (area w f)).reverse (plan_view n e (area w f)).via z o) (reverse (take (count - first) (drop first (plan_view n e (area w f)).queue))) p) (area w f) (area w f')
      → PlanDoes n e (λ o p. run (drain_via (plan_view n e (area w f')).reverse (plan_view n e (area w f')).via z o) (reverse (take (low - 0) (drop 0 (plan_view n e (area w f')).queue))) p) (area w f') B
      → PlanDoes n e (λ o p. run (drain_via (plan_view n e (area w f)).reverse (plan_view n e (area w f)).via z o) (reverse (take count (plan_view n e (area w f)).queue)) p) (area w f) B
  unfolding plan_view
  skipped f' d d' =
      does-as (does-then _ d d')
      (rw (sub-zero, el)
      (sym (skips v.reverse v.via z v.owner v.queue count first looked v.plan (omega (arith, h.line.few, h.line.queue_n)) first-few (omega (arith, near.within, long)) apart_in near-in
      (λ i l. idle i (omega (arith, first-few)) (omega (arith, ef, lesser-left traded count))))))

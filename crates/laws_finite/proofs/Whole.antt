-- All weights that `planned_all` makes from the zones that filling keeps are finite. Assumes nothing.
use mathlib.Core.Path.{◌≡◌, sym, subst}
use mathlib.Core.Bool.{true, ◌&&◌, ◌||◌}
use mathlib.Core.List.{List, []}
use Prim.Native.Nat.{ℕ, zero, suc, ◌+◌, ◌*◌, ◌^◌, ◌≤◌, ◌<◌, zero-le}
use native.Mathlib.Decide.{dec_le}
use native.Mathlib.Omega.{arith}
use lib.Dec.{T, ltb}
use lib.ListN.{get_or-replicate, length, get_or, replicate, length-replicate}
use lib.Ieee.{Float, nan}
use Rattle.basics.specs.Loops.{run, times, every, up_from, snoc}
use Rattle.basics.specs.Floats.{0f, finite}
use Rattle.basics.specs.Lists.{All}
use Rattle.basics.proofs.Loops.{All-get_or, cond_both}
use Rattle.basics.proofs.Lists.{All-snoc}
use Rattle.rules_board.specs.Board.{Board, turf_count, link_count, planetary}
use Rattle.turfs.specs.Tables.{Accepted}
use Rattle.rules_mixture.specs.Mixture.{amount_fits}
use Rattle.rules_fill.specs.Fill.{Fill, is_on, end_fill, expand, pop, pop_next, fill}
use Rattle.rules_fill.specs.declared.Going.TheVariants.{Broken, Over}
use Rattle.rules_plan.specs.Plan.{Plan, planned_zone}
use Rattle.rules_finish.specs.Turns.{zone_at, nodes_at}
use Rattle.rules_equalize.specs.Equalize.{Ask, Filled, after_fill, fill_from, filled_all, planned_all}
use Rattle.laws_equalize.proofs.Hot.{Starts, fill-all_keeps}
use Rattle.laws_equalize.proofs.Zones.{zone-has}
use Rattle.laws_equalize.proofs.Ends.{fill-ends}
use Rattle.laws_equalize.proofs.Room.{weights-sized}
use Rattle.rules_events.specs.declared.Event.{Event}
use Rattle.laws_finite.proofs.Laws.{Within, within-add, within_more, within-zero, under_more, under_finite, zero-under}
use Rattle.laws_finite.proofs.Totals.{accepted-within}
use Rattle.laws_finite.proofs.Caps.{cap, Capped, capped_more}
use Rattle.laws_finite.proofs.Serves.{Delta}
use Rattle.laws_finite.proofs.Planning.{Between, zone-planned, zone-changes, total-unit}
use Rattle.laws_finite.proofs.Lists.{replicate-all}

module _ (b : Board) {n₀ : ℕ} (h : Accepted b n₀) (gas : List Float) (amounts : All (Within 40 1) gas) where
  -- ---- a zone's total

  module _ (limit allowance z : ℕ) where
    -- the total that filling has gathered
    abbrev Moles : ℕ → Fill → Type 0
    Moles m s = Within 46 m s.moles

    pop-moles : (m r : ℕ) (s : Fill) → m + 1 < 2 ^ 24 → Moles m s → Moles (m + 1) (pop b gas limit allowance z r s)
    unfolding pop end_fill expand
    pop-moles m r s l q =
        let more = within_more 46 (omega arith) m (m + 1) (omega arith) q in
        let planet = s.planet || planetary b r in
        cond_both (Moles (m + 1)) (ltb allowance (s.tests + 1)) (end_fill Over s.planet s) _ more
        (cond_both (Moles (m + 1)) (planet && ltb limit (length s.reach.nodes)) (end_fill Broken planet s) (expand b gas limit allowance z r planet s) more
        (within-add 46 (omega arith) m 1 (m + 1) (omega arith) l q (total-unit b h [] 0 0 gas amounts r)))

    next-moles : (m : ℕ) (s : Fill) → m + 1 < 2 ^ 24 → Moles m s → Moles (m + 1) (pop_next b gas limit allowance z s)
    unfolding pop_next
    next-moles m s l q =
        let r = get_or s.reach.queue s.popped 0 in
        cond_both (Moles (m + 1)) (is_on s.state && ltb s.popped (length s.reach.queue)) (pop b gas limit allowance z r s) s (pop-moles m r s l q) (within_more 46 (omega arith) m (m + 1) (omega arith) q)

    times-moles : (n m : ℕ) (s : Fill) → m + n < 2 ^ 24 → Moles m s → Moles (m + n) (times (pop_next b gas limit allowance z) n s)
    unfolding times
    times-moles zero m s l q = within_more 46 (omega arith) m (m + 0) (omega arith) q
    times-moles (suc n) m s l q =
        within_more 46 (omega arith) (m + 1 + n) (m + suc n) (omega arith)
        (times-moles n (m + 1) (pop_next b gas limit allowance z s) (omega arith) (next-moles m s (omega arith) q))

    fill-moles : (r : ℕ) (found owner : List ℕ) (events : List Event) (tests : ℕ) → Moles 4096 (fill b gas limit allowance z r found owner events tests)
    unfolding fill
    fill-moles r found owner events tests =
        let l = h.turfs.1 in
        within_more 46 (omega arith) (0 + turf_count b) 4096 (omega arith) (times-moles (turf_count b) 0 _ (omega arith) (within-zero 46 (omega arith) 0))

  module _ (q : Ask) where
    -- the totals of the zones so far
    abbrev Filling : Filled → Type 0
    Filling s = All (λ y. Within 46 4096 y.moles) s.zones

    from-filling : (r : ℕ) (s : Filled) → Starts b gas q r s → Filling s → Filling (fill_from b gas q r s)
    unfolding fill_from after_fill
    from-filling r s st f =
        let t = fill b gas q.limit q.allowance (length s.zones) r s.found s.owner s.events s.tests in
        cond_both (All (λ y. Within 46 4096 y.moles)) t.reach.ignored s.zones (snoc s.zones (record { nodes = t.reach.nodes; moles = t.moles })) f
        (All-snoc (λ y. Within 46 4096 y.moles) s.zones (record { nodes = t.reach.nodes; moles = t.moles }) f
        (fill-moles q.limit q.allowance (length s.zones) r s.found s.owner s.events s.tests))

    zones-moles : Filling (filled_all b gas q)
    zones-moles = fill-all_keeps b gas q Filling from-filling tt

    -- ---- every zone

    abbrev s : Filled
    s = filled_all b gas q

    abbrev top : ℕ
    top = zone-changes

    abbrev one : ℕ → Plan → Plan
    one z p = planned_zone b s.owner z gas (nodes_at s.zones z) (zone_at s.zones z).moles p

    one-planned : (z : ℕ) → z < length s.zones → (p : Plan) → Between b h s.owner z top gas amounts 0 p → Between b h s.owner z top gas amounts zone-changes (one z p)
    one-planned z l p v =
        let k = zone-has b h gas q z l in
        zone-planned b h s.owner z top gas amounts (nodes_at s.zones z) k.1 k.0 (zone_at s.zones z).moles
        (All-get_or (λ y. Within 46 4096 y.moles) s.zones z (record { nodes = []; moles = 0f }) zones-moles l) (λ k e. (fill-ends b gas q z k e).0) p v

    next-zone : (z : ℕ) (p : Plan) → Between b h s.owner z top gas amounts zone-changes p → Between b h s.owner (suc z) top gas amounts 0 p
    next-zone z p v = record {
      deltas_n = v.deltas_n;
      amounts_n = v.amounts_n;
      fast_n = v.fast_n;
      deltas = v.deltas;
      weighed = λ k l.
          let i = v.weighed k l in
          record {
            before = λ e. elim (dec_le (get_or s.owner k 0) z) [ yes y ↦ i.before y | no n ↦ i.here (omega arith) ];
            here = λ e. i.after (omega arith);
            after = λ e. i.after (omega arith);
          };
    }

    zones-planned : (n a : ℕ) (p : Plan) → a + n ≤ length s.zones → Between b h s.owner a top gas amounts 0 p → Between b h s.owner (a + n) top gas amounts 0 (run one (up_from a n) p)
    unfolding run up_from
    zones-planned zero a p l v = subst (λ z. Between b h s.owner z top gas amounts 0 p) (omega arith) v
    zones-planned (suc n) a p l v =
        subst (λ z. Between b h s.owner z top gas amounts 0 (run one (up_from (suc a) n) (one a p))) (omega arith)
        (zones-planned n (suc a) (one a p) (omega arith) (next-zone a (one a p) (one-planned a (omega arith) p v)))

    all-planned : Between b h s.owner (0 + length s.zones) top gas amounts 0 (planned_all b gas s)
    unfolding planned_all
    all-planned = zones-planned (length s.zones) 0 _ (omega arith) (record {
      deltas_n = length-replicate (turf_count b) 0f;
      amounts_n = length-replicate (turf_count b) 0f;
      fast_n = length-replicate (turf_count b) 0;
      deltas = replicate-all Delta (turf_count b) 0f (within-zero 48 (omega arith) 16777215);
      weighed = λ k l.
          let e = get_or-replicate (link_count b) k 0f nan (subst (λ n. k < n) (length-replicate (link_count b) 0f) l) in
          let f : (t : ℕ) → Capped 84 t (get_or (replicate (link_count b) 0f) k nan) = λ t. subst (λ x. Capped 84 t x) (sym e) (under_more (cap t * 2 ^ 84) zero-le zero-under) in
          record { before = λ i. f top; here = λ i. f 0; after = λ i. f 0 };
    })

    -- a weight is no more than cap 33603584 * 2 ^ 84, below 2 ^ 112
    pub weight-capped : (k : ℕ) → k < link_count b → Capped 84 zone-changes (get_or (planned_all b gas s).weight k nan)
    weight-capped k l =
        let i = all-planned.weighed k (subst (λ n. k < n) (sym (weights-sized b gas s)) l) in
        elim (dec_le (get_or s.owner k 0) (0 + length s.zones)) [
          | yes y ↦ i.before y
          | no n ↦ elim (dec_le (get_or s.owner k 0) (0 + length s.zones + 1)) [
            | yes y ↦ capped_more 84 (omega arith) 0 zone-changes (i.here (omega arith))
            | no m ↦ capped_more 84 (omega arith) 0 zone-changes (i.after (omega arith))
          ]
        ]

-- Every weight that is planned is finite.
pub weights-finite : (b : Board) {n : ℕ} → Accepted b n → (gas : List Float) → every amount_fits gas ≡ true → (q : Ask) (k : ℕ) → k < link_count b
    → T (finite (get_or (planned_all b gas (filled_all b gas q)).weight k nan))
weights-finite b h gas e q k l = under_finite (weight-capped b h gas (accepted-within gas e) q k l)

-- The gas stays finite along finishing: a move adds 128 units of 2 ^ 40 at most to all mixtures together, and each positive weight makes one move. Assumes nothing.
use mathlib.Core.Path.{◌≡◌, refl, sym, ap, ◌∙◌, subst}
use mathlib.Core.Bool.{Bool, true, false, cond}
use mathlib.Core.List.{List, [], ◌∷◌, map}
use Prim.Native.Nat.{ℕ, zero, suc, ◌+◌, ◌*◌, ◌^◌, ◌≤◌, ◌<◌, zero-le}
use native.Mathlib.Nat.{le_trans, le_of_eq, mul-le-mul}
use native.Mathlib.Omega.{arith}
use lib.Dec.{T, eqb, ltb}
use lib.ListN.{length, get_or, take, drop, length-take, length-map}
use lib.Ieee.{Float, nan, inf, fin, lt, of_bits, of_fields, odd}
use Rattle.basics.specs.Loops.{run, every}
use Rattle.basics.specs.Floats.{0f, ◌+f◌, finite, finite_sign_clear}
use Rattle.basics.specs.Lists.{All, count}
use Rattle.basics.proofs.Loops.{All-any, All-map, every-all, keep_all, run-keeps, cond_both}
use Rattle.basics.proofs.Lists.{All-drop, count-length, All-take}
use Rattle.basics.proofs.Tests.{differ}
use lib.Ieee.Bits.{is_true}
use Rattle.rules_board.specs.Board.{Board, link_count, mixture_count, mix_of, immutable_mix}
use Rattle.turfs.specs.Tables.{Accepted}
use Rattle.rules_mixture.specs.Mixture.{sum, total, part, amounts, move_air, amount_fits, ratio}
use Rattle.mixture.proofs.Parts.{Fits, move-fits, move_apart}
use Rattle.rules_plan.specs.Edges.{alter, edges_of, edge}
use Rattle.rules_finish.specs.Finish.{Done, Pair, positive, negative, pairs, finish_givers, send, finish_pair, finish}
use Rattle.rules_finish.specs.Turns.{Zone, finish_all}
use Rattle.laws_finish.specs.Jobs.{turn_order, work}
use Rattle.laws_finish.proofs.ByTurns.{by_order}
use Rattle.rules_finish.specs.Lifted.{pending}
use Rattle.laws_finish.proofs.Weights.{lift_count, pairs-count, alter-less, edges_apart}
use Rattle.laws_finite.proofs.Laws.{Under, under, exact, Up, up_fin, under_finite}
use Rattle.laws_finite.proofs.Shares.{all}
use Rattle.laws_finite.proofs.Totals.{fits-within}
use Rattle.laws_finite.proofs.Ratios.{Clear, clear, clear-under, add-clear, Unit-part, ratio-part}
use Rattle.laws_finite.proofs.Air.{all_split, Ranked, ranked_take, ranked_drop, Moved, move_ranked}
use Rattle.laws_finite.proofs.EachKind.{Fin, Amount}
use Rattle.laws_finite.proofs.Sends.{Sendable, lift_sendable, alter-sendable, pairs-amount, planned-sendable}
use Rattle.rules_equalize.specs.Equalize.{Ask, Equalized, filled_all, planned_all, planned, cancel, played, equalize}

zero_clear : (B : ℕ) → Clear B 0f
unfolding of_bits of_fields odd
zero_clear B = clear zero-le

-- ---- a mixture's total

sum-from : (ms : List ℕ) (xs : List Float) (t : Float) (m : ℕ) → m + all ms < 2 ^ 24 → Ranked ms xs → Clear (m * 2 ^ 40) t → Clear ((m + all ms) * 2 ^ 40) (run (λ x t. t +f x) xs t)
unfolding run all
sum-from [] [] t m l r p = subst (λ n. Clear (n * 2 ^ 40) t) (omega arith) p
sum-from [] (x ∷ xs) t m l r p = absurd r
sum-from (a ∷ ms) [] t m l r p = absurd r
sum-from (a ∷ ms) (x ∷ xs) t m l r p =
    subst (λ n. Clear (n * 2 ^ 40) (run (λ x t. t +f x) xs (t +f x))) (omega arith)
    (sum-from ms xs (t +f x) (m + a) (omega arith) r.1 (add-clear ((m + a) * 2 ^ 40) (exact (m + a) 40 (omega arith) (omega arith)) (omega arith) p r.0))

sum-clear : (ms : List ℕ) (xs : List Float) → all ms < 2 ^ 24 → Ranked ms xs → Clear ((0 + all ms) * 2 ^ 40) (sum xs)
unfolding sum
sum-clear ms xs l r = sum-from ms xs 0f 0 (omega arith) r (zero_clear (0 * 2 ^ 40))

above-up : (x : Float) → Fin x → lt 0f x ≡ true → Up x
unfolding finite lt of_bits of_fields odd
above-up nan f h = absurd f
above-up (inf s) f h = absurd f
above-up (fin false m e) f h = up_fin
above-up (fin true m e) f h = absurd (differ (sym h))

-- ---- the amounts at first: one unit each

ones : List Float → List ℕ
ones gas = map (λ x. 1) gas

fits-clear : (x : Float) → T (amount_fits x) → Clear (1 * 2 ^ 40) x
unfolding amount_fits finite_sign_clear
fits-clear nan t = absurd t
fits-clear (inf s) t = absurd t
fits-clear (fin true m e) t = absurd t
fits-clear (fin false m e) t = go (fits-within (fin false m e) t)
  where
    go : Under (1 * 2 ^ 40) (fin false m e) → Clear (1 * 2 ^ 40) (fin false m e)
    go (under p) = clear p

ones_ranked : (gas : List Float) → All (λ x. T (amount_fits x)) gas → Ranked (ones gas) gas
unfolding ones
ones_ranked [] a = tt
ones_ranked (x ∷ xs) a = (fits-clear x a.0, ones_ranked xs a.1)

ones_all : (ms : List ℕ) → All (λ m. m ≡ 1) ms → all ms ≡ length ms
unfolding all
ones_all [] a = refl
ones_all (m ∷ ms) a = let e = ones_all ms a.1 in let f = a.0 in omega arith

ones_one : (gas : List Float) → All (λ m. m ≡ 1) (ones gas)
unfolding ones
ones_one gas = All-map (λ m. m ≡ 1) (λ x. 1) gas (All-any _ (λ x. refl) gas)

ranked_fin : (ms : List ℕ) (xs : List Float) → Ranked ms xs → All Fin xs
ranked_fin [] [] r = tt
ranked_fin [] (x ∷ xs) r = absurd r
ranked_fin (m ∷ ms) [] r = absurd r
ranked_fin (m ∷ ms) (x ∷ xs) r = (under_finite (clear-under r.0), ranked_fin ms xs r.1)

module _ (b : Board) {n₀ : ℕ} (h : Accepted b n₀) (owner : List ℕ) (gas₀ : List Float) (held : All (λ x. T (amount_fits x)) gas₀) where
  -- what all mixtures hold at first, and 128 units a link
  abbrev most-units : ℕ
  most-units = 3407872

  -- k more moves are due
  pub record Airy (k : ℕ) (s : Done) : Type 0 where
    pub sendable : Sendable b s.weight
    pub fits : Fits b s.gas
    pub ms : List ℕ
    pub ranked : Ranked ms s.gas
    pub few : all ms + 128 * (pending s.weight + k) ≤ most-units
    pub same : (m : ℕ) → T (immutable_mix b m) → amounts b s.gas m ≡ amounts b gas₀ m

  still : (gas : List Float) (m : ℕ) → amounts b gas m ≡ amounts b gas₀ m → (ns : List ℕ) × (Ranked ns (part b.gases m gas) × ((all ns ≤ 64) × (length ns ≤ 64)))
  unfolding amounts
  still gas m e =
      let ns = take b.gases (drop (m * b.gases) (ones gas₀)) in
      let g = h.gases.1 in
      let l : length ns ≤ 64 = le_trans (le_of_eq (length-take b.gases (drop (m * b.gases) (ones gas₀)))) (omega arith) in
      let a = ones_all ns (All-take (λ m. m ≡ 1) b.gases (drop (m * b.gases) (ones gas₀)) (All-drop (λ m. m ≡ 1) (m * b.gases) (ones gas₀) (ones_one gas₀))) in
      (ns, (subst (λ l. Ranked ns l) (sym e) (ranked_take b.gases (drop (m * b.gases) (ones gas₀)) (drop (m * b.gases) gas₀) (ranked_drop (m * b.gases) (ones gas₀) gas₀ (ones_ranked gas₀ held))), (omega arith, l)))

  module _ (z : ℕ) where
    -- a pair that is sent
    abbrev Good : Pair → Type 0
    Good p = T (lt 0f p.amount) × Amount p.amount

    send-airy : (k r : ℕ) (p : Pair) (s : Done) → Good p → Airy (suc k) s → Airy k (send b owner z r p s)
    send-airy k r p s g q = go (eqb (mix_of b r) (mix_of b p.to)) refl
      where
        f : Sendable b (alter (edge b owner z p.to r) (λ x. 0f) s.weight)
        f = alter-sendable b (edge b owner z p.to r) s.weight q.sendable

        less : pending (alter (edge b owner z p.to r) (λ x. 0f) s.weight) ≤ pending s.weight
        less = alter-less (edge b owner z p.to r) s.weight

        few' : all q.ms + 128 < 16777215
        few' = let i = q.few in omega arith

        from : ℕ
        from = mix_of b r

        to : ℕ
        to = mix_of b p.to

        cut : all (take b.gases (drop (from * b.gases) q.ms)) ≤ all q.ms
        cut = omega (arith, all_split (from * b.gases) q.ms, all_split b.gases (drop (from * b.gases) q.ms))

        whole : Unit-part (ratio p.amount (sum (part b.gases from s.gas)))
        whole = ratio-part p.amount (sum (part b.gases from s.gas)) (above-up p.amount g.1.0 (is_true _ g.0)) (is_true _ g.0)
            (sum-clear (take b.gases (drop (from * b.gases) q.ms)) (part b.gases from s.gas) (let i = cut in let j = few' in omega arith)
            (ranked_take b.gases (drop (from * b.gases) q.ms) (drop (from * b.gases) s.gas) (ranked_drop (from * b.gases) q.ms s.gas q.ranked)))

        moved : Moved q.ms (move_air b from to p.amount s.gas)
        moved = move_ranked b h.gases.1 from to p.amount q.ms s.gas q.ranked few' (λ e. still s.gas from (q.same from (subst T (sym e) tt))) whole

        go : (t : Bool) → eqb (mix_of b r) (mix_of b p.to) ≡ t → Airy k (send b owner z r p s)
        go true e = unfold send in record {
          sendable = f;
          fits = rw e q.fits;
          ms = q.ms;
          ranked = rw e q.ranked;
          few = let i = q.few in let j = less in omega arith;
          same = rw e q.same;
        }
        go false e = unfold send in record {
          sendable = f;
          fits = rw e (move-fits b from to p.amount (h.mixed r) (h.mixed p.to) s.gas q.fits);
          ms = moved.ms';
          ranked = rw e moved.ranked;
          few = let i = q.few in let j = less in let u = moved.grown in omega arith;
          same = rw e (λ m t. move_apart b from to p.amount (h.mixed r) (h.mixed p.to) s.gas q.fits m (λ x. t) (λ x. t) ∙ q.same m t);
        }

    module _ (f : ℕ → Done → Done) (keeps : (k a : ℕ) (t : Done) → Airy k t → Airy k (f a t)) where
      pair_airy : (k r : ℕ) (ps : List Pair) (p : Pair) (s : Done) → Good p → Airy (suc k) s → Airy k (finish_pair b owner z f r ps p s)
      unfolding finish_pair finish_givers
      pair_airy k r ps p s g q =
          let qs = cond (lt (total b s.gas r) p.amount) ps [] in
          send-airy k r p _ g (run-keeps (λ a. Unit {0}) (Airy (suc k)) f (λ a t u i. keeps (suc k) a t i) (negative qs) s (All-any _ (λ a. tt) (negative qs)) q)

      pairs-airy : (k r : ℕ) (ps qs : List Pair) (s : Done) → All Good qs → Airy (k + length qs) s → Airy k (run (finish_pair b owner z f r ps) qs s)
      unfolding run
      pairs-airy k r ps [] s a q = subst (λ n. Airy n s) (omega arith) q
      pairs-airy k r ps (p ∷ qs) s a q =
          pairs-airy k r ps qs (finish_pair b owner z f r ps p s) a.1 (pair_airy (k + length qs) r ps p s a.0 (subst (λ n. Airy n s) (omega arith) q))

    finish-airy : (n k r : ℕ) (s : Done) → Airy k s → Airy k (finish b owner z n r s)
    unfolding finish
    finish-airy zero k r s q = q
    finish-airy (suc n) k r s q =
        let ks = edges_of b owner z r in
        let ps = pairs b owner z r s.weight in
        let c = lift_count ks s.weight (edges_apart b owner z r) in
        let d : length (positive ps) ≡ count (λ k. lt 0f (get_or s.weight k nan)) ks = unfold pairs in pairs-count b s.weight ks in
        let i = q.few in
        pairs-airy (λ a t. finish b owner z n a t) (λ k a t g. finish-airy n k a t g) k r ps (positive ps) _
        (keep_all (λ p. lt 0f p.amount) (λ p. Amount p.amount) ps (pairs-amount b h owner z r s.weight q.sendable))
        (record { sendable = lift_sendable b ks s.weight q.sendable; fits = q.fits; ms = q.ms; ranked = q.ranked; few = omega arith; same = q.same })

  pub finish-all_airy : (zones : List Zone) (turns : List ℕ) (s : Done) → Airy 0 s → Airy 0 (finish_all b owner zones turns s)
  unfolding work
  finish-all_airy zones turns s q =
      subst (Airy 0) (sym (by_order b owner zones turns s))
      (run-keeps (λ j. Unit {0}) (Airy 0) (work b owner) (λ j t u i. finish-airy j.zone (suc (link_count b)) 0 j.row t i) (turn_order zones turns) s (All-any _ (λ j. tt) (turn_order zones turns)) q)

  -- where finishing starts
  pub airy_start : (s : Done) → Sendable b s.weight → s.gas ≡ gas₀ → Fits b gas₀ → Airy 0 s
  unfolding pending
  airy_start s f e l = record {
    sendable = f;
    fits = ap length e ∙ l;
    ms = ones gas₀;
    ranked = subst (λ g. Ranked (ones gas₀) g) (sym e) (ones_ranked gas₀ held);
    few =
        let a = ones_all (ones gas₀) (ones_one gas₀) in
        let c : length (ones gas₀) ≡ length gas₀ = unfold ones in length-map gas₀ (λ x. 1) in
        let m : mixture_count b * b.gases ≤ 4096 * 64 = mul-le-mul h.mixtures.1 h.gases.1 in
        let p = count-length (λ x. lt 0f x) s.weight in
        let n = f.count in
        let k = h.links in
        omega arith;
    same = λ m t. ap (λ g. amounts b g m) e;
  }

  pub airy_fin : {k : ℕ} (s : Done) → Airy k s → All Fin s.gas
  airy_fin s q = ranked_fin q.ms s.gas q.ranked

-- The gas that equalize leaves on an accepted board is finite.
pub equalize-gas : (b : Board) {n : ℕ} → Accepted b n → (gas : List Float) → length gas ≡ mixture_count b * b.gases → every amount_fits gas ≡ true → (q : Ask) (turns : List ℕ) → All Fin (equalize b gas q turns).gas
unfolding equalize cancel played planned
equalize-gas b h gas l e q turns =
    let s = filled_all b gas q in
    let held = every-all amount_fits gas (subst T (sym e) tt) in
    let start : Done = record { gas = gas; weight = (planned_all b gas s).weight; events = s.events } in
    let first = airy_start b h s.owner gas held start (planned-sendable b h gas e q) refl l in
    let done = airy_fin b h s.owner gas held _ (finish-all_airy b h s.owner gas held s.zones turns start first) in
    let before = airy_fin b h s.owner gas held start first in
    let P : Equalized → Type 0 = λ r. All Fin r.gas in
    cond_both P s.cancelled _ _ before
    (cond_both P (ltb q.allowance (s.tests + 1)) _ _ before
    (cond_both P (ltb q.allowance (s.tests + 2)) _ _ before done))

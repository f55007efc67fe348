-- The fast pass, in units of 2 ^ 48: what the turfs not yet passed hold together grows by no more than a unit for each link of a turf that is passed. Assumes nothing.
use mathlib.Core.Path.{◌≡◌, refl, sym, ap, ◌∙◌, subst}
use mathlib.Core.Logic.{◌≢◌}
use mathlib.Core.Bool.{Bool, true, false, cond}
use mathlib.Core.List.{List, [], ◌∷◌}
use Prim.Native.Nat.{ℕ, zero, suc, ◌+◌, ◌-◌, ◌*◌, ◌/◌, ◌^◌, ◌≤◌, ◌<◌, zero-le}
use native.Mathlib.Nat.{le_trans, le_of_eq, mul-le-mul_right, div-add-mod', mod-lt, mul_comm}
use native.Mathlib.Bridge.{le_by_compare, IsLe}
use native.Mathlib.Numerals.{add-one}
use native.Mathlib.Omega.{arith}
use lib.Dec.{T, eqb, eqb→eq}
use lib.ListN.{length, get_or, set, length-set}
use lib.Seq.{get_or-set_same, get_or-set_other, set-get_or}
use lib.Ieee.{Float, nan}
use Rattle.basics.specs.Loops.{run, member, keep}
use Rattle.basics.specs.Floats.{◌+f◌, ◌-f◌, ◌/f◌, of_count}
use Rattle.basics.specs.Lists.{All}
use Rattle.basics.proofs.Loops.{All-imp, All-any, keep_all}
use Rattle.basics.proofs.Lists.{Apart, count-keep, count-length, up_from-length}
use Rattle.rules_board.specs.Board.{Board, turf_count, link_count, end, links_of, degree}
use Rattle.rules_board.specs.Refuse.{rising}
use Rattle.turfs.specs.Tables.{Accepted}
use Rattle.rules_plan.specs.Edges.{owned, edges_of, adjust}
use Rattle.rules_plan.specs.Plan.{Plan, store, gives, eligible, fast_move, fast_turf}
use Rattle.laws_finite.proofs.Laws.{Under, Within, within-add, within-sub, within_more, within-div, under_more}
use Rattle.laws_finite.proofs.Shares.{all, all-at, all_set, all_more, more, total, steps, steps_length, steps_at, steps_all}
use Rattle.laws_finite.proofs.Caps.{most-changes}
use Rattle.laws_finite.proofs.Weights.{set_keeps, Weighed, weighed_more, adjust-weighed}
use Rattle.laws_finite.proofs.Serves.{Delta}
use Rattle.laws_finite.proofs.Lists.{All-set}

-- m shared among c, rounded up
share_up : (m c : ℕ) → 0 < c → (m ≤ (m / c + 1) * c) × ((m / c + 1) * c ≤ m + c)
share_up m c h = let e = div-add-mod' m c in let l = mod-lt m h in (omega arith, omega arith)

-- ---- how many links the rows have

module _ (b : Board) {n : ℕ} (h : Accepted b n) where
  -- how many links each row has
  abbrev pub degrees : List ℕ
  degrees = steps b.starts

  pub degrees_length : length degrees ≡ turf_count b
  degrees_length = go b.starts h.starts
    where
      go : (ss : List ℕ) → length ss ≡ turf_count b + 1 → length (steps ss) ≡ turf_count b
      go [] e = absurd (omega arith)
      go (s ∷ ss) e = let f = steps_length s ss in omega arith

  pub degree-at : (r : ℕ) → r < turf_count b → get_or degrees r 0 ≡ length (links_of b r)
  unfolding links_of
  degree-at r l = go b.starts h.starts ∙ sym (up_from-length (get_or b.starts r 0) (degree b r))
    where
      go : (ss : List ℕ) → length ss ≡ turf_count b + 1 → get_or (steps ss) r 0 ≡ get_or ss (r + 1) 0 - get_or ss r 0
      go [] e = absurd (omega arith)
      go (s ∷ ss) e = steps_at s ss r (omega arith) ∙ ap (λ i. get_or (s ∷ ss) i 0 - get_or (s ∷ ss) r 0) (sym (add-one r))

  pub degrees_all : all degrees ≤ link_count b
  degrees_all = go b.starts h.starts h.rises h.last
    where
      go : (ss : List ℕ) → length ss ≡ turf_count b + 1 → T (rising ss) → get_or ss (turf_count b) 0 ≡ link_count b → all (steps ss) ≤ link_count b
      go [] e u f = absurd (omega arith)
      go (s ∷ ss) e u f = let i = steps_all s ss u in let k : length ss ≡ turf_count b = omega arith in let j : get_or (s ∷ ss) (length ss) 0 ≡ get_or (s ∷ ss) (turf_count b) 0 = ap (λ i. get_or (s ∷ ss) i 0) k in omega arith

-- ---- the shares of one turf

-- what all turfs hold at first, and a unit a link
abbrev pub most-units : ℕ
most-units = 4222976

module _ (b : Board) {n₀ : ℕ} (h : Accepted b n₀) (owner : List ℕ) (z top : ℕ) (nodes : List ℕ) (inside : (k : ℕ) → get_or owner k 0 ≡ z + 1 → T (member (end b k) nodes)) where
  -- what the moves of one turf keep: r holds m units at first and gives u units to each of c
  module _ (r : ℕ) (row : r < turf_count b) (f₀ : List ℕ) (own : get_or f₀ r 0 ≡ 1) (m c u : ℕ) (x : Float) (px : Within 48 u x) (base : ℕ)
      (small : m + c * u ≤ 16777215) (bounded : base + c * u ≤ 16777215) (t : ℕ) where
    -- after j of the moves
    pub record Moves (j : ℕ) (s : Plan) : Type 0 where
      pub deltas_n : length s.delta ≡ turf_count b
      pub amounts_n : length s.amount ≡ turf_count b
      pub fast : s.fast ≡ f₀
      pub deltas : All Delta s.delta
      pub mine : Within 48 (m + j * u) (get_or s.delta r nan)
      pub ms : List ℕ
      pub sized : length ms ≡ turf_count b
      pub sum : all ms ≡ base + j * u
      pub held : (a : ℕ) → a < turf_count b → T (member a nodes) → get_or f₀ a 0 ≡ 0 → Within 48 (get_or ms a 0) (get_or s.delta a nan)
      pub weighed : Weighed owner z (t + 2 * j) top s.weight

    module _ (j : ℕ) (next : j + 1 ≤ c) (fits : t + 2 * j + 2 ≤ most-changes) (a : ℕ) (there : a < turf_count b) (node : T (member a nodes)) (free : get_or f₀ a 0 ≡ 0) (s : Plan) (q : Moves j s) where
      stepped : (j + 1) * u ≤ c * u
      stepped = mul-le-mul_right u next

      other : a ≢ r
      other e = let i = subst (λ k. get_or f₀ k 0 ≡ 0) e free in omega arith

      abbrev y : Float
      y = get_or s.delta r nan -f x

      abbrev δ₁ : List Float
      δ₁ = set s.delta r y

      abbrev v : Float
      v = get_or δ₁ a nan +f x

      abbrev ms₁ : List ℕ
      ms₁ = more q.ms a u

      y_within : Within 48 (m + (j + 1) * u) y
      y_within = let i = stepped in within-sub 48 (omega arith) (m + j * u) u (m + (j + 1) * u) (omega arith) (omega arith) q.mine px

      D : a < length q.ms
      D = subst (λ k. a < k) (sym q.sized) there

      sum₁ : all ms₁ ≡ base + (j + 1) * u
      sum₁ = let e = all_more q.ms a u D in let f = q.sum in omega arith

      v_within : Within 48 (get_or ms₁ a 0) v
      v_within =
          let e : get_or ms₁ a 0 ≡ get_or q.ms a 0 + u = get_or-set_same q.ms a (get_or q.ms a 0 + u) 0 D in
          let i = stepped in
          let k = all-at ms₁ a in
          let g = sum₁ in
          within-add 48 (omega arith) (get_or q.ms a 0) u (get_or ms₁ a 0) (omega arith) (omega arith)
          (subst (λ w. Within 48 (get_or q.ms a 0) w) (sym (get_or-set_other s.delta r a y nan other)) (q.held a there node free)) px

      delta-y : Delta y
      delta-y = let i = stepped in within_more 48 (omega arith) (m + (j + 1) * u) 16777215 (omega arith) y_within

      delta-v : Delta v
      delta-v = let i = stepped in let k = all-at ms₁ a in let g = sum₁ in within_more 48 (omega arith) (get_or ms₁ a 0) 16777215 (omega arith) v_within

      unit : u ≤ 16777215
      unit = let i = stepped in omega arith

      x_weight : Under (1 * 2 ^ 84) x
      unfolding IsLe
      x_weight = under_more (1 * 2 ^ 84) (le_trans (mul-le-mul_right (2 ^ 48) unit) (le_by_compare (16777215 * 2 ^ 48) (1 * 2 ^ 84) tt)) px

      held₁ : (k : ℕ) → k < turf_count b → T (member k nodes) → get_or f₀ k 0 ≡ 0 → Within 48 (get_or ms₁ k 0) (get_or (set δ₁ a v) k nan)
      held₁ k l i o = set_keeps (λ k w. T (member k nodes) → get_or f₀ k 0 ≡ 0 → Within 48 (get_or ms₁ k 0) w) δ₁ a v nan (λ e i o. v_within)
          (λ k n l i o.
          let kr : k ≢ r = λ e. let i = subst (λ k. get_or f₀ k 0 ≡ 0) e o in omega arith in
          subst (λ w. Within 48 (get_or ms₁ k 0) w) (sym (get_or-set_other s.delta r k y nan kr))
          (subst (λ p. Within 48 p (get_or s.delta k nan)) (sym (get_or-set_other q.ms a k (get_or q.ms a 0 + u) 0 n))
          (q.held k (subst (λ w. k < w) (length-set s.delta r y ∙ q.deltas_n) l) i o)))
          k (subst (λ w. k < w) (sym (length-set s.delta r y ∙ q.deltas_n)) l) i o

      moved : Moves (j + 1) (fast_move b owner z r x a s)
      unfolding fast_move
      moved = record {
        deltas_n = length-set δ₁ a v ∙ length-set s.delta r y ∙ q.deltas_n;
        amounts_n = length-set (set s.amount r (get_or s.amount r nan)) a _ ∙ length-set s.amount r (get_or s.amount r nan) ∙ q.amounts_n;
        fast = set-get_or (set s.fast r (get_or s.fast r 0)) a 0 ∙ set-get_or s.fast r 0 ∙ q.fast;
        deltas = All-set Delta δ₁ a v (λ l. delta-v) (All-set Delta s.delta r y (λ l. delta-y) q.deltas);
        mine = subst (λ w. Within 48 (m + (j + 1) * u) w) (sym (get_or-set_other δ₁ a r v nan (λ e. other (sym e)) ∙ get_or-set_same s.delta r y nan (subst (λ k. r < k) (sym q.deltas_n) row))) y_within;
        ms = ms₁;
        sized = length-set q.ms a (get_or q.ms a 0 + u) ∙ q.sized;
        sum = sum₁;
        held = held₁;
        weighed = subst (λ i. Weighed owner z i top (adjust b owner z r a x s.weight)) (omega arith) (adjust-weighed owner z b r a x (t + 2 * j) top s.weight fits x_weight q.weighed);
      }

    -- a link of the zone to a turf that was not passed
    abbrev Reached : ℕ → Type 0
    Reached k = T (eqb (get_or f₀ (end b k) 0) 0) × (get_or owner k 0 ≡ z + 1)

    pub all_moved : (ks : List ℕ) (j : ℕ) → j + length ks ≡ c → t + 2 * c ≤ most-changes → All Reached ks → (s : Plan) → Moves j s → Moves c (run (λ k p. fast_move b owner z r x (end b k) p) ks s)
    unfolding run
    all_moved [] j e l a s q = subst (λ i. Moves i s) (omega arith) q
    all_moved (k ∷ ks) j e l a s q =
        all_moved ks (j + 1) (omega arith) l a.1 (fast_move b owner z r x (end b k) s)
        (moved j (omega arith) (omega arith) (end b k) (h.ends k) (inside k a.0.1) (eqb→eq (get_or f₀ (end b k) 0) 0 a.0.0) s q)

  -- ---- one turf

  -- what the fast pass keeps, with the turfs yet to be passed, after t changes of a weight
  pub record Fasts (rest : List ℕ) (t : ℕ) (s : Plan) : Type 0 where
    pub deltas_n : length s.delta ≡ turf_count b
    pub amounts_n : length s.amount ≡ turf_count b
    pub fast_n : length s.fast ≡ turf_count b
    pub deltas : All Delta s.delta
    pub ms : List ℕ
    pub sized : length ms ≡ turf_count b
    pub few : all ms + total (degrees b h) rest ≤ most-units
    pub zero : All (λ r. get_or s.fast r 0 ≡ 0) rest
    pub held : (a : ℕ) → a < turf_count b → T (member a nodes) → get_or s.fast a 0 ≡ 0 → Within 48 (get_or ms a 0) (get_or s.delta a nan)
    pub weighed : Weighed owner z t top s.weight

  module _ (r : ℕ) (rest : List ℕ) (row : r < turf_count b) (node : T (member r nodes)) (apart : All (λ j. j ≢ r) rest) (t : ℕ) (s : Plan) (q : Fasts (r ∷ rest) t s) where
    abbrev p : Plan
    p = store s r (record { delta = get_or s.delta r nan; amount = get_or s.amount r nan; direction = get_or s.direction r 0; fast = 1 })

    abbrev f₁ : List ℕ
    f₁ = set s.fast r 1

    abbrev m : ℕ
    m = get_or q.ms r 0

    abbrev ms₀ : List ℕ
    ms₀ = set q.ms r 0

    abbrev deg : ℕ
    deg = get_or (degrees b h) r 0

    passed_one : get_or f₁ r 0 ≡ 1
    passed_one = get_or-set_same s.fast r 1 0 (subst (λ k. r < k) (sym q.fast_n) row)

    emptied : all ms₀ + m ≡ all q.ms
    emptied = let e = all_set q.ms r 0 (subst (λ k. r < k) (sym q.sized) row) in omega arith

    units : all q.ms + (deg + total (degrees b h) rest) ≤ most-units
    unfolding total
    units = q.few

    zero₁ : (xs : List ℕ) → All (λ j. j ≢ r) xs → All (λ r. get_or s.fast r 0 ≡ 0) xs → All (λ x. get_or f₁ x 0 ≡ 0) xs
    zero₁ [] a o = tt
    zero₁ (x ∷ xs) a o = (get_or-set_other s.fast r x 1 0 a.0 ∙ o.0, zero₁ xs a.1 o.1)

    held₀ : (a : ℕ) → a < turf_count b → T (member a nodes) → get_or f₁ a 0 ≡ 0 → Within 48 (get_or ms₀ a 0) (get_or p.delta a nan)
    held₀ a l i o =
        let n : a ≢ r = λ e. let k = subst (λ x. get_or f₁ x 0 ≡ 0) e o in let j = passed_one in omega arith in
        subst (λ d. Within 48 (get_or ms₀ a 0) (get_or d a nan)) (sym (set-get_or s.delta r nan))
        (subst (λ k. Within 48 k (get_or s.delta a nan)) (sym (get_or-set_other q.ms r a 0 0 n)) (q.held a l i (sym (get_or-set_other s.fast r a 1 0 n) ∙ o)))

    deltas₀ : All Delta p.delta
    deltas₀ = subst (All Delta) (sym (set-get_or s.delta r nan)) q.deltas

    turf-fasts : (ks : List ℕ) → length ks ≤ deg → t + 2 * deg ≤ most-changes → All (λ k. T (eqb (get_or f₁ (end b k) 0) 0) × (get_or owner k 0 ≡ z + 1)) ks
        → Fasts rest (t + 2 * deg) (run (λ k p. fast_move b owner z r (get_or s.delta r nan /f of_count (length ks)) (end b k) p) ks p)
    unfolding run
    turf-fasts [] d l a = record {
      deltas_n = length-set s.delta r _ ∙ q.deltas_n;
      amounts_n = length-set s.amount r _ ∙ q.amounts_n;
      fast_n = length-set s.fast r 1 ∙ q.fast_n;
      deltas = deltas₀;
      ms = ms₀;
      sized = length-set q.ms r 0 ∙ q.sized;
      few = let e = emptied in let f = units in omega arith;
      zero = zero₁ rest apart q.zero.1;
      held = held₀;
      weighed = weighed_more owner z t (2 * deg) top s.weight q.weighed;
    }
    turf-fasts (k ∷ ks) d l a =
        let c = suc (length ks) in
        let u = m / c + 1 in
        let i = share_up m c (omega arith) in
        let e = emptied in
        let f = units in
        let g = all-at q.ms r in
        let x = get_or s.delta r nan /f of_count c in
        let i0 = i.0 in
        let i1 = i.1 in
        let cu : c * u ≤ m + c = le_trans (le_of_eq (mul_comm c u)) i1 in
        let small : m + c * u ≤ 16777215 = omega arith in
        let bounded : all ms₀ + c * u ≤ 16777215 = omega arith in
        let px : Within 48 u x = within-div 48 (omega arith) m c u (omega arith) (omega arith) i0 (omega arith) (q.held r row node q.zero.0) in
        let v = all_moved r row f₁ passed_one m c u x px (all ms₀) small bounded t (k ∷ ks) 0 (omega arith) (omega arith) a p (record {
          deltas_n = length-set s.delta r _ ∙ q.deltas_n;
          amounts_n = length-set s.amount r _ ∙ q.amounts_n;
          fast = refl;
          deltas = deltas₀;
          mine = subst (λ d. Within 48 (m + 0 * u) (get_or d r nan)) (sym (set-get_or s.delta r nan)) (within_more 48 (omega arith) m (m + 0 * u) (omega arith) (q.held r row node q.zero.0));
          ms = ms₀;
          sized = length-set q.ms r 0 ∙ q.sized;
          sum = omega arith;
          held = held₀;
          weighed = weighed_more owner z t (2 * 0) top s.weight q.weighed;
        }) in
        record {
          deltas_n = v.deltas_n;
          amounts_n = v.amounts_n;
          fast_n = ap length v.fast ∙ length-set s.fast r 1 ∙ q.fast_n;
          deltas = v.deltas;
          ms = v.ms;
          sized = v.sized;
          few = let o = v.sum in omega arith;
          zero = subst (λ w. All (λ x. get_or w x 0 ≡ 0) rest) (sym v.fast) (zero₁ rest apart q.zero.1);
          held = λ a l i o. v.held a l i (subst (λ w. get_or w a 0 ≡ 0) v.fast o);
          weighed = subst (λ n. Weighed owner z n top (run (λ k p. fast_move b owner z r x (end b k) p) (k ∷ ks) p).weight) (omega arith)
              (weighed_more owner z (t + 2 * c) (2 * (deg - c)) top (run (λ k p. fast_move b owner z r x (end b k) p) (k ∷ ks) p).weight v.weighed);
        }

    links-few : (g : Bool) → length (cond g (eligible b owner z p r) []) ≤ deg
    unfolding eligible edges_of
    links-few true =
        let e = degree-at b h r row in
        let i = count-keep (λ k. eqb (get_or p.fast (end b k) 0) 0) (keep (owned b owner z) (links_of b r)) in
        let j = count-length (λ k. eqb (get_or p.fast (end b k) 0) 0) (keep (owned b owner z) (links_of b r)) in
        let k = count-keep (owned b owner z) (links_of b r) in
        let l = count-length (owned b owner z) (links_of b r) in
        omega arith
    links-few false = zero-le

    links-reached : (g : Bool) → All (λ k. T (eqb (get_or f₁ (end b k) 0) 0) × (get_or owner k 0 ≡ z + 1)) (cond g (eligible b owner z p r) [])
    unfolding eligible edges_of
    links-reached true = keep_all (λ k. eqb (get_or p.fast (end b k) 0) 0) (λ k. get_or owner k 0 ≡ z + 1) (keep (owned b owner z) (links_of b r))
        (All-imp (λ k. T (owned b owner z k) × Unit {0}) (λ k. get_or owner k 0 ≡ z + 1) (keep (owned b owner z) (links_of b r)) (λ k i. eqb→eq (get_or owner k 0) (z + 1) i.0)
        (keep_all (owned b owner z) (λ k. Unit {0}) (links_of b r) (All-any _ (λ k. tt) (links_of b r))))
    links-reached false = tt

    pub fast-turf : t + 2 * deg ≤ most-changes → Fasts rest (t + 2 * deg) (fast_turf b owner z r s)
    unfolding fast_turf
    fast-turf l = turf-fasts (cond (gives (get_or s.delta r nan)) (eligible b owner z p r) []) (links-few (gives (get_or s.delta r nan))) l (links-reached (gives (get_or s.delta r nan)))

  -- ---- the pass

  pub fast-all : (xs : List ℕ) → Apart xs → All (λ r. (r < turf_count b) × T (member r nodes)) xs → (t : ℕ) → t + 2 * total (degrees b h) xs ≤ most-changes → (s : Plan) → Fasts xs t s
      → Fasts [] (t + 2 * total (degrees b h) xs) (run (fast_turf b owner z) xs s)
  unfolding run total
  fast-all [] a i t l s q = subst (λ n. Fasts [] n s) (omega arith) q
  fast-all (r ∷ rest) a i t l s q =
      subst (λ n. Fasts [] n (run (fast_turf b owner z) rest (fast_turf b owner z r s))) (omega arith)
      (fast-all rest a.1 i.1 (t + 2 * get_or (degrees b h) r 0) (omega arith) (fast_turf b owner z r s) (fast-turf r rest i.0.0 i.0.1 a.0 t s q (omega arith)))

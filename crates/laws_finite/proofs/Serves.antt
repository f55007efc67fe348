-- Serving keeps every delta's bound, and a serve changes a weight by no more than an amount handed on for each turf of its search. Assumes nothing.
use mathlib.Core.Path.{◌≡◌, refl, sym, ap, ◌∙◌, subst}
use mathlib.Core.Logic.{◌≢◌, ◌⊎◌, inl, inr}
use mathlib.Core.Bool.{Bool, true, false, not, ◌&&◌, ◌||◌, cond}
use mathlib.Core.List.{List, [], ◌∷◌, reverse}
use Prim.Native.Nat.{ℕ, ◌+◌, ◌-◌, ◌*◌, ◌^◌, ◌≤◌, ◌<◌, zero-le}
use native.Mathlib.Nat.{le_trans, mul-le-mul_right, zero-mul}
use native.Mathlib.Bridge.{le_by_compare, IsLe}
use native.Mathlib.Omega.{arith}
use lib.Dec.{T, eqb, ltb, eqb→eq, ltb→lt}
use lib.IntN.{pos}
use lib.ListN.{get_or-replicate, length, get_or, set, replicate, length-set, length-replicate, length-reverse}
use lib.Seq.{get_or-set_same, get_or-set_other}
use lib.Ieee.{Float, nan, fin, up, down, lt, eq, le, ne, of_bits, of_fields, odd}
use borrow.Author.Tests.{ltb-false}
use Rattle.basics.specs.Loops.{run, member, snoc}
use Rattle.basics.specs.Floats.{0f, ◌+f◌, ◌-f◌}
use Rattle.basics.specs.Lists.{All}
use Rattle.basics.proofs.Loops.{All-get_or, All-any, run-keeps, times-keeps, cond_both}
use Rattle.basics.proofs.Lists.{or_left, or_right, or_cases, members, All-back}
use Rattle.basics.proofs.Tests.{differ}
use Rattle.rules_board.specs.Board.{Board, turf_count, end}
use Rattle.turfs.proofs.Line.{line-short}
use Rattle.laws_plan.proofs.Rest.{start_seek, sought, seek_line}
use Rattle.rules_plan.specs.Edges.{edges_of}
use Rattle.rules_plan.specs.Plan.{Plan, store, settled, wants, more, Seek, stopped, trade, meet, seek_to, seek_link, seek_row, seek_next, drain_to, drain, serve}
use Rattle.rules_plan.specs.declared.Side.{Side}
use Rattle.rules_plan.specs.declared.Side.TheVariants.{Giving, Taking}
use Rattle.laws_finite.proofs.Laws.{Under, under, Exact, exact, Within, Up, up_fin, Down, down_fin, up-down, down-up, add-under, sub-under, under_more, within-add, within-zero, zero-under}
use Rattle.laws_finite.proofs.Shares.{all, all-at, all_replicate, hand, all-hand}
use Rattle.laws_finite.proofs.Caps.{most-changes}
use Rattle.laws_finite.proofs.Weights.{set_keeps, Weighed, weighed_more, adjust-weighed}
use Rattle.laws_finite.proofs.Lists.{All-set}

-- ---- signs

zero_is : 0f ≡ fin false 0 (pos 0)
unfolding of_bits of_fields odd
zero_is = refl

pub below-zero : {B : ℕ} (x : Float) → Under B x → lt x 0f ≡ true → Down x
unfolding lt of_bits of_fields odd
below-zero {B = B} nan x3 h = elim x3 [ ]
below-zero {B = B} (lib.Ieee.inf _) x5 h = elim x5 [ ]
below-zero (fin true m e) (under p) h = down_fin
below-zero (fin false m e) (under p) h = absurd (no_less (m * up e * 1) (0 * 1 * down e) (zero-mul (down e)) h)
  where
    no_less : (a b : ℕ) → b ≡ 0 → ltb a b ≡ true → ⊥
    no_less a b e i = let j = ltb→lt a b (subst T (sym i) tt) in omega arith

pub above_zero : {B : ℕ} (x : Float) → Under B x → lt 0f x ≡ true → Up x
unfolding lt of_bits of_fields odd
above_zero {B = B} nan x3 h = elim x3 [ ]
above_zero {B = B} (lib.Ieee.inf _) x5 h = elim x5 [ ]
above_zero (fin false m e) (under p) h = up_fin
above_zero (fin true m e) (under p) h = absurd (differ (sym h))

neither : (p q : Bool) → (p || q) ≡ false → (p ≡ false) × (q ≡ false)
neither true q h = absurd (differ h)
neither false q h = (refl, h)

pub not_below : {B : ℕ} (x : Float) → Under B x → le x 0f ≡ false → Up x
unfolding le lt eq of_bits of_fields odd
not_below {B = B} nan x3 h = elim x3 [ ]
not_below {B = B} (lib.Ieee.inf _) x5 h = elim x5 [ ]
not_below (fin false m e) (under p) h = up_fin
not_below (fin true m e) (under p) h = absurd (never (m * up e * 1) (0 * 1 * down e) (zero-mul (down e)) (neither (ltb 0 (m * up e * 1 + 0 * 1 * down e)) _ h))
  where
    never : (a b : ℕ) → b ≡ 0 → (ltb 0 (a + b) ≡ false) × ((eqb a b && (false || eqb a 0)) ≡ false) → ⊥
    never a b e i =
        let l = ltb-false 0 (a + b) i.0 in
        let z : a ≡ 0 = omega arith in
        differ (subst (λ x. (eqb x 0 && (false || eqb x 0)) ≡ false) z (subst (λ y. (eqb a y && (false || eqb a 0)) ≡ false) e i.1))

pub not_above : {B : ℕ} (x : Float) → Under B x → le 0f x ≡ false → Down x
unfolding le lt eq of_bits of_fields odd
not_above {B = B} nan x3 h = elim x3 [ ]
not_above {B = B} (lib.Ieee.inf _) x5 h = elim x5 [ ]
not_above (fin true m e) (under p) h = down_fin
not_above (fin false m e) (under p) h = absurd (never (0 * 1 * down e) (m * up e * 1) (zero-mul (down e)) (neither (ltb (0 * 1 * down e) (m * up e * 1)) _ h))
  where
    never : (a b : ℕ) → a ≡ 0 → (ltb a b ≡ false) × ((eqb a b && true) ≡ false) → ⊥
    never a b e i =
        let l = ltb-false a b i.0 in
        let z : b ≡ 0 = omega arith in
        differ (subst (λ y. (eqb 0 y && true) ≡ false) z (subst (λ x. (eqb x b && true) ≡ false) e i.1))

-- ---- a trade

-- a delta, in units of 2 ^ 48
abbrev pub Delta : Float → Type 0
Delta x = Within 48 16777215 x

delta-exact : Exact (16777215 * 2 ^ 48)
delta-exact = exact 16777215 48 (omega arith) (omega arith)

amount-exact : Exact (1 * 2 ^ 72)
unfolding IsLe
amount-exact = exact 1 72 (le_by_compare 2 (2 ^ 24) tt) (omega arith)

delta-amount : 0 + 16777215 * 2 ^ 48 ≤ 1 * 2 ^ 72
unfolding IsLe
delta-amount = le_by_compare (0 + 16777215 * 2 ^ 48) (1 * 2 ^ 72) tt

zero-delta : Delta 0f
zero-delta = within-zero 48 (omega arith) 16777215

opposite : (side : Side) (x y : Float) → Delta x → Delta y → settled side x ≡ false → wants side y ≡ true → Delta (y +f x) × Delta (x +f y)
opposite Giving x y p q s w = (down-up (16777215 * 2 ^ 48) delta-exact (below-zero y q w) (not_below x p s) q p, up-down (16777215 * 2 ^ 48) delta-exact (not_below x p s) (below-zero y q w) p q)
opposite Taking x y p q s w = (up-down (16777215 * 2 ^ 48) delta-exact (above_zero y q w) (not_above x p s) q p, down-up (16777215 * 2 ^ 48) delta-exact (not_above x p s) (above_zero y q w) p q)

met-delta : (side : Side) (x y : Float) → Delta x → Delta y → settled side x ≡ false → Delta (cond (wants side y) (cond (more side x y) (y +f x) 0f) y)
met-delta side x y p q s = go (wants side y) refl (more side x y)
  where
    go : (c : Bool) → wants side y ≡ c → (a : Bool) → Delta (cond c (cond a (y +f x) 0f) y)
    go true w true = (opposite side x y p q s w).0
    go true w false = zero-delta
    go false w a = q

own-delta : (side : Side) (x y : Float) → Delta x → Delta y → settled side x ≡ false → Delta (cond (wants side y) (cond (more side x y) 0f (x +f y)) x)
own-delta side x y p q s = go (wants side y) refl (more side x y)
  where
    go : (c : Bool) → wants side y ≡ c → (a : Bool) → Delta (cond c (cond a 0f (x +f y)) x)
    go true w true = zero-delta
    go true w false = (opposite side x y p q s w).1
    go false w a = p

met-amount : (c a : Bool) (n x y : Float) → Under 0 n → Delta x → Delta y → Within 72 1 (cond c (cond a (n -f x) (n +f y)) n)
met-amount true true n x y z p q = sub-under (1 * 2 ^ 72) amount-exact delta-amount z p
met-amount true false n x y z p q = add-under (1 * 2 ^ 72) amount-exact delta-amount z q
met-amount false a n x y z p q = under_more (1 * 2 ^ 72) zero-le z

member-other : (k a : ℕ) (xs : List ℕ) → k ≢ a → T (member k (snoc xs a)) → T (member k xs)
unfolding member
member-other k a [] n t = go (or_cases (eqb k a) false t)
  where
    go : T (eqb k a) ⊎ T false → ⊥
    go (inl e) = n (eqb→eq k a e)
    go (inr e) = e
member-other k a (x ∷ xs) n t = go (or_cases (eqb k x) (member k (snoc xs a)) t) (λ u. member-other k a xs n u)
  where
    go : T (eqb k x) ⊎ T (member k (snoc xs a)) → (T (member k (snoc xs a)) → T (member k xs)) → T (eqb k x || member k xs)
    go (inl e) f = or_left (eqb k x) (member k xs) e
    go (inr e) f = or_right (eqb k x) (member k xs) (f e)

module _ (b : Board) (ends : (k : ℕ) → end b k < turf_count b) (owner : List ℕ) (z top : ℕ) where
  -- what planning keeps of every turf
  pub record Steady (s : Plan) : Type 0 where
    pub deltas_n : length s.delta ≡ turf_count b
    pub amounts_n : length s.amount ≡ turf_count b
    pub fast_n : length s.fast ≡ turf_count b
    pub deltas : All Delta s.delta

  delta-at : (s : Plan) → Steady s → (r : ℕ) → r < turf_count b → Delta (get_or s.delta r nan)
  delta-at s q r l = All-get_or Delta s.delta r nan q.deltas (subst (λ n. r < n) (sym q.deltas_n) l)

  -- a store that leaves the delta as it is
  store-steady : (s : Plan) (r : ℕ) (x : Float) (d f : ℕ) → Steady s → Steady (store s r (record { delta = get_or s.delta r nan; amount = x; direction = d; fast = f }))
  store-steady s r x d f q = record {
    deltas_n = length-set s.delta r (get_or s.delta r nan) ∙ q.deltas_n;
    amounts_n = length-set s.amount r x ∙ q.amounts_n;
    fast_n = length-set s.fast r f ∙ q.fast_n;
    deltas = All-set Delta s.delta r (get_or s.delta r nan) (λ l. All-get_or Delta s.delta r nan q.deltas l) q.deltas;
  }

  -- what a search keeps
  pub record Seeks (w : List Float) (s : Seek) : Type 0 where
    pub steady : Steady s.plan
    pub weight : s.plan.weight ≡ w
    pub met : (k : ℕ) → k < turf_count b → T (member k s.queue) → Within 72 1 (get_or s.plan.amount k nan)

  module _ (side : Side) (g : ℕ) (row : g < turf_count b) (w : List Float) where
    module _ (r a : ℕ) (there : a < turf_count b) (s : Seek) (q : Seeks w s) (on : stopped side g s ≡ false) where
      abbrev s₁ : Plan
      s₁ = store s.plan a (record { delta = get_or s.plan.delta a nan; amount = 0f; direction = r + 1; fast = get_or s.plan.fast a 0 })

      steady₁ : Steady s₁
      steady₁ = store-steady s.plan a 0f (r + 1) (get_or s.plan.fast a 0) q.steady

      abbrev x : Float
      x = get_or s₁.delta g nan

      abbrev y : Float
      y = get_or s₁.delta a nan

      px : Delta x
      px = delta-at s₁ steady₁ g row

      py : Delta y
      py = delta-at s₁ steady₁ a there

      -- the first store leaves the deltas as they are
      same-x : x ≡ get_or s.plan.delta g nan
      same-x = set_keeps (λ k v. v ≡ get_or s.plan.delta k nan) s.plan.delta a (get_or s.plan.delta a nan) nan (λ l. refl) (λ k n l. refl) g (subst (λ n. g < n) (sym q.steady.deltas_n) row)

      going : settled side x ≡ false
      going = ap (settled side) same-x ∙ on

      abbrev X : Float
      X = cond (wants side y) (cond (more side x y) 0f (x +f y)) x

      abbrev Y : Float
      Y = cond (wants side y) (cond (more side x y) (y +f x) 0f) y

      abbrev n : Float
      n = get_or s₁.amount a nan

      abbrev A : Float
      A = cond (wants side y) (cond (more side x y) (n -f x) (n +f y)) n

      N₁ : a < length s.plan.amount
      N₁ = subst (λ n. a < n) (sym q.steady.amounts_n) there

      n_zero : Under 0 n
      n_zero = subst (λ v. Under 0 v) (sym (get_or-set_same s.plan.amount a 0f nan N₁)) zero-under

      abbrev P : ℕ → Float → Type 0
      P k v = T (member k (snoc s.queue a)) → Within 72 1 v

      first : (k : ℕ) → k < length s.plan.amount → P k (get_or s₁.amount k nan)
      first = set_keeps P s.plan.amount a 0f nan (λ l t. within-zero 72 (omega arith) 1) (λ k i l t. q.met k (subst (λ n. k < n) q.steady.amounts_n l) (member-other k a s.queue i t))

      second : (k : ℕ) → k < length s₁.amount → P k (get_or (set s₁.amount a A) k nan)
      second = set_keeps P s₁.amount a A nan (λ l t. met-amount (wants side y) (more side x y) n x y n_zero px py) (λ k i l. first k (subst (λ n. k < n) (length-set s.plan.amount a 0f) l))

      meets : Seeks w (record { queue = snoc s.queue a; looked = s.looked; plan = meet side g r a s.plan })
      unfolding meet trade
      meets = record {
        steady = record {
          deltas_n = length-set (set s₁.delta a Y) g X ∙ length-set s₁.delta a Y ∙ steady₁.deltas_n;
          amounts_n = length-set (set s₁.amount a A) g (get_or s₁.amount g nan) ∙ length-set s₁.amount a A ∙ steady₁.amounts_n;
          fast_n = length-set (set s₁.fast a (get_or s₁.fast a 0)) g (get_or s₁.fast g 0) ∙ length-set s₁.fast a (get_or s₁.fast a 0) ∙ steady₁.fast_n;
          deltas = All-set Delta (set s₁.delta a Y) g X (λ l. own-delta side x y px py going) (All-set Delta s₁.delta a Y (λ l. met-delta side x y px py going) steady₁.deltas);
        };
        weight = q.weight;
        met = λ k l t. set_keeps P (set s₁.amount a A) g (get_or s₁.amount g nan) nan (λ m. first g (subst (λ n. g < n) (sym q.steady.amounts_n) row))
            (λ j i m. second j (subst (λ n. j < n) (length-set s₁.amount a A) m)) k (subst (λ n. k < n) (sym (length-set s₁.amount a A ∙ steady₁.amounts_n)) l) t;
      }

    link-seeks : (r k : ℕ) (s : Seek) → Seeks w s → Seeks w (seek_link b owner z side g r k s)
    unfolding seek_link seek_to
    link-seeks r k s q = go (stopped side g s) refl (member (end b k) s.queue)
      where
        go : (t : Bool) → stopped side g s ≡ t → (m : Bool) → Seeks w (cond (t || m) s (record { queue = snoc s.queue (end b k); looked = s.looked; plan = meet side g r (end b k) s.plan }))
        go true e m = q
        go false e true = q
        go false e false = meets r (end b k) (ends k) s q e

    row-seeks : (r : ℕ) (s : Seek) → Seeks w s → Seeks w (seek_row b owner z side g r s)
    unfolding seek_row
    row-seeks r s q =
        let t = run-keeps (λ k. Unit {0}) (Seeks w) (seek_link b owner z side g r) (λ k t u i. link-seeks r k t i) (edges_of b owner z r) s (All-any _ (λ k. tt) (edges_of b owner z r)) q in
        record { steady = t.steady; weight = t.weight; met = t.met }

    next-seeks : (s : Seek) → Seeks w s → Seeks w (seek_next b owner z side g s)
    unfolding seek_next
    next-seeks s q =
        let r = get_or s.queue s.looked 0 in
        cond_both (Seeks w) (ltb s.looked (length s.queue) && not (stopped side g s)) (seek_row b owner z side g r s) s (row-seeks r s q) q

  -- ---- the way back

  -- what handing on keeps, for the turfs of the search
  pub record Drains (queue : List ℕ) (t : ℕ) (s : Plan) : Type 0 where
    pub steady : Steady s
    pub ms : List ℕ
    pub sized : length ms ≡ turf_count b
    pub few : all ms ≤ 4096
    pub held : (k : ℕ) → k < turf_count b → T (member k queue) → Within 72 (get_or ms k 0) (get_or s.amount k nan)
    pub weighed : Weighed owner z t top s.weight

  drains_more : (queue : List ℕ) (t d : ℕ) (s : Plan) → Drains queue t s → Drains queue (t + d) s
  drains_more queue t d s q = record { steady = q.steady; ms = q.ms; sized = q.sized; few = q.few; held = q.held; weighed = weighed_more owner z t d top s.weight q.weighed }

  handed_most : (m : ℕ) → m ≤ 4096 → m * 2 ^ 72 ≤ 1 * 2 ^ 84
  unfolding IsLe
  handed_most m h = le_trans (mul-le-mul_right (2 ^ 72) h) (le_by_compare (4096 * 2 ^ 72) (1 * 2 ^ 84) tt)

  module _ (queue : List ℕ) (t : ℕ) (fits : t + 2 ≤ most-changes) (r d : ℕ) (row : r < turf_count b) (mine : T (member r queue)) (s : Plan) (q : Drains queue t s) where
    abbrev xr : Float
    xr = get_or s.amount r nan

    abbrev mr : ℕ
    mr = get_or q.ms r 0

    xr_within : Within 72 mr xr
    xr_within = q.held r row mine

    abbrev v : Float
    v = get_or s.amount d nan +f xr

    abbrev ms₁ : List ℕ
    ms₁ = set q.ms d (get_or q.ms d 0 + mr)

    len : {i : ℕ} (l : List Float) → length l ≡ turf_count b → i < length l → i < turf_count b
    len {i} l e h = subst (λ n. i < n) e h

    to-d : d < length s.amount → T (member d queue) → Within 72 (get_or ms₁ d 0) v
    to-d l m =
        let i = subst (λ n. d < n) q.steady.amounts_n l in
        let e : get_or ms₁ d 0 ≡ get_or q.ms d 0 + mr = get_or-set_same q.ms d (get_or q.ms d 0 + mr) 0 (subst (λ n. d < n) (sym q.sized) i) in
        let a = all-at q.ms d in
        let c = all-at q.ms r in
        let f = q.few in
        subst (λ n. Within 72 n v) (sym e) (within-add 72 (omega arith) (get_or q.ms d 0) mr (get_or q.ms d 0 + mr) (omega arith) (omega arith) (q.held d i m) xr_within)

    amounts₁ : (k : ℕ) → k < length s.amount → T (member k queue) → Within 72 (get_or ms₁ k 0) (get_or (set s.amount d v) k nan)
    amounts₁ = set_keeps (λ k u. T (member k queue) → Within 72 (get_or ms₁ k 0) u) s.amount d v nan to-d
        (λ k i l m. subst (λ n. Within 72 n (get_or s.amount k nan)) (sym (get_or-set_other q.ms d k (get_or q.ms d 0 + mr) 0 i)) (q.held k (subst (λ n. k < n) q.steady.amounts_n l) m))

    amounts₂ : (k : ℕ) → k < length (set s.amount d v) → T (member k queue) → Within 72 (get_or (hand q.ms r d) k 0) (get_or (set (set s.amount d v) r 0f) k nan)
    amounts₂ = set_keeps (λ k u. T (member k queue) → Within 72 (get_or (hand q.ms r d) k 0) u) (set s.amount d v) r 0f nan (λ l m. within-zero 72 (omega arith) (get_or (hand q.ms r d) r 0))
        (λ k i l m. subst (λ n. Within 72 n (get_or (set s.amount d v) k nan)) (sym (get_or-set_other ms₁ r k 0 0 i)) (amounts₁ k (subst (λ n. k < n) (length-set s.amount d v) l) m))

    to-drains : Drains queue (t + 2) (drain_to b owner z r d s)
    unfolding drain_to
    to-drains = record {
      steady = record {
        deltas_n = length-set (set s.delta d (get_or s.delta d nan)) r (get_or s.delta r nan) ∙ length-set s.delta d (get_or s.delta d nan) ∙ q.steady.deltas_n;
        amounts_n = length-set (set s.amount d v) r 0f ∙ length-set s.amount d v ∙ q.steady.amounts_n;
        fast_n = length-set (set s.fast d (get_or s.fast d 0)) r (get_or s.fast r 0) ∙ length-set s.fast d (get_or s.fast d 0) ∙ q.steady.fast_n;
        deltas = All-set Delta (set s.delta d (get_or s.delta d nan)) r (get_or s.delta r nan) (λ l. delta-at s q.steady r row)
            (All-set Delta s.delta d (get_or s.delta d nan) (λ l. All-get_or Delta s.delta d nan q.steady.deltas l) q.steady.deltas);
      };
      ms = hand q.ms r d;
      sized = length-set ms₁ r 0 ∙ length-set q.ms d (get_or q.ms d 0 + mr) ∙ q.sized;
      few = le_trans (all-hand q.ms r d) q.few;
      held = λ k l m. amounts₂ k (subst (λ n. k < n) (sym (length-set s.amount d v ∙ q.steady.amounts_n)) l) m;
      weighed = adjust-weighed owner z b r d xr t top s.weight fits (under_more (1 * 2 ^ 84) (handed_most mr (le_trans (all-at q.ms r) q.few)) xr_within) q.weighed;
    }

  drain-drains : (queue : List ℕ) (t : ℕ) → t + 2 ≤ most-changes → (r : ℕ) → r < turf_count b → T (member r queue) → (s : Plan) → Drains queue t s → Drains queue (t + 2) (drain b owner z r s)
  unfolding drain
  drain-drains queue t h r l m s q =
      cond_both (Drains queue (t + 2)) (ne (get_or s.amount r nan) 0f && not (eqb (get_or s.direction r 0) 0)) (drain_to b owner z r (get_or s.direction r 0 - 1) s) s
      (to-drains queue t h r (get_or s.direction r 0 - 1) l m s q) (drains_more queue t 2 s q)

  all-drains : (queue : List ℕ) (xs : List ℕ) (t : ℕ) → t + 2 * length xs ≤ most-changes → All (λ r. (r < turf_count b) × T (member r queue)) xs → (s : Plan) → Drains queue t s
      → Drains queue (t + 2 * length xs) (run (drain b owner z) xs s)
  unfolding run
  all-drains queue [] t h a s q = drains_more queue t (2 * 0) s q
  all-drains queue (r ∷ xs) t h a s q =
      subst (λ n. Drains queue n (run (drain b owner z) xs (drain b owner z r s))) (omega arith)
      (all-drains queue xs (t + 2) (omega arith) a.1 (drain b owner z r s) (drain-drains queue t (omega arith) r a.0.0 a.0.1 s q))

  -- ---- one serve

  -- what planning keeps
  pub record Plans (t : ℕ) (s : Plan) : Type 0 where
    pub steady : Steady s
    pub weighed : Weighed owner z t top s.weight

  pub serve-plans : turf_count b ≤ 4096 → (side : Side) (g : ℕ) → g < turf_count b → (t : ℕ) → t + 8192 ≤ most-changes → (s : Plan) → Plans t s → Plans (t + 8192) (serve b owner z side g s)
  unfolding serve member
  serve-plans N side g row t h s q =
      let p = store s g (record { delta = get_or s.delta g nan; amount = 0f; direction = 0; fast = get_or s.fast g 0 }) in
      let u = sought b ends owner z side g p in
      let line = seek_line b ends owner z side g p row in
      let k = times-keeps (Seeks s.weight) (seek_next b owner z side g) (next-seeks side g row s.weight) (turf_count b) (start_seek b ends owner z side g p) (record {
        steady = store-steady s g 0f 0 (get_or s.fast g 0) q.steady;
        weight = refl;
        met = set-met;
      }) in
      let n = line-short b u.queue line in
      let len = length-reverse u.queue in
      let d = all-drains u.queue (reverse u.queue) t (omega arith) (All-back (λ r. (r < turf_count b) × T (member r u.queue)) u.queue (pair u.queue u.queue line.rows (members u.queue))) u.plan (record {
        steady = k.steady;
        ms = replicate (turf_count b) 1;
        sized = length-replicate (turf_count b) 1;
        few = let e = all_replicate (turf_count b) 1 in omega arith;
        held = λ r l m. subst (λ c. Within 72 c (get_or u.plan.amount r nan)) (sym (get_or-replicate (turf_count b) r 1 0 l)) (k.met r l m);
        weighed = subst (λ w. Weighed owner z t top w) (sym k.weight) q.weighed;
      }) in
      record {
        steady = d.steady;
        weighed = subst (λ i. Weighed owner z i top (run (drain b owner z) (reverse u.queue) u.plan).weight) (omega arith)
            (weighed_more owner z (t + 2 * length (reverse u.queue)) (8192 - 2 * length (reverse u.queue)) top (run (drain b owner z) (reverse u.queue) u.plan).weight d.weighed);
      }
    where
      pair : (xs ys : List ℕ) → All (λ r. r < turf_count b) xs → All (λ r. T (member r ys)) xs → All (λ r. (r < turf_count b) × T (member r ys)) xs
      pair [] ys a c = tt
      pair (i ∷ xs) ys a c = ((a.0, c.0), pair xs ys a.1 c.1)

      set-met : (k : ℕ) → k < turf_count b → T (member k (g ∷ [])) → Within 72 1 (get_or (set s.amount g 0f) k nan)
      set-met k l t = set_keeps (λ j v. T (member j (g ∷ [])) → Within 72 1 v) s.amount g 0f nan (λ m i. within-zero 72 (omega arith) 1)
          (λ j n m i. absurd (only j n i)) k (subst (λ n. k < n) (sym q.steady.amounts_n) l) t
        where
          only : (j : ℕ) → j ≢ g → T (member j (g ∷ [])) → ⊥
          only j n i = member-other j g [] n i

  pub serves_plans : turf_count b ≤ 4096 → (side : Side) (gs : List ℕ) → All (λ r. r < turf_count b) gs → (t : ℕ) → t + 8192 * length gs ≤ most-changes → (s : Plan) → Plans t s
      → Plans (t + 8192 * length gs) (run (serve b owner z side) gs s)
  unfolding run
  serves_plans N side [] a t h s q = subst (λ n. Plans n s) (omega arith) q
  serves_plans N side (g ∷ gs) a t h s q =
      subst (λ n. Plans n (run (serve b owner z side) gs (serve b owner z side g s))) (omega arith)
      (serves_plans N side gs a.1 (t + 8192) (omega arith) (serve b owner z side g s) (serve-plans N side g a.0 t (omega arith) s q))

-- What a fill counts: a turf is pushed, and asks for at most two requests, only when it is newly marked, so the queue and the requests are bounded by the marks;
-- no turf is pushed twice, so as many pops as there are turfs bring a fill to rest. Assumes nothing.
use mathlib.Core.Path.{◌≡◌, refl, sym, ap, ◌∙◌, subst}
use mathlib.Core.List.{List, [], ◌∷◌, ◌++◌}
use mathlib.Core.Bool.{Bool, true, false, not, ◌&&◌, ◌||◌, cond}
use Prim.Native.Nat.{ℕ, ◌+◌, ◌*◌, ◌≤◌, ◌<◌}
use native.Mathlib.Nat.{le_refl}
use native.Mathlib.Decide.{ℕ_discrete}
use native.Mathlib.Omega.{arith}
use lib.Dec.{T, eqb}
use lib.ListN.{length, get_or, set, length-set, length-append, get_or-append}
use lib.Seq.{get_or-set_same, get_or-set_other}
use lib.Ieee.{Float}
use borrow.Author.Tests.{eqb-true}
use Rattle.basics.specs.Loops.{member, snoc}
use Rattle.basics.specs.Lists.{All, one, count}
use Rattle.basics.proofs.Lists.{All-append, count_set, count-length}
use Rattle.rules_board.specs.Board.{Board, turf_count, id_of, end, enabled, planetary, immutable, firelock}
use Rattle.rules_events.specs.declared.Event.{Event}
use Rattle.rules_events.specs.declared.Event.TheVariants.{DepressurizeWanted, PlanetWanted}
use Rattle.rules_events.specs.Compared.{is_request}
use Rattle.rules_fill.specs.Fill.{Reach, Fill, insert, reach_link, fill}
use Rattle.laws_fill.proofs.Steps.{Keeps, fill-keeps}

-- ---- marks

-- a mark that is set
abbrev pub is_mark : ℕ → Bool
is_mark x = not (eqb x 0)

-- the marks that are set
unfoldable pub marked : List ℕ → ℕ
marked xs = count is_mark xs

pub mark-put : (xs : List ℕ) (a v : ℕ) → a < length xs → get_or xs a 0 ≡ 0 → is_mark v ≡ true → marked (set xs a v) ≡ marked xs + 1
unfolding marked
mark-put xs a v l e i =
    let c : count is_mark (set xs a v) + one (is_mark (get_or xs a 0)) ≡ count is_mark xs + one (is_mark v) = count_set is_mark xs a v 0 l in
    let z : one (is_mark (get_or xs a 0)) ≡ 0 = ap (λ (x : ℕ). one (is_mark x)) e in
    let o : one (is_mark v) ≡ 1 = ap one i in
    omega arith

pub mark-new : (xs : List ℕ) (a : ℕ) → a < length xs → get_or xs a 0 ≡ 0 → marked (set xs a 1) ≡ marked xs + 1
mark-new xs a l e = mark-put xs a 1 l e refl

pub mark-old : (xs : List ℕ) (a : ℕ) → a < length xs → eqb (get_or xs a 0) 0 ≡ false → marked (set xs a 1) ≡ marked xs
unfolding marked
mark-old xs a l e =
    let c : count is_mark (set xs a 1) + one (is_mark (get_or xs a 0)) ≡ count is_mark xs + 1 = count_set is_mark xs a 1 0 l in
    let z : one (is_mark (get_or xs a 0)) ≡ 1 = ap (λ (t : Bool). one (not t)) e in
    omega arith

pub marked-length : (xs : List ℕ) → marked xs ≤ length xs
unfolding marked
marked-length xs = count-length is_mark xs

pub marked-one : (xs : List ℕ) (i : ℕ) → i < length xs → is_mark (get_or xs i 0) ≡ true → 1 ≤ marked xs
unfolding marked
marked-one xs i l e =
    let c : count is_mark (set xs i 0) + one (is_mark (get_or xs i 0)) ≡ count is_mark xs + 0 = count_set is_mark xs i 0 0 l in
    let o : one (is_mark (get_or xs i 0)) ≡ 1 = ap one e in
    omega arith

-- what is unmarked after a mark was set is another, and was unmarked before
pub was_new : (xs : List ℕ) (a x : ℕ) → a < length xs → get_or (set xs a 1) x 0 ≡ 0 → (x ≡ a → ⊥) × (get_or xs x 0 ≡ 0)
was_new xs a x l e = go (ℕ_discrete x a)
  where
    go : Dec (x ≡ a) → (x ≡ a → ⊥) × (get_or xs x 0 ≡ 0)
    go (no ne) = (ne, sym (get_or-set_other xs a x 1 0 ne) ∙ e)
    go (yes i) = absurd (omega (arith, sym (get_or-set_same xs a 1 0 l) ∙ ap (λ (y : ℕ). get_or (set xs a 1) y 0) (sym i) ∙ e))

-- ---- one fill, from the marks f₀ and the events e₀; r₀ is its first turf

module _ (b : Board) (n : ℕ) (ends : (k : ℕ) → end b k < n) (z r₀ : ℕ) (f₀ : List ℕ) (e₀ : List Event) where
  pub record Counted (s : Reach) : Type 0 where
    pub size : length s.found ≡ n
    pub grown : marked f₀ ≤ marked s.found
    pub line : length s.queue + marked f₀ ≤ marked s.found + 1
    pub asked : length s.events + 2 * marked f₀ ≤ 2 * marked s.found + length e₀
    pub spoken : All (λ e. T (is_request e)) s.events
    pub before : (x : ℕ) → get_or s.found x 0 ≡ 0 → get_or f₀ x 0 ≡ 0
    pub first : (get_or s.nodes 0 0 ≡ r₀) × (1 ≤ length s.nodes)

  -- the requests of one link
  abbrev asks : ℕ → Bool → Bool → List Event
  asks r x y = cond x (DepressurizeWanted (id_of b r) ∷ []) [] ++ cond y (PlanetWanted (id_of b r) ∷ []) []

  asks_two : (r : ℕ) (x y : Bool) → length (asks r x y) ≤ 2
  asks_two r true true = omega arith
  asks_two r true false = omega arith
  asks_two r false true = omega arith
  asks_two r false false = omega arith

  asks_requests : (r : ℕ) (x y : Bool) → All (λ e. T (is_request e)) (asks r x y)
  asks_requests r true true = (tt, (tt, tt))
  asks_requests r true false = (tt, tt)
  asks_requests r false true = (tt, tt)
  asks_requests r false false = tt

  snoc-length : (t : Bool) (xs : List ℕ) (x : ℕ) → length (cond t (snoc xs x) xs) ≤ length xs + 1
  snoc-length true xs x = omega (arith, length-append xs (x ∷ []))
  snoc-length false xs x = omega arith

  first-stays : (t u : Bool) (a : ℕ) (xs : List ℕ) → (get_or xs 0 0 ≡ r₀) × (1 ≤ length xs)
      → (get_or (cond t (cond u xs (snoc xs a)) xs) 0 0 ≡ r₀) × (1 ≤ length (cond t (cond u xs (snoc xs a)) xs))
  first-stays true true a xs h = h
  first-stays true false a xs h = (get_or-append xs (a ∷ []) 0 0 h.1 ∙ h.0, omega (arith, h.1, length-append xs (a ∷ [])))
  first-stays false u a xs h = h

  pub link-counts : Keeps b z Counted
  unfolding reach_link insert
  link-counts r k s queued ours q = go (eqb (get_or s.found a 0) 0) refl
    where
      a : ℕ
      a = end b k

      inside : a < length s.found
      inside = subst (λ (m : ℕ). a < m) (sym q.size) (ends k)

      more : (t : Bool) → List Event
      more t = asks r (t && not s.ignored && immutable b a) (t && not s.ignored && (planetary b a && firelock b k))

      go : (t : Bool) → eqb (get_or s.found a 0) 0 ≡ t → Counted (record {
        found = set s.found a 1;
        queue = cond (t && enabled b a) (snoc s.queue a) s.queue;
        nodes = (reach_link b z r k s).nodes;
        owner = (reach_link b z r k s).owner;
        ignored = s.ignored || (t && not s.ignored && immutable b a);
        events = s.events ++ more t;
      })
      go true e =
          let m : marked (set s.found a 1) ≡ marked s.found + 1 = mark-new s.found a inside (eqb-true (get_or s.found a 0) 0 e) in
          record {
            size = length-set s.found a 1 ∙ q.size;
            grown = omega (arith, m, q.grown);
            line = omega (arith, snoc-length (enabled b a) s.queue a, m, q.line);
            asked = omega (arith, length-append s.events (more true), asks_two r (not s.ignored && immutable b a) (not s.ignored && (planetary b a && firelock b k)), m, q.asked);
            spoken = All-append _ s.events (more true) q.spoken (asks_requests r (not s.ignored && immutable b a) (not s.ignored && (planetary b a && firelock b k)));
            before = λ x h. q.before x (was_new s.found a x inside h).1;
            first = first-stays (enabled b a) (member a s.nodes) a s.nodes q.first;
          }
      go false e =
          let m : marked (set s.found a 1) ≡ marked s.found = mark-old s.found a inside e in
          record {
            size = length-set s.found a 1 ∙ q.size;
            grown = omega (arith, m, q.grown);
            line = omega (arith, m, q.line);
            asked = omega (arith, length-append s.events (more false), m, q.asked);
            spoken = All-append _ s.events [] q.spoken tt;
            before = λ x h. q.before x (was_new s.found a x inside h).1;
            first = first-stays (enabled b a) (member a s.nodes) a s.nodes q.first;
          }

-- ---- the whole fill

module _ (b : Board) (ends : (k : ℕ) → end b k < turf_count b) (gas : List Float) (limit allowance z r : ℕ) (found owner : List ℕ) (events : List Event) (tests : ℕ) where
  abbrev filled : Fill
  filled = fill b gas limit allowance z r found owner events tests

  pub fill-counts : length found ≡ turf_count b → All (λ e. T (is_request e)) events → Counted b (turf_count b) ends z r (set found r 1) events filled.reach
  fill-counts l h = fill-keeps b z (Counted b (turf_count b) ends z r (set found r 1) events) (link-counts b (turf_count b) ends z r (set found r 1) events)
      gas limit allowance r found owner events tests (record {
        size = length-set found r 1 ∙ l;
        grown = le_refl (marked (set found r 1));
        line = omega arith;
        asked = omega arith;
        spoken = h;
        before = λ x e. e;
        first = (refl, le_refl 1);
      })

  -- no turf is pushed twice
  pub queue-short : length found ≡ turf_count b → r < turf_count b → All (λ e. T (is_request e)) events → length filled.reach.queue ≤ turf_count b
  queue-short l i h =
      let c = fill-counts l h in
      let m : marked filled.reach.found ≤ length filled.reach.found = marked-length filled.reach.found in
      let o : 1 ≤ marked (set found r 1) = marked-one (set found r 1) r (rw (length-set found r 1) inside) (ap is_mark (get_or-set_same found r 1 0 inside)) in
      omega (arith, c.line, c.size, m, o)
    where
      inside : r < length found
      inside = subst (λ (m : ℕ). r < m) (sym l) i

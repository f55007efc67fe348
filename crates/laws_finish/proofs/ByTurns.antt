-- The turns, step by step, do the jobs of their list in order: one step is one job, and as many steps as nodes leave no job. Assumes nothing.
use mathlib.Core.Path.{◌≡◌, refl, sym, ap, ap₂, ◌∙◌, subst}
use mathlib.Core.Logic.{◌≢◌}
use mathlib.Core.List.{List, [], ◌∷◌, ◌++◌}
use mathlib.Core.Bool.{Bool, true, false, cond}
use Prim.Native.Nat.{ℕ, zero, suc, ◌+◌, ◌-◌, ◌≤◌, ◌<◌}
use native.Mathlib.Decide.{ℕ_discrete}
use native.Mathlib.Numerals.{add-one}
use native.Mathlib.Nat.{le_refl, zero-mod}
use native.Mathlib.Omega.{arith}
use lib.Dec.{eqb, ltb}
use lib.ListN.{length, get_or, drop, replicate, length-set, length-replicate, length-map, length-append, length-drop, drop_of_length-le}
use lib.Seq.{drop-cons, get_or-set_same, get_or-set_other}
use borrow.Author.Tests.{eqb-true, eqb-false, ltb-false, ltb-true, lt-ltb}
use Rattle.basics.specs.Loops.{run, times, keep, cons_if, up_from}
use Rattle.basics.specs.Floats.{0f}
use Rattle.basics.specs.Lists.{All}
use Rattle.basics.proofs.Loops.{All-imp, times-still, up-below}
use Rattle.basics.proofs.Lists.{Apart, up_from-apart}
use Rattle.rules_board.specs.Board.{Board, link_count}
use Rattle.rules_finish.specs.Finish.{Done, finish}
use Rattle.rules_finish.specs.Turns.{Zone, nodes_at, node_count, unfinished, Turned, do_next, turn, by_turns, finish_all}
use Rattle.laws_finish.specs.Jobs.{Job, jobs_on, jobs_left, jobs_in_order, pick, next_job, order, turn_order, work}
use Rattle.laws_finish.proofs.Order.{Open, picked, bumped}

module _ (zones : List Zone) where
  -- the jobs left look at the turns that were had
  pub in_order_like : (next next' ys : List ℕ) → All (λ y. get_or next' y 0 ≡ get_or next y 0) ys → jobs_in_order zones next' ys ≡ jobs_in_order zones next ys
  unfolding jobs_in_order jobs_left
  in_order_like next next' [] h = refl
  in_order_like next next' (y ∷ ys) h = ap₂ (λ (k : ℕ) (js : List Job). jobs_on y (drop k (nodes_at zones y)) ++ js) h.0 (in_order_like next next' ys h.1)

  abbrev all : List ℕ
  all = up_from 0 (length zones)

  -- how many jobs are left
  abbrev tot : List ℕ → List ℕ → ℕ
  tot next ys = length (jobs_in_order zones next ys)

  size-cons : (next : List ℕ) (y : ℕ) (ys : List ℕ) → tot next (y ∷ ys) ≡ (length (nodes_at zones y) - get_or next y 0) + tot next ys
  unfolding jobs_in_order jobs_left
  size-cons next y ys =
      length-append (jobs_left zones next y) (jobs_in_order zones next ys)
      ∙ ap (λ (k : ℕ). k + tot next ys) (length-map (drop (get_or next y 0) (nodes_at zones y)) (λ r. record { zone = y; row = r }) ∙ length-drop (get_or next y 0) (nodes_at zones y))

  -- a turn leaves no more than there were
  tot_less : (next : List ℕ) (z : ℕ) → z < length next → (ys : List ℕ) → tot (bumped zones next z) ys ≤ tot next ys
  unfolding jobs_in_order
  tot_less next z l [] = le_refl 0
  tot_less next z l (y ∷ ys) = omega (arith, size-cons next y ys, size-cons (bumped zones next z) y ys, more (ℕ_discrete y z), tot_less next z l ys)
    where
      more : Dec (y ≡ z) → get_or next y 0 ≤ get_or (bumped zones next z) y 0
      more (yes e) = subst (λ (x : ℕ). get_or next x 0 ≤ get_or (bumped zones next z) x 0) (sym e) (omega (arith, get_or-set_same next z (get_or next z 0 + 1) 0 l))
      more (no ne) = omega (arith, get_or-set_other next z y (get_or next z 0 + 1) 0 ne)

  -- from the start, at most the nodes
  tot_nodes : (next : List ℕ) (a n acc : ℕ) → a + n ≡ length zones → acc + tot next (up_from a n) ≤ run (λ z k. k + length z.nodes) (drop a zones) acc
  unfolding run up_from jobs_in_order
  tot_nodes next a zero acc e = rw (drop_of_length-le zones {i = a} (omega arith)) (omega arith)
  tot_nodes next a (suc n) acc e =
      rw (drop-cons zones a (record { nodes = []; moles = 0f }) (omega arith))
      (omega (arith, size-cons next a (up_from (suc a) n), tot_nodes next (suc a) n (acc + length (nodes_at zones a)) (omega arith)))

  abbrev is_open : List ℕ → ℕ → Bool
  is_open next z = ltb (get_or next z 0) (length (nodes_at zones z))

  -- none of them is unfinished: no job is left
  left-none : (next ys : List ℕ) → length (keep (is_open next) ys) ≡ 0 → jobs_in_order zones next ys ≡ []
  unfolding jobs_in_order jobs_left keep
  left-none next [] h = refl
  left-none next (y ∷ ys) h = go (is_open next y) refl h (left-none next ys)
    where
      go : (t : Bool) → is_open next y ≡ t → length (cons_if t y (keep (is_open next) ys)) ≡ 0 → (length (keep (is_open next) ys) ≡ 0 → jobs_in_order zones next ys ≡ []) → jobs_in_order zones next (y ∷ ys) ≡ []
      go true e i ih = absurd (omega arith)
      go false e i ih = ap₂ (λ (rs : List ℕ) (js : List Job). jobs_on y rs ++ js) (drop_of_length-le (nodes_at zones y) {i = get_or next y 0} (ltb-false _ _ e)) (ih i)

  -- the lowest unfinished one comes first
  left-first : (next ys : List ℕ) → Apart ys → length next ≡ length zones → All (λ y. y < length zones) ys → (z : ℕ) → (length (keep (is_open next) ys) ≡ 0 → ⊥) → get_or (keep (is_open next) ys) 0 0 ≡ z → is_open next z ≡ true
      → jobs_in_order zones next ys ≡ next_job zones next z ∷ jobs_in_order zones (bumped zones next z) ys
  unfolding jobs_in_order jobs_left keep
  left-first next [] d l b z h e o = absurd (h refl)
  left-first next (y ∷ ys) d l b z h e o = go (is_open next y) refl h e (left-first next ys d.1 l b.1 z)
    where
      next' : List ℕ
      next' = bumped zones next z

      go : (t : Bool) → is_open next y ≡ t → (length (cons_if t y (keep (is_open next) ys)) ≡ 0 → ⊥) → get_or (cons_if t y (keep (is_open next) ys)) 0 0 ≡ z
          → ((length (keep (is_open next) ys) ≡ 0 → ⊥) → get_or (keep (is_open next) ys) 0 0 ≡ z → is_open next z ≡ true → jobs_in_order zones next ys ≡ next_job zones next z ∷ jobs_in_order zones next' ys)
          → jobs_left zones next y ++ jobs_in_order zones next ys ≡ next_job zones next z ∷ (jobs_left zones next' y ++ jobs_in_order zones next' ys)
      go true t i f ih = subst (λ (x : ℕ). jobs_left zones next y ++ jobs_in_order zones next ys ≡ next_job zones next x ∷ (jobs_left zones (bumped zones next x) y ++ jobs_in_order zones (bumped zones next x) ys)) f
          (ap₂ (λ (rs : List ℕ) (js : List Job). jobs_on y rs ++ js)
          (drop-cons (nodes_at zones y) (get_or next y 0) 0 (ltb-true _ _ t)
          ∙ ap (λ (k : ℕ). get_or (nodes_at zones y) (get_or next y 0) 0 ∷ drop k (nodes_at zones y)) (sym (get_or-set_same next y (get_or next y 0 + 1) 0 (omega (arith, l, b.0)) ∙ add-one (get_or next y 0))))
          (sym (in_order_like next (bumped zones next y) ys (All-imp (λ j. j ≢ y) _ ys (λ j ne. get_or-set_other next y j (get_or next y 0 + 1) 0 ne) d.0))))
      go false t i f ih =
          let ne : y ≢ z = λ q. omega (arith, ltb-false (get_or next y 0) (length (nodes_at zones y)) t, ltb-true (get_or next y 0) (length (nodes_at zones y)) (ap (is_open next) q ∙ o)) in
          let gone : drop (get_or next y 0) (nodes_at zones y) ≡ [] = drop_of_length-le (nodes_at zones y) {i = get_or next y 0} (ltb-false _ _ t) in
          ap₂ (λ (rs : List ℕ) (js : List Job). jobs_on y rs ++ js) gone (ih i f o)
          ∙ ap (λ (rs : List ℕ). next_job zones next z ∷ (jobs_on y rs ++ jobs_in_order zones next' ys)) (sym (ap (λ (k : ℕ). drop k (nodes_at zones y)) (get_or-set_other next z y (get_or next z 0 + 1) 0 ne) ∙ gone))

  module _ {S : Type 0} (doNode : ℕ → ℕ → S → S) where
    abbrev do_job : Job → S → S
    do_job j s = doNode j.zone j.row s

    abbrev at : List ℕ → S → Turned S
    at next d = record { next = next; done = d }

    -- the lowest unfinished zone's next node, until none is left
    rest : (n : ℕ) (next : List ℕ) (d : S) → length next ≡ length zones → tot next all ≤ n → (times (turn zones doNode 0) n (at next d)).done ≡ run do_job (jobs_in_order zones next all) d
    unfolding times turn run unfinished
    rest zero next d l h = ap (λ (js : List Job). run do_job js d) (sym (none (jobs_in_order zones next all) h))
      where
        none : (js : List Job) → length js ≤ 0 → js ≡ []
        none [] i = refl
        none (j ∷ js) i = absurd (omega arith)
    rest (suc n) next d l h = go (λ m e i j. rest n m e i j) (eqb (length (unfinished zones next)) 0) refl
      where
        z : ℕ
        z = pick zones 0 (unfinished zones next)

        go : ((m : List ℕ) (e : S) → length m ≡ length zones → tot m all ≤ n → (times (turn zones doNode 0) n (at m e)).done ≡ run do_job (jobs_in_order zones m all) e)
            → (t : Bool) → eqb (length (unfinished zones next)) 0 ≡ t → (times (turn zones doNode 0) n (cond t (at next d) (do_next zones doNode z (at next d)))).done ≡ run do_job (jobs_in_order zones next all) d
        go ih true e =
            ap (λ (s : Turned S). s.done) (times-still (turn zones doNode 0) n (at next d) (ap (λ (t : Bool). cond t (at next d) (do_next zones doNode z (at next d))) e))
            ∙ ap (λ (js : List Job). run do_job js d) (sym (left-none next all (eqb-true (length (unfinished zones next)) 0 e)))
        go ih false e =
            let o : Open zones next z = picked zones next 0 e in
            let first : jobs_in_order zones next all ≡ next_job zones next z ∷ jobs_in_order zones (bumped zones next z) all =
            left-first next all (up_from-apart 0 (length zones)) l (up-below 0 (length zones) (length zones) (omega arith)) z (eqb-false (length (unfinished zones next)) 0 e) (ap (λ (k : ℕ). get_or (unfinished zones next) k 0) (sym (zero-mod (length (unfinished zones next))))) (lt-ltb _ _ o.0) in
            let fewer : tot next all ≡ suc (tot (bumped zones next z) all) = ap length first in
            ih (bumped zones next z) (do_job (next_job zones next z) d) (length-set next z (get_or next z 0 + 1) ∙ l) (omega (arith, fewer, h))
            ∙ ap (λ (js : List Job). run do_job js d) (sym first)

    -- the turns, then the rest
    pub turns-order : (n : ℕ) (cs next : List ℕ) (d : S) → length next ≡ length zones → tot next all ≤ n
        → (times (turn zones doNode 0) n (run (turn zones doNode) cs (at next d))).done ≡ run do_job (order zones next cs) d
    unfolding order run turn
    turns-order n [] next d l h = rest n next d l h
    turns-order n (c ∷ cs) next d l h = go (λ m e i j. turns-order n cs m e i j) (eqb (length (unfinished zones next)) 0) refl
      where
        z : ℕ
        z = pick zones c (unfinished zones next)

        go : ((m : List ℕ) (e : S) → length m ≡ length zones → tot m all ≤ n → (times (turn zones doNode 0) n (run (turn zones doNode) cs (at m e))).done ≡ run do_job (order zones m cs) e)
            → (t : Bool) → eqb (length (unfinished zones next)) 0 ≡ t
            → (times (turn zones doNode 0) n (run (turn zones doNode) cs (cond t (at next d) (do_next zones doNode z (at next d))))).done
            ≡ run do_job (cond t [] (next_job zones next z ∷ []) ++ order zones (cond t next (bumped zones next z)) cs) d
        go ih true e = ih next d l h
        go ih false e =
            let o : Open zones next z = picked zones next c e in
            ih (bumped zones next z) (do_job (next_job zones next z) d) (length-set next z (get_or next z 0 + 1) ∙ l)
            (omega (arith, tot_less next z (omega (arith, o.1, l)) all, h))

-- finishing by turns does the jobs of the turns in order
pub by_order : (b : Board) (owner : List ℕ) (zones : List Zone) (turns : List ℕ) (s : Done) → finish_all b owner zones turns s ≡ run (work b owner) (turn_order zones turns) s
unfolding finish_all by_turns node_count turn_order work
by_order b owner zones turns s =
    turns-order zones (λ z r. finish b owner z (suc (link_count b)) r) (node_count zones) turns (replicate (length zones) 0) s (length-replicate (length zones) 0)
    (omega (arith, tot_nodes zones (replicate (length zones) 0) 0 (length zones) 0 (omega arith)))

-- The jobs that a list of turns makes: each zone has its nodes, in order, once, whatever the turns, since a turn takes the next node of one zone. Assumes nothing.
use mathlib.Core.Path.{◌≡◌, refl, sym, ap, ap₂, ◌∙◌}
use mathlib.Core.Logic.{◌≢◌, ◌⊎◌, inl, inr}
use mathlib.Core.List.{List, [], ◌∷◌, ◌++◌, map, append-nil}
use mathlib.Core.Bool.{Bool, true, false, cond}
use Prim.Native.Nat.{ℕ, zero, suc, ◌+◌, ◌%◌, ◌≤◌, ◌<◌, zero-le}
use native.Mathlib.Nat.{mod-lt}
use native.Mathlib.Decide.{ℕ_discrete}
use native.Mathlib.Omega.{arith}
use lib.Dec.{eqb, ltb, ltb→lt}
use lib.ListN.{length, get_or, set, drop, replicate, length-set, length-replicate, get_or-eq_default}
use lib.Seq.{drop-cons, get_or-set_same, get_or-set_other}
use borrow.Author.Tests.{eqb-false}
use Rattle.basics.specs.Loops.{keep, up_from}
use Rattle.basics.specs.Floats.{0f}
use Rattle.basics.specs.Lists.{All}
use Rattle.basics.proofs.Loops.{All-imp, All-get_or, All-map, keep_all, keep_append}
use Rattle.basics.proofs.Lists.{All-append, All-drop, map-append, up_from-below, replicate-at}
use Rattle.rules_finish.specs.Turns.{Zone, nodes_at, unfinished}
use Rattle.laws_finish.specs.Jobs.{Job, jobs_left, jobs_in_order, pick, next_job, order, turn_order, jobs_on}
use Rattle.laws_finish.proofs.Jobs.{rows_of, rows-mine, rows_other}

rows_append : (z : ℕ) (js ks : List Job) → rows_of z (js ++ ks) ≡ rows_of z js ++ rows_of z ks
unfolding rows_of
rows_append z js ks = ap (map (λ j. j.row)) (keep_append (λ j. eqb j.zone z) js ks) ∙ map-append (λ j. j.row) (keep (λ j. eqb j.zone z) js) (keep (λ j. eqb j.zone z) ks)

mine : (z y : ℕ) (rs : List ℕ) → y ≡ z → rows_of z (jobs_on y rs) ≡ rs
unfolding rows_of keep
mine z y [] e = refl
mine z y (r ∷ rs) e = rows-mine z (record { zone = y; row = r }) (jobs_on y rs) e ∙ ap (λ (x : List ℕ). r ∷ x) (mine z y rs e)

others : (z y : ℕ) (rs : List ℕ) → y ≢ z → rows_of z (jobs_on y rs) ≡ []
unfolding rows_of keep
others z y [] e = refl
others z y (r ∷ rs) e = rows_other z (record { zone = y; row = r }) (jobs_on y rs) e ∙ others z y rs e

module _ (zones : List Zone) where
  abbrev left : List ℕ → ℕ → List ℕ
  left next z = drop (get_or next z 0) (nodes_at zones z)

  outside : (next : List ℕ) (z a n : ℕ) → (z < a) ⊎ (a + n ≤ z) → rows_of z (jobs_in_order zones next (up_from a n)) ≡ []
  unfolding jobs_in_order up_from rows_of keep jobs_left
  outside next z a zero h = refl
  outside next z a (suc n) h =
      let ne : a ≢ z = λ e. elim h [ inl l ↦ omega arith | inr l ↦ omega arith ] in
      let h' : (z < suc a) ⊎ (suc a + n ≤ z) = elim h [ inl l ↦ inl (omega arith) | inr l ↦ inr (omega arith) ] in
      rows_append z (jobs_left zones next a) (jobs_in_order zones next (up_from (suc a) n))
      ∙ ap₂ (λ (x y : List ℕ). x ++ y) (others z a (left next a) ne) (outside next z (suc a) n h')

  inside : (next : List ℕ) (z a n : ℕ) → a ≤ z → z < a + n → rows_of z (jobs_in_order zones next (up_from a n)) ≡ left next z
  unfolding jobs_in_order up_from rows_of keep jobs_left
  inside next z a zero h k = absurd (omega arith)
  inside next z a (suc n) h k = go (λ i j. inside next z (suc a) n i j) (ℕ_discrete a z)
    where
      go : (suc a ≤ z → z < suc a + n → rows_of z (jobs_in_order zones next (up_from (suc a) n)) ≡ left next z)
          → Dec (a ≡ z) → rows_of z (jobs_left zones next a ++ jobs_in_order zones next (up_from (suc a) n)) ≡ left next z
      go ih (yes e) =
          rows_append z (jobs_left zones next a) (jobs_in_order zones next (up_from (suc a) n))
          ∙ ap₂ (λ (x y : List ℕ). x ++ y) (mine z a (left next a) e) (outside next z (suc a) n (inl (omega arith)))
          ∙ append-nil (left next a) ∙ ap (left next) e
      go ih (no ne) =
          rows_append z (jobs_left zones next a) (jobs_in_order zones next (up_from (suc a) n))
          ∙ ap₂ (λ (x y : List ℕ). x ++ y) (others z a (left next a) ne) (ih (omega arith) (omega arith))

  all_left : (next : List ℕ) (z : ℕ) → rows_of z (jobs_in_order zones next (up_from 0 (length zones))) ≡ left next z
  all_left next z = go (native.Mathlib.Decide.dec_lt z (length zones))
    where
      drop-none : (i : ℕ) → ◌≡◌ {A = List ℕ} (drop i []) []
      drop-none zero = refl
      drop-none (suc i) = refl

      go : Dec (z < length zones) → rows_of z (jobs_in_order zones next (up_from 0 (length zones))) ≡ left next z
      go (yes h) = inside next z 0 (length zones) zero-le (omega arith)
      go (no h) =
          outside next z 0 (length zones) (inr (omega arith))
          ∙ sym (ap (λ (x : Zone). drop (get_or next z 0) x.nodes) (get_or-eq_default zones (record { nodes = []; moles = 0f }) {n = z} (omega arith)) ∙ drop-none (get_or next z 0))

  -- an unfinished zone
  abbrev pub Open : List ℕ → ℕ → Type 0
  Open next z = (get_or next z 0 < length (nodes_at zones z)) × (z < length zones)

  pub open_all : (next : List ℕ) → All (Open next) (unfinished zones next)
  unfolding unfinished
  open_all next =
      All-imp _ (Open next) (unfinished zones next)
      (λ z h. (ltb→lt (get_or next z 0) (length (nodes_at zones z)) h.0, omega (arith, h.1)))
      (keep_all (λ z. ltb (get_or next z 0) (length (nodes_at zones z))) (λ k. k < 0 + length zones) (up_from 0 (length zones)) (up_from-below 0 (length zones)))

  pub picked : (next : List ℕ) (c : ℕ) → eqb (length (unfinished zones next)) 0 ≡ false → Open next (pick zones c (unfinished zones next))
  picked next c e =
      let u = unfinished zones next in
      let ne : length u ≡ 0 → ⊥ = eqb-false (length u) 0 e in
      All-get_or (Open next) u (c % length u) 0 (open_all next) (mod-lt c (omega arith))

  -- the zone z had one turn more
  abbrev pub bumped : List ℕ → ℕ → List ℕ
  bumped next z = set next z (get_or next z 0 + 1)

  -- each zone's turfs are those that it has left
  pub order-rows : (cs next : List ℕ) → length next ≡ length zones → (z : ℕ) → rows_of z (order zones next cs) ≡ left next z
  unfolding order
  order-rows [] next l z = all_left next z
  order-rows (c ∷ cs) next l z = go (λ n e. order-rows cs n e z) (eqb (length (unfinished zones next)) 0) refl
    where
      y : ℕ
      y = pick zones c (unfinished zones next)

      go : ((n : List ℕ) → length n ≡ length zones → rows_of z (order zones n cs) ≡ left n z) → (t : Bool) → eqb (length (unfinished zones next)) 0 ≡ t
          → rows_of z (cond t [] (next_job zones next y ∷ []) ++ order zones (cond t next (bumped next y)) cs) ≡ left next z
      go ih true e = ih next l
      go ih false e = pick_it (ℕ_discrete y z)
        where
          o : Open next y
          o = picked next c e

          later : rows_of z (order zones (bumped next y) cs) ≡ left (bumped next y) z
          later = ih (bumped next y) (length-set next y (get_or next y 0 + 1) ∙ l)

          pick_it : Dec (y ≡ z) → rows_of z (next_job zones next y ∷ order zones (bumped next y) cs) ≡ left next z
          pick_it (yes i) =
              rows-mine z (next_job zones next y) (order zones (bumped next y) cs) i
              ∙ ap (λ (x : List ℕ). get_or (nodes_at zones y) (get_or next y 0) 0 ∷ x)
              (later ∙ sym (ap (left (bumped next y)) i)
              ∙ ap (λ (k : ℕ). drop k (nodes_at zones y)) (get_or-set_same next y (get_or next y 0 + 1) 0 (omega (arith, o.1, l)) ∙ native.Mathlib.Numerals.add-one (get_or next y 0)))
              ∙ sym (drop-cons (nodes_at zones y) (get_or next y 0) 0 o.0)
              ∙ ap (left next) i
          pick_it (no ne) =
              rows_other z (next_job zones next y) (order zones (bumped next y) cs) ne
              ∙ later
              ∙ ap (λ (k : ℕ). drop k (nodes_at zones z)) (get_or-set_other next y z (get_or next y 0 + 1) 0 (λ e'. ne (sym e')))

  -- each job is of a node of its zone
  module _ (P : ℕ → ℕ → Type 0) (nodes-in : (z : ℕ) → All (P z) (nodes_at zones z)) where
    abbrev OfNode : Job → Type 0
    OfNode j = P j.zone j.row

    left_in : (next zs : List ℕ) → All OfNode (jobs_in_order zones next zs)
    unfolding jobs_in_order jobs_left
    left_in next [] = tt
    left_in next (z ∷ zs) =
        All-append OfNode (jobs_left zones next z) (jobs_in_order zones next zs)
        (All-map OfNode (λ r. record { zone = z; row = r }) (left next z) (All-drop (P z) (get_or next z 0) (nodes_at zones z) (nodes-in z)))
        (left_in next zs)

    pub order-in : (cs next : List ℕ) → All OfNode (order zones next cs)
    unfolding order
    order-in [] next = left_in next (up_from 0 (length zones))
    order-in (c ∷ cs) next = go (λ n. order-in cs n) (eqb (length (unfinished zones next)) 0) refl
      where
        y : ℕ
        y = pick zones c (unfinished zones next)

        go : ((n : List ℕ) → All OfNode (order zones n cs)) → (t : Bool) → eqb (length (unfinished zones next)) 0 ≡ t
            → All OfNode (cond t [] (next_job zones next y ∷ []) ++ order zones (cond t next (bumped next y)) cs)
        go ih true e = ih next
        go ih false e = (All-get_or (P y) (nodes_at zones y) (get_or next y 0) 0 (nodes-in y) (picked next c e).0, ih (bumped next y))

  start-next : (z : ℕ) → ◌≡◌ {A = ℕ} (get_or (replicate (length zones) 0) z 0) 0
  start-next z = replicate-at (length zones) z 0

  pub turn-rows : (turns : List ℕ) (z : ℕ) → rows_of z (turn_order zones turns) ≡ nodes_at zones z
  unfolding turn_order
  turn-rows turns z =
      order-rows turns (replicate (length zones) 0) (length-replicate (length zones) 0) z ∙ ap (λ (k : ℕ). drop k (nodes_at zones z)) (start-next z)

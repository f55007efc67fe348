-- Every weight that planning makes on an accepted board is finite: below 2 ^ 112. Assumes nothing.
use mathlib.Core.Path.{◌≡◌, sym, ◌∙◌, subst}
use mathlib.Core.Logic.{◌⊎◌, inl, inr}
use mathlib.Core.Bool.{◌&&◌}
use mathlib.Core.List.{List, [], ◌∷◌}
use Prim.Native.Nat.{ℕ, zero, ◌+◌, ◌-◌, ◌*◌, ◌^◌, ◌≤◌, ◌<◌}
use native.Mathlib.Nat.{le_trans}
use native.Mathlib.Bridge.{le_by_compare, IsLe}
use native.Mathlib.Decide.{ℕ_discrete}
use native.Mathlib.Omega.{arith}
use lib.Dec.{T, eqb, ltb, eqb→eq}
use lib.ListN.{get_or-replicate, length, get_or, replicate, length-set, length-replicate}
use lib.Seq.{get_or-set_same, get_or-set_other}
use lib.Ieee.{Float, nan}
use Rattle.basics.specs.Loops.{run, member, keep}
use Rattle.basics.specs.Floats.{0f, ◌-f◌, ◌/f◌}
use Rattle.basics.specs.Lists.{All}
use Rattle.basics.proofs.Loops.{cond_both}
use Rattle.basics.proofs.Lists.{All-keep, or_cases, members, count-keep, count-length}
use Rattle.rules_board.specs.Board.{Board, turf_count, end}
use Rattle.turfs.specs.Tables.{Accepted}
use Rattle.turfs.proofs.Line.{Line, line-short}
use Rattle.rules_mixture.specs.Mixture as mixture
use Rattle.rules_plan.specs.Plan.{Plan, store, chosen, picks, log2, count_of, fast_turf, serve, fast_pass, share_out, deltas, planned_zone}
use Rattle.rules_plan.specs.declared.Side.{Side}
use Rattle.rules_plan.specs.declared.Side.TheVariants.{Giving, Taking}
use Rattle.laws_finite.proofs.Laws.{Within, within-sub, within_more, within-div, under_more}
use Rattle.laws_finite.proofs.Shares.{all_replicate, total, total-most}
use Rattle.laws_finite.proofs.Totals.{total-within}
use Rattle.laws_finite.proofs.Weights.{Weighed, weighed_more}
use Rattle.laws_finite.proofs.Serves.{Delta, serves_plans}
use Rattle.laws_finite.proofs.Fast.{degrees, degrees_length, degrees_all, Fasts, fast-all}
use Rattle.laws_finite.proofs.Lists.{All-set}

-- the changes that a zone's planning makes: two for each link, two for each turf that a serve meets
abbrev pub zone-changes : ℕ
zone-changes = 33603584

module _ (b : Board) {n₀ : ℕ} (h : Accepted b n₀) (owner : List ℕ) (z top : ℕ) (gas : List Float) (amounts : All (Within 40 1) gas) where
  pub total-unit : (r : ℕ) → Within 46 1 (mixture.total b gas r)
  unfolding IsLe
  total-unit r = under_more (1 * 2 ^ 46) (le_by_compare (64 * 2 ^ 40) (1 * 2 ^ 46) tt) (total-within 40 (omega arith) 1 b gas r h.gases.1 (le_by_compare 65 (2 ^ 24) tt) amounts)

  -- what a plan has between zones
  pub record Between (t : ℕ) (s : Plan) : Type 0 where
    pub deltas_n : length s.delta ≡ turf_count b
    pub amounts_n : length s.amount ≡ turf_count b
    pub fast_n : length s.fast ≡ turf_count b
    pub deltas : All Delta s.delta
    pub weighed : Weighed owner z t top s.weight

  module _ (average : Float) (pa : Within 46 4096 average) where
    -- the state of a turf at first
    abbrev start : ℕ → Plan → Plan
    start r t = store t r (record { delta = mixture.total b gas r -f average; amount = 0f; direction = 0; fast = 0 })

    -- what such a turf holds
    abbrev Good : Plan → ℕ → Type 0
    Good s r = Within 48 1025 (get_or s.delta r nan) × (get_or s.fast r 0 ≡ 0)

    delta-start : (r : ℕ) → Within 48 1025 (mixture.total b gas r -f average)
    unfolding IsLe
    delta-start r = under_more (1025 * 2 ^ 48) (le_by_compare (4097 * 2 ^ 46) (1025 * 2 ^ 48) tt) (within-sub 46 (omega arith) 1 4096 4097 (omega arith) (le_by_compare 4098 (2 ^ 24) tt) (total-unit r) pa)

    start_between : (t r : ℕ) (s : Plan) → Between t s → Between t (start r s)
    start_between t r s q = record {
      deltas_n = length-set s.delta r _ ∙ q.deltas_n;
      amounts_n = length-set s.amount r _ ∙ q.amounts_n;
      fast_n = length-set s.fast r _ ∙ q.fast_n;
      deltas = All-set Delta s.delta r _ (λ l. within_more 48 (omega arith) 1025 16777215 (omega arith) (delta-start r)) q.deltas;
      weighed = q.weighed;
    }

    start-here : (t r : ℕ) (s : Plan) → r < turf_count b → Between t s → Good (start r s) r
    start-here t r s l q = (
      subst (λ w. Within 48 1025 w) (sym (get_or-set_same s.delta r _ nan (subst (λ k. r < k) (sym q.deltas_n) l))) (delta-start r),
      get_or-set_same s.fast r 0 0 (subst (λ k. r < k) (sym q.fast_n) l),
    )

    start-keeps : (t r x : ℕ) (s : Plan) → x < turf_count b → Between t s → Good s x → Good (start r s) x
    start-keeps t r x s l q g = elim (ℕ_discrete x r) [
      | yes e ↦ subst (Good (start r s)) (sym e) (start-here t r s (subst (λ k. k < turf_count b) e l) q)
      | no n ↦ (subst (λ w. Within 48 1025 w) (sym (get_or-set_other s.delta r x _ nan n)) g.0, get_or-set_other s.fast r x 0 0 n ∙ g.1)
    ]

    all_start : (t : ℕ) (xs : List ℕ) (s : Plan) → Between t s → Between t (run start xs s)
    unfolding run
    all_start t [] s q = q
    all_start t (r ∷ xs) s q = all_start t xs (start r s) (start_between t r s q)

    all_keep : (t : ℕ) (xs : List ℕ) (s : Plan) (x : ℕ) → x < turf_count b → Between t s → Good s x → Good (run start xs s) x
    unfolding run
    all_keep t [] s x l q g = g
    all_keep t (r ∷ xs) s x l q g = all_keep t xs (start r s) x l (start_between t r s q) (start-keeps t r x s l q g)

    all-good : (t : ℕ) (xs : List ℕ) (s : Plan) (x : ℕ) → x < turf_count b → Between t s → T (member x xs) → Good (run start xs s) x
    unfolding run member
    all-good t [] s x l q i = absurd i
    all-good t (r ∷ xs) s x l q i = go (or_cases (eqb x r) (member x xs) i) (λ j. all-good t xs (start r s) x l (start_between t r s q) j)
      where
        go : T (eqb x r) ⊎ T (member x xs) → (T (member x xs) → Good (run start xs (start r s)) x) → Good (run start xs (start r s)) x
        go (inl e) f = all_keep t xs (start r s) x l (start_between t r s q) (subst (Good (start r s)) (sym (eqb→eq x r e)) (start-here t r s (subst (λ k. k < turf_count b) (eqb→eq x r e) l) q))
        go (inr j) f = f j

  -- ---- one zone

  module _ (nodes : List ℕ) (line : Line b nodes) (some : 1 ≤ length nodes) (moles : Float) (pm : Within 46 4096 moles) (inside : (k : ℕ) → get_or owner k 0 ≡ z + 1 → T (member (end b k) nodes)) where
    few-nodes : length nodes ≤ 4096
    few-nodes = le_trans (line-short b nodes line) h.turfs.1

    average_within : Within 46 4096 (moles /f count_of nodes)
    unfolding IsLe
    average_within =
        let f = few-nodes in
        within-div 46 (omega arith) 4096 (length nodes) 4096 some (omega arith) (omega arith) (le_by_compare 4097 (2 ^ 24) tt) pm

    links-total : total (degrees b h) nodes ≤ 24576
    links-total =
        le_trans (total-most (degrees b h) nodes line.apart (subst (λ k. All (λ x. x < k) nodes) (sym (degrees_length b h)) line.rows))
        (le_trans (degrees_all b h) h.links)

    module _ (s : Plan) (q : Between 0 s) where
      abbrev s₁ : Plan
      s₁ = run (start (moles /f count_of nodes) average_within) nodes s

      begun : Between 0 s₁
      begun = all_start (moles /f count_of nodes) average_within 0 nodes s q

      good : (x : ℕ) → x < turf_count b → T (member x nodes) → Good (moles /f count_of nodes) average_within s₁ x
      good x l i = all-good (moles /f count_of nodes) average_within 0 nodes s x l q i

      ready : Fasts b h owner z top nodes inside nodes 0 s₁
      ready = record {
        deltas_n = begun.deltas_n;
        amounts_n = begun.amounts_n;
        fast_n = begun.fast_n;
        deltas = begun.deltas;
        ms = replicate (turf_count b) 1025;
        sized = length-replicate (turf_count b) 1025;
        few = let e = all_replicate (turf_count b) 1025 in let f = links-total in let g = h.turfs.1 in omega arith;
        zero = zeros nodes line.rows (members nodes);
        held = λ a l i o. subst (λ k. Within 48 k (get_or s₁.delta a nan)) (sym (get_or-replicate (turf_count b) a 1025 0 l)) (good a l i).0;
        weighed = begun.weighed;
      }
        where
          zeros : (xs : List ℕ) → All (λ x. x < turf_count b) xs → All (λ x. T (member x nodes)) xs → All (λ r. get_or s₁.fast r 0 ≡ 0) xs
          zeros [] a i = tt
          zeros (x ∷ xs) a i = ((good x a.0 i.0).1, zeros xs a.1 i.1)

      after-fast : Between 49152 (run (fast_turf b owner z) nodes s₁)
      after-fast =
          let l = links-total in
          let v = fast-all b h owner z top nodes inside nodes line.apart (pair nodes line.rows (members nodes)) 0 (omega arith) s₁ ready in
          record {
            deltas_n = v.deltas_n;
            amounts_n = v.amounts_n;
            fast_n = v.fast_n;
            deltas = v.deltas;
            weighed = subst (λ k. Weighed owner z k top (run (fast_turf b owner z) nodes s₁).weight) (omega arith)
                (weighed_more owner z (0 + 2 * total (degrees b h) nodes) (49152 - 2 * total (degrees b h) nodes) top (run (fast_turf b owner z) nodes s₁).weight v.weighed);
          }
        where
          pair : (xs : List ℕ) → All (λ r. r < turf_count b) xs → All (λ r. T (member r nodes)) xs → All (λ r. (r < turf_count b) × T (member r nodes)) xs
          pair [] a c = tt
          pair (x ∷ xs) a c = ((a.0, c.0), pair xs a.1 c.1)

      begun_more : Between 49152 s₁
      begun_more =
          let v = begun in
          record { deltas_n = v.deltas_n; amounts_n = v.amounts_n; fast_n = v.fast_n; deltas = v.deltas; weighed = weighed_more owner z 0 49152 top s₁.weight v.weighed }

      after-pass : Between 49152 (fast_pass b owner z nodes s₁)
      unfolding fast_pass
      after-pass = cond_both (Between 49152) (ltb (log2 (length nodes)) (length (chosen Giving nodes s₁)) && ltb (log2 (length nodes)) (length (chosen Taking nodes s₁))) (run (fast_turf b owner z) nodes s₁) s₁ after-fast begun_more

      served : (side : Side) (p : Plan) → Between 49152 p → Between zone-changes (run (serve b owner z side) (chosen side nodes p) p)
      unfolding chosen
      served side p v =
          let gs = keep (λ r. picks side (get_or p.delta r nan)) nodes in
          let i = count-keep (λ r. picks side (get_or p.delta r nan)) nodes in
          let j = count-length (λ r. picks side (get_or p.delta r nan)) nodes in
          let f = few-nodes in
          let g : length gs ≤ 4096 = omega arith in
          let u = serves_plans b h.ends owner z top h.turfs.1 side gs (All-keep (λ r. r < turf_count b) (λ r. picks side (get_or p.delta r nan)) nodes line.rows) 49152 (omega arith) p
          (record { steady = record { deltas_n = v.deltas_n; amounts_n = v.amounts_n; fast_n = v.fast_n; deltas = v.deltas }; weighed = v.weighed }) in
          record {
            deltas_n = u.steady.deltas_n;
            amounts_n = u.steady.amounts_n;
            fast_n = u.steady.fast_n;
            deltas = u.steady.deltas;
            weighed = subst (λ k. Weighed owner z k top (run (serve b owner z side) gs p).weight) (omega arith)
                (weighed_more owner z (49152 + 8192 * length gs) (8192 * (4096 - length gs)) top (run (serve b owner z side) gs p).weight u.weighed);
          }

      pub zone-planned : Between zone-changes (planned_zone b owner z gas nodes moles s)
      unfolding planned_zone share_out deltas
      zone-planned = served _ (fast_pass b owner z nodes s₁) after-pass

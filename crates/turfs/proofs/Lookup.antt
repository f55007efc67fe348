-- The search for a turf by its id: on ascending ids the first match is the match. Assumes nothing.
use Prim.Native.Nat.{ℕ, zero, suc, ◌+◌, ◌-◌, ◌≤◌, ◌<◌}
use native.Mathlib.Omega.{arith}
use native.Mathlib.Numerals.{add-one}
use native.Mathlib.Nat.{not-suc-le-zero, sub-zero}
use native.Mathlib.Decide.{dec_lt, ℕ_discrete}
use mathlib.Core.Path.{◌≡◌, ap, ◌∙◌, sym, subst}
use mathlib.Core.List.{List}
use mathlib.Core.Bool.{Bool, true, false}
use lib.ListN.{length, get_or}
use lib.Dec.{eqb, eqb→eq}
use borrow.Author.Tests.{eq-eqb, ne_eqb}
use Rattle.std.specs.List.Sorted.{IsBinarySearchResult}
use Rattle.std.specs.Ordering.{nat_cmp}
use Rattle.std.specs.Result.{MatchResult, result_ok}
use Rattle.std.proofs.lemmas.List.Sorted.{searched}
use Rattle.basics.specs.Loops.{first, up_from}
use Rattle.std.specs.Prelude.{Option, Some, None, Result, Ok, Err}
use Rattle.basics.specs.Lists.{Found}
use Rattle.basics.proofs.Loops.{first-here, first_on, first-end, first_found, first_passes, up-below}
use Rattle.rules_board.specs.Board.{Board, turf_count, id_of, row_of}
use Rattle.rules_board.specs.Refuse.{ascending, ids_fit}
use Rattle.turfs.proofs.Order.{ascending-to}

-- an ascending list never falls
pub ascending-rises : (xs : List ℕ) → ascending xs ≡ true → (i j : ℕ) → i ≤ j → j < length xs → get_or xs i 0 ≤ get_or xs j 0
ascending-rises xs up i j h k = go (ℕ_discrete i j)
  where
    go : Dec (i ≡ j) → get_or xs i 0 ≤ get_or xs j 0
    go (yes e) = rw e (omega arith)
    go (no n) = omega (arith, ascending-to xs i j up (omega arith) k)

-- ---- the first that passes

-- none before j does
pub first-from : (p : ℕ → Bool) (j e : ℕ) → j ≤ e → ((k : ℕ) → k < j → p k ≡ false) → first p (up_from j (e - j)) ≡ first p (up_from 0 e)
first-from p zero e h n = ap (λ (k : ℕ). first p (up_from 0 k)) (sub-zero e)
first-from p (suc j) e h n =
    subst (λ (k : ℕ). first p (up_from k (e - k)) ≡ first p (up_from j (e - j))) (add-one j) (first_on p j e h (n j (omega arith)))
    ∙ first-from p j e (omega arith) (λ k i. n k (omega arith))

module _ (ids : List ℕ) (id : ℕ) where
  -- whether a row has the id
  abbrev pub has_id : ℕ → Bool
  has_id r = eqb (get_or ids r 0) id

  abbrev pub row_in : Option ℕ
  row_in = first has_id (up_from 0 (length ids))

  pub first-is : (r : ℕ) → r < length ids → get_or ids r 0 ≡ id → ((k : ℕ) → k < r → get_or ids k 0 < id) → row_in ≡ Some r
  first-is r h e n =
      sym (first-from has_id r (length ids) (omega arith) (λ k i. ne_eqb (get_or ids k 0) id (λ (q : get_or ids k 0 ≡ id). let a = n k i in omega arith)))
      ∙ first-here has_id r (length ids) h (eq-eqb _ _ e)

  pub first-none : ((k : ℕ) → k < length ids → get_or ids k 0 ≡ id → ⊥) → row_in ≡ None
  first-none n =
      sym (first-from has_id (length ids) (length ids) (omega arith) (λ k i. ne_eqb _ _ (n k i)))
      ∙ first-end has_id (length ids) (length ids) (omega arith)

  -- what the library's search finds is the first that has the id
  pub row-searched : ascending ids ≡ true → (r : Result ℕ ℕ) → IsBinarySearchResult (λ y. nat_cmp y id) ids r → row_in ≡ result_ok r
  row-searched up r h = go r (searched ids id r h (ascending-rises ids up))
    where
      go : (r : Result ℕ ℕ) → MatchResult r (λ i. (i < length ids) × (get_or ids i 0 ≡ id)) (λ i. (i ≤ length ids) × ((k : ℕ) → k < i → get_or ids k 0 < id) × ((k : ℕ) → i ≤ k → k < length ids → id < get_or ids k 0)) → row_in ≡ result_ok r
      go (Ok i) f = first-is i f.0 f.1 (λ k l. let a = ascending-to ids k i up l f.0 in omega arith)
      go (Err i) f = first-none (λ k l q. none k l q (dec_lt k i))
        where
          none : (k : ℕ) → k < length ids → get_or ids k 0 ≡ id → Dec (k < i) → ⊥
          none k l q (yes e) = let a = f.1 k e in omega arith
          none k l q (no e) = let a = f.2 k (omega arith) l in omega arith

-- ---- ids in order: the first match is the match

found-both : (P Q : ℕ → Type 0) (o : Option ℕ) → Found P o → Found Q o → Found (λ r. P r × Q r) o
found-both P Q (Some r) p q = (p, q)
found-both P Q None p q = tt

module _ (b : Board) (i : ℕ) where
  pub row_is : ids_fit b ≡ true → (r : ℕ) → r < turf_count b → id_of b r ≡ i → row_of b i ≡ Some r
  unfolding row_of
  row_is up r h e = first-is b.ids i r h e (λ k l. let a = ascending-to b.ids k r up l h in omega arith)

  -- what is found is a turf's row, and has the id
  pub row-found : Found (λ r. (r < turf_count b) × (id_of b r ≡ i)) (row_of b i)
  unfolding row_of
  row-found =
      found-both (λ r. r < turf_count b) (λ r. id_of b r ≡ i) (row_of b i) (first_found (λ r. r < turf_count b) _ (up_from 0 (turf_count b)) (up-below 0 (turf_count b) (turf_count b) (omega arith)))
      (first_passes (λ r. id_of b r ≡ i) _ (up_from 0 (turf_count b)) (λ r t. eqb→eq (id_of b r) i t))

  -- a search of the ids alone
  pub row-in : (ids : List ℕ) (o : Option ℕ) → row_in ids i ≡ o → b.ids ≡ ids → o ≡ row_of b i
  unfolding row_of
  row-in ids o e q = sym e ∙ ap (λ (l : List ℕ). row_in l i) (sym q)

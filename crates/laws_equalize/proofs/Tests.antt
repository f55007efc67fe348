-- Clock tests: a run that isn't cancelled makes one for each turf popped and two more, all within the allowance; a cancelled one stops at the first that exceeds
-- it. Assumes nothing.
use mathlib.Core.Path.{◌≡◌, refl, sym, ap, ◌∙◌}
use mathlib.Core.Logic.{inl, inr}
use mathlib.Core.List.{List, [], ◌∷◌, ◌++◌}
use mathlib.Core.Bool.{Bool, true, false, cond}
use Prim.Native.Nat.{ℕ, ◌+◌}
use native.Mathlib.Nat.{suc-ne-zero}
use native.Mathlib.Omega.{arith}
use lib.Dec.{ltb}
use lib.ListN.{length}
use lib.Ieee.{Float}
use borrow.Author.Tests.{ltb-true, ltb-false}
use Rattle.basics.specs.Loops.{run}
use Rattle.std.specs.Prelude.{Option, Some, None}
use Rattle.rules_board.specs.Board.{Board, row_of}
use Rattle.turfs.specs.Tables.{Accepted}
use Rattle.rules_fill.specs.Fill.{Fill}
use Rattle.laws_fill.proofs.Rest.{fill-tests}
use Rattle.rules_finish.specs.Turns.{node_count}
use Rattle.rules_equalize.specs.Equalize.{Ask, Filled, start_filled, after_fill, passed_over, fill_from, hot_row, hot_id, filled_all, cancel, played, equalize}
use Rattle.rules_equalize.specs.Clock.{pops_of, fill_of, fill_at, all_fills, pops, Timed}
use Rattle.laws_equalize.proofs.Zones.{Zoned, zoned}

module _ (b : Board) (gas : List Float) (q : Ask) where
  pops-append : (ts us : List Fill) → pops_of (ts ++ us) ≡ pops_of ts + pops_of us
  unfolding pops_of
  pops-append [] us = omega arith
  pops-append (t ∷ ts) us = omega (arith, pops-append ts us)

  row-tests : (o : Option ℕ) (s : Filled) → (hot_row b gas q o s).tests ≡ s.tests + pops_of (fill_at b gas q o s)
  unfolding hot_row fill_at pops_of fill_from after_fill
  row-tests None s = omega arith
  row-tests (Some r) s = go (passed_over b gas q r s.found)
    where
      go : (t : Bool) → (cond t s (fill_from b gas q r s)).tests ≡ s.tests + pops_of (cond t [] (fill_of b gas q r s ∷ []))
      go true = omega arith
      go false = omega (arith, fill-tests b gas q.limit q.allowance (length s.zones) r s.found s.owner s.events s.tests)

  id-tests : (i : ℕ) (s : Filled) → (hot_id b gas q i s).tests ≡ s.tests + pops_of (cond s.cancelled [] (fill_at b gas q (row_of b i) s))
  unfolding hot_id pops_of
  id-tests i s = go s.cancelled
    where
      go : (t : Bool) → (cond t s (hot_row b gas q (row_of b i) s)).tests ≡ s.tests + pops_of (cond t [] (fill_at b gas q (row_of b i) s))
      go true = omega arith
      go false = row-tests (row_of b i) s

  all-tests : (is : List ℕ) (s : Filled) → (run (hot_id b gas q) is s).tests ≡ s.tests + pops_of (all_fills b gas q is s)
  unfolding run all_fills pops_of
  all-tests [] s = omega arith
  all-tests (i ∷ is) s =
      omega (arith, all-tests is (hot_id b gas q i s), id-tests i s, pops-append (cond s.cancelled [] (fill_at b gas q (row_of b i) s)) (all_fills b gas q is (hot_id b gas q i s)))

  -- filling makes a test a pop
  pub filling-tests : (filled_all b gas q).tests ≡ pops b gas q
  unfolding filled_all
  filling-tests = all-tests q.hot (start_filled b) ∙ omega arith

  -- ---- the call

  pub tests-made : {n : ℕ} → Accepted b n → (turns : List ℕ) → Timed b gas q (equalize b gas q turns)
  unfolding equalize cancel played
  tests-made h turns = go s.cancelled refl (ltb q.allowance (s.tests + 1)) refl (ltb q.allowance (s.tests + 2)) refl
    where
      s : Filled
      s = filled_all b gas q

      z : Zoned b h gas q s
      z = zoned b h gas q

      no : ◌≡◌ {A = ℕ} 1 0 → ⊥
      no e = suc-ne-zero 0 e

      go : (c1 : Bool) → s.cancelled ≡ c1 → (c2 : Bool) → ltb q.allowance (s.tests + 1) ≡ c2 → (c3 : Bool) → ltb q.allowance (s.tests + 2) ≡ c3
          → Timed b gas q (cond c1 (cancel b gas q 0 s.tests s.events)
          (cond c2 (cancel b gas q 0 (s.tests + 1) s.events) (cond c3 (cancel b gas q (node_count s.zones) (s.tests + 2) s.events) (played b gas q turns s))))
      go true e1 c2 e2 c3 e3 = record { done = λ i. absurd (no i); over = λ i. (z.over e1, inl filling-tests) }
      go false e1 true e2 c3 e3 = record {
        done = λ i. absurd (no i);
        over = λ i. (omega (arith, ltb-true q.allowance (s.tests + 1) e2, z.in_time e1), inr (inl (ap (λ (x : ℕ). x + 1) filling-tests)));
      }
      go false e1 false e2 true e3 = record {
        done = λ i. absurd (no i);
        over = λ i. (omega (arith, ltb-true q.allowance (s.tests + 2) e3, ltb-false q.allowance (s.tests + 1) e2), inr (inr (ap (λ (x : ℕ). x + 2) filling-tests)));
      }
      go false e1 false e2 false e3 = record {
        done = λ i. (ap (λ (x : ℕ). x + 2) filling-tests, ltb-false q.allowance (s.tests + 2) e3);
        over = λ i. absurd (no (sym i));
      }

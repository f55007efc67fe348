-- A fill comes to rest within as many pops as there are turfs, since no turf is pushed twice; it makes a clock test a pop, and stops at the first that is over.
-- Assumes nothing.
use mathlib.Core.Path.{◌≡◌, refl, sym, ap, ◌∙◌, subst}
use mathlib.Core.Logic.{◌⊎◌, inl, inr}
use mathlib.Core.List.{List, [], ◌∷◌}
use mathlib.Core.Bool.{Bool, true, false, ◌&&◌, ◌||◌, cond, and-false}
use Prim.Native.Nat.{ℕ, ◌+◌, ◌≤◌, ◌<◌}
use native.Mathlib.Omega.{arith}
use lib.Dec.{T, eqb, ltb}
use lib.ListN.{length, get_or, length-append}
use lib.Ieee.{Float}
use borrow.Author.Tests.{ltb-true, ltb-false, le-ltb}
use Rattle.basics.specs.Loops.{run, snoc}
use Rattle.basics.specs.Lists.{All}
use Rattle.basics.proofs.Loops.{All-any, run-keeps, times-keeps, times-rests}
use Rattle.rules_board.specs.Board.{Board, turf_count, end, enabled, planetary, links_of}
use Rattle.rules_events.specs.declared.Event.{Event}
use Rattle.rules_events.specs.Compared.{is_request}
use Rattle.rules_fill.specs.Fill.{Reach, Fill, is_on, is_over, reach_link, expand, end_fill, pop, pop_next, fill}
use Rattle.rules_fill.specs.declared.Going.{Going}
use Rattle.rules_fill.specs.declared.Going.TheVariants.{On, Broken, Over}
use Rattle.laws_fill.specs.Start.{start_fill}
use Rattle.laws_fill.proofs.Counts.{queue-short}

-- a fill that goes on has a turf to pop
abbrev pub going : Fill → Bool
going s = is_on s.state && ltb s.popped (length s.reach.queue)

module _ (b : Board) (gas : List Float) (limit allowance z : ℕ) where
  abbrev next : Fill → Fill
  next s = pop_next b gas limit allowance z s

  abbrev row : Fill → ℕ
  row s = get_or s.reach.queue s.popped 0

  pub still : (s : Fill) → going s ≡ false → next s ≡ s
  unfolding pop_next
  still s e = rw e

  next-pops : (s : Fill) → going s ≡ true → next s ≡ pop b gas limit allowance z (row s) s
  unfolding pop_next
  next-pops s e = rw e

  -- a pop pops one and makes one test
  pop-one : (r : ℕ) (s : Fill) → ((pop b gas limit allowance z r s).popped ≡ s.popped + 1) × ((pop b gas limit allowance z r s).tests ≡ s.tests + 1)
  unfolding pop end_fill expand
  pop-one r s = go (ltb allowance (s.tests + 1)) ((s.planet || planetary b r) && ltb limit (length s.reach.nodes))
    where
      planet : Bool
      planet = s.planet || planetary b r

      after : Bool → Bool → Fill
      after t u = cond t (end_fill Over s.planet s) (cond u (end_fill Broken planet s) (expand b gas limit allowance z r planet s))

      go : (t u : Bool) → ((after t u).popped ≡ s.popped + 1) × ((after t u).tests ≡ s.tests + 1)
      go true u = (refl, refl)
      go false true = (refl, refl)
      go false false = (refl, refl)

  next-tests : (t₀ : ℕ) (s : Fill) → s.tests ≡ t₀ + s.popped → (next s).tests ≡ t₀ + (next s).popped
  next-tests t₀ s h = go (going s) refl
    where
      go : (t : Bool) → going s ≡ t → (next s).tests ≡ t₀ + (next s).popped
      go true e = let p = pop-one (row s) s in rw (next-pops s e) (omega (arith, p.0, p.1, h))
      go false e = rw (still s e) h

  -- ---- no turf is popped that wasn't pushed

  link-line : (r k : ℕ) (s : Reach) → length s.queue ≤ length (reach_link b z r k s).queue
  unfolding reach_link
  link-line r k s = go (eqb (get_or s.found (end b k) 0) 0 && enabled b (end b k))
    where
      go : (t : Bool) → length s.queue ≤ length (cond t (snoc s.queue (end b k)) s.queue)
      go true = omega (arith, length-append s.queue (end b k ∷ []))
      go false = omega arith

  links-line : (r : ℕ) (s : Reach) → length s.queue ≤ length (run (reach_link b z r) (links_of b r) s).queue
  links-line r s = run-keeps (λ k. Unit {0}) (λ t. length s.queue ≤ length t.queue) (reach_link b z r) (λ k t u h. omega (arith, link-line r k t, h)) (links_of b r) s (All-any _ (λ k. tt) (links_of b r)) (omega arith)

  abbrev InLine : Fill → Type 0
  InLine s = s.popped ≤ length s.reach.queue

  pop-line : (r : ℕ) (s : Fill) → s.popped < length s.reach.queue → InLine (pop b gas limit allowance z r s)
  unfolding pop end_fill expand
  pop-line r s h = go (ltb allowance (s.tests + 1)) ((s.planet || planetary b r) && ltb limit (length s.reach.nodes))
    where
      planet : Bool
      planet = s.planet || planetary b r

      go : (t u : Bool) → InLine (cond t (end_fill Over s.planet s) (cond u (end_fill Broken planet s) (expand b gas limit allowance z r planet s)))
      go true u = omega arith
      go false true = omega arith
      go false false = omega (arith, links-line r s.reach)

  next-line : (s : Fill) → InLine s → InLine (next s)
  next-line s h = go (going s) refl
    where
      second : (t u : Bool) → t && u ≡ true → u ≡ true
      second true u e = e
      second false u e = absurd (subst T (sym e) tt)

      go : (t : Bool) → going s ≡ t → InLine (next s)
      go true e = rw (next-pops s e) (pop-line (row s) s (ltb-true s.popped (length s.reach.queue) (second (is_on s.state) (ltb s.popped (length s.reach.queue)) e)))
      go false e = rw (still s e) h

  -- ---- the clock

  -- over at the first test that exceeds the allowance
  pub record Clocked (s : Fill) : Type 0 where
    pub in_time : is_over s.state ≡ false → s.tests ≤ allowance
    pub over : is_over s.state ≡ true → s.tests ≡ allowance + 1

  on-is : (g : Going) (t : Bool) → is_on g && t ≡ true → is_over g ≡ false
  on-is On t e = refl
  on-is Broken t e = refl
  on-is Over t e = absurd (subst T (sym e) tt)

  pop-clocked : (r : ℕ) (s : Fill) → s.tests ≤ allowance → Clocked s → Clocked (pop b gas limit allowance z r s)
  unfolding pop end_fill expand
  pop-clocked r s h c = go (ltb allowance (s.tests + 1)) refl ((s.planet || planetary b r) && ltb limit (length s.reach.nodes))
    where
      planet : Bool
      planet = s.planet || planetary b r

      no : true ≡ false → ⊥
      no e = subst T e tt

      go : (t : Bool) → ltb allowance (s.tests + 1) ≡ t → (u : Bool)
          → Clocked (cond t (end_fill Over s.planet s) (cond u (end_fill Broken planet s) (expand b gas limit allowance z r planet s)))
      go true e u = record { in_time = λ i. absurd (no i); over = λ i. omega (arith, ltb-true allowance (s.tests + 1) e, h) }
      go false e true = record { in_time = λ i. ltb-false allowance (s.tests + 1) e; over = λ i. absurd (no (sym i)) }
      go false e false = record { in_time = λ i. ltb-false allowance (s.tests + 1) e; over = λ i. absurd (no (sym i)) }

  next-clocked : (s : Fill) → Clocked s → Clocked (next s)
  next-clocked s c = go (going s) refl
    where
      go : (t : Bool) → going s ≡ t → Clocked (next s)
      go true e = rw (next-pops s e) (pop-clocked (row s) s (c.in_time (on-is s.state (ltb s.popped (length s.reach.queue)) e)) c)
      go false e = rw (still s e) c

  module _ (r : ℕ) (found owner : List ℕ) (events : List Event) (tests : ℕ) where
    abbrev filled : Fill
    filled = fill b gas limit allowance z r found owner events tests

    -- a test a pop
    pub fill-tests : filled.tests ≡ tests + filled.popped
    unfolding fill
    fill-tests = times-keeps (λ s. s.tests ≡ tests + s.popped) next (next-tests tests) (turf_count b) (start_fill r found owner events tests) (omega arith)

    pub fill-line : filled.popped ≤ length filled.reach.queue
    unfolding fill
    fill-line = times-keeps InLine next next-line (turf_count b) (start_fill r found owner events tests) (omega arith)

    pub fill-clocked : tests ≤ allowance → Clocked filled
    unfolding fill
    fill-clocked h = times-keeps Clocked next next-clocked (turf_count b) (start_fill r found owner events tests)
        (record { in_time = λ e. h; over = λ e. absurd (subst T (sym e) tt) })

    -- as many pops as there are turfs are enough
    pub fill-rests : ((k : ℕ) → end b k < turf_count b) → length found ≡ turf_count b → r < turf_count b → All (λ e. T (is_request e)) events → going filled ≡ false
    unfolding fill
    fill-rests ends l i h = go (times-rests next going (λ s. s.popped) still (λ s e. ap (λ (t : Fill). t.popped) (next-pops s e) ∙ (pop-one (row s) s).0) (turf_count b) (start_fill r found owner events tests))
      where
        go : (going filled ≡ false) ⊎ (filled.popped ≡ 0 + turf_count b) → going filled ≡ false
        go (inl e) = e
        go (inr e) =
            let q : length filled.reach.queue ≤ turf_count b = queue-short b ends gas limit allowance z r found owner events tests l i h in
            ap (λ (t : Bool). is_on filled.state && t) (le-ltb filled.popped (length filled.reach.queue) (omega (arith, e, q))) ∙ and-false (is_on filled.state)

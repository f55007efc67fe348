-- Filling is steps over hot turfs: what every fill from a turf that isn't passed over keeps, filling keeps. Assumes nothing.
use mathlib.Core.Path.{◌≡◌, refl, subst}
use mathlib.Core.List.{List}
use mathlib.Core.Bool.{Bool, true, false, not, ◌||◌, cond}
use Prim.Native.Nat.{ℕ, ◌<◌}
use lib.Dec.{T, eqb, eqb→eq}
use lib.ListN.{get_or}
use lib.Ieee.{Float}
use Rattle.std.specs.Prelude.{Option, Some, None}
use Rattle.basics.specs.Lists.{Found}
use Rattle.basics.proofs.Loops.{All-any, run-keeps}
use Rattle.rules_board.specs.Board.{Board, turf_count, enabled, row_of}
use Rattle.turfs.proofs.Accepted.{row_below}
use Rattle.rules_equalize.specs.Equalize.{Ask, Filled, start_filled, passed_over, fill_from, hot_row, hot_id, filled_all}
use Rattle.rules_equalize.specs.Worked as worked  -- checked before the laws

module _ (b : Board) (gas : List Float) (q : Ask) where
  -- what a turf has that a zone is filled from
  pub record Starts (r : ℕ) (s : Filled) : Type 0 where
    pub row : r < turf_count b
    pub new : get_or s.found r 0 ≡ 0
    pub on : T (enabled b r)
    pub going : s.cancelled ≡ false

  not_passed : (found on : Bool) (rest : Bool) → (not found || (not on || rest)) ≡ false → T found × T on
  not_passed true true rest e = (tt, tt)
  not_passed true false rest e = absurd (subst T e tt)
  not_passed false on rest e = absurd (subst T e tt)

  module _ (Q : Filled → Type 0) (keeps : (r : ℕ) (s : Filled) → Starts r s → Q s → Q (fill_from b gas q r s)) where
    row_keeps : (o : Option ℕ) (s : Filled) → Found (λ r. r < turf_count b) o → s.cancelled ≡ false → Q s → Q (hot_row b gas q o s)
    unfolding hot_row passed_over
    row_keeps None s f c h = h
    row_keeps (Some r) s f c h = go (passed_over b gas q r s.found) refl
      where
        go : (t : Bool) → passed_over b gas q r s.found ≡ t → Q (cond t s (fill_from b gas q r s))
        go true e = h
        go false e =
            let p = not_passed (eqb (get_or s.found r 0) 0) (enabled b r) _ e in
            keeps r s (record { row = f; new = eqb→eq (get_or s.found r 0) 0 p.0; on = p.1; going = c }) h

    id-keeps : (i : ℕ) (s : Filled) → Q s → Q (hot_id b gas q i s)
    unfolding hot_id
    id-keeps i s h = go s.cancelled refl
      where
        go : (t : Bool) → s.cancelled ≡ t → Q (cond t s (hot_row b gas q (row_of b i) s))
        go true e = h
        go false e = row_keeps (row_of b i) s (row_below b i) e h

    pub fill-all_keeps : Q (start_filled b) → Q (filled_all b gas q)
    unfolding filled_all
    fill-all_keeps h = run-keeps (λ i. Unit {0}) Q (hot_id b gas q) (λ i s u g. id-keeps i s g) q.hot (start_filled b) (All-any _ (λ i. tt) q.hot) h

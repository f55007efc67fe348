-- How deep finishing goes: a call that finishes givers has lifted a positive weight, so any count of levels above the positive weights gives one result.
-- Assumes nothing.
use mathlib.Core.Path.{◌≡◌, refl, ap}
use mathlib.Core.List.{List, [], ◌∷◌, map}
use mathlib.Core.Bool.{cond}
use Prim.Native.Nat.{ℕ, zero, suc, ◌≤◌, ◌<◌}
use native.Mathlib.Nat.{le_refl, le_trans}
use native.Mathlib.Omega.{arith}
use lib.ListN.{length, get_or}
use lib.Ieee.{nan, lt}
use Rattle.basics.specs.Loops.{run}
use Rattle.basics.proofs.Loops.{All-any, run-keeps, run-same}
use Rattle.basics.specs.Lists.{count}
use Rattle.basics.proofs.Lists.{count-length}
use Rattle.rules_board.specs.Board.{Board, end}
use Rattle.rules_mixture.specs.Mixture.{total}
use Rattle.rules_plan.specs.Edges.{edges_of, edge}
use Rattle.rules_finish.specs.Finish.{Done, Pair, zero_lifted, positive, negative, pairs, finish_givers, send, finish_pair, finish}
use Rattle.rules_finish.specs.Lifted.{above, pending}
use Rattle.laws_finish.proofs.Weights.{above_at, lift_less, alter-less, lift_count, pairs-count, edges_apart}

module _ (b : Board) (owner : List ℕ) (z : ℕ) where
  abbrev Low : ℕ → Done → Type 0
  Low n s = pending s.weight ≤ n

  pair_low : (f : ℕ → Done → Done) (n : ℕ) → ((a : ℕ) (s : Done) → Low n s → Low n (f a s)) → (r : ℕ) (ps : List Pair) (q : Pair) (s : Done) → Low n s → Low n (finish_pair b owner z f r ps q s)
  unfolding finish_pair finish_givers send
  pair_low f n h r ps q s l =
      let ns = negative (cond (lt (total b s.gas r) q.amount) ps []) in
      le_trans (alter-less (edge b owner z q.to r) (run f ns s).weight) (run-keeps (λ a. Unit {0}) (Low n) f (λ a t u i. h a t i) ns s (All-any _ (λ a. tt) ns) l)

  pub finish-low : (m n r : ℕ) (s : Done) → Low n s → Low n (finish b owner z m r s)
  unfolding finish
  finish-low zero n r s l = l
  finish-low (suc m) n r s l =
      let ps = pairs b owner z r s.weight in
      run-keeps (λ q. Unit {0}) (Low n) (finish_pair b owner z (λ a t. finish b owner z m a t) r ps) (λ q t u i. pair_low (λ a v. finish b owner z m a v) n (λ a v j. finish-low m n a v j) r ps q t i)
      (positive ps) (record { gas = s.gas; weight = zero_lifted (edges_of b owner z r) s.weight; events = s.events }) (All-any _ (λ q. tt) (positive ps))
      (le_trans (lift_less (edges_of b owner z r) s.weight) l)

  -- any two counts of levels above the positive weights
  pub enough : (m n r : ℕ) (s : Done) → pending s.weight < m → pending s.weight < n → finish b owner z m r s ≡ finish b owner z n r s
  unfolding finish pairs finish_pair finish_givers run
  enough zero n r s h k = absurd (omega arith)
  enough (suc m) zero r s h k = absurd (omega arith)
  enough (suc m) (suc n) r s h k = go (positive ps) (pairs-count b s.weight (edges_of b owner z r)) (λ a t i j. enough m n a t i j)
    where
      ps : List Pair
      ps = map (λ j. record { to = end b j; amount = get_or s.weight j nan }) (edges_of b owner z r)

      up : Done
      up = record { gas = s.gas; weight = zero_lifted (edges_of b owner z r) s.weight; events = s.events }

      fm : ℕ → Done → Done
      fm a t = finish b owner z m a t

      fn : ℕ → Done → Done
      fn a t = finish b owner z n a t

      go : (qs : List Pair) → length qs ≡ count (above_at s.weight) (edges_of b owner z r)
          → ((a : ℕ) (t : Done) → pending t.weight < m → pending t.weight < n → fm a t ≡ fn a t)
          → run (finish_pair b owner z fm r ps) qs up ≡ run (finish_pair b owner z fn r ps) qs up
      go [] e ih = refl
      go (q ∷ qs) e ih =
          let fewer : pending up.weight < pending s.weight = omega (arith, lift_count (edges_of b owner z r) s.weight (edges_apart b owner z r), e) in
          run-same (Low (pending up.weight)) (finish_pair b owner z fm r ps) (finish_pair b owner z fn r ps)
          (λ x t l. ap (send b owner z r x)
          (run-same (Low (pending up.weight)) fm fn (λ a u i. ih a u (omega (arith, fewer, i)) (omega (arith, fewer, i))) (λ a u i. finish-low m (pending up.weight) a u i)
          (negative (cond (lt (total b t.gas r) x.amount) ps [])) t l))
          (λ x t l. pair_low fm (pending up.weight) (λ a u i. finish-low m (pending up.weight) a u i) r ps x t l)
          (q ∷ qs) up (le_refl (pending up.weight))

  -- so one level more than there are weights is as good as any more: `work` goes deep enough
  pub deep_enough : (n r : ℕ) (s : Done) → length s.weight < n → finish b owner z n r s ≡ finish b owner z (suc (length s.weight)) r s
  unfolding pending
  deep_enough n r s h = let p : count above s.weight ≤ length s.weight = count-length above s.weight in enough n (suc (length s.weight)) r s (omega arith) (omega arith)

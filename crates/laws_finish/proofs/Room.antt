-- Finishing writes at most a record for each weight above 0, since a record's weight was lifted: 20 bytes a link. Assumes nothing.
use mathlib.Core.Path.{◌≡◌, refl, sym, subst}
use mathlib.Core.List.{List, [], ◌∷◌}
use mathlib.Core.Bool.{cond}
use Prim.Native.Nat.{ℕ, zero, suc, ◌+◌, ◌*◌, ◌≤◌}
use native.Mathlib.Nat.{le_refl}
use native.Mathlib.Omega.{arith}
use lib.ListN.{length}
use lib.Ieee.{lt}
use Rattle.basics.specs.Loops.{run}
use Rattle.basics.specs.Floats.{0f}
use Rattle.basics.proofs.Loops.{All-any, run-keeps}
use Rattle.basics.specs.Lists.{count}
use Rattle.basics.proofs.Lists.{count-length}
use Rattle.rules_board.specs.Board.{Board, link_count, id_of}
use Rattle.rules_mixture.specs.Mixture.{total}
use Rattle.rules_events.specs.Events.{kind_of, size_of}
use Rattle.rules_events.specs.declared.Event.TheVariants.{Pressure}
use Rattle.events.proofs.Sizes.{size, size-snoc}
use Rattle.rules_plan.specs.Edges.{edges_of, edge, alter}
use Rattle.rules_finish.specs.Finish.{Done, Pair, zero_lifted, positive, negative, pairs, finish_givers, send, finish_pair, finish}
use Rattle.rules_finish.specs.Turns.{Zone, finish_all}
use Rattle.laws_finish.specs.Jobs.{work, turn_order}
use Rattle.laws_finish.proofs.ByTurns.{by_order}
use Rattle.rules_finish.specs.Lifted.{above, pending}
use Rattle.laws_finish.proofs.Weights.{above_at, alter-less, lift_count, pairs-count, edges_apart}

-- bytes written, and those that may still be
abbrev pub due : Done → ℕ
due s = size s.events + 20 * pending s.weight

module _ (b : Board) (owner : List ℕ) where
  module _ (z : ℕ) where
    send-room : (r : ℕ) (q : Pair) (s : Done) → due (send b owner z r q s) ≤ due s + 20
    unfolding send
    send-room r q s =
        let a : pending (alter (edge b owner z q.to r) (λ x. 0f) s.weight) ≤ pending s.weight = alter-less (edge b owner z q.to r) s.weight in
        let k : size_of (kind_of (Pressure z q.amount (id_of b r) (id_of b q.to))) ≡ 20 = unfold size_of kind_of in refl in
        omega (arith, a, k, size-snoc s.events (Pressure z q.amount (id_of b r) (id_of b q.to)))

    pairs-room : (f : ℕ → Done → Done) → ((a : ℕ) (s : Done) (n : ℕ) → due s ≤ n → due (f a s) ≤ n) → (r : ℕ) (ps qs : List Pair) (s : Done) (n : ℕ)
        → due s + 20 * length qs ≤ n → due (run (finish_pair b owner z f r ps) qs s) ≤ n
    unfolding run finish_pair finish_givers
    pairs-room f h r ps [] s n l = omega arith
    pairs-room f h r ps (q ∷ qs) s n l =
        let ns = negative (cond (lt (total b s.gas r) q.amount) ps []) in
        let t = run f ns s in
        let g : due t ≤ due s = run-keeps (λ a. Unit {0}) (λ u. due u ≤ due s) f (λ a u v i. h a u (due s) i) ns s (All-any _ (λ a. tt) ns) (le_refl (due s)) in
        pairs-room f h r ps qs (send b owner z r q t) n (omega (arith, g, send-room r q t, l))

    finish-room : (m r : ℕ) (s : Done) (n : ℕ) → due s ≤ n → due (finish b owner z m r s) ≤ n
    unfolding finish pairs
    finish-room zero r s n l = l
    finish-room (suc m) r s n l =
        let es = edges_of b owner z r in
        let ps = pairs b owner z r s.weight in
        let c : pending (zero_lifted es s.weight) + count (above_at s.weight) es ≡ pending s.weight = lift_count es s.weight (edges_apart b owner z r) in
        let k : length (positive ps) ≡ count (above_at s.weight) es = pairs-count b s.weight es in
        pairs-room (λ a t. finish b owner z m a t) (λ a t i j. finish-room m a t i j) r ps (positive ps) (record { gas = s.gas; weight = zero_lifted es s.weight; events = s.events }) n (omega (arith, c, k, l))

  -- a whole run writes at most a record a link
  pub records-room : (zones : List Zone) (turns : List ℕ) (s : Done) → size (finish_all b owner zones turns s).events ≤ size s.events + 20 * length s.weight
  unfolding work pending
  records-room zones turns s =
      let h : due (finish_all b owner zones turns s) ≤ due s =
      subst (λ (t : Done). due t ≤ due s) (sym (by_order b owner zones turns s))
      (run-keeps (λ j. Unit {0}) (λ t. due t ≤ due s) (work b owner) (λ j t u i. finish-room j.zone (suc (link_count b)) j.row t (due s) i) (turn_order zones turns) s (All-any _ (λ j. tt) (turn_order zones turns)) (le_refl (due s))) in
      let p : count above s.weight ≤ length s.weight = count-length above s.weight in
      omega (arith, h, p)

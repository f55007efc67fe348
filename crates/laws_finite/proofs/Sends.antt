-- Finishing keeps every weight a finite f32: it only sets weights to 0.0. Assumes nothing.
use mathlib.Core.Path.{◌≡◌, sym, ◌∙◌, subst}
use mathlib.Core.Bool.{true}
use mathlib.Core.List.{List}
use Prim.Native.Nat.{ℕ, ◌<◌}
use lib.ListN.{length, get_or, set, length-set}
use lib.Ieee.{Float, nan}
use Rattle.basics.specs.Loops.{every, keep}
use Rattle.basics.specs.Floats.{0f}
use Rattle.std.specs.Prelude.{Option, Some, None}
use Rattle.basics.specs.Lists.{All}
use Rattle.basics.proofs.Loops.{All-any, All-imp, All-map, All-get_or, run-keeps}
use Rattle.basics.proofs.Lists.{All-keep, All-both, All-each}
use Rattle.rules_board.specs.Board.{Board, link_count, end, links_of}
use Rattle.turfs.specs.Tables.{Accepted}
use Rattle.turfs.proofs.Accepted.{links-below}
use Rattle.rules_mixture.specs.Mixture.{amount_fits}
use Rattle.rules_plan.specs.Edges.{alter, owned, edges_of}
use Rattle.rules_finish.specs.Finish.{zero_lifted, pairs}
use Rattle.rules_equalize.specs.Equalize.{Ask, filled_all, planned_all}
use Rattle.laws_equalize.proofs.Room.{weights-sized}
use Rattle.laws_finite.proofs.Whole.{weights-finite}
use Rattle.laws_finite.proofs.Laws.{zero-under, under_finite}
use Rattle.laws_finite.proofs.EachKind.{Fin, Fit, Amount, zero-fit}
use Rattle.laws_finite.proofs.Fitted.{plan-all_fit}
use Rattle.laws_finite.proofs.Lists.{All-set}

zero-amount : Amount 0f
zero-amount = (under_finite zero-under, zero-fit)

module _ (b : Board) where
  -- weights that are finite f32s, one a link
  pub record Sendable (w : List Float) : Type 0 where
    pub count : length w ≡ link_count b
    pub amounts : All Amount w

  set-sendable : (w : List Float) (k : ℕ) → Sendable w → Sendable (set w k 0f)
  set-sendable w k q = record { count = length-set w k 0f ∙ q.count; amounts = All-set Amount w k 0f (λ m. zero-amount) q.amounts }

  pub lift_sendable : (ks : List ℕ) (w : List Float) → Sendable w → Sendable (zero_lifted ks w)
  unfolding zero_lifted
  lift_sendable ks w q = run-keeps (λ k. Unit {0}) Sendable (λ k v. set v k 0f) (λ k v u i. set-sendable v k i) ks w (All-any _ (λ k. tt) ks) q

  pub alter-sendable : (o : Option ℕ) (w : List Float) → Sendable w → Sendable (alter o (λ x. 0f) w)
  alter-sendable (Some k) w q = set-sendable w k q
  alter-sendable None w q = q

  pub pairs-amount : {n : ℕ} → Accepted b n → (owner : List ℕ) (z r : ℕ) (w : List Float) → Sendable w → All (λ p. Amount p.amount) (pairs b owner z r w)
  unfolding pairs edges_of
  pairs-amount h owner z r w q =
      All-map (λ p. Amount p.amount) (λ k. record { to = end b k; amount = get_or w k nan }) (keep (owned b owner z) (links_of b r))
      (All-imp (λ k. k < link_count b) (λ k. Amount (get_or w k nan)) (keep (owned b owner z) (links_of b r))
      (λ k l. All-get_or Amount w k nan q.amounts (subst (λ n. k < n) (sym q.count) l)) (All-keep (λ k. k < link_count b) (owned b owner z) (links_of b r) (links-below b h r)))

  -- the weights that finishing starts from
  pub planned-sendable : {n : ℕ} → Accepted b n → (gas : List Float) → every amount_fits gas ≡ true → (q : Ask) → Sendable (planned_all b gas (filled_all b gas q)).weight
  planned-sendable h gas e q =
      let s = filled_all b gas q in
      let w = (planned_all b gas s).weight in
      let n = weights-sized b gas s in
      record { count = n; amounts = All-both Fin Fit w (All-each Fin w nan (λ k l. weights-finite b h gas e q k (subst (λ m. k < m) n l))) (plan-all_fit b gas s) }

-- Every record that equalize writes on an accepted board is read back: its numbers are u32s, its amount is a planned weight. Assumes nothing.
use mathlib.Core.Path.{◌≡◌, sym, subst}
use mathlib.Core.Bool.{true, not, ◌&&◌, cond}
use mathlib.Core.List.{List, [], ◌∷◌}
use Prim.Native.Nat.{ℕ, zero, suc, ◌+◌, ◌≤◌}
use native.Mathlib.Decide.{dec_lt}
use native.Mathlib.Omega.{arith}
use lib.Dec.{eqb, ltb}
use lib.ListN.{length, get_or, replicate, get_or-eq_default}
use lib.Ieee.{Float, lt}
use Rattle.basics.specs.Loops.{every}
use Rattle.basics.specs.Floats.{0f}
use Rattle.basics.specs.Lists.{All}
use Rattle.basics.proofs.Loops.{All-any, run-keeps, cond_both}
use Rattle.basics.proofs.Lists.{All-append, All-snoc, All-keep}
use Rattle.rules_board.specs.Board.{Board, link_count, id_of, end, planetary, immutable, firelock}
use Rattle.turfs.specs.Tables.{Accepted}
use Rattle.rules_mixture.specs.Mixture.{total, amount_fits}
use Rattle.rules_plan.specs.Edges.{edges_of, edge}
use Rattle.rules_events.specs.declared.Event.TheVariants.{DepressurizeWanted, PlanetWanted, Pressure}
use Rattle.rules_events.specs.Readings.{Readable}
use Rattle.rules_fill.specs.Fill.{reach_link}
use Rattle.laws_fill.proofs.Steps.{Keeps, fill-keeps}
use Rattle.rules_finish.specs.Finish.{Done, Pair, positive, negative, pairs, finish_givers, send, finish_pair, finish}
use Rattle.rules_finish.specs.Turns.{Zone, nodes_at, finish_all}
use Rattle.laws_finish.specs.Jobs.{turn_order, work}
use Rattle.laws_finish.proofs.ByTurns.{by_order}
use Rattle.laws_finish.proofs.Order.{order-in}
use Rattle.rules_equalize.specs.Equalize.{Ask, Filled, Equalized, after_fill, fill_from, filled_all, planned_all, planned, cancel, played, equalize}
use Rattle.laws_equalize.proofs.Hot.{Starts, fill-all_keeps}
use Rattle.laws_equalize.proofs.Zones.{zone-room}
use Rattle.laws_finite.proofs.EachKind.{Word, Amount, space-readable, planet-readable, pressure_readable}
use Rattle.laws_finite.proofs.Sends.{Sendable, lift_sendable, alter-sendable, pairs-amount, planned-sendable}

-- ---- requests

module _ (b : Board) (ids : (r : ℕ) → Word (id_of b r)) where
  link-asks : (z : ℕ) → Keeps b z (λ s. All Readable s.events)
  unfolding reach_link
  link-asks z r k s u v q =
      let a = end b k in
      let ask = eqb (get_or s.found a 0) 0 && not s.ignored in
      All-append Readable s.events _ q
      (All-append Readable (cond (ask && immutable b a) (DepressurizeWanted (id_of b r) ∷ []) []) (cond (ask && (planetary b a && firelock b k)) (PlanetWanted (id_of b r) ∷ []) [])
      (cond_both (All Readable) (ask && immutable b a) (DepressurizeWanted (id_of b r) ∷ []) [] (space-readable (id_of b r) (ids r), tt) tt)
      (cond_both (All Readable) (ask && (planetary b a && firelock b k)) (PlanetWanted (id_of b r) ∷ []) [] (planet-readable (id_of b r) (ids r), tt) tt))

  fill-asks : (gas : List Float) (q : Ask) → All Readable (filled_all b gas q).events
  fill-asks gas q = fill-all_keeps b gas q (λ s. All Readable s.events) from tt
    where
      from : (r : ℕ) (s : Filled) → Starts b gas q r s → All Readable s.events → All Readable (fill_from b gas q r s).events
      from r s st i = unfold fill_from after_fill in
          fill-keeps b (length s.zones) (λ t. All Readable t.events) (link-asks (length s.zones)) gas q.limit q.allowance r s.found s.owner s.events s.tests i

-- ---- finishing

zones-low : (zones : List Zone) → length zones ≤ 4096 → (z : ℕ) → All (λ r. Word z) (nodes_at zones z)
zones-low zones few z = elim (dec_lt z (length zones)) [
  | yes l ↦ All-any _ (λ r. omega arith) (nodes_at zones z)
  | no n ↦ subst (λ y. All (λ r. Word z) y.nodes) (sym (get_or-eq_default zones (record { nodes = []; moles = 0f }) {n = z} (omega arith))) tt
]

module _ (b : Board) {n₀ : ℕ} (h : Accepted b n₀) (ids : (r : ℕ) → Word (id_of b r)) (owner : List ℕ) where
  -- what finishing keeps
  record Fine (s : Done) : Type 0 where
    sendable : Sendable b s.weight
    events : All Readable s.events

  module _ (z : ℕ) (low : Word z) where
    send-fine : (r : ℕ) (p : Pair) (s : Done) → Amount p.amount → Fine s → Fine (send b owner z r p s)
    unfolding send
    send-fine r p s f q = record {
      sendable = alter-sendable b (edge b owner z p.to r) s.weight q.sendable;
      events = All-snoc Readable s.events (Pressure z p.amount (id_of b r) (id_of b p.to)) q.events (pressure_readable z p.amount (id_of b r) (id_of b p.to) low f (ids r) (ids p.to));
    }

    module _ (f : ℕ → Done → Done) (keeps : (a : ℕ) (t : Done) → Fine t → Fine (f a t)) where
      givers_fine : (ps : List Pair) (s : Done) → Fine s → Fine (finish_givers b owner z f ps s)
      unfolding finish_givers
      givers_fine ps s q = run-keeps (λ a. Unit {0}) Fine f (λ a t u i. keeps a t i) (negative ps) s (All-any _ (λ a. tt) (negative ps)) q

      pair_fine : (r : ℕ) (ps : List Pair) (p : Pair) (s : Done) → Amount p.amount → Fine s → Fine (finish_pair b owner z f r ps p s)
      unfolding finish_pair
      pair_fine r ps p s i q = send-fine r p _ i (givers_fine (cond (lt (total b s.gas r) p.amount) ps []) s q)

    finish-fine : (n r : ℕ) (s : Done) → Fine s → Fine (finish b owner z n r s)
    unfolding finish
    finish-fine zero r s q = q
    finish-fine (suc n) r s q =
        let ps = pairs b owner z r s.weight in
        run-keeps (λ p. Amount p.amount) Fine (finish_pair b owner z (λ a t. finish b owner z n a t) r ps)
        (λ p t i g. pair_fine (λ a t. finish b owner z n a t) (λ a t g. finish-fine n a t g) r ps p t i g) (positive ps) _
        (All-keep (λ p. Amount p.amount) (λ p. lt 0f p.amount) ps (pairs-amount b h owner z r s.weight q.sendable)) (record { sendable = lift_sendable b (edges_of b owner z r) s.weight q.sendable; events = q.events })

  finish-all_fine : (zones : List Zone) → length zones ≤ 4096 → (turns : List ℕ) (s : Done) → Fine s → Fine (finish_all b owner zones turns s)
  unfolding work turn_order
  finish-all_fine zones few turns s q =
      subst Fine (sym (by_order b owner zones turns s))
      (run-keeps (λ j. Word j.zone) Fine (work b owner) (λ j t u i. finish-fine j.zone u (suc (link_count b)) j.row t i) (turn_order zones turns) s (order-in zones (λ z r. Word z) (zones-low zones few) turns (replicate (length zones) 0)) q)

-- All that equalize writes is read back.
pub equalize-readable : (b : Board) {n : ℕ} → Accepted b n → ((r : ℕ) → Word (id_of b r)) → (gas : List Float) → every amount_fits gas ≡ true → (q : Ask) (turns : List ℕ) → All Readable (equalize b gas q turns).events
unfolding equalize cancel played planned
equalize-readable b h ids gas e q turns =
    let s = filled_all b gas q in
    let asked = fill-asks b ids gas q in
    let t = h.turfs.1 in
    let z = zone-room b h gas q in
    let done = finish-all_fine b h ids s.owner s.zones (omega arith) turns (record { gas = gas; weight = (planned_all b gas s).weight; events = s.events })
    (record { sendable = planned-sendable b h gas e q; events = asked }) in
    let P : Equalized → Type 0 = λ r. All Readable r.events in
    cond_both P s.cancelled _ _ asked
    (cond_both P (ltb q.allowance (s.tests + 1)) _ _ asked
    (cond_both P (ltb q.allowance (s.tests + 2)) _ _ asked done.events))

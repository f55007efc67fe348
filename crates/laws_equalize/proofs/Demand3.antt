-- Demand 3: where a call is cancelled or answers apart, two lists of turns come to the same gas, counts and requests and, zone by zone, to the same pressure
-- records in the same order. A cancelled run has no turns; apart zones share no changeable mixture, so each is finished as if alone. Assumes nothing.
use mathlib.Core.Path.{◌≡◌, refl, sym}
use mathlib.Core.Logic.{◌⊎◌, inl, inr}
use mathlib.Core.List.{List}
use mathlib.Core.Bool.{Bool, true, false, cond}
use Prim.Native.Nat.{ℕ, ◌+◌}
use native.Mathlib.Nat.{suc-ne-zero}
use lib.Dec.{T, ltb}
use lib.ListN.{length}
use lib.Ieee.{Float}
use Rattle.rules_board.specs.Board.{Board, mix_of, end}
use Rattle.turfs.specs.Tables.{Accepted}
use Rattle.rules_events.specs.Compared.{records, requests}
use Rattle.events.proofs.Compared.{requests-same}
use Rattle.events.proofs.Bytes.{same_size}
use Rattle.rules_lent.specs.Lent.{Lent, after}
use Rattle.lent.proofs.Passed.{passed}
use Rattle.basics.proofs.Lists.{member-map}
use Rattle.rules_finish.specs.Turns.{nodes_at, node_count}
use Rattle.rules_equalize.specs.Equalize.{Ask, Filled, Equalized, has_mix, apart, bit, filled_all, cancel, planned, played, equalize}
use Rattle.rules_equalize.specs.Result.{equalize_room, equalize_number, equalize_done, equalize_result}
use Rattle.rules_equalize.specs.Same.{SameRun, ApartOrCancelled, SameCall}
use Rattle.laws_equalize.proofs.Apart.{WellFormed, turns-agree}
use Rattle.laws_equalize.proofs.Ends.{fill-ends}

same : (e : Equalized) → SameRun e e
same e = record {
  gas = refl;
  counts = record { cancelled = refl; processed = refl; tests = refl; zones = refl; apart = refl; bytes = refl };
  requests = refl;
  records = λ z. refl;
}

-- ---- the definition

module _ (b : Board) (gas : List Float) (a : Accepted b (length gas)) (q : Ask) (turns turns' : List ℕ) where
  abbrev s : Filled
  s = filled_all b gas q

  formed : WellFormed b s.owner s.zones
  unfolding has_mix
  formed = record {
    some = a.gases.0;
    mixed = a.mixed;
    ends = λ z k e. member-map (mix_of b) (end b k) (nodes_at s.zones z) (fill-ends b gas q z k e).0;
  }

  is_apart : (t : Bool) → bit t ≡ 1 → T t
  is_apart true e = tt
  is_apart false e = absurd (suc-ne-zero 0 (sym e))

  finished : T (apart b s.zones) → SameRun (played b gas q turns s) (played b gas q turns' s)
  unfolding played planned
  finished t =
      let r = turns-agree b s.owner s.zones formed t turns turns' (planned b gas q s) a.fits in
      record {
        gas = r.gas;
        counts = record { cancelled = refl; processed = refl; tests = refl; zones = refl; apart = refl; bytes = same_size _ _ r.rest r.logs };
        requests = requests-same _ _ r.rest;
        records = r.logs;
      }

  -- Demand 3 over the definition.
  pub demand_3 : ApartOrCancelled (equalize b gas q turns) → SameRun (equalize b gas q turns) (equalize b gas q turns')
  unfolding equalize played
  demand_3 h = go s.cancelled (ltb q.allowance (s.tests + 1)) (ltb q.allowance (s.tests + 2)) h
    where
      whole : Bool → Bool → Bool → List ℕ → Equalized
      whole c1 c2 c3 ts =
          cond c1 (cancel b gas q 0 s.tests s.events)
          (cond c2 (cancel b gas q 0 (s.tests + 1) s.events)
          (cond c3 (cancel b gas q (node_count s.zones) (s.tests + 2) s.events) (played b gas q ts s)))

      ran : ApartOrCancelled (played b gas q turns s) → T (apart b s.zones)
      ran (inl e) = absurd (suc-ne-zero 0 (sym e))
      ran (inr e) = is_apart (apart b s.zones) e

      go : (c1 c2 c3 : Bool) → ApartOrCancelled (whole c1 c2 c3 turns) → SameRun (whole c1 c2 c3 turns) (whole c1 c2 c3 turns')
      go true c2 c3 k = same _
      go false true c3 k = same _
      go false false true k = same _
      go false false false k = finished (ran k)

-- ---- the whole call

module _ (b : Board) (q : Ask) (turns turns' : List ℕ) (l : Lent) where
  -- a call that was done answers what the definition's run does
  done : (ts : List ℕ) → equalize_number b q ts l ≡ 0 → equalize_result b q ts l ≡ equalize_done b q ts l (equalize b l.gas q ts)
  unfolding equalize_result
  done ts e = rw e

  accepts : equalize_number b q turns l ≡ 0 → Accepted b (length l.gas)
  unfolding equalize_number
  accepts e = (passed b l (equalize_room b) _ e).board

  -- Demand 3 over the whole call: two calls that differ in the turns alone, neither refused.
  pub demand_3_call : equalize_number b q turns l ≡ 0 → equalize_number b q turns' l ≡ 0
      → ((equalize_result b q turns l).answer.cancelled ≡ 1) ⊎ ((equalize_result b q turns l).answer.apart ≡ 1)
      → SameCall l (equalize_result b q turns l) (equalize_result b q turns' l) (equalize b l.gas q turns).events (equalize b l.gas q turns').events
  unfolding equalize_done after
  demand_3_call e e' h =
      let E = equalize b l.gas q turns in
      let F = equalize b l.gas q turns' in
      let r : SameRun E F = demand_3 b l.gas (accepts e) q turns turns' (rw (done turns e) at h) in
      let c = r.counts in
      rw (done turns e, done turns' e') (record {
        counts = λ i. record {
          number = 0;
          cancelled = c.cancelled i;
          processed = c.processed i;
          tests = c.tests i;
          zones = c.zones i;
          apart = c.apart i;
          bytes = c.bytes i;
        };
        gas = r.gas;
        words = refl;
        floats = refl;
        bytes = (refl, refl);
        areas = (refl, refl);
        requests = r.requests;
        records = r.records;
      })

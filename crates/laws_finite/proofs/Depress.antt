-- Every record that a depressurization writes on an accepted board is read back, and the gas that it leaves is finite. Assumes nothing.
use mathlib.Core.Path.{◌≡◌, sym, subst}
use mathlib.Core.Bool.{true, false, cond}
use mathlib.Core.List.{List, [], reverse}
use Prim.Native.Nat.{ℕ, ◌+◌, ◌≤◌, ◌<◌, zero-le}
use native.Mathlib.Omega.{arith}
use lib.Dec.{T, eqb}
use lib.ListN.{get_or-replicate, length, get_or, set, replicate, length-replicate, length-reverse}
use lib.Ieee.{Float, nan}
use Rattle.basics.specs.Loops.{run, every, member}
use Rattle.basics.specs.Floats.{0f}
use Rattle.std.specs.Prelude.{Option, Some, None}
use Rattle.basics.specs.Lists.{All, Found}
use Rattle.basics.proofs.Loops.{All-any, All-imp, All-get_or, run-keeps, cond_both}
use Rattle.basics.proofs.Lists.{All-append, All-snoc, replicate-at, All-back}
use Rattle.rules_board.specs.Board.{Board, turf_count, id_of, end, links_of, row_of}
use Rattle.turfs.specs.Tables.{Accepted}
use Rattle.turfs.proofs.Accepted.{row_below}
use Rattle.turfs.proofs.Line.{Line, line-short}
use Rattle.rules_mixture.specs.Mixture.{amount_fits}
use Rattle.rules_events.specs.Readings.{Readable}
use Rattle.rules_events.specs.declared.Event.{Event}
use Rattle.rules_events.specs.declared.Event.TheVariants.{Target}
use Rattle.rules_walk.specs.Walk.{Walk, walk}
use Rattle.rules_walk.specs.Visit.{visit_space}
use Rattle.rules_out.specs.Out.{Out, out_to, outward}
use Rattle.rules_back.specs.Back.{back}
use Rattle.rules_depressurize.specs.declared.Breach.{Breach}
use Rattle.rules_depressurize.specs.Depressurize.{Depressurized, breach_of, way_back, from_walk, from_row, depressurize}
use Rattle.laws_depressurize.proofs.Outward.{outward-keeps}
use Rattle.laws_depressurize.proofs.Room.{space-walk, outward-outed}
use Rattle.laws_finite.proofs.Laws.{Within, within-zero, under_finite}
use Rattle.laws_finite.proofs.Shares.{all_replicate}
use Rattle.laws_finite.proofs.Totals.{accepted-within}
use Rattle.laws_finite.proofs.EachKind.{Word, Fin, target-readable}
use Rattle.laws_finite.proofs.Walked.{walk-told}
use Rattle.laws_finite.proofs.Backs.{all-passed}
use Rattle.laws_finite.proofs.Lists.{reverse-apart, set-most}

-- what a depressurization leaves: its records are read back, and its gas is within its bound
record Fine (e : Depressurized) : Type 0 where
  events : All Readable e.events
  gas : All (Within 40 1) e.gas

module _ (b : Board) {n : ℕ} (h : Accepted b n) (ids : (r : ℕ) → Word (id_of b r)) (limit : ℕ) where
  -- ---- out from space

  -- what the order outward keeps: directions and targets within their bounds, its records read back
  record Aimed (s : Out) : Type 0 where
    near : (x : ℕ) → get_or s.direction x 0 ≤ turf_count b
    rows : All (λ x. x < turf_count b) s.order
    low : (x : ℕ) → get_or s.target x 0 ≤ 4294967295
    told : All Readable s.events

  joins_aimed : (s : Out) (p k : ℕ) → p < length s.order → T (member k (links_of b (get_or s.order p 0))) → member (end b k) s.order ≡ false → Aimed s → Aimed (out_to b (get_or s.order p 0) (end b k) s)
  unfolding out_to
  joins_aimed s p k l own new q =
      let r = get_or s.order p 0 in
      let i = All-get_or (λ x. x < turf_count b) s.order p 0 q.rows l in
      record {
        near = set-most s.direction (end b k) (r + 1) (turf_count b) (omega arith) q.near;
        rows = All-snoc (λ x. x < turf_count b) s.order (end b k) q.rows (h.ends k);
        low = set-most s.target (end b k) (get_or s.target r 0) 4294967295 (q.low r) q.low;
        told = All-snoc Readable s.events (Target (id_of b (end b k)) (get_or s.target r 0)) q.told (target-readable (id_of b (end b k)) (get_or s.target r 0) (ids (end b k)) (let i = q.low r in omega arith));
      }

  outward-aimed : (space : List ℕ) (es : List Event) → All (λ x. x < turf_count b) space → All Readable es → Aimed (outward b limit space es)
  outward-aimed space es rows told = outward-keeps b limit Aimed (λ s q. record { near = q.near; rows = q.rows; low = q.low; told = q.told }) joins_aimed space es (record {
    near = λ x. subst (λ z. z ≤ turf_count b) (sym (replicate-at {A = ℕ} (turf_count b) x 0)) zero-le;
    rows = rows;
    low = run-keeps (λ r. Unit {0}) (λ t. (x : ℕ) → get_or t x 0 ≤ 4294967295) (λ r t. set t r (id_of b r)) (λ r t u i. set-most t r (id_of b r) 4294967295 (let l = ids r in omega arith) i) space (replicate (turf_count b) 0)
        (All-any _ (λ r. tt) space) (λ x. subst (λ z. z ≤ 4294967295) (sym (replicate-at {A = ℕ} (turf_count b) x 0)) zero-le);
    told = told;
  })

  -- ---- the whole

  module _ (arrows : ℕ) (gas : List Float) (amounts : All (Within 40 1) gas) where
    back-fine : (o : Out) → Aimed o → Line b o.order → Fine (way_back b arrows gas o)
    unfolding way_back
    back-fine o a l =
        let t = run (back b arrows o.direction) (reverse o.order) (record { gas = gas; amount = replicate (turf_count b) 0f; events = o.events; rips = [] }) in
        let g = all-passed b h.gases.1 h.turfs.1 ids o.direction a.near arrows (reverse o.order) _ (reverse-apart o.order l.apart) (All-back (λ x. x < turf_count b) o.order l.rows) (record {
          gas = amounts;
          size = length-replicate (turf_count b) 0f;
          ms = replicate (turf_count b) 0;
          sized = length-replicate (turf_count b) 0;
          few = let e = all_replicate (turf_count b) 0 in let f = length-reverse o.order in let k = line-short b o.order l in omega arith;
          bound = λ r i v. subst (λ w. Within 46 (get_or (replicate {A = ℕ} (turf_count b) 0) r 0) w) (sym (get_or-replicate (turf_count b) r 0f nan i)) (within-zero 46 (omega arith) (get_or (replicate {A = ℕ} (turf_count b) 0) r 0));
          events = a.told;
          rips = tt;
        }) in
        record { events = All-append Readable t.events t.rips g.events g.rips; gas = g.gas }

    walk_fine : (id : ℕ) (w : Walk) → All Readable w.events → Line b w.space → Fine (from_walk b gas (breach_of id limit arrows) w)
    unfolding from_walk
    walk_fine id w t l =
        let o = outward b limit w.space w.events in
        let f = back-fine o (outward-aimed w.space w.events l.rows t) (outward-outed b h limit w.space w.events l).line in
        cond_both Fine w.planet _ (cond (eqb (length w.space) 0) _ (way_back b arrows gas o)) (record { events = t; gas = amounts })
        (cond_both Fine (eqb (length w.space) 0) _ (way_back b arrows gas o) (record { events = t; gas = amounts }) f)

    row_fine : (id : ℕ) (o : Option ℕ) → Found (λ r. r < turf_count b) o → Fine (from_row b gas (breach_of id limit arrows) o)
    unfolding from_row
    row_fine id None f = record { events = tt; gas = amounts }
    row_fine id (Some r) f = walk_fine id (walk b (visit_space b limit) r) (walk-told b ids limit r) (space-walk b h limit r f).space

module _ (b : Board) {n : ℕ} (h : Accepted b n) (ids : (r : ℕ) → Word (id_of b r)) (gas : List Float) (e : every amount_fits gas ≡ true) (q : Breach) where
  depressurize-fine : Fine (depressurize b gas q)
  unfolding depressurize
  depressurize-fine = row_fine b h ids q.limit q.arrows gas (accepted-within gas e) q.id (row_of b q.id) (row_below b q.id)

  -- All that a depressurization writes is read back.
  pub depressurize-readable : All Readable (depressurize b gas q).events
  depressurize-readable = depressurize-fine.events

  -- The gas that it leaves is finite.
  pub depressurize-gas : All Fin (depressurize b gas q).gas
  depressurize-gas = All-imp (Within 40 1) Fin (depressurize b gas q).gas (λ x w. under_finite w) depressurize-fine.gas
